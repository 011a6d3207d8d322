-- Names of samples and of parameters.
use Rattle.std.proofs.Common.{◌≡◌, ◌++◌, ◌∷◌, ◌<◌, ◌≤◌, ◌-◌, ◌+◌, ℕ, zero, suc, List, [], map, length, get_or, Some, refl, ap, ◌∙◌, codes, decimal, arith}
use Rattle.std.specs.Prelude.{slice_get, slice_index_or}
use Rattle.base_core.specs.declared.Control.{Control}
use Rattle.base_core.specs.declared.Port.{Port}
use Rattle.c_syntax.specs.declared.program.Pure.{Pure}
use Rattle.c_syntax.specs.Tree.{PureTree}
use Rattle.emit_prelude.specs.Bodies.{function_trees}
use Rattle.emit_shape.specs.Names.{memory_name, trigger_name, now_name, port_name}
use Rattle.lustre_system.specs.Names.{sample_name}
use Rattle.lustre_system.specs.Functions.{function_name}
use Rattle.lustre_expressions.specs.RowNaming.{params_by}

pub later_sample : (b k : ℕ) → (k ≡ 0 → ⊥) → memory_name b ++ codes "_" ++ decimal k ≡ sample_name b k
later_sample b zero other = absurd (other refl)
later_sample b (suc k) other = refl

-- a mapped list with something after it
mapped-at : {A B : Type 0} (f : A → B) (xs : List A) (ys : List B) (k : ℕ) (d : B) (x : A) → slice_get xs k ≡ Some x →
    f x ≡ get_or (map f xs ++ ys) k d
mapped-at f [] ys k d x is = absurd (cc is)
mapped-at f (y ∷ xs) ys zero d x is = by is
  where
    by : Some y ≡ Some x → f x ≡ f y
    by is = cc is
mapped-at f (y ∷ xs) ys (suc k) d x is = mapped-at f xs ys k d x is

after-mapped : {A B : Type 0} (f : A → B) (xs : List A) (ys : List B) (k j : ℕ) (d : B) → k ≡ length xs + j →
    get_or ys j d ≡ get_or (map f xs ++ ys) k d
after-mapped f [] ys k j d is = let same : j ≡ k = omega (arith, is) in ap (λ i. get_or ys i d) same
after-mapped f (y ∷ xs) ys zero j d is = absurd (omega (arith, is))
after-mapped f (y ∷ xs) ys (suc k) j d is = after-mapped f xs ys k j d (omega (arith, is))

module _ (control : Control) (ports : List Port) (k : ℕ) where
  pub port_param : (port : Port) → slice_get ports k ≡ Some port →
      port_name control port ≡ slice_index_or (params_by control ports) k []
  port_param port is = mapped-at (port_name control) ports (trigger_name ∷ now_name ∷ []) k [] port is

  pub trigger_is : length ports ≤ k → k - length ports ≡ 0 →
      trigger_name ≡ slice_index_or (params_by control ports) k []
  trigger_is past is =
      after-mapped (port_name control) ports (trigger_name ∷ now_name ∷ []) k 0 [] (omega (arith, past, is))

  pub now_is : length ports ≤ k → k - length ports ≡ 1 → now_name ≡ slice_index_or (params_by control ports) k []
  now_is past is =
      after-mapped (port_name control) ports (trigger_name ∷ now_name ∷ []) k 1 [] (omega (arith, past, is))

  pub no_param : length ports ≤ k → (k - length ports ≡ 0 → ⊥) → (k - length ports ≡ 1 → ⊥) →
      [] ≡ slice_index_or (params_by control ports) k []
  no_param past not_zero not_one = by (k - length ports) refl
    where
      by : (j : ℕ) → k - length ports ≡ j → [] ≡ slice_index_or (params_by control ports) k []
      by zero is = absurd (not_zero is)
      by (suc zero) is = absurd (not_one is)
      by (suc (suc j)) is =
          after-mapped (port_name control) ports (trigger_name ∷ now_name ∷ []) k (suc (suc j)) [] (omega (arith, past, is))

-- the name of a function at a place
mapped-get : {A B : Type 0} (f : A → B) (xs : List A) (k : ℕ) (d : B) (x : A) → k < length xs → x ≡ get_or xs k x →
    f x ≡ get_or (map f xs) k d
mapped-get f [] k d x inside is = absurd (omega (arith, inside))
mapped-get f (y ∷ xs) zero d x inside is = ap f is
mapped-get f (y ∷ xs) (suc k) d x inside is = mapped-get f xs k d x (omega (arith, inside)) is

pub function_at : (functions : List Pure) (k : ℕ) (f : Pure) → k < length functions → f ≡ get_or functions k f →
    map (λ (g : Pure). g.name) functions ≡ map (λ (p : PureTree). p.name) function_trees → f.name ≡ function_name k
function_at functions k f inside is prelude =
    mapped-get (λ (g : Pure). g.name) functions k [] f inside is ∙ ap (λ names. slice_index_or names k []) prelude
