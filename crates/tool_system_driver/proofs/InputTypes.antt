-- The types of a system's inputs are those of its Inports.
use Rattle.std.specs.Prelude.{◌≡◌, refl, ℕ, suc, ◌+◌, List, [], ◌∷◌, map, length, slice_get, Option, Some, unwrap_or}
use Rattle.std.specs.List.{range_with_len}
use Rattle.std.proofs.Common.{ap, ap₂, subst, arith}
use Rattle.base_core.specs.declared.Port.TheVariants.{Number}
use Rattle.diagram_meaning.specs.Diagram.{Diagram, type_at}
use Rattle.diagram_meaning.specs.Rows.{inports_of}
use Rattle.diagram_meaning.specs.Traces.{input_type_of}

-- what is said of numbers from one on, by what is said of a list at these places
ranged : {B : Type 0} (f g : ℕ → B) (a : ℕ) (xs : List ℕ) → ((k x : ℕ) → slice_get xs k ≡ Some x → f (a + k) ≡ g x) →
    map f (range_with_len a (length xs)) ≡ map g xs
ranged f g a [] each = refl
ranged f g a (x ∷ xs) each =
    let here : a + 0 ≡ a = omega arith in
    ap₂ (λ y ys. y ∷ ys) (subst (λ n. f n ≡ g x) here (each 0 x refl)) (ranged f g (a + 1) xs further)
  where
    further : (k y : ℕ) → slice_get xs k ≡ Some y → f (a + 1 + k) ≡ g y
    further k y at = let next : a + suc k ≡ a + 1 + k = omega arith in subst (λ n. f n ≡ g y) next (each (suc k) y at)

pub inport-types : (d : Diagram) (s : Option ℕ) →
    map (λ k. input_type_of d s (Number k)) (range_with_len 1 (length (inports_of d.rows s))) ≡ map (type_at d.types) (inports_of d.rows s)
inport-types d s = ranged (λ k. input_type_of d s (Number k)) (type_at d.types) 1 (inports_of d.rows s) each
  where
    each : (k x : ℕ) → slice_get (inports_of d.rows s) k ≡ Some x → input_type_of d s (Number (1 + k)) ≡ type_at d.types x
    each k x at =
        let next : suc k ≡ 1 + k = omega arith in
        subst (λ n. input_type_of d s (Number n) ≡ type_at d.types x) next
        (ap (λ o. type_at d.types (unwrap_or o (length d.rows))) at)
