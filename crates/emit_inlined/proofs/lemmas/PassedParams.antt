-- The parameters that a call passes on, where it passes nothing else.
use Rattle.std.specs.Prelude.{◌≡◌, ℕ, zero, suc, ◌<◌, Bool, true, false, if◌then◌else◌, List, [], ◌∷◌, length, map, slice_index_or, Option, Some, None, option_map, option_and_then, ⊤, ℤ}
use Rattle.std.proofs.Common.{refl, sym, ap, subst, arith}
use Rattle.std.proofs.lemmas.Option.{same_Some}
use Rattle.c_syntax.specs.declared.code.CType.{CType}
use Rattle.c_syntax.specs.declared.code.Leaf.TheVariants.{Param, Own, Child}
use Rattle.c_syntax.specs.declared.fault.Why.TheVariants.{Range}
use Rattle.c_syntax.specs.Tree.{ExprTree, literal, neg, read, binary, pick, pure, item, ExprTrees, no_exprs, more_exprs}
use Rattle.c_syntax.specs.Lawful.{Reach, IsLawfulExpr, exprs_length, AreLawfulExprs}
use Rattle.c_semantics.specs.Cells.{Cells}
use Rattle.c_semantics.specs.Values.{Answer, gives, sticks, and_then, within, is_in_type, stuck_at, Function, reads, eval}
use Rattle.c_semantics.specs.Machine.{arguments}
use Rattle.base_core.specs.Numbers.{int_at}
use Rattle.emit_inlined.specs.Inlined.{param_of, params_of}

-- each expression is a plain read of a parameter
abbrev pub ReadParams : ExprTrees → List ℕ → Type 0
ReadParams no_exprs [] = ⊤
ReadParams no_exprs (k ∷ ks) = ⊥
ReadParams (more_exprs e es) [] = ⊥
ReadParams (more_exprs e es) (k ∷ ks) = (e ≡ read (Param k)) × ReadParams es ks

param_of-read : (e : ExprTree) (k : ℕ) → param_of e ≡ Some k → e ≡ read (Param k)
param_of-read (literal value) k h = absurd (let wrong : ⊥ = cc h in wrong)
param_of-read (neg e) k h = absurd (let wrong : ⊥ = cc h in wrong)
param_of-read (read (Param j)) k h = ap (λ i. read (Param i)) (same_Some j k h)
param_of-read (read (Own f)) k h = absurd (let wrong : ⊥ = cc h in wrong)
param_of-read (read (Child f g)) k h = absurd (let wrong : ⊥ = cc h in wrong)
param_of-read (binary op a b) k h = absurd (let wrong : ⊥ = cc h in wrong)
param_of-read (pick test a b) k h = absurd (let wrong : ⊥ = cc h in wrong)
param_of-read (pure j es) k h = absurd (let wrong : ⊥ = cc h in wrong)
param_of-read (item f index) k h = absurd (let wrong : ⊥ = cc h in wrong)

pub params_of-read : (es : ExprTrees) (ks : List ℕ) → params_of es ≡ Some ks → ReadParams es ks
params_of-read no_exprs ks h = subst (ReadParams no_exprs) (same_Some [] ks h) tt
params_of-read (more_exprs e es) ks h = by (param_of e) refl (params_of es) refl h (params_of-read es)
  where
    by : (o : Option ℕ) → param_of e ≡ o → (p : Option (List ℕ)) → params_of es ≡ p →
        option_and_then (λ k. option_map (λ rest. k ∷ rest) p) o ≡ Some ks →
        ((rest : List ℕ) → params_of es ≡ Some rest → ReadParams es rest) → ReadParams (more_exprs e es) ks
    by None first p rest same next = absurd (let wrong : ⊥ = cc same in wrong)
    by (Some k) first None rest same next = absurd (let wrong : ⊥ = cc same in wrong)
    by (Some k) first (Some others) rest same next =
        subst (ReadParams (more_exprs e es)) (same_Some (k ∷ others) ks same) (param_of-read e k first, next others rest)

-- there are as many
pub reads-length : (es : ExprTrees) (ks : List ℕ) → ReadParams es ks → length ks ≡ exprs_length es
reads-length no_exprs [] h = refl
reads-length no_exprs (k ∷ ks) h = absurd h
reads-length (more_exprs e es) [] h = absurd h
reads-length (more_exprs e es) (k ∷ ks) h = let same = reads-length es ks h.1 in omega (arith, same)

-- where the expressions are lawful, the parameters are there
pub reads-inside : (reach : Reach) (es : ExprTrees) (ks : List ℕ) → ReadParams es ks → AreLawfulExprs reach es →
    (k : ℕ) → k < length ks → slice_index_or ks k 0 < reach.params
reads-inside reach no_exprs [] h lawful k inside = absurd (omega (arith, inside))
reads-inside reach no_exprs (j ∷ ks) h lawful k inside = absurd h
reads-inside reach (more_exprs e es) [] h lawful k inside = absurd h
reads-inside reach (more_exprs e es) (j ∷ ks) h lawful zero inside = subst (IsLawfulExpr reach) h.0 lawful.0
reads-inside reach (more_exprs e es) (j ∷ ks) h lawful (suc k) inside =
    reads-inside reach es ks h.1 lawful.1 k (omega (arith, inside))

-- ---- What is passed

-- an answer gives these numbers in no step, or is stuck
abbrev pub Passes : Answer (List ℤ) → List ℤ → ℕ → Type 0
Passes (gives vs end) passed steps = (vs ≡ passed) × (end ≡ steps)
Passes (sticks at) passed steps = ⊤

passes-more : (a : Answer (List ℤ)) (v : ℤ) (passed : List ℤ) (steps : ℕ) → Passes a passed steps →
    Passes (and_then a (λ vs end. gives (v ∷ vs) end)) (v ∷ passed) steps
passes-more (gives vs end) v passed steps h = (ap (λ xs. v ∷ xs) h.0, h.1)
passes-more (sticks at) v passed steps h = tt

module _ (functions : List Function) (values : List ℤ) (cells : Cells) (line : ℕ) where
  -- the arguments are the caller's, as many as there are parameters
  pub arguments-read : (es : ExprTrees) (ks : List ℕ) (types : List CType) (steps : ℕ) → ReadParams es ks →
      length types ≡ exprs_length es →
      Passes (arguments functions (reads values cells) line types es steps) (map (int_at values) ks) steps
  arguments-read no_exprs [] types steps h many = (refl, refl)
  arguments-read no_exprs (k ∷ ks) types steps h many = absurd h
  arguments-read (more_exprs e es) [] types steps h many = absurd h
  arguments-read (more_exprs e es) (k ∷ ks) [] steps h many = absurd (omega (arith, many))
  arguments-read (more_exprs e es) (k ∷ ks) (t ∷ types) steps h many =
      subst Given (sym h.0)
      (by (is_in_type t (int_at values k)) (arguments-read es ks types steps h.1 (omega (arith, many))))
    where
      later : ℤ → ℕ → Answer (List ℤ)
      later v count = and_then (arguments functions (reads values cells) line types es count) (λ vs end. gives (v ∷ vs) end)

      Given : ExprTree → Type 0
      Given x = Passes (and_then (and_then (eval functions (reads values cells) line x steps) (within t Range line)) later)
          (int_at values k ∷ map (int_at values) ks) steps

      by : (b : Bool) → Passes (arguments functions (reads values cells) line types es steps) (map (int_at values) ks) steps →
          Passes (and_then (if b then gives (int_at values k) steps else sticks (stuck_at line Range)) later)
          (int_at values k ∷ map (int_at values) ks)
          steps
      by true rest =
          passes-more (arguments functions (reads values cells) line types es steps) (int_at values k) (map (int_at values) ks) steps rest
      by false rest = tt

-- the argument at each parameter is the caller's
pub passed-at : (values : List ℤ) (ks : List ℕ) (k : ℕ) → k < length ks →
    int_at values (slice_index_or ks k 0) ≡ int_at (map (int_at values) ks) k
passed-at values [] k inside = absurd (omega (arith, inside))
passed-at values (j ∷ ks) zero inside = refl
passed-at values (j ∷ ks) (suc k) inside = passed-at values ks k (omega (arith, inside))
