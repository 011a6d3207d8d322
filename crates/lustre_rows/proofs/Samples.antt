-- What a delay remembers, sample by sample, and the written start.
use Rattle.std.proofs.Common.{◌≡◌, refl, ap, ◌∙◌, ℕ, suc, ◌^◌, ◌<◌, Bool, true, false, if◌then◌else◌, List, [], ◌∷◌, length, Option, ℤ, pos, neg_ℤ, int_lt, unsigned_abs, arith}
use Rattle.std.proofs.lemmas.Int.{ints}
use Rattle.std.proofs.lemmas.List.{get_or_append_left, get_or_at}
use Rattle.base_core.specs.Numbers.{int_at}
use Rattle.c_semantics.proofs.lemmas.WithoutSteps.{in_64_small}
use Rattle.diagram_meaning.specs.Run.{moved_on}
use Rattle.lustre_syntax.specs.Tree.{number, negative}
use Rattle.lustre_syntax.specs.Named.{renamed}
use Rattle.lustre_flows.specs.declared.LusWhy.TheVariants.{Overflow}
use Rattle.lustre_flows.specs.Values.{Outcome, gives, fails, and_then, checked, tests, holds, chosen, evaluate}
use Rattle.lustre_system.specs.RowEquations.{signed_number}
use Rattle.lustre_functions.proofs.lemmas.Operators.{fits_64, choice-is}

-- ---- A number with its sign

module _ (before : Option (List (Option ℤ))) (values : List (Option ℤ)) (place : List ℕ → ℕ) (v : ℤ) (small : unsigned_abs v < 2 ^ 63) where
  checked-small : checked (neg_ℤ (neg_ℤ v)) ≡ gives v
  checked-small =
      let same : neg_ℤ (neg_ℤ v) ≡ v = omega (arith, ints) in
      ap checked same ∙ ap (λ b. if b then gives v else fails Overflow) (fits_64 v (in_64_small v small))

  signed-by : (b : Bool) → evaluate before values (renamed place (if b then negative (number (neg_ℤ v)) else number v)) ≡ gives v
  signed-by true = checked-small
  signed-by false = refl

  pub signed-given : evaluate before values (renamed place (signed_number v)) ≡ gives v
  signed-given = signed-by (int_lt v (pos 0))

-- ---- Samples that moved on

-- the last sample is the number that was taken
pub moved-last : (xs : List ℤ) (v : ℤ) (k : ℕ) → suc k ≡ length xs → int_at (moved_on xs v) k ≡ v
moved-last [] v k last = absurd (omega arith)
moved-last (x ∷ xs) v k last = get_or_at xs v [] (pos 0) k (let many : length xs ≡ k = omega arith in many)

-- each other one is the next one before
pub moved-next : (xs : List ℤ) (v : ℤ) (k : ℕ) → suc k < length xs → int_at (moved_on xs v) k ≡ int_at xs (suc k)
moved-next [] v k within = absurd (omega arith)
moved-next (x ∷ xs) v k within = get_or_append_left xs (v ∷ []) (pos 0) k (omega arith)

-- ---- The choice of a sample

pub sample-is : (o p : Bool) (reset takes first next old : Outcome) → reset ≡ tests o → takes ≡ tests p →
    and_then reset (λ v. chosen (holds v) first (and_then takes (λ w. chosen (holds w) next old)))
    ≡ (if o then first else if p then next else old)
sample-is true p reset takes first next old is_reset is_taken =
    choice-is true reset first (and_then takes (λ w. chosen (holds w) next old)) is_reset
sample-is false true reset takes first next old is_reset is_taken =
    choice-is false reset first (and_then takes (λ w. chosen (holds w) next old)) is_reset ∙ choice-is true takes next old is_taken
sample-is false false reset takes first next old is_reset is_taken =
    choice-is false reset first (and_then takes (λ w. chosen (holds w) next old)) is_reset ∙ choice-is false takes next old is_taken

pub item-is : (o p : Bool) (first next old : Outcome) (starts moved kept : List ℤ) (k : ℕ) → first ≡ gives (int_at starts k) →
    next ≡ gives (int_at moved k) → old ≡ gives (int_at kept k) →
    (if o then first else if p then next else old) ≡ gives (int_at (if o then starts else if p then moved else kept) k)
item-is true p first next old starts moved kept k a b c = a
item-is false true first next old starts moved kept k a b c = b
item-is false false first next old starts moved kept k a b c = c
