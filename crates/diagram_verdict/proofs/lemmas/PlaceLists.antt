-- Lists that are equal place by place, and what holds of each item.
use Rattle.std.specs.Prelude.{◌≡◌, refl, ℕ, zero, suc, ◌<◌, List, [], ◌∷◌, length, slice_index_or}
use Rattle.std.specs.List.{AllByRecursion}
use Rattle.std.proofs.Common.{ap₂, arith}

-- two lists with the same items in the same places
pub same_at : {A : Type 0} (xs ys : List A) (z : A) → length xs ≡ length ys →
    ((b : ℕ) → b < length xs → slice_index_or xs b z ≡ slice_index_or ys b z) → xs ≡ ys
same_at [] [] z e h = refl
same_at [] (y ∷ ys) z e h = absurd (omega (arith, e))
same_at (x ∷ xs) [] z e h = absurd (omega (arith, e))
same_at (x ∷ xs) (y ∷ ys) z e h =
    ap₂ ◌∷◌ (h 0 (omega arith)) (same_at xs ys z (omega (arith, e)) (λ b below. h (suc b) (omega (arith, below))))

-- what holds at each place holds of each item
pub all-places : {A : Type 0} (Is : A → Type 0) (xs : List A) (z : A) →
    ((b : ℕ) → b < length xs → Is (slice_index_or xs b z)) → AllByRecursion Is xs
all-places Is [] z h = tt
all-places Is (x ∷ xs) z h = (h 0 (omega arith), all-places Is xs z (λ b below. h (suc b) (omega (arith, below))))

-- and back
pub place-of : {A : Type 0} (Is : A → Type 0) (xs : List A) (z : A) (b : ℕ) → AllByRecursion Is xs → b < length xs →
    Is (slice_index_or xs b z)
place-of Is [] z b all below = absurd (omega (arith, below))
place-of Is (x ∷ xs) z zero all below = all.0
place-of Is (x ∷ xs) z (suc b) all below = place-of Is xs z b all.1 (omega (arith, below))
