-- Ranges place by place.
use Rattle.std.specs.Prelude.{◌≡◌, ℕ, zero, suc, ◌+◌, ◌≤◌, ◌<◌, Bool, true, false, ◌∷◌, filter, slice_get, Option, Some, None, is_some, cond}
use Rattle.std.specs.List.{AllZip, range_with_len}
use Rattle.std.specs.Option.{option_map_or}
use Rattle.std.proofs.Common.{refl, sym, ap, subst, arith, inl, inr, true≢false}
use Rattle.std.proofs.lemmas.Bool.{cases_lt}

pub one-value : (a b : ℕ) → Some a ≡ Some b → a ≡ b
one-value a b same = ap (λ (o : Option ℕ). option_map_or (λ n. n) o zero) same

pub none-some : (a : ℕ) → None ≡ Some a → ⊥
none-some a same = true≢false (sym (ap is_some same))

-- R holds at one place of two ranges
pub zip-at : (R : ℕ → ℕ → Type 0) (a b n m x y : ℕ) → AllZip R (range_with_len a n) (range_with_len b m) → a ≤ x → x < a + n →
    x + b ≡ y + a → R x y
zip-at R a b zero m x y zip from below moved = absurd (omega (arith, from, below))
zip-at R a b (suc n) zero x y zip from below moved = absurd zip
zip-at R a b (suc n) (suc m) x y zip from below moved = elim (cases_lt a x) [
  | inl past ↦ zip-at R (a + 1) (b + 1) n m x y zip.1 (omega (arith, past)) (omega (arith, below)) (omega (arith, moved))
  | inr late ↦ subst (λ x. R x y) (omega (arith, late, from)) (subst (λ y. R a y) (omega (arith, moved, late, from)) zip.0)
]

-- R holds of two ranges where it holds at each place
pub zip-each : (R : ℕ → ℕ → Type 0) (a b n : ℕ) → ((i : ℕ) → i < n → R (a + i) (b + i)) →
    AllZip R (range_with_len a n) (range_with_len b n)
zip-each R a b zero each = tt
zip-each R a b (suc n) each = (
  subst (λ x. R x b) (omega arith) (subst (λ y. R (a + 0) y) (omega arith) (each 0 (omega arith))),
  zip-each R (a + 1) (b + 1) n (λ i below. subst (λ x. R x (b + 1 + i)) (omega arith)
      (subst (λ y. R (a + suc i) y) (omega arith) (each (suc i) (omega (arith, below))))),
)

pub long-zip : (R : ℕ → ℕ → Type 0) (a b n m : ℕ) → AllZip R (range_with_len a n) (range_with_len b m) → n ≡ m
long-zip R a b zero zero zip = refl
long-zip R a b zero (suc m) zip = absurd zip
long-zip R a b (suc n) zero zip = absurd zip
long-zip R a b (suc n) (suc m) zip = ap suc (long-zip R (a + 1) (b + 1) n m zip.1)

-- what a range has at a place
pub range-at : (a n k b : ℕ) → slice_get (range_with_len a n) k ≡ Some b → (b ≡ a + k) × (k < n)
range-at a zero k b at = absurd (none-some b at)
range-at a (suc n) zero b at = let same = one-value a b at in (omega (arith, same), omega arith)
range-at a (suc n) (suc k) b at = let rest = range-at (a + 1) n k b at in (omega (arith, rest.0), omega (arith, rest.1))

-- what is kept of a range is in it, and passes
pub kept-at : (p : ℕ → Bool) (a n k b : ℕ) → slice_get (filter p (range_with_len a n)) k ≡ Some b →
    (a ≤ b) × (b < a + n) × (p b ≡ true)
kept-at p a zero k b at = absurd (none-some b at)
kept-at p a (suc n) k b at = by (p a) refl (λ j there. kept-at p (a + 1) n j b there) k at
  where
    by : (t : Bool) → p a ≡ t →
        ((j : ℕ) → slice_get (filter p (range_with_len (a + 1) n)) j ≡ Some b → (a + 1 ≤ b) × (b < a + 1 + n) × (p b ≡ true)) →
        (k : ℕ) → slice_get (cond t (a ∷ filter p (range_with_len (a + 1) n)) (filter p (range_with_len (a + 1) n))) k ≡ Some b →
        (a ≤ b) × (b < a + suc n) × (p b ≡ true)
    by false passes later k there = let (low, high, test) = later k there in (omega (arith, low), omega (arith, high), test)
    by true passes later zero there =
        let same = one-value a b there in (omega (arith, same), omega (arith, same), subst (λ x. p x ≡ true) same passes)
    by true passes later (suc k) there = let (low, high, test) = later k there in (omega (arith, low), omega (arith, high), test)
