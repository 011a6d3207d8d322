-- Bits that lie in just one of two sets.
use Rattle.std.proofs.Common.{◌≡◌, ◌≢◌, ◌↔◌, ℕ, zero, suc, ◌+◌, ◌%◌, ◌/◌, ◌^◌, ◌<◌, ◌≤◌, Bool, true, false, not, IsTrue, nat_eq, nat_lt, bit_and, IsBitSet, bit_xor, refl, sym, ap, ap₂, ◌∙◌, arith, inl, inr}
use borrow.Author.Tests.{ltb-true}
use Rattle.std.proofs.lemmas.Bool.{eqb-true, eq-eqb, false≢true}
use Rattle.std.specs.Int.{bit_at, trailing_zeros, w64}
use Rattle.std.proofs.lemmas.Nat.{bit_set_by_shift}
use Rattle.std.proofs.lemmas.Nat.Bits.{shr_and_one, bit_at-lt, bit_at_xor, bit_at_above, bit_at-trailing_zeros, same_from_bits, bit_at-zero}
use Rattle.modules_certificate.specs.Sound.{IsInJustOne, least_difference}

pub one_at : (n k : ℕ) → IsBitSet n k → bit_at n k ≡ 1
one_at n k set = sym (shr_and_one n k) ∙ (bit_set_by_shift n k).1 set

pub set_at : (n k : ℕ) → bit_at n k ≡ 1 → IsBitSet n k
set_at n k one = (bit_set_by_shift n k).0 (shr_and_one n k ∙ one)

unset_at : (n k : ℕ) → bit_at n k ≡ 0 → IsBitSet n k → ⊥
unset_at n k none set = let one = one_at n k set in omega arith

pub zero_at : (n k : ℕ) → (IsBitSet n k → ⊥) → bit_at n k ≡ 0
zero_at n k unset = by (bit_at n k) refl (bit_at-lt n k)
  where
    by : (b : ℕ) → bit_at n k ≡ b → b < 2 → bit_at n k ≡ 0
    by zero e below = e
    by (suc zero) e below = absurd (unset (set_at n k e))
    by (suc (suc b)) e below = absurd (omega arith)

-- just where the bits aren't equal
pub in-just_one : (x y k : ℕ) → bit_at x k ≢ bit_at y k → IsInJustOne x y k
in-just_one x y k differ = by (bit_at x k) (bit_at y k) refl refl (bit_at-lt x k) (bit_at-lt y k)
  where
    by : (a b : ℕ) → bit_at x k ≡ a → bit_at y k ≡ b → a < 2 → b < 2 → IsInJustOne x y k
    by zero zero e f low below = absurd (differ (e ∙ sym f))
    by zero (suc zero) e f low below = inr (unset_at x k e, set_at y k f)
    by (suc zero) zero e f low below = inl (set_at x k e, unset_at y k f)
    by (suc zero) (suc zero) e f low below = absurd (differ (e ∙ sym f))
    by zero (suc (suc b)) e f low below = absurd (omega arith)
    by (suc zero) (suc (suc b)) e f low below = absurd (omega arith)
    by (suc (suc a)) b e f low below = absurd (omega arith)

pub bits-differ : (x y k : ℕ) → IsInJustOne x y k → bit_at x k ≢ bit_at y k
bits-differ x y k (inl (set, unset)) e = unset (set_at y k (sym e ∙ one_at x k set))
bits-differ x y k (inr (unset, set)) e = unset (set_at x k (e ∙ one_at y k set))

-- sets with a bit that lies in just one of them aren't equal
pub sets-differ : (x y k : ℕ) → IsInJustOne x y k → x ≢ y
sets-differ x y k is e = bits-differ x y k is (ap (λ n. bit_at n k) e)

-- no bit of 64 or more lies in a set of 64 bits
pub none-above : (x y k : ℕ) → x < 2 ^ 64 → y < 2 ^ 64 → 64 ≤ k → IsInJustOne x y k → ⊥
none-above x y k low below above is = bits-differ x y k is (bit_at_above x 64 k low above ∙ sym (bit_at_above y 64 k below above))

-- ---- The least such bit

xor-zero : (a b : ℕ) → a < 2 → b < 2 → (a + b) % 2 ≡ 0 → a ≡ b
xor-zero zero zero low below e = refl
xor-zero zero (suc zero) low below e = absurd (let z : 1 ≡ 0 = e in omega arith)
xor-zero (suc zero) zero low below e = absurd (let z : 1 ≡ 0 = e in omega arith)
xor-zero (suc zero) (suc zero) low below e = refl
xor-zero zero (suc (suc b)) low below e = absurd (omega arith)
xor-zero (suc zero) (suc (suc b)) low below e = absurd (omega arith)
xor-zero (suc (suc a)) b low below e = absurd (omega arith)

same_bit : (x y k : ℕ) → bit_at (bit_xor x y) k ≡ 0 → bit_at x k ≡ bit_at y k
same_bit x y k e = xor-zero (bit_at x k) (bit_at y k) (bit_at-lt x k) (bit_at-lt y k) (sym (bit_at_xor x y k) ∙ e)

other_bit : (x y k : ℕ) → bit_at (bit_xor x y) k ≡ 1 → bit_at x k ≢ bit_at y k
other_bit x y k e same = by (bit_at y k) refl (bit_at-lt y k)
  where
    at : (b : ℕ) → bit_at y k ≡ b → 1 ≡ (b + b) % 2
    at b f = sym e ∙ bit_at_xor x y k ∙ ap₂ (λ m n. (m + n) % 2) (same ∙ f) f

    by : (b : ℕ) → bit_at y k ≡ b → b < 2 → ⊥
    by zero f low = omega (arith, at 0 f)
    by (suc zero) f low = omega (arith, at 1 f)
    by (suc (suc b)) f low = omega arith

-- sets that aren't equal differ in some bit
some : (x y : ℕ) → x ≢ y → bit_xor x y ≢ 0
some x y differ e = differ (same_from_bits x y (λ k. same_bit x y k (ap (λ n. bit_at n k) e ∙ bit_at-zero k)))

module _ (x y : ℕ) (differ : x ≢ y) (fits : bit_xor x y < 2 ^ 64) where
  place : (trailing_zeros w64 (bit_xor x y) < 64) × (bit_at (bit_xor x y) (trailing_zeros w64 (bit_xor x y)) ≡ 1)
      × ((i : ℕ) → i < trailing_zeros w64 (bit_xor x y) → bit_at (bit_xor x y) i ≡ 0)
  place = bit_at-trailing_zeros w64 (bit_xor x y) (let h = some x y differ in omega arith) fits

  pub least-in_just_one : IsInJustOne x y (least_difference x y)
  least-in_just_one = in-just_one x y (least_difference x y) (other_bit x y (least_difference x y) place.1)

  pub none-less : (k : ℕ) → k < least_difference x y → IsInJustOne x y k → ⊥
  none-less k below is = bits-differ x y k is (same_bit x y k (place.2 k below))

-- ---- The tests

tells-by : (a b : ℕ) (P : Type 0) → (a ≢ b → P) → (P → a ≢ b) → (t : Bool) → nat_eq a b ≡ t → IsTrue (not t) ↔ P
tells-by a b P to from true e = (λ h. absurd (false≢true h), λ p. absurd (from p (eqb-true a b e)))
tells-by a b P to from false e = (λ h. to (λ same. false≢true (sym e ∙ eq-eqb a b same)), λ p. refl)

pub tells : (x y k : ℕ) → IsTrue (not (nat_eq (bit_and (x / 2 ^ k) 1) (bit_and (y / 2 ^ k) 1))) ↔ IsInJustOne x y k
tells x y k = tells-by (bit_and (x / 2 ^ k) 1) (bit_and (y / 2 ^ k) 1) (IsInJustOne x y k)
    (λ differ. in-just_one x y k (λ same. differ (shr_and_one x k ∙ same ∙ sym (shr_and_one y k))))
    (λ is same. bits-differ x y k is (sym (shr_and_one x k) ∙ same
    ∙ shr_and_one y k)) (nat_eq (bit_and (x / 2 ^ k) 1) (bit_and (y / 2 ^ k) 1)) refl

pub high-tells : (x y k : ℕ) → x < 2 ^ 64 → y < 2 ^ 64 → 64 ≤ k → IsTrue (nat_lt k 64) ↔ IsInJustOne x y k
high-tells x y k low below above = by (nat_lt k 64) refl
  where
    by : (t : Bool) → nat_lt k 64 ≡ t → IsTrue t ↔ IsInJustOne x y k
    by true e = absurd (let h = ltb-true k 64 e in omega arith)
    by false e = (λ h. absurd (false≢true h), λ is. absurd (none-above x y k low below above is))
