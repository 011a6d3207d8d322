-- How large the numbers of a type, the greatest of a list and powers of two are.
use Rattle.std.proofs.Common.{◌≡◌, refl, ap, ℕ, zero, suc, ◌+◌, ◌-◌, ◌*◌, ◌^◌, ◌≤◌, max, nat_le, Bool, true, false, cond, List, [], ◌∷◌, fold, ℤ, pos, negsuc, neg_ℤ, ◌≤ℤ◌, unsigned_abs, arith, pow_pos, pow-suc}
use Rattle.std.specs.List.{AllByRecursion}
use Rattle.std.proofs.Math.Nat.{le-max_left, le-max_right, mul-le-mul}
use Rattle.std.proofs.lemmas.Nat.{pow-add}
use Rattle.std.proofs.lemmas.Int.{ints}
use Rattle.std.proofs.lemmas.Bool.Decides.{nat_tests}
use Rattle.base_fixed_point.specs.declared.FixType.{FixType}
use Rattle.base_fixed_point.specs.Conversion.{InType}
use Rattle.diagram_blocks.specs.Width.{magnitude_bits, least_power, power_bits}

magnitude_by : (signed : Bool) (bits : ℕ) (v : ℤ) →
    cond signed (neg_ℤ (pos (2 ^ (bits - 1)))) (pos 0) ≤ℤ v → v ≤ℤ cond signed (pos (2 ^ (bits - 1) - 1)) (pos (2 ^ bits - 1)) →
    unsigned_abs v ≤ 2 ^ cond signed (bits - 1) bits
magnitude_by true bits (pos n) low high = omega (arith, ints)
magnitude_by true bits (negsuc n) low high = omega (arith, ints)
magnitude_by false bits (pos n) low high = omega (arith, ints)
magnitude_by false bits (negsuc n) low high = omega (arith, ints)

-- a number of a type has a magnitude of at most its bits
pub magnitude-le : (t : FixType) (v : ℤ) → InType t v → unsigned_abs v ≤ 2 ^ magnitude_bits t
magnitude-le t v h = magnitude_by t.signed t.bits v h.0 h.1

-- the greatest number of a list is at least each
pub fold_max-le : (xs : List ℕ) (a : ℕ) → a ≤ fold max a xs
fold_max-le [] a = omega arith
fold_max-le (x ∷ xs) a = let h = fold_max-le xs (max a x) in let g = le-max_left a x in omega arith

pub members-le : (xs : List ℕ) (a : ℕ) → AllByRecursion (λ x. x ≤ fold max a xs) xs
members-le [] a = tt
members-le (x ∷ xs) a = (let h = fold_max-le xs (max a x) in let g = le-max_right a x in omega arith, members-le xs (max a x))

below_power : (n : ℕ) → n ≤ 2 ^ n
below_power zero = omega arith
below_power (suc n) = let h = below_power n in let e = pow-suc 2 n in let p : 1 ≤ 2 ^ n = pow_pos n in omega arith

least_power-enough : (turns n k : ℕ) → n ≤ 2 ^ (k + turns) → n ≤ 2 ^ least_power turns n k
least_power-enough zero n k h = omega (arith, h, ap (λ j. 2 ^ j) (let e : k + 0 ≡ k = omega arith in e))
least_power-enough (suc turns) n k h =
    by (nat_le n (2 ^ k)) refl
    (least_power-enough turns n (suc k) (omega (arith, h, ap (λ j. 2 ^ j) (let e : k + suc turns ≡ suc k + turns = omega arith in e))))
  where
    by : (b : Bool) → nat_le n (2 ^ k) ≡ b → n ≤ 2 ^ least_power turns n (suc k) →
        n ≤ 2 ^ (elim b [ true ↦ k | false ↦ least_power turns n (suc k) ])
    by true e rest = grind (arith, nat_tests)
    by false e rest = rest

-- n fits the counted power of two
pub power_bits-enough : (n : ℕ) → n ≤ 2 ^ power_bits n
power_bits-enough n = least_power-enough n n 0 (omega (arith, below_power n, ap (λ j. 2 ^ j) (let e : 0 + n ≡ n = omega arith in e)))

-- a product of numbers below two powers is below the power of the sum
pub product-le : (a b i j : ℕ) → a ≤ 2 ^ i → b ≤ 2 ^ j → a * b ≤ 2 ^ (i + j)
product-le a b i j p q = omega (arith, mul-le-mul p q, pow-add 2 i j)
