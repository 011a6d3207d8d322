-- Steps of the loops that count bits.
use Rattle.std.proofs.Common.{◌≡◌, refl, ap, ℕ, zero, suc, ◌+◌, ◌-◌, ◌*◌, ◌^◌, ◌<◌, ◌≤◌, max, nat_le, Bool, true, false, List, [], ◌∷◌, ◌++◌, map, fold, sum, take, length, replicate, get_or, if◌then◌else◌, arith, pow-suc}
use Rattle.std.proofs.Math.ListN.{set}
use Rattle.std.specs.List.{sum_by}
use Rattle.std.proofs.lemmas.Bool.Decides.{nat_tests}
use Rattle.std.proofs.Math.Pow.{pow_mono}
use native.Mathlib.Decide.{dec_lt}
use Rattle.std.proofs.lemmas.List.Sums.{sum_by-cons, sum-map}
use Rattle.base_fixed_point.specs.declared.FixType.{FixType}
use Rattle.diagram_blocks.specs.Width.{magnitude_bits, least_power}

-- the greatest of one number more
pub greatest_more : (f : FixType → ℕ) (ts : List FixType) (i a : ℕ) (d : FixType) → i < length ts →
    fold max a (map f (take (i + 1) ts)) ≡ max (fold max a (map f (take i ts))) (f (get_or ts i d))
greatest_more f [] i a d h = absurd (omega arith)
greatest_more f (t ∷ ts) zero a d h = refl
greatest_more f (t ∷ ts) (suc i) a d h =
    let e : suc i + 1 ≡ suc (i + 1) = omega arith in
    rw e (greatest_more f ts i (max a (f t)) d (omega arith))

total-le : (f : FixType → ℕ) (m : ℕ) → ((t : FixType) → f t ≤ m) → (ts : List FixType) → sum_by f ts ≤ length ts * m
total-le f m h [] = omega arith
total-le f m h (t ∷ ts) = omega (arith, sum_by-cons f t ts, h t, total-le f m h ts)

magnitude_bits-le : (t : FixType) → magnitude_bits t ≤ 32
magnitude_bits-le t = by t.signed
  where
    by : (signed : Bool) → (if signed then t.bits - 1 else t.bits) ≤ 32
    by true = omega (arith, t.in_profile.1)
    by false = omega (arith, t.in_profile.1)

pub total_bits_le : (ts : List FixType) → sum (map magnitude_bits ts) ≤ length ts * 32
total_bits_le ts = omega (arith, sum-map magnitude_bits ts, total-le magnitude_bits 32 magnitude_bits-le ts)

pub total_frac_le : (ts : List FixType) → sum (map (λ t. t.frac) ts) ≤ length ts * 31
total_frac_le ts = omega (arith, sum-map (λ (t : FixType). t.frac) ts, total-le (λ t. t.frac) 31 (λ t. t.in_profile.2) ts)

below_power : (b : ℕ) → b < 2 ^ b
below_power zero = omega arith
below_power (suc b) = let h = below_power b in let e = pow-suc 2 b in omega arith

-- a power that n exceeds leaves the search as it is, at the next one
pub least_power-more : (n b : ℕ) → 2 ^ b < n → least_power (n - b) n b ≡ least_power (n - (b + 1)) n (b + 1)
least_power-more n b h = by (n - b) refl
  where
    by : (turns : ℕ) → n - b ≡ turns → least_power turns n b ≡ least_power (n - (b + 1)) n (b + 1)
    by zero e = absurd (let p = below_power b in omega arith)
    by (suc turns) e =
        let test : nat_le n (2 ^ b) ≡ false = grind (arith, nat_tests) in
        let rest : turns ≡ n - (b + 1) = omega arith in
        let next : suc b ≡ b + 1 = omega arith in
        rw (test, least_power) (rw (rest, next) refl)

-- a power that n doesn't exceed ends it
pub least_power-end : (n b : ℕ) → n ≤ 2 ^ b → least_power (n - b) n b ≡ b
least_power-end n b h = by (n - b)
  where
    by : (turns : ℕ) → least_power turns n b ≡ b
    by zero = refl
    by (suc turns) = let test : nat_le n (2 ^ b) ≡ true = grind (arith, nat_tests) in rw (test, least_power) refl

-- what 64 bits hold exceeds no power from the 64th on
pub exponent-le : (n b : ℕ) → 2 ^ b < n → n < 2 ^ 64 → b + 1 ≤ 64
exponent-le n b h fits =
    elim (dec_lt b 64) [
      | yes less ↦ omega arith
      | no more ↦
          absurd (let late : 64 ≤ b = omega arith in let p : 2 ^ 64 ≤ 2 ^ b = pow_mono late in omega arith)
    ]

-- one more item in front of those that fill a list up
pub set_next : (f : FixType → ℕ) (ts : List FixType) (n i x : ℕ) (d : FixType) → i < length ts → i < n → x ≡ f (get_or ts i d) →
    set (map f (take i ts) ++ replicate (n - i) 0) i x ≡ map f (take (i + 1) ts) ++ replicate (n - (i + 1)) 0
set_next f [] n i x d h l e = absurd (omega arith)
set_next f (t ∷ ts) zero zero x d h l e = absurd (omega arith)
set_next f (t ∷ ts) (suc n) zero x d h l e =
    let one : suc n - 0 ≡ suc n = omega arith in
    let rest : suc n - (0 + 1) ≡ n = omega arith in
    rw (one, rest) (ap (λ y. y ∷ replicate n 0) e)
set_next f (t ∷ ts) zero (suc i) x d h l e = absurd (omega arith)
set_next f (t ∷ ts) (suc n) (suc i) x d h l e =
    let here : suc n - suc i ≡ n - i = omega arith in
    let next : suc i + 1 ≡ suc (i + 1) = omega arith in
    let rest : suc n - suc (i + 1) ≡ n - (i + 1) = omega arith in
    rw (here, next, rest) (ap (λ ys. f t ∷ ys) (set_next f ts n i x d (omega arith) (omega arith) e))
