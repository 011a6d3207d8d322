-- The least common multiple.
use Rattle.std.proofs.Common.{◌≡◌, sym, subst, ◌∙◌, ℕ, zero, suc, ◌*◌, ◌/◌, ◌%◌, ◌<◌, ◌+◌, arith, mod-lt, div-add-mod', ap}
use Rattle.std.specs.Int.{IsGcd, ◌∣◌}
use Rattle.std.proofs.lemmas.Nat.Gcd.{IsGcd-from_zero, IsGcd-from_mod, dvd-zero}
use Rattle.std.proofs.Math.Nat.{div-mul_cancel, dvd_of_mul-dvd-mul_right, mul-dvd-mul_right, dvd-mul_right_of_dvd, mul-add-mod_self_left, mod-eq_of_lt, mul-lt-mul_of_pos_left}
use Rattle.base_core.specs.Numbers.{gcd_within, gcd, lcm, IsLcm}
use Rattle.base_core.proofs.lemmas.Divisors.{gcd_is, gcd_pos}

some : (b : ℕ) → 0 < suc b
some b = omega arith

-- numbers that are m times as great leave a rest that is m times as great
times_mod : (m a b : ℕ) → 0 < m → 0 < b → (m * a) % (m * b) ≡ m * (a % b)
times_mod m a b h k =
    let split = div-add-mod' a b in
    let parts : m * a ≡ (m * b) * (a / b) + m * (a % b) = sym (ap (λ n. m * n) split) ∙ omega arith in
    let below : m * (a % b) < m * b = mul-lt-mul_of_pos_left (mod-lt a k) h in
    ap (λ n. n % (m * b)) parts ∙ mul-add-mod_self_left (m * b) (a / b) (m * (a % b)) ∙ mod-eq_of_lt below

-- and have a divisor that is
times_gcd : (m turns a b : ℕ) → 0 < m → b < turns → IsGcd (m * a) (m * b) (m * gcd_within turns a b)
times_gcd m zero a b k h = absurd (omega (arith, h))
times_gcd m (suc turns) a zero k h = IsGcd-from_zero (m * a) (m * 0) (omega arith)
times_gcd m (suc turns) a (suc b) k h =
    let rest = times_gcd m turns (suc b) (a % suc b) k (omega (arith, h, mod-lt a (some b))) in
    IsGcd-from_mod (m * a) (m * suc b) _
    (subst (λ r. IsGcd (m * suc b) r (m * gcd_within turns (suc b) (a % suc b)))
    (sym (times_mod m a (suc b) k (some b))) rest)

swapped : (x y : ℕ) → x * y ≡ y * x
swapped x y = omega arith

times_left : (c x y : ℕ) → x ∣ y → c * x ∣ c * y
times_left c x y d = subst (λ n. n ∣ c * y) (swapped x c) (subst (λ n. x * c ∣ n) (swapped y c) (mul-dvd-mul_right x d c))

-- a number that both divide, times their greatest common divisor, is a multiple of their product
product_divides : (a b m : ℕ) → a ∣ m → b ∣ m → a * b ∣ m * gcd a b
product_divides a b zero x y = subst (λ n. a * b ∣ n) (none (gcd a b)) (dvd-zero (a * b))
  where
    none : (n : ℕ) → 0 ≡ 0 * n
    none n = omega arith
product_divides a b (suc m) x y =
    (times_gcd (suc m) (suc b) a b (some m) (omega arith)).2 (a * b)
    (subst (λ n. n ∣ suc m * a) (swapped b a) (mul-dvd-mul_right b y a))
    (mul-dvd-mul_right a x b)

-- the product over the greatest common divisor is the least common multiple
pub lcm_is : (a b : ℕ) → 0 < b → IsLcm a b (lcm a b)
lcm_is a b h =
    let g = gcd a b in
    let is = gcd_is a b in
    let pos : 0 < g = gcd_pos a b h in
    let whole : lcm a b * g ≡ a * b = div-mul_cancel g (dvd-mul_right_of_dvd g is.0 b) in
    let by_g : (d m : ℕ) → d * g ∣ m * g → d ∣ m = λ d m x. dvd_of_mul-dvd-mul_right {k = g} d {n = m} pos x in
    let of_a : a * g ∣ lcm a b * g = subst (λ n. a * g ∣ n) (sym whole) (times_left a g b is.1) in
    let of_b : b * g ∣ lcm a b * g = subst (λ n. b * g ∣ n) (swapped b a ∙ sym whole) (times_left b g a is.0) in (
      by_g a (lcm a b) of_a,
      by_g b (lcm a b) of_b,
      λ m x y. by_g (lcm a b) m (subst (λ n. n ∣ m * g) (sym whole) (product_divides a b m x y)),
    )
