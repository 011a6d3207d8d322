-- Times that include others.
use Rattle.std.specs.Prelude.{◌≡◌, ℕ, zero, suc, ◌+◌, ◌-◌, ◌*◌, ◌/◌, ◌%◌, ◌<◌, ◌≤◌, Some}
use Rattle.std.specs.Int.{IsGcd, ◌∣◌, abs_diff}
use Rattle.std.proofs.Common.{sym, ◌∙◌, ap, subst, arith, mod-eq_of_lt}
use Rattle.std.proofs.Math.Nat.{add-mod-mod, div-add-mod, dvd-sub, mod-mod_of_dvd}
use Rattle.std.proofs.lemmas.Nat.Gcd.{dvd_of_mod-eq-zero, mod-eq-zero_of_dvd, le_of_dvd}
use native.Mathlib.Decide.{ℕ_discrete, dec_le}
use native.Mathlib.Nat.{dvd_trans, dvd-mul_right, eq-zero_of_zero-dvd}
use Rattle.diagram_meaning.specs.declared.times.Time.{Time}
use Rattle.diagram_meaning.specs.SampleTimes.{Includes}
use Rattle.diagram_times.specs.Hulls.{IsCommonPeriod, IsHull, IsWidened}

-- numbers whose distance n divides have the same rest
forward : (n x y : ℕ) → x ≤ y → n ∣ y - x → x % n ≡ y % n
forward n x y le h =
    let none : (y - x) % n ≡ 0 = mod-eq-zero_of_dvd n h in
    ap (λ k. k % n) (let e : x ≡ x + 0 = omega arith in e) ∙ ap (λ k. (x + k) % n) (sym none) ∙ add-mod-mod x (y - x) n
    ∙ ap (λ k. k % n) (let e : x + (y - x) ≡ y = omega arith in e)

same-rest : (n x y : ℕ) → n ∣ abs_diff x y → x % n ≡ y % n
same-rest n x y h = elim (dec_le x y) [
  | yes le ↦ forward n x y le (subst (λ d. n ∣ d) (let e : (x - y) + (y - x) ≡ y - x = omega arith in e) h)
  | no above ↦ sym (forward n y x (omega arith) (subst (λ d. n ∣ d) (let e : (x - y) + (y - x) ≡ x - y = omega arith in e) h))
]

-- and the other way round
back : (n x y : ℕ) → x ≤ y → x % n ≡ y % n → n ∣ y - x
back n x y le same =
    let p = div-add-mod x n in
    let q = div-add-mod y n in
    subst (λ d. n ∣ d) (let e : n * (y / n) - n * (x / n) ≡ y - x = omega arith in
    e) (dvd-sub n (dvd-mul_right n (y / n)) (dvd-mul_right n (x / n)))

distance-divided : (n x y : ℕ) → x % n ≡ y % n → n ∣ abs_diff x y
distance-divided n x y same = elim (dec_le x y) [
  | yes le ↦ subst (λ d. n ∣ d) (let e : y - x ≡ (x - y) + (y - x) = omega arith in e) (back n x y le same)
  | no above ↦ subst (λ d. n ∣ d) (let e : x - y ≡ (x - y) + (y - x) = omega arith in e) (back n y x (omega arith) (sym same))
]

-- a divisor of a number above 0 is above 0
divisor-positive : (g n : ℕ) → 0 < n → g ∣ n → 0 < g
divisor-positive zero n above h = absurd (let none = eq-zero_of_zero-dvd h in omega arith)
divisor-positive (suc g) n above h = omega arith

pub common-period : (a b : Time) (x y d r g : ℕ) → x ≡ a.period → y ≡ b.period → d ≡ abs_diff a.offset b.offset →
    IsGcd x y r → IsGcd r d g → IsCommonPeriod a b g
common-period a b x y d r g e f k one two =
    let first : g ∣ a.period = subst (λ n. g ∣ n) e (dvd_trans g two.0 one.0) in
    record {
      some = divisor-positive g a.period (let h = a.in_period in omega arith) first;
      first = first;
      second = subst (λ n. g ∣ n) f (dvd_trans g two.0 one.1);
      apart = subst (λ n. g ∣ n) k two.1;
      greatest = λ n p q s. two.2 n (one.2 n (subst (λ m. n ∣ m) (sym e) p) (subst (λ m. n ∣ m) (sym f) q)) (subst (λ m. n ∣ m) (sym k) s);
    }

pub common-low : (a b : Time) (g : ℕ) → IsCommonPeriod a b g → g ≤ a.period
common-low a b g is = le_of_dvd (let h = a.in_period in omega arith) is.first

pub is-hull : (a b : Time) (g : ℕ) → IsCommonPeriod a b g → (hull : Time) → hull.period ≡ g → hull.offset ≡ a.offset % g → IsHull a b hull
is-hull a b g is hull e f = record {
  first = (ap (λ n. a.period % n) e ∙ mod-eq-zero_of_dvd g is.first, ap (λ n. a.offset % n) e ∙ sym f);
  second = (
    ap (λ n. b.period % n) e ∙ mod-eq-zero_of_dvd g is.second,
    ap (λ n. b.offset % n) e ∙ sym (same-rest g a.offset b.offset is.apart) ∙ sym f,
  );
  smallest = λ other p q.
      let n : ℕ = other.period in
      let divides : n ∣ g =
      is.greatest n (dvd_of_mod-eq-zero n p.0) (dvd_of_mod-eq-zero n q.0)
      (distance-divided n a.offset b.offset (p.1 ∙ sym q.1)) in (
        ap (λ m. m % n) e ∙ mod-eq-zero_of_dvd n divides,
        ap (λ m. m % n) f ∙ mod-mod_of_dvd n a.offset divides ∙ p.1,
      );
}

-- what includes a time that includes another one includes that
pub Includes-trans : (a b c : Time) → Includes a b → Includes b c → Includes a c
Includes-trans a b c p q =
    let n : ℕ = a.period in
    let first : n ∣ b.period = dvd_of_mod-eq-zero n p.0 in (
      mod-eq-zero_of_dvd n (dvd_trans n first (dvd_of_mod-eq-zero b.period q.0)),
      sym (mod-mod_of_dvd n c.offset first) ∙ ap (λ m. m % n) q.1 ∙ p.1,
    )

pub Includes-self : (a : Time) → Includes a a
Includes-self a = (
  mod-eq-zero_of_dvd a.period (subst (λ n. a.period ∣ n) (let e : a.period * 1 ≡ a.period = omega arith in
      e) (dvd-mul_right a.period 1)),
  mod-eq_of_lt a.in_period,
)

-- a time that is widened by one that it does not include gets a lesser period
pub widened-some : (found time wider : Time) → IsHull found time wider → (Includes found time → ⊥) → IsWidened (Some found) time wider
widened-some found time wider is fails = (is, lesser)
  where
    low : wider.period ≤ found.period
    low = le_of_dvd (let h = found.in_period in omega arith) (dvd_of_mod-eq-zero wider.period is.first.0)

    lesser : wider.period < found.period
    lesser = elim (ℕ_discrete wider.period found.period) [
      | yes same ↦ absurd (fails (
        ap (λ n. time.period % n) (sym same) ∙ is.second.0,
        ap (λ n. time.offset % n) (sym same) ∙ is.second.1 ∙ sym is.first.1 ∙ ap (λ n. found.offset % n) same
            ∙ mod-eq_of_lt found.in_period,
      ))
      | no differ ↦ let l = low in omega arith
    ]
