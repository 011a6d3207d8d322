-- Sample times that include others: the smallest that includes two of them, and all that a finite search finds.
use Rattle.std.specs.Prelude.{◌≡◌, ℕ, zero, suc, ◌+◌, ◌-◌, ◌*◌, ◌/◌, ◌%◌, ◌<◌, ◌≤◌, List, [], ◌∷◌, length, Contains, Option, Some, None, slice_index_or, ◌⊎◌}
use Rattle.std.specs.Int.{IsGcd, ◌∣◌}
use Rattle.std.proofs.Common.{refl, sym, ◌∙◌, ap, subst, arith, inl, inr, mod-lt, mod-eq_of_lt}
use Rattle.std.proofs.Math.Nat.{mod_self, mod-mod_of_dvd, add-mul-mod_self_left, div-mul_cancel, div-add-mod, dvd-sub, dvd-mul_right}
use Rattle.std.proofs.lemmas.Nat.Gcd.{IsGcd-from_zero, IsGcd-from_mod, dvd_of_mod-eq-zero, mod-eq-zero_of_dvd, dvd_trans}
use native.Mathlib.Decide.{dec_le}
use native.Mathlib.Nat.{pos_of_dvd_of_pos}
use Rattle.base_core.specs.Numbers.{gcd_within, gcd}
use Rattle.diagram_meaning.specs.declared.times.Time.{Time}
use Rattle.diagram_meaning.specs.SampleTimes.{every_tick, Includes, IsSmallest, IsInferred}

gcd_within-is : (turns a b : ℕ) → b < turns → IsGcd a b (gcd_within turns a b)
gcd_within-is zero a b h = absurd (omega (arith, h))
gcd_within-is (suc turns) a zero h = IsGcd-from_zero a zero refl
gcd_within-is (suc turns) a (suc b) h =
    let above : 0 < suc b = omega arith in
    IsGcd-from_mod a (suc b) _ (gcd_within-is turns (suc b) (a % suc b) (omega (arith, h, mod-lt a above)))

pub gcd-is : (a b : ℕ) → IsGcd a b (gcd a b)
gcd-is a b = gcd_within-is (suc b) a b (omega arith)

pub Includes-self : (p : Time) → Includes p p
Includes-self p = (mod_self p.period, mod-eq_of_lt p.in_period)

pub Includes-trans : (a b c : Time) → Includes a b → Includes b c → Includes a c
Includes-trans a b c p q =
    let divides : a.period ∣ b.period = dvd_of_mod-eq-zero a.period p.0 in (
      mod-eq-zero_of_dvd a.period (dvd_trans a.period divides (dvd_of_mod-eq-zero b.period q.0)),
      sym (mod-mod_of_dvd a.period c.offset divides) ∙ ap (λ n. n % a.period) q.1 ∙ p.1,
    )

-- ---- Two times

-- how far two numbers are from each other
abbrev apart : ℕ → ℕ → ℕ
apart m n = (m - n) + (n - m)

-- a number that divides how far two numbers are apart leaves one rest of both
rest-above : (d m n : ℕ) → n ≤ m → d ∣ m - n → m % d ≡ n % d
rest-above d m n le h =
    let more : m ≡ n + d * ((m - n) / d) = omega (arith, div-mul_cancel d h) in
    ap (λ k. k % d) more ∙ add-mul-mod_self_left n d ((m - n) / d)

same-rest : (d m n : ℕ) → d ∣ apart m n → m % d ≡ n % d
same-rest d m n h = elim (dec_le n m) [
  | yes le ↦ rest-above d m n le (let is : apart m n ≡ m - n = omega arith in subst (λ k. d ∣ k) is h)
  | no more ↦ sym (rest-above d n m (omega arith) (let is : apart m n ≡ n - m = omega arith in subst (λ k. d ∣ k) is h))
]

-- and one that leaves one rest of both divides how far they are apart
divides-above : (d m n : ℕ) → n ≤ m → m % d ≡ n % d → d ∣ m - n
divides-above d m n le h =
    let is : d * (m / d) - d * (n / d) ≡ m - n = omega (arith, div-add-mod m d, div-add-mod n d) in
    subst (λ k. d ∣ k) is (dvd-sub d (dvd-mul_right d (m / d)) (dvd-mul_right d (n / d)))

rest-same : (d m n : ℕ) → m % d ≡ n % d → d ∣ apart m n
rest-same d m n h = elim (dec_le n m) [
  | yes le ↦ let is : m - n ≡ apart m n = omega arith in subst (λ k. d ∣ k) is (divides-above d m n le h)
  | no more ↦ let is : n - m ≡ apart m n = omega arith in subst (λ k. d ∣ k) is (divides-above d n m (omega arith) (sym h))
]

-- the smallest sample time that includes two others: its period is the greatest that divides theirs and how far their
-- offsets are apart
pub record IsJoint (p q joint : Time) : Type 0 where
  pub first : Includes joint p
  pub second : Includes joint q
  pub least : (other : Time) → Includes other p → Includes other q → Includes other joint

pub joint : (p q : Time) → (both : Time) × IsJoint p q both
joint p q =
    let inner = gcd q.period p.period in
    let g = gcd (apart p.offset q.offset) inner in
    let in_both = gcd-is q.period p.period in
    let in_all = gcd-is (apart p.offset q.offset) inner in
    let above_p : 0 < p.period = let h = p.in_period in omega arith in
    let above_inner : 0 < inner = pos_of_dvd_of_pos in_both.1 above_p in
    let above : 0 < g = pos_of_dvd_of_pos in_all.1 above_inner in
    let both : Time = record { period = g; offset = p.offset % g; in_period = mod-lt p.offset above } in
    let near : p.offset % g ≡ q.offset % g = same-rest g p.offset q.offset in_all.0 in (
      both,
      record {
        first = (mod-eq-zero_of_dvd g (dvd_trans g in_all.1 in_both.1), refl);
        second = (mod-eq-zero_of_dvd g (dvd_trans g in_all.1 in_both.0), sym near);
        least = λ other in_p in_q.
            let divides : other.period ∣ g =
            in_all.2 other.period (rest-same other.period p.offset q.offset (in_p.1 ∙ sym in_q.1))
            (in_both.2 other.period (dvd_of_mod-eq-zero other.period in_q.0) (dvd_of_mod-eq-zero other.period in_p.0)) in
            (mod-eq-zero_of_dvd other.period divides, mod-mod_of_dvd other.period p.offset divides ∙ in_p.1);
      },
    )

-- ---- What a search finds

-- nothing is found, or this time is the smallest that includes all that is
abbrev pub IsFound : (Time → Type 0) → Option Time → Type 0
IsFound Found None = (found : Time) → Found found → ⊥
IsFound Found (Some time) = IsSmallest Found time × ((found : Time) × Found found)

-- a search that finds nothing, or one time
pub found-none : (Found : Time → Type 0) → ((found : Time) → Found found → ⊥) → (time : Option Time) × IsFound Found time
found-none Found none = (None, none)

pub found-one : (Found : Time → Type 0) (time : Time) → Found time → ((found : Time) → Found found → time ≡ found) →
    (time : Option Time) × IsFound Found time
found-one Found time is only = (
  Some time,
  (
    record {
      includes = λ found f. subst (Includes time) (only found f) (Includes-self time);
      smallest = λ other all. all time is;
    },
    (time, is),
  ),
)

-- what one search or another finds
pub found-either : (Left Right : Time → Type 0) → (time : Option Time) × IsFound Left time → (time : Option Time) × IsFound Right time →
    (time : Option Time) × IsFound (λ t. Left t ⊎ Right t) time
found-either Left Right (None, l) (None, r) = (None, λ found f. elim f [ inl a ↦ l found a | inr b ↦ r found b ])
found-either Left Right (None, l) (Some q, r) = (
  Some q,
  (
    record {
      includes = λ found f. elim f [ inl a ↦ absurd (l found a) | inr b ↦ r.0.includes found b ];
      smallest = λ other all. r.0.smallest other (λ found b. all found (inr b));
    },
    (r.1.0, inr r.1.1),
  ),
)
found-either Left Right (Some p, l) (None, r) = (
  Some p,
  (
    record {
      includes = λ found f. elim f [ inl a ↦ l.0.includes found a | inr b ↦ absurd (r found b) ];
      smallest = λ other all. l.0.smallest other (λ found a. all found (inl a));
    },
    (l.1.0, inl l.1.1),
  ),
)
found-either Left Right (Some p, l) (Some q, r) =
    let both = joint p q in (
      Some both.0,
      (
        record {
          includes = λ found f. elim f [
            | inl a ↦ Includes-trans both.0 p found both.1.first (l.0.includes found a)
            | inr b ↦ Includes-trans both.0 q found both.1.second (r.0.includes found b)
          ];
          smallest = λ other all. both.1.least other (l.0.smallest other (λ found a. all found (inl a)))
              (r.0.smallest other (λ found b. all found (inr b)));
        },
        (l.1.0, inl l.1.1),
      ),
    )

-- the same search said in another way
pub found-same : (Found Other : Time → Type 0) → ((t : Time) → Found t → Other t) → ((t : Time) → Other t → Found t) →
    (time : Option Time) × IsFound Found time → (time : Option Time) × IsFound Other time
found-same Found Other to back (None, none) = (None, λ found o. none found (back found o))
found-same Found Other to back (Some time, is) = (
  Some time,
  (
    record {
      includes = λ found o. is.0.includes found (back found o);
      smallest = λ other all. is.0.smallest other (λ found f. all found (to found f));
    },
    (is.1.0, to is.1.0 is.1.1),
  ),
)

-- what is found from one of several rows
pub found-among : (Found : ℕ → Time → Type 0) → ((c : ℕ) → (time : Option Time) × IsFound (Found c) time) → (cs : List ℕ) →
    (time : Option Time) × IsFound (λ t. (c : ℕ) × Contains cs c × Found c t) time
found-among Found each [] = found-none _ (λ found f. let below = f.1.1 in omega arith)
found-among Found each (c ∷ cs) =
    found-same (λ t. Found c t ⊎ ((k : ℕ) × Contains cs k × Found k t)) (λ t. (k : ℕ) × Contains (c ∷ cs) k × Found k t)
    (λ t f. elim f [
      | inl here ↦ (c, (0, omega arith, refl), here)
      | inr more ↦ (more.0, (suc more.1.0, omega (arith, more.1.1), more.1.2), more.2)
    ])
    (λ t f. by t f.0 f.1.0 f.1.1 f.1.2 f.2)
    (found-either (Found c) (λ t. (k : ℕ) × Contains cs k × Found k t) (each c) (found-among Found each cs))
  where
    by : (t : Time) (k place : ℕ) → place < length (c ∷ cs) → slice_index_or (c ∷ cs) place k ≡ k → Found k t →
        Found c t ⊎ ((k : ℕ) × Contains cs k × Found k t)
    by t k zero below e f = inl (subst (λ b. Found b t) (sym e) f)
    by t k (suc place) below e f = inr (k, (place, omega (arith, below), e), f)

-- the time that such a search gives
pub inferred-from : (Found : Time → Type 0) → (time : Option Time) × IsFound Found time → (time : Time) × IsInferred Found time
inferred-from Found (None, none) = (every_tick, record { none = λ h. refl; some = λ found f. absurd (none found f) })
inferred-from Found (Some time, is) = (time, record { none = λ h. absurd (h is.1.0 is.1.1); some = λ found f. is.0 })
