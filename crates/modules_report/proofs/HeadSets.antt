-- The sets of inputs of a system, by the line that says its controls.
use Rattle.std.proofs.Common.{◌≡◌, ℕ, ◌+◌, ◌%◌, ◌^◌, ◌≤◌, Bool, true, false, cond, ◌↔◌, ◌*◌, ◌<◌, IsTrue, [], ◌∷◌, length, map, refl, sym, ap, ap₂, ◌∙◌, arith}
use Rattle.std.specs.Prelude.{nat_eq, sum}
use Rattle.std.specs.List.{range_with_len}
use Rattle.std.proofs.lemmas.Bool.{eq-eqb, eqb-true}
use Rattle.std.proofs.lemmas.Nat.{pow_below}
use Rattle.std.proofs.Math.Nat.{mod-eq_of_lt}
use Rattle.base_core.specs.declared.Port.{Port}
use Rattle.base_core.specs.declared.Port.TheVariants.{Number, Enable, Trigger}
use Rattle.base_core.specs.Ports.{bit_of, has_bit, ports_in, ports_mask}
use Rattle.modules_report.specs.Following.{controls_with}
use Rattle.modules_report.specs.Heads.{own_bit}
use Rattle.modules_report.specs.Reports.{IsSetOf}
use Rattle.modules_report.specs.Texts.{ports_with}
use Rattle.modules_report.proofs.OwnMasks.{weight, weight-append, weight-numbers}

pub controls_len : (enabled triggered : Bool) → length (controls_with enabled triggered) ≡ cond enabled 1 0 + cond triggered 1 0
controls_len true true = refl
controls_len true false = refl
controls_len false true = refl
controls_len false false = refl

one-port : (mask : ℕ) (p : Port) → weight mask (p ∷ []) ≡ cond (has_bit mask (bit_of p)) (2 ^ bit_of p) 0
one-port mask p = by (has_bit mask (bit_of p))
  where
    by : (t : Bool) → sum (map (λ q. 2 ^ bit_of q) (cond t (p ∷ []) [])) ≡ cond t (2 ^ bit_of p) 0
    by true = (let e : 0 + 2 ^ bit_of p ≡ 2 ^ bit_of p = omega arith in e)
    by false = refl

controls-weight : (enabled triggered : Bool) (mask : ℕ) →
    weight mask (controls_with enabled triggered) ≡ own_bit enabled mask 32 + own_bit triggered mask 33
controls-weight true true mask =
    weight-append mask (Enable ∷ []) (Trigger ∷ []) ∙ ap₂ (λ x y. x + y) (one-port mask Enable) (one-port mask Trigger)
controls-weight true false mask = one-port mask Enable ∙ (let e : own_bit true mask 32 ≡ own_bit true mask 32 + 0 = omega arith in e)
controls-weight false true mask = one-port mask Trigger ∙ (let e : own_bit true mask 33 ≡ 0 + own_bit true mask 33 = omega arith in e)
controls-weight false false mask = refl

pub ports_weight : (inputs : ℕ) (enabled triggered : Bool) (mask : ℕ) →
    ports_mask (ports_in mask (ports_with inputs (controls_with enabled triggered)))
    ≡ mask % 2 ^ inputs + own_bit enabled mask 32 + own_bit triggered mask 33
ports_weight inputs enabled triggered mask =
    weight-append mask (map Number (range_with_len 1 inputs)) (controls_with enabled triggered)
    ∙ ap₂ (λ x y. x + y) (weight-numbers mask inputs) (controls-weight enabled triggered mask)
    ∙ (let e : mask % 2 ^ inputs + (own_bit enabled mask 32 + own_bit triggered mask 33)
    ≡ mask % 2 ^ inputs + own_bit enabled mask 32 + own_bit triggered mask 33 = omega arith in e)

-- the test of a set
pub has_inputs : (inputs mask enable trigger : ℕ) (enabled triggered : Bool) → inputs ≤ 32 →
    enable ≡ own_bit enabled mask 32 → trigger ≡ own_bit triggered mask 33 →
    IsTrue (nat_eq (mask % (1 * 2 ^ inputs % 2 ^ 64) + enable + trigger) mask)
    ↔ IsSetOf (ports_with inputs (controls_with enabled triggered)) mask
has_inputs inputs mask enable trigger enabled triggered few e t = (
  λ same. ports_weight inputs enabled triggered mask ∙ sym sums ∙ eqb-true (mask % (1 * 2 ^ inputs % 2 ^ 64) + enable + trigger) mask same,
  λ is. eq-eqb (mask % (1 * 2 ^ inputs % 2 ^ 64) + enable + trigger) mask (sums ∙ sym (ports_weight inputs enabled triggered mask) ∙ is),
)
  where
    below : 1 * 2 ^ inputs < 2 ^ 64
    below = let p = pow_below inputs 64 (omega (arith, few)) in omega (arith, p)

    whole : 1 * 2 ^ inputs % 2 ^ 64 ≡ 2 ^ inputs
    whole = mod-eq_of_lt below ∙ omega arith

    sums : mask % (1 * 2 ^ inputs % 2 ^ 64) + enable + trigger ≡ mask % 2 ^ inputs + own_bit enabled mask 32 + own_bit triggered mask 33
    sums = ap₂ (λ x y. x + y) (ap₂ (λ x y. x + y) (ap (λ k. mask % k) whole) e) t
