-- The value of a row lies in its type.
use Rattle.std.proofs.Common.{ℕ, ◌-◌, ◌^◌, ◌≤◌, Bool, true, false, cond, ℤ, pos, neg_ℤ, ◌≤ℤ◌, arith}
use Rattle.std.proofs.Math.Pow.{pow_mono}
use Rattle.std.proofs.lemmas.Int.{ints}
use Rattle.base_core.specs.declared.Decimal.{Decimal}
use Rattle.base_fixed_point.specs.declared.FixType.{FixType}
use Rattle.base_fixed_point.specs.Profile.{InProfile}
use Rattle.base_fixed_point.specs.Conversion.{InType, quantize}
use Rattle.base_fixed_point.proofs.lemmas.ConversionLaws.{clamped_in, conversion_is_one}
use Rattle.diagram_blocks.specs.declared.kind.How.{How}
use Rattle.diagram_blocks.specs.declared.kind.Kind.TheVariants.{Inport, Outport, Constant, Gain, Sum, Product, UnitDelay, Delay, ZeroOrderHold, Switch, Relational, Logic, Convert, RateTransition}
use Rattle.diagram_blocks.specs.Value.{conversion, number_of_bool}
use Rattle.diagram_blocks.specs.Laws.{ValuesStayInType}

-- 0 and 1 lie in every type
bit_in_by : (signed : Bool) (bits frac : ℕ) → InProfile signed bits frac → (n : ℕ) → n ≤ 1 →
    (cond signed (neg_ℤ (pos (2 ^ (bits - 1)))) (pos 0) ≤ℤ pos n) × (pos n ≤ℤ cond signed (pos (2 ^ (bits - 1) - 1)) (pos (2 ^ bits - 1)))
bit_in_by true bits frac p n h =
    let two : 1 ≤ bits - 1 = omega (arith, p.0) in
    let wide : 2 ^ 1 ≤ 2 ^ (bits - 1) = pow_mono two in
    (omega (arith, ints), omega (arith, ints, wide))
bit_in_by false bits frac p n h =
    let one : 1 ≤ bits = omega (arith, p.0) in
    let wide : 2 ^ 1 ≤ 2 ^ bits = pow_mono one in
    (omega (arith, ints), omega (arith, ints, wide))

bit_in : (t : FixType) (n : ℕ) → n ≤ 1 → InType t (pos n)
bit_in t n h = bit_in_by t.signed t.bits t.frac t.in_profile n h

bool_in : (t : FixType) (b : Bool) → InType t (number_of_bool b)
bool_in t true = bit_in t 1 (omega arith)
bool_in t false = bit_in t 0 (omega arith)

conversion_in : (v : ℤ) (f : ℕ) (t : FixType) (how : How) → InType t (conversion v f t how)
conversion_in v f t how = (conversion_is_one v f t how.round how.over).2

quantize_in : (d : Decimal) (t : FixType) → InType t (quantize d t)
quantize_in d t = clamped_in t _

either_in : (b : Bool) (t : FixType) (x y : ℤ) → InType t x → InType t y → InType t (cond b x y)
either_in true t x y p q = p
either_in false t x y p q = q

pub values_stay_in_type : ValuesStayInType
values_stay_in_type (Inport port) ts out delays vs memory h = h.1
values_stay_in_type (Outport port reset initial) ts out delays vs memory h = h.1
values_stay_in_type (Constant value) ts out delays vs memory h = quantize_in value out
values_stay_in_type (Gain gain how) ts out delays vs memory h = conversion_in _ _ out how
values_stay_in_type (Sum count minus how) ts out delays vs memory h = conversion_in _ _ out how
values_stay_in_type (Product count how) ts out delays vs memory h = conversion_in _ _ out how
values_stay_in_type (UnitDelay initial) ts out delays vs memory h = h
values_stay_in_type (Delay length initial) ts out delays vs memory h = h
values_stay_in_type ZeroOrderHold ts out delays vs memory h = h.1
values_stay_in_type (Switch criterion threshold how) ts out delays vs memory h =
    either_in _ out _ _ (conversion_in _ _ out how) (conversion_in _ _ out how)
values_stay_in_type (Relational compare) ts out delays vs memory h = bool_in out _
values_stay_in_type (Logic o count) ts out delays vs memory h = bool_in out _
values_stay_in_type (Convert how) ts out delays vs memory h = conversion_in _ _ out how
values_stay_in_type (RateTransition initial time) ts out true vs memory h = h
values_stay_in_type (RateTransition initial time) ts out false vs memory h = h.1
values_stay_in_type _ ts out delays vs memory h = bit_in out 0 (omega arith)
