-- How many bits the exact numbers of a row need.
use Rattle.std.specs.Prelude.{ℕ, zero, suc, ◌+◌, ◌-◌, ◌^◌, max, true, false, nat_le, if◌then◌else◌, List, [], ◌∷◌, map, sum, unsigned_abs, ℤ, pos}
use Rattle.std.specs.Result.{result_unwrap_or}
use Rattle.base_fixed_point.specs.declared.FixType.{FixType}
use Rattle.diagram_blocks.specs.declared.kind.GainText.{GainText}
use Rattle.diagram_blocks.specs.declared.kind.GainText.TheVariants.{Own, Typed}
use Rattle.diagram_blocks.specs.declared.kind.Kind.{Kind}
use Rattle.diagram_blocks.specs.declared.kind.Kind.TheVariants.{Inport, Outport, SubSystem, Constant, Ground, Terminator, Gain, Sum, Product, UnitDelay, Delay, ZeroOrderHold, Switch, Relational, Logic, Convert, RateTransition, EnablePort, TriggerPort}
use Rattle.base_fixed_point.specs.Conversion.{quantize, gain_constant}
use Rattle.base_fixed_point.specs.Types.{boolean}
use Rattle.diagram_blocks.specs.Value.{greatest_in}

-- the bits of a type's magnitudes
abbrev pub magnitude_bits : FixType → ℕ
magnitude_bits t = if t.signed then t.bits - 1 else t.bits

-- the least b from k on with n ≤ 2^b, among the first turns
abbrev pub least_power : ℕ → ℕ → ℕ → ℕ
least_power zero n k = k
least_power (suc turns) n k =
    elim (nat_le n (2 ^ k)) [ true ↦ k | false ↦ least_power turns n (suc k) ]

-- the least b with n ≤ 2^b
abbrev pub power_bits : ℕ → ℕ
power_bits n = least_power n n 0

-- a gain's constant as m and f, for m·2^-f; one that fits at no f, which no lawful row has, counts
-- as 0
abbrev pub gain_of : GainText → ℤ × ℕ
gain_of (Own d) = result_unwrap_or (gain_constant d) (pos 0, 0)
gain_of (Typed d t) = (quantize d t, t.frac)

-- input i + 1's type; a place past the inputs, which no lawful row reads, counts as boolean
abbrev pub input_type : List FixType → ℕ → FixType
input_type [] i = boolean
input_type (t ∷ ts) zero = t
input_type (t ∷ ts) (suc i) = input_type ts i

-- the greatest number of fraction bits of the inputs
abbrev pub common_frac : List FixType → ℕ
common_frac ts = greatest_in (map (λ t. t.frac) ts)

-- the bits of the greatest input, in units of 2^-F
abbrev pub common_bits : List FixType → ℕ → ℕ
common_bits ts F = greatest_in (map (λ t. magnitude_bits t + (F - t.frac)) ts)

-- the bits of an exact number of some bits in units of 2^-F, and of what its conversion makes of it
abbrev pub conversion_bits : ℕ → ℕ → FixType → ℕ
conversion_bits bits F out = max (bits + (out.frac - F)) (F - out.frac)

-- the bits that a row's computation needs, by its kind, its inputs' types and its own
abbrev pub wide_bits : Kind → List FixType → FixType → ℕ
wide_bits (Gain gain how) ts out =
    let g = gain_of gain in
    conversion_bits (magnitude_bits (input_type ts 0) + power_bits (unsigned_abs g.0))
    ((input_type ts 0).frac + g.1) out
wide_bits (Sum count minus how) ts out =
    let F = common_frac ts in
    conversion_bits (common_bits ts F + power_bits count) F out
wide_bits (Product count how) ts out =
    conversion_bits (sum (map magnitude_bits ts)) (sum (map (λ t. t.frac) ts)) out
wide_bits (Switch criterion threshold how) ts out =
    max (conversion_bits (magnitude_bits (input_type ts 0)) (input_type ts 0).frac out)
    (conversion_bits (magnitude_bits (input_type ts 2)) (input_type ts 2).frac out)
wide_bits (Convert how) ts out =
    conversion_bits (magnitude_bits (input_type ts 0)) (input_type ts 0).frac out
wide_bits (Relational compare) ts out = common_bits ts (common_frac ts)
wide_bits (Inport port) ts out = 0
wide_bits (Outport port reset initial) ts out = 0
wide_bits (SubSystem control) ts out = 0
wide_bits (Constant value) ts out = 0
wide_bits Ground ts out = 0
wide_bits Terminator ts out = 0
wide_bits (UnitDelay initial) ts out = 0
wide_bits (Delay length initial) ts out = 0
wide_bits ZeroOrderHold ts out = 0
wide_bits (Logic o count) ts out = 0
wide_bits (RateTransition initial out_time) ts out = 0
wide_bits EnablePort ts out = 0
wide_bits TriggerPort ts out = 0
