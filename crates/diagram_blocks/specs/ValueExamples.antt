-- Worked values of single blocks.
use Rattle.std.specs.Prelude.{◌≡◌, ◌≤◌, ◌^◌, true, false, [], ◌∷◌, pos, neg_ℤ, refl}
use Rattle.std.proofs.Common.{lit≤}
use Rattle.base_core.specs.declared.Compare.TheVariants.{Lt, Eq}
use Rattle.base_core.specs.Numbers.{AreLowest}
use Rattle.base_fixed_point.specs.declared.FixType.{FixType}
use Rattle.base_fixed_point.specs.Types.{int8, int32, uint32}
use Rattle.base_fixed_point.specs.declared.Round.TheVariants.{Floor, Ceiling, Round}
use Rattle.base_fixed_point.specs.declared.Over.TheVariants.{Saturate, Wrap}
use Rattle.diagram_blocks.specs.declared.kind.How.{How}
use Rattle.diagram_blocks.specs.declared.kind.GainText.TheVariants.{Own, Typed}
use Rattle.diagram_blocks.specs.declared.kind.Criterion.TheVariants.{Ge, Gt}
use Rattle.diagram_blocks.specs.declared.kind.Logic.TheVariants.{Xor}
use Rattle.diagram_blocks.specs.declared.kind.Kind.TheVariants as kind
use Rattle.diagram_blocks.specs.declared.op.Op.TheVariants.{Delay, Line, Gain, Sum, Product, Switch, Relational, Logic, Convert}
use Rattle.diagram_blocks.specs.Width.{wide_bits}
use Rattle.diagram_blocks.specs.Value.{rhs, feeds_through}
use Rattle.diagram_blocks.specs.Meaning.{sum_fracs, op_of, delay_length}

abbrev floor_saturating : How
floor_saturating = record { round = Floor; over = Saturate }

abbrev floor_wrapping : How
floor_wrapping = record { round = Floor; over = Wrap }

-- a gain of 0.1 as 214748365 in units of 2^-31
pub gain_up : rhs (Gain (pos 214748365) 31 int32 floor_wrapping) (pos 2147483647 ∷ []) (pos 0)
    ≡ pos 214748364
gain_up = refl

pub gain_down : rhs (Gain (pos 214748365) 31 int32 floor_wrapping) (neg_ℤ (pos 1) ∷ []) (pos 0)
    ≡ neg_ℤ (pos 1)
gain_down = refl

pub gain_exact : rhs (Gain (pos 214748365) 31 int32 floor_wrapping) (pos 10 ∷ []) (pos 0) ≡ pos 1
gain_exact = refl

-- a product of two numbers of 32 bits needs 64 bits, or 62 with signs
pub product_unsigned : wide_bits (kind.Product 2 floor_wrapping) (uint32 ∷ uint32 ∷ []) uint32 ≡ 64
product_unsigned = refl

pub product_signed : wide_bits (kind.Product 2 floor_wrapping) (int32 ∷ int32 ∷ []) int32 ≡ 62
product_signed = refl

pub product_saturates : rhs (Product 2 0 int32 floor_saturating)
    (neg_ℤ (pos 2147483648) ∷ neg_ℤ (pos 2147483648) ∷ []) (pos 0) ≡ pos 2147483647
product_saturates = refl

pub product_wraps : rhs (Product 2 0 int32 floor_wrapping)
    (neg_ℤ (pos 2147483648) ∷ neg_ℤ (pos 2147483648) ∷ []) (pos 0) ≡ pos 0
product_wraps = refl

-- the second input is subtracted
pub difference : rhs (Sum 2 2 (sum_fracs (int32 ∷ int32 ∷ [])) int32 floor_wrapping)
    (pos 5 ∷ pos 3 ∷ []) (pos 0) ≡ pos 2
difference = refl

-- a switch at a threshold of 0.5, which is 8 in units of 2^-4
pub switch_above_saturates : rhs (Switch Gt (pos 8) (0 ∷ 0 ∷ []) int8 floor_saturating)
    (pos 5 ∷ pos 8 ∷ pos 300 ∷ []) (pos 0) ≡ pos 127
switch_above_saturates = refl

pub switch_above_wraps : rhs (Switch Gt (pos 8) (0 ∷ 0 ∷ []) int8 floor_wrapping)
    (pos 5 ∷ pos 8 ∷ pos 300 ∷ []) (pos 0) ≡ pos 44
switch_above_wraps = refl

pub switch_passes : rhs (Switch Gt (pos 8) (0 ∷ 0 ∷ []) int8 floor_wrapping)
    (pos 5 ∷ pos 9 ∷ pos 300 ∷ []) (pos 0) ≡ pos 5
switch_passes = refl

pub switch_at_least : rhs (Switch Ge (pos 8) (0 ∷ 0 ∷ []) int8 floor_wrapping)
    (pos 5 ∷ pos 8 ∷ pos 300 ∷ []) (pos 0) ≡ pos 5
switch_at_least = refl

-- exclusive or is true for an odd number of true inputs
pub three_true : rhs (Logic Xor 3) (pos 1 ∷ pos 1 ∷ pos 1 ∷ []) (pos 0) ≡ pos 1
three_true = refl

pub two_true : rhs (Logic Xor 3) (pos 1 ∷ pos 1 ∷ pos 0 ∷ []) (pos 0) ≡ pos 0
two_true = refl

-- -1 is less than 255, whatever the types
pub less : rhs (Relational Lt (0 ∷ 0 ∷ [])) (neg_ℤ (pos 1) ∷ pos 255 ∷ []) (pos 0) ≡ pos 1
less = refl

-- 1.5 in four bits after the point is less than 2 in none, though its stored number is greater
pub less_across : rhs (Relational Lt (4 ∷ 0 ∷ [])) (pos 24 ∷ pos 2 ∷ []) (pos 0) ≡ pos 1
less_across = refl

-- 2 in four bits after the point equals 2 in none
pub equal_across : rhs (Relational Eq (4 ∷ 0 ∷ [])) (pos 32 ∷ pos 2 ∷ []) (pos 0) ≡ pos 1
equal_across = refl

-- a conversion of -2.5 and 127.5 into whole numbers
pub convert_ceiling : rhs (Convert 4 int8 (record { round = Ceiling; over = Wrap }))
    (neg_ℤ (pos 40) ∷ []) (pos 0) ≡ neg_ℤ (pos 2)
convert_ceiling = refl

pub convert_wraps : rhs (Convert 4 int8 (record { round = Round; over = Wrap })) (pos 2040 ∷ [])
    (pos 0) ≡ neg_ℤ (pos 128)
convert_wraps = refl

-- a gain of 2.5 in a written type of one bit after the point is 5 halves
abbrev half : FixType
half = record { signed = true; bits = 8; frac = 1; in_profile = (lit≤ tt, lit≤ tt, lit≤ tt) }

pub typed_gain : (l : AreLowest 5 2) (a : 5 ≤ 10 ^ 36) (b : 2 ≤ 10 ^ 18) →
    op_of (kind.Gain
    (Typed (record { num = pos 5; den = 2; lowest = l; num_bound = a; den_bound = b }) half)
    floor_wrapping) (int8 ∷ []) int32 false ≡ Gain (pos 5) 1 int32 floor_wrapping
typed_gain l a b = refl

pub typed_gain_value : rhs (Gain (pos 5) 1 int32 floor_wrapping) (pos 3 ∷ []) (pos 0) ≡ pos 7
typed_gain_value = refl

-- a gain of 0.1 with its own constant needs 59 bits
pub gain_bits : (l : AreLowest 1 10) (a : 1 ≤ 10 ^ 36) (b : 10 ≤ 10 ^ 18) →
    wide_bits
    (kind.Gain
    (Own (record { num = pos 1; den = 10; lowest = l; num_bound = a; den_bound = b }))
    floor_wrapping) (int32 ∷ []) int32 ≡ 59
gain_bits l a b = refl

-- a sum of three inputs needs two bits more than its widest one in the finest unit
pub sum_bits : wide_bits (kind.Sum 3 0 floor_wrapping) (int8 ∷ half ∷ int8 ∷ []) int8 ≡ 10
sum_bits = refl

-- a delay of three samples, of which the first is its value; its initial condition is brought into
-- its type
pub line_op : (l : AreLowest 7 1) (a : 7 ≤ 10 ^ 36) (b : 1 ≤ 10 ^ 18) →
    op_of (kind.Delay 3 (record { num = pos 7; den = 1; lowest = l; num_bound = a; den_bound = b }))
    (int32 ∷ []) int32 false ≡ Line 3 (pos 7)
line_op l a b = refl

pub line_value : rhs (Line 3 (pos 7)) (pos 5 ∷ []) (pos 4) ≡ pos 4
line_value = refl

pub line_rests_on_no_input : feeds_through (Line 3 (pos 7)) ≡ false
line_rests_on_no_input = refl

pub line_length : delay_length (Line 3 (pos 7)) ≡ 3
line_length = refl

pub delay_of_one : delay_length (Delay (pos 7)) ≡ 1
delay_of_one = refl
