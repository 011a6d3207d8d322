-- Laws of values on which the other crates rest.
use Rattle.std.specs.Prelude.{ℕ, ◌+◌, ◌*◌, ◌-◌, ◌^◌, ◌≤◌, max, Bool, List, [], ◌∷◌, take, get_or, unsigned_abs, ℤ, ⊤}
use Rattle.base_fixed_point.specs.declared.FixType.{FixType}
use Rattle.base_fixed_point.specs.Conversion.{InType, over_units}
use Rattle.diagram_blocks.specs.declared.kind.Kind.{Kind}
use Rattle.diagram_blocks.specs.declared.op.Op.{Op}
use Rattle.diagram_blocks.specs.declared.op.Op.TheVariants.{Gain, Sum, Product, Switch, Relational, Convert}
use Rattle.diagram_blocks.specs.Value.{rhs, input, greatest_in}
use Rattle.diagram_blocks.specs.Width.{wide_bits}
use Rattle.diagram_blocks.specs.Meaning.{op_of}
use Rattle.diagram_blocks.specs.Limits.{HasInputTypes}
use Rattle.diagram_blocks.specs.Evaluation.{PassesInType, ReadsInTypes}

-- the value of a row lies in its type
abbrev pub ValuesStayInType : Type 0
ValuesStayInType =
    (kind : Kind) (ts : List FixType) (out : FixType) (delays : Bool) (vs : List ℤ) (memory : ℤ) →
    PassesInType (op_of kind ts out delays) out vs memory →
    InType out (rhs (op_of kind ts out delays) vs memory)

-- The numbers on the way to a value, in whatever order its terms or factors are taken.

-- the magnitude of an exact sum at most, and of each part of it: those of its terms in units of
-- 2^-F together
abbrev pub sum_magnitude : ℕ → List ℕ → List ℤ → ℕ
sum_magnitude F [] vs = 0
sum_magnitude F (f ∷ fs) [] = 0
sum_magnitude F (f ∷ fs) (v ∷ vs) = unsigned_abs (over_units v f F) + sum_magnitude F fs vs

-- the magnitude of an exact product at most, and of each part of it: that of its factors, with 1 in
-- place of 0
abbrev pub product_magnitude : List ℤ → ℕ
product_magnitude [] = 1
product_magnitude (v ∷ vs) = max 1 (unsigned_abs v) * product_magnitude vs

-- a number of at most this magnitude and F fraction bits is brought into a type with 62 bits: in
-- units of the type, and the divisor where these are coarser
abbrev pub ConversionFits : ℕ → ℕ → FixType → Type 0
ConversionFits magnitude F to = (magnitude * 2 ^ (to.frac - F) ≤ 2 ^ 62) × (F - to.frac ≤ 62)

-- all numbers on the way to a row's value have magnitudes up to 2^62, which 64 bits with a sign
-- hold
abbrev pub NumbersFit : Op → List ℤ → Type 0
NumbersFit (Gain m frac to how) vs =
    ConversionFits (unsigned_abs (input vs 0) * unsigned_abs m) frac to
NumbersFit (Sum count minus fracs to how) vs =
    let F = greatest_in (take count fracs) in
    ConversionFits (sum_magnitude F (take count fracs) vs) F to
NumbersFit (Product count frac to how) vs =
    ConversionFits (product_magnitude (take count vs)) frac to
NumbersFit (Switch criterion threshold fracs to how) vs =
    ConversionFits (unsigned_abs (input vs 0)) (get_or fracs 0 0) to
    × ConversionFits (unsigned_abs (input vs 2)) (get_or fracs 1 0) to
NumbersFit (Relational compare fracs) vs =
    let F = greatest_in fracs in
    (unsigned_abs (over_units (input vs 0) (get_or fracs 0 0) F) ≤ 2 ^ 62)
    × (unsigned_abs (over_units (input vs 1) (get_or fracs 1 0) F) ≤ 2 ^ 62)
NumbersFit (Convert frac to how) vs = ConversionFits (unsigned_abs (input vs 0)) frac to
NumbersFit _ vs = ⊤

-- where a row needs at most 62 bits and its inputs lie in their types, all its numbers fit
abbrev pub NarrowRowsFit : Type 0
NarrowRowsFit =
    (kind : Kind) (ts : List FixType) (out : FixType) (delays : Bool) (vs : List ℤ) →
    HasInputTypes kind ts → ReadsInTypes kind ts vs → wide_bits kind ts out ≤ 62 →
    NumbersFit (op_of kind ts out delays) vs
