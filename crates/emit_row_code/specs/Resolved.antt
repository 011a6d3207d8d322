-- Operations of rows that are emitted.
use Rattle.std.specs.Prelude.{◌≡◌, ◌-◌, ◌^◌, ◌<◌, ◌≤◌, Bool, List, take, get_or, unsigned_abs, ⊤}
use Rattle.base_fixed_point.specs.declared.FixType.{FixType}
use Rattle.diagram_blocks.specs.declared.Kind.{Kind}
use Rattle.diagram_blocks.specs.declared.Op.{Op}
use Rattle.diagram_blocks.specs.declared.Op.TheVariants.{Value, Line, Gain, Sum, Product, Switch, Relational, Convert}
use Rattle.diagram_blocks.specs.Value.{greatest_in}
use Rattle.diagram_blocks.specs.Width.{wide_bits}
use Rattle.diagram_blocks.specs.Meaning.{op_of}
use Rattle.diagram_blocks.specs.Limits.{HasInputTypes, IsWithinLimits}

-- the operation of a row within the limits, whose numbers need at most 62 bits
pub record IsRowOp (op : Op) : Type 0 where
  pub kind : Kind
  pub types : List FixType
  pub out : FixType
  pub delays : Bool
  pub is_op : op ≡ op_of kind types out delays
  pub within_limits : IsWithinLimits kind
  pub has_types : HasInputTypes kind types
  pub narrow : wide_bits kind types out ≤ 62

-- C can write the constants of an operation, and the powers of two by which its numbers are shifted
abbrev pub IsWritable : Op → Type 0
IsWritable (Value v) = unsigned_abs v < 2 ^ 63
IsWritable (Line length start) = unsigned_abs start < 2 ^ 63
IsWritable (Gain m frac to how) = (unsigned_abs m < 2 ^ 63) × (frac - to.frac ≤ 62)
IsWritable (Sum count minus fracs to how) = (count ≤ 16) × (greatest_in (take count fracs) ≤ 31)
IsWritable (Product count frac to how) = frac - to.frac ≤ 62
IsWritable (Switch criterion threshold fracs to how) =
    (unsigned_abs threshold < 2 ^ 63) × (get_or fracs 0 0 ≤ 31) × (get_or fracs 1 0 ≤ 31)
IsWritable (Relational how fracs) = greatest_in fracs ≤ 31
IsWritable (Convert frac to how) = frac ≤ 31
IsWritable _ = ⊤

-- that of a row that is emitted is such
abbrev pub RowOpsAreWritable : Type 0
RowOpsAreWritable = (op : Op) → IsRowOp op → IsWritable op
