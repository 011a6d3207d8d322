-- Which inputs and memories a row can have when it is computed.
use Rattle.std.specs.Prelude.{◌≡◌, ◌≤◌, ◌<◌, Bool, List, length, ℤ, MatchBool, ⊤}
use Rattle.std.specs.List.{AllZip}
use Rattle.base_fixed_point.specs.declared.FixType.{FixType}
use Rattle.base_fixed_point.specs.Conversion.{InType}
use Rattle.diagram_blocks.specs.declared.kind.Kind.{Kind}
use Rattle.diagram_blocks.specs.declared.op.Op.{Op}
use Rattle.diagram_blocks.specs.declared.op.Op.TheVariants.{Copy, Delay, Line}
use Rattle.diagram_blocks.specs.Value.{input}
use Rattle.diagram_blocks.specs.Width.{wide_bits}
use Rattle.diagram_blocks.specs.Meaning.{op_of}
use Rattle.diagram_blocks.specs.Limits.{is_computed, HasInputTypes, IsWithinLimits}

-- what an operation passes on as it is, a copied input or a delay's memory, lies in the row's type
abbrev pub PassesInType : Op → FixType → List ℤ → ℤ → Type 0
PassesInType Copy out vs memory = (0 < length vs) × InType out (input vs 0)
PassesInType (Delay initial) out vs memory = InType out memory
PassesInType (Line length start) out vs memory = InType out memory
PassesInType _ out vs memory = ⊤

-- the inputs from which a row is computed lie in their types
abbrev pub ReadsInTypes : Kind → List FixType → List ℤ → Type 0
ReadsInTypes kind ts vs = MatchBool (is_computed kind) (AllZip InType ts vs) ⊤

-- a row of this operation, whose numbers need at most 62 bits, can have these inputs and this
-- memory
pub record IsEvaluable (op : Op) (vs : List ℤ) (memory : ℤ) : Type 0 where
  pub kind : Kind
  pub types : List FixType
  pub out : FixType
  pub delays : Bool
  pub is_op : op ≡ op_of kind types out delays
  pub within_limits : IsWithinLimits kind
  pub has_types : HasInputTypes kind types
  pub narrow : wide_bits kind types out ≤ 62
  pub reads : ReadsInTypes kind types vs
  pub passes : PassesInType op out vs memory
