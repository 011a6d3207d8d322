-- The types of a table's rows, or why they are refused.
use Rattle.std.specs.Prelude.{◌≡◌, ℕ, ◌<◌, List, map, length, None, Some, ⊤}
use Rattle.base_refusals.specs.Refusals.{plain_refusal}
use Rattle.base_fixed_point.specs.declared.FixType.{FixType}
use Rattle.diagram_blocks.specs.Limits.{HasInputTypes, IsWithinLimits}
use Rattle.diagram_meaning.specs.declared.table.Row.{Row}
use Rattle.diagram_meaning.specs.declared.BuildFault.{BuildFault}
use Rattle.diagram_meaning.specs.declared.BuildFault.TheVariants.{Refused, Memory}
use Rattle.diagram_meaning.specs.Rows.{row_at}
use Rattle.diagram_meaning.specs.Types.{HasType, type_at}
use Rattle.diagram_meaning.specs.TypeRefusals.{type_refusal}

-- nothing is wrong with the types of these rows, and each row has its type here
pub record AreTypes (rows : List Row) (types : List FixType) : Type 0 where
  pub accepted : type_refusal rows ≡ None
  pub one_each : length types ≡ length rows
  pub each : (b : ℕ) → b < length rows → HasType rows b (type_at types b)

-- the rows are refused for their types, and this is the first refusal; nothing is said where memory runs out
abbrev pub IsTypeFault : List Row → BuildFault → Type 0
IsTypeFault rows (Refused refusal) = type_refusal rows ≡ Some (plain_refusal refusal)
IsTypeFault rows Memory = ⊤

-- the bits of each row can be counted: it has the inputs that its kind asks for, and is within the
-- limits of its kind
abbrev pub AreCountable : List Row → Type 0
AreCountable rows = (b : ℕ) → b < length rows →
    ((types : List FixType) →
    HasInputTypes (row_at rows b).kind (map (type_at types) (row_at rows b).inputs))
    × IsWithinLimits (row_at rows b).kind
