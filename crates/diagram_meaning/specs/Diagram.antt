-- A table with what each row has by its kind, its inputs and its place: the diagram whose runs are
-- defined.
use Rattle.std.specs.Prelude.{◌≡◌, ℕ, ◌<◌, Bool, false, List, map, length, slice_index_or, None}
use Rattle.base_fixed_point.specs.declared.FixType.{FixType}
use Rattle.diagram_blocks.specs.declared.Op.{Op}
use Rattle.diagram_blocks.specs.declared.Op.TheVariants.{Nothing}
use Rattle.diagram_blocks.specs.Meaning.{op_of}
use Rattle.diagram_meaning.specs.declared.table.Row.{Row}
use Rattle.diagram_meaning.specs.declared.times.Time.{Time}
use Rattle.diagram_meaning.specs.RowTable.{RowTable}
use Rattle.diagram_meaning.specs.RowTimes.{RowTimes}
use Rattle.diagram_meaning.specs.Rows.{row_at, by_row}
use Rattle.diagram_meaning.specs.Types.{HasType}
pub use Rattle.diagram_meaning.specs.Types.{type_at}
use Rattle.diagram_meaning.specs.TypeRefusals.{type_refusal}
use Rattle.diagram_meaning.specs.TimeRefusals.{HasTimeRefusal}
use Rattle.diagram_meaning.specs.SampleTimes.{every_tick, AreTimes}

-- the rows, and for each its type, its operation and its sample time
pub record Diagram : Type 0 where
  pub rows : List Row
  pub types : List FixType
  pub ops : List Op
  pub run : List Time

-- the operation of row b, none past the end
abbrev pub op_at : Diagram → ℕ → Op
op_at d b = slice_index_or d.ops b Nothing

-- the sample time of row b
abbrev pub time_at : Diagram → ℕ → Time
time_at d b = slice_index_or d.run b every_tick

-- the operation of row b, given the types of all rows and which of them are delays between rates
abbrev pub op_in : List Row → List FixType → List Bool → ℕ → Op
op_in rows types delays b =
    op_of (row_at rows b).kind (map (type_at types) (row_at rows b).inputs) (type_at types b)
    (slice_index_or delays b false)

-- the types, operations and times are those of the table, in which nothing is wrong with types and
-- times
pub record IsResolved (table : RowTable) (types : List FixType) (ops : List Op)
    (times : RowTimes) : Type 0 where
  pub types_accepted : type_refusal table.rows ≡ None
  pub times_accepted : HasTimeRefusal table None
  pub one_type_each : length types ≡ length table.rows
  pub are_types : (b : ℕ) → b < length table.rows → HasType table.rows b (type_at types b)
  pub are_times : AreTimes table times
  pub are_ops : ops ≡ by_row table.rows (op_in table.rows types times.delays)
