-- Which rows a row needs at the same tick, loops, and the inputs that an output of a system needs.
use Rattle.std.specs.Prelude.{◌≡◌, ℕ, ◌-◌, ◌^◌, ◌<◌, ◌≤◌, IsTrue, if◌then◌else◌, List, [], ◌++◌, flat_map, length, IsBitSet, Option, None, ◌↔◌}
use Rattle.std.specs.List.{AllZip}
use Rattle.base_core.specs.declared.Port.{Port}
use Rattle.base_core.specs.declared.Port.TheVariants.{Number, Enable, Trigger}
use Rattle.diagram_blocks.specs.declared.Kind.TheVariants.{Inport}
use Rattle.diagram_blocks.specs.Value.{feeds_through}
use Rattle.diagram_meaning.specs.declared.table.Row.{Row}
use Rattle.diagram_meaning.specs.Rows.{row_at, around, around_inside, is_inport_of, is_enabled, is_triggered, system_control, outports_of}
use Rattle.diagram_meaning.specs.Diagram.{Diagram, op_at}
pub use Rattle.diagram_meaning.specs.Walk.{Walk, Reaches, IsLoop, HasNoLoop, IsLeastFrom, IsLeastLoop}
use Rattle.diagram_meaning.specs.Inputs.{wires_of_rows}

-- the inputs from which row b makes its value at the same tick
abbrev pub inputs_used : Diagram → ℕ → List ℕ
inputs_used d b = if feeds_through (op_at d b) then (row_at d.rows b).inputs else []

-- the rows that row b needs: its inputs where it feeds through, and the controls of the subsystems
-- around it
abbrev pub needs_of : Diagram → ℕ → List ℕ
needs_of d b = inputs_used d b ++ wires_of_rows d.rows (around d.rows None b)

-- the same in a run of the system s, whose own Inports and control read the trace
abbrev pub needs_inside : Diagram → Option ℕ → ℕ → List ℕ
needs_inside d s b =
    (if is_inport_of d.rows s b then [] else inputs_used d b)
    ++ wires_of_rows d.rows (around_inside d.rows s b)

-- row i is the Inport of the system s with port k
pub record IsInputRow (rows : List Row) (s : Option ℕ) (k i : ℕ) : Type 0 where
  pub in_table : i < length rows
  pub is_inport : (row_at rows i).kind ≡ Inport k
  pub is_own : (row_at rows i).owner ≡ s

-- row o of the system s needs this input of it: by what it reaches inside s, and the control always
abbrev pub TrueNeeds : Diagram → Option ℕ → ℕ → Port → Type 0
TrueNeeds d s o (Number k) = (i : ℕ) × IsInputRow d.rows s k i × Reaches (needs_inside d s) o i
TrueNeeds d s o Enable = IsTrue (is_enabled (system_control d.rows s))
TrueNeeds d s o Trigger = IsTrue (is_triggered (system_control d.rows s))

-- a set of inputs as a mask: bit k - 1 for input k of at most 32, bit 32 for an enable, bit 33 for
-- a trigger
pub record IsMaskOf (inputs : Port → Type 0) (mask : ℕ) : Type 0 where
  pub bounded : mask < 2 ^ 34
  pub number : (k : ℕ) → 0 < k → k ≤ 32 → IsBitSet mask (k - 1) ↔ inputs (Number k)
  pub enable : IsBitSet mask 32 ↔ inputs Enable
  pub trigger : IsBitSet mask 33 ↔ inputs Trigger

-- the needs of each output of a system, by port
abbrev pub AreTrueNeeds : Diagram → Option ℕ → List ℕ → Type 0
AreTrueNeeds d s masks =
    AllZip (λ o mask. IsMaskOf (TrueNeeds d s o) mask) (outports_of d.rows s) masks
