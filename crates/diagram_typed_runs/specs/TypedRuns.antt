-- A run over a trace stays in its types: what each system reads, makes and remembers at a tick,
-- where no row needs itself.
use Rattle.std.specs.Prelude.{◌≡◌, ℕ, ◌<◌, true, List, length, Option, Some, None, ℤ, ⊤}
use Rattle.std.specs.List.{AllByRecursion, AllZip}
use Rattle.base_fixed_point.specs.Conversion.{InType}
use Rattle.diagram_blocks.specs.Evaluation.{IsEvaluable}
use Rattle.diagram_meaning.specs.declared.table.Row.{Row}
use Rattle.diagram_meaning.specs.Rows.{row_at, inports_of}
use Rattle.diagram_blocks.specs.Kinds.{is_subsystem}
use Rattle.diagram_meaning.specs.Inputs.{control_wires_of}
use Rattle.diagram_meaning.specs.Diagram.{Diagram, type_at, op_at}
use Rattle.diagram_meaning.specs.ResolvedTree.{ResolvedTree, IsResolvedTree, diagram_of}
use Rattle.diagram_meaning.specs.Needs.{needs_of, HasNoLoop}
use Rattle.diagram_meaning.specs.Run.{first_of}
use Rattle.diagram_meaning.specs.Traces.{IsTrace}
use Rattle.diagram_meaning.specs.Laws.{Run, IsRunOver}
use Rattle.diagram_meaning.specs.RunLaws.{IsSystemWithin}
use Rattle.diagram_meaning.specs.SystemRuns.{SystemTick, IsRowOf, own_inputs, system_tick}

-- n is the root or a subsystem
abbrev pub IsSystem : List Row → Option ℕ → Type 0
IsSystem rows None = ⊤
IsSystem rows (Some e) = is_subsystem (row_at rows e).kind ≡ true

-- at a tick of the system n its inputs and controls, and the values and memories of its rows,
-- before the tick and after it, lie in their types, and each of its rows can be computed from them
pub record IsTypedTick (d : Diagram) (n : Option ℕ) (m : SystemTick) : Type 0 where
  pub inputs : AllZip (λ i v. InType (type_at d.types i) v) (inports_of d.rows n) m.inputs
  pub controls : AllZip (λ c v. InType (type_at d.types c) v) (control_wires_of d.rows n) m.controls
  pub before : (b : ℕ) → IsRowOf d.rows n b → InType (type_at d.types b) (m.before b)
  pub values : (b : ℕ) → IsRowOf d.rows n b → InType (type_at d.types b) (m.value b)
  pub memories : (b : ℕ) → IsRowOf d.rows n b →
      AllByRecursion (InType (type_at d.types b)) (m.memory b)
  pub memories_after : (b : ℕ) → IsRowOf d.rows n b →
      AllByRecursion (InType (type_at d.types b)) (m.memory_after b)
  pub evaluable : (b : ℕ) → IsRowOf d.rows n b →
      IsEvaluable (op_at d b) (own_inputs d n m b) (first_of (m.memory b))

-- where a trace lies in its types so does all else in its run; round a loop of rows that copy any
-- number could be there
abbrev pub TicksAreTyped : Type 0
TicksAreTyped = (r : ResolvedTree) (s n : Option ℕ) (xs : List (List ℤ)) (run : Run) (t : ℕ) →
    IsResolvedTree r →
    IsSystem r.tree.table.rows n → IsSystemWithin r.tree.table.rows s n →
    IsRunOver (diagram_of r) s xs run →
    IsTrace (diagram_of r) s xs → HasNoLoop (needs_of (diagram_of r)) → t < length xs →
    IsTypedTick (diagram_of r) n (system_tick (diagram_of r) s xs run n t)
