-- A tick of a run for the rows of one system: its equations, where the inputs, what the children
-- give, and the activity of the system around it are as given.
use Rattle.std.specs.Prelude.{◌≡◌, ℕ, ◌-◌, Bool, not, ◌&&◌, ◌||◌, if◌then◌else◌, List, [], ◌∷◌, map, filter, length, replicate, IsTrue, IsFalse, ℤ, pos}
use Rattle.std.specs.List.{AllByRecursion, AllZip}
use Rattle.diagram_activity.specs.declared.TrigMem.{TrigMem}
use Rattle.diagram_activity.specs.declared.TrigMem.TheVariants.{NotYet}
use Rattle.base_fixed_point.specs.Conversion.{InType}
use Rattle.diagram_blocks.specs.Meaning.{has_value, delay_length}
use Rattle.diagram_blocks.specs.Value.{rhs, input}
use Rattle.diagram_blocks.specs.Evaluation.{IsEvaluable}
use Rattle.diagram_meaning.specs.SampleTimes.{hit}
use Rattle.diagram_meaning.specs.Rows.{is_triggered}
use Rattle.diagram_blocks.specs.Kinds.{is_inport, port_of, is_delay, is_reset_outport}
use Rattle.diagram_meaning.specs.Run.{first_of, moved_on}
use Rattle.modules_profile.specs.declared.ChildUse.{ChildUse}
use Rattle.modules_profile.specs.declared.LocalRow.{LocalRow}
use Rattle.modules_profile.specs.LocalSystem.{LocalSystem}
use Rattle.modules_profile.specs.Locals.{inports}
use Rattle.diagram_meaning.specs.SystemRuns.{SystemTick}
use Rattle.diagram_meaning.specs.ControlValues.{is_active_by, is_off_by, is_disabled_by, remembered_by}
use Rattle.base_core.specs.Numbers.{int_at}
use Rattle.emit_shape.specs.Delays.{is_line}
use Rattle.emit_shape.specs.RowStarts.{row_start}
use Rattle.right_relation.specs.Rings.{Ring, IsRing, emptied_ring, moved_ring}

-- A tick of a system, and the rings in which its delays of several samples have their memories,
-- before the tick and after it. A ring may lie anywhere. The filler, where there is one, holds the
-- same number before and after, which may be any.
pub record LocalTick : Type 0 where
  pub tick : SystemTick
  pub ring : ℕ → Ring
  pub ring_after : ℕ → Ring
  pub filler : ℤ

module _ (local : LocalSystem) (m : LocalTick) where
  -- whether the system is active, off, and disabled by its enable
  abbrev pub is_active : Bool
  is_active = is_active_by m.tick.parent local.control m.tick.trigger m.tick.controls

  abbrev pub is_off : Bool
  is_off = is_off_by m.tick.parent local.control m.tick.controls

  abbrev pub is_disabled : Bool
  is_disabled = is_disabled_by m.tick.parent local.control m.tick.controls

  -- whether a row runs
  abbrev pub row_runs : LocalRow → Bool
  row_runs r = is_active && hit r.time m.tick.t

  -- the values of a row's inputs; an Inport has the system's input
  abbrev pub row_inputs : LocalRow → List ℤ
  row_inputs r = if is_inport r.kind then int_at m.tick.inputs (port_of r.kind - 1) ∷ []
      else map m.tick.value r.inputs

  -- the value of a row in the tick
  abbrev pub value_of : LocalRow → ℤ
  value_of r =
      if not (has_value r.kind) then pos 0
      else (if is_reset_outport r.kind && is_disabled then row_start local r
      else (if row_runs r then rhs r.op (row_inputs r) (first_of (m.tick.memory r.row))
      else m.tick.before r.row))

  -- the memory of a row after the tick
  abbrev pub memory_of : LocalRow → List ℤ
  memory_of r =
      if m.tick.is_off_around || is_off then replicate (delay_length r.op) (row_start local r)
      else (if row_runs r then moved_on (m.tick.memory r.row) (input (row_inputs r) 0)
      else m.tick.memory r.row)

  -- the ring of a row after the tick
  abbrev pub ring_of : LocalRow → Ring
  ring_of r =
      if m.tick.is_off_around || is_off then emptied_ring (m.ring r.row)
      else (if row_runs r then moved_ring (delay_length r.op) (m.ring r.row)
      (input (row_inputs r) 0)
      else m.ring r.row)

  -- what the trigger remembers after the tick; the system's being off itself doesn't reset it
  abbrev pub trigger_of : TrigMem
  trigger_of = if m.tick.is_off_around then NotYet
      else remembered_by m.tick.parent local.control m.tick.trigger m.tick.controls

  -- The equations of the tick. A subsystem that is off is not active, so nothing inside it has an
  -- active system around it.
  pub record IsLocalTick : Type 0 where
    pub values : AllByRecursion (λ r. m.tick.value r.row ≡ value_of r) local.rows
    pub memories : AllByRecursion (λ r. m.tick.memory_after r.row ≡ memory_of r)
        (filter (λ r. is_delay r.op) local.rows)
    pub lengths : AllByRecursion (λ r. length (m.tick.memory r.row) ≡ delay_length r.op)
        (filter (λ r. is_delay r.op) local.rows)
    pub ring_holds : AllByRecursion
        (λ r. IsRing (delay_length r.op) (row_start local r) (m.ring r.row) (m.tick.memory r.row))
        (filter (λ r. is_line r.op) local.rows)
    pub rings : AllByRecursion (λ r. m.ring_after r.row ≡ ring_of r)
        (filter (λ r. is_line r.op) local.rows)
    pub trigger : IsTrue (is_triggered local.control) → m.tick.trigger_after ≡ trigger_of
    pub at_rest : IsTrue m.tick.is_off_around → IsFalse m.tick.parent

  -- the numbers that a child's inputs read lie in the types of its ports and controls
  pub record IsFed (u : ChildUse) : Type 0 where
    pub inputs : AllZip (λ type c. InType type (m.tick.value c)) u.header.inputs u.wires
    pub controls : AllZip (λ type c. InType type (m.tick.value c)) u.header.controls u.controls

  -- those that it gives lie in the types of its outputs
  abbrev pub GivesInTypes : ChildUse → Type 0
  GivesInTypes u = AllByRecursion (λ o. InType o.1 (m.tick.value o.0)) u.header.outputs

  -- the numbers of the tick lie in their types, and each row that runs can be computed in 64 bits
  pub record IsTypedTick : Type 0 where
    pub inputs : AllZip (λ r v. InType r.out v) (inports local) m.tick.inputs
    pub controls : AllZip InType local.controls m.tick.controls
    pub before : AllByRecursion (λ r. InType r.out (m.tick.before r.row))
        (filter (λ r. has_value r.kind) local.rows)
    pub values : AllByRecursion (λ r. InType r.out (m.tick.value r.row))
        (filter (λ r. has_value r.kind) local.rows)
    pub memories : AllByRecursion (λ r. AllByRecursion (InType r.out) (m.tick.memory r.row)
        × AllByRecursion (InType r.out) (m.tick.memory_after r.row))
        (filter (λ r. is_delay r.op) local.rows)
    pub evaluable : AllByRecursion (λ r. IsTrue (row_runs r) →
        IsEvaluable r.op (row_inputs r) (first_of (m.tick.memory r.row)))
        (filter (λ r. has_value r.kind) local.rows)
    pub children : AllByRecursion IsFed local.children
    pub outputs : AllByRecursion GivesInTypes local.children
