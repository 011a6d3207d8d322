-- A run of a diagram, or of one of its systems, for the own rows of each system inside: it is a run
-- of that system from the values on its inputs and controls, where the activity of the system
-- around it, and what is off around it, are as given.
use Rattle.std.specs.Prelude.{◌≡◌, ℕ, suc, ◌-◌, ◌<◌, Bool, true, false, not, ◌&&◌, ◌||◌, if◌then◌else◌, List, [], ◌∷◌, map, length, slice_index_or, Option, Some, None, ℤ, pos}
use Rattle.std.specs.List.{range_with_len}
use Rattle.base_core.specs.declared.Port.TheVariants.{Number}
use Rattle.diagram_activity.specs.declared.TrigMem.{TrigMem}
use Rattle.diagram_activity.specs.declared.TrigMem.TheVariants.{NotYet}
use Rattle.diagram_blocks.specs.Value.{rhs, input}
use Rattle.diagram_blocks.specs.Meaning.{has_value, delay_length}
use Rattle.diagram_meaning.specs.SampleTimes.{hit}
use Rattle.diagram_meaning.specs.declared.table.Row.{Row}
use Rattle.diagram_meaning.specs.Rows.{row_at, is_triggered, system_control, same_system, inports_of, around, column}
use Rattle.diagram_blocks.specs.Kinds.{is_inport, port_of, is_delay, is_reset_outport}
use Rattle.diagram_meaning.specs.Inputs.{control_wires_of, entering_wires}
use Rattle.base_core.specs.Ports.{control_ports}
use Rattle.diagram_meaning.specs.ControlValues.{is_active_by, is_off_by, is_disabled_by, remembered_by}
use Rattle.base_core.specs.Numbers.{int_at}
use Rattle.diagram_meaning.specs.Diagram.{Diagram, op_at, time_at}
use Rattle.diagram_meaning.specs.ResolvedTree.{ResolvedTree, IsResolvedTree, diagram_of}
use Rattle.diagram_meaning.specs.Run.{value_at, memory_at, trigger_at, first_of, moved_on, start_of, initial_memory, active_in, any_off}
use Rattle.diagram_meaning.specs.Laws.{Run, IsRunOver}
use Rattle.diagram_meaning.specs.RunLaws.{values_before, IsSystemWithin}

-- ---- Ticks of one system by itself

-- What a tick is for the own rows of a system. `parent` says whether the system around it is
-- active, and `is_off_around` whether a subsystem around it is off. Values and memories are by row
-- number, those of children's Outports too.
pub record SystemTick : Type 0 where
  pub t : ℕ
  pub parent : Bool
  pub is_off_around : Bool
  pub inputs : List ℤ
  pub controls : List ℤ
  pub before : ℕ → ℤ
  pub value : ℕ → ℤ
  pub memory : ℕ → List ℤ
  pub memory_after : ℕ → List ℤ
  pub trigger : TrigMem
  pub trigger_after : TrigMem

-- row b is one of the system n
pub record IsRowOf (rows : List Row) (n : Option ℕ) (b : ℕ) : Type 0 where
  pub in_table : b < length rows
  pub own : (row_at rows b).owner ≡ n

module _ (d : Diagram) (n : Option ℕ) (m : SystemTick) where
  -- whether the system is active, off, and disabled by its enable
  abbrev pub system_is_active : Bool
  system_is_active = is_active_by m.parent (system_control d.rows n) m.trigger m.controls

  abbrev pub system_is_off : Bool
  system_is_off = is_off_by m.parent (system_control d.rows n) m.controls

  abbrev pub system_is_disabled : Bool
  system_is_disabled = is_disabled_by m.parent (system_control d.rows n) m.controls

  -- whether an own row runs
  abbrev pub own_runs : ℕ → Bool
  own_runs b = system_is_active && hit (time_at d b) m.t

  -- the values of an own row's inputs; an Inport has the system's input
  abbrev pub own_inputs : ℕ → List ℤ
  own_inputs b =
      if is_inport (row_at d.rows b).kind
      then int_at m.inputs (port_of (row_at d.rows b).kind - 1) ∷ []
      else map m.value (row_at d.rows b).inputs

  -- the value of an own row in the tick
  abbrev pub own_value : ℕ → ℤ
  own_value b =
      if not (has_value (row_at d.rows b).kind) then pos 0
      else (if is_reset_outport (row_at d.rows b).kind && system_is_disabled then start_of d b
      else (if own_runs b then rhs (op_at d b) (own_inputs b) (first_of (m.memory b))
      else m.before b))

  -- what an own row remembers after the tick
  abbrev pub own_memory : ℕ → List ℤ
  own_memory b =
      if m.is_off_around || system_is_off then initial_memory d b
      else (if own_runs b then moved_on (m.memory b) (input (own_inputs b) 0)
      else m.memory b)

  -- what the system's trigger remembers after the tick; the system's being off itself doesn't reset
  -- it
  abbrev pub own_trigger : TrigMem
  own_trigger =
      if m.is_off_around then NotYet
      else remembered_by m.parent (system_control d.rows n) m.trigger m.controls

  -- the equations of the tick; a subsystem that is off is not active, so nothing inside it has an
  -- active system around it
  pub record IsSystemTick : Type 0 where
    pub values : (b : ℕ) → IsRowOf d.rows n b → m.value b ≡ own_value b
    pub memories : (b : ℕ) → IsRowOf d.rows n b → is_delay (op_at d b) ≡ true →
        m.memory_after b ≡ own_memory b
    pub lengths : (b : ℕ) → IsRowOf d.rows n b → is_delay (op_at d b) ≡ true →
        length (m.memory b) ≡ delay_length (op_at d b)
    pub trigger : is_triggered (system_control d.rows n) ≡ true → m.trigger_after ≡ own_trigger
    pub at_rest : m.is_off_around ≡ true → m.parent ≡ false

  -- before the first tick each own row has its start, each own delay its initial memory, and the
  -- trigger nothing
  pub record IsFirstTick : Type 0 where
    pub at_zero : m.t ≡ 0
    pub starts : (b : ℕ) → IsRowOf d.rows n b → m.before b ≡ start_of d b
    pub memories : (b : ℕ) → IsRowOf d.rows n b → is_delay (op_at d b) ≡ true →
        m.memory b ≡ initial_memory d b
    pub trigger : is_triggered (system_control d.rows n) ≡ true → m.trigger ≡ NotYet

-- a tick begins with what the one before it leaves
pub record FollowsTick (m next : SystemTick) : Type 0 where
  pub one_later : next.t ≡ suc m.t
  pub values : next.before ≡ m.value
  pub memories : next.memory ≡ m.memory_after
  pub trigger : next.trigger ≡ m.trigger_after

-- a run of the system n of so many ticks
pub record IsSystemRun (d : Diagram) (n : Option ℕ) (count : ℕ) (ticks : ℕ →
    SystemTick) : Type 0 where
  pub first : IsFirstTick d n (ticks 0)
  pub each : (t : ℕ) → t < count → IsSystemTick d n (ticks t)
  pub in_order : (t : ℕ) → FollowsTick (ticks t) (ticks (suc t))

-- ---- What a whole run gives a system within

-- the subsystems around the system n that count in s
abbrev pub around_system : List Row → Option ℕ → Option ℕ → List ℕ
around_system rows s None = []
around_system rows s (Some e) = around rows s e

-- what the trigger of a system remembers in a tick's list; the root has none
abbrev pub system_trigger : List TrigMem → Option ℕ → TrigMem
system_trigger g None = NotYet
system_trigger g (Some e) = trigger_at g e

-- A run of the system s over a trace, and a system n, which is s or inside it.
module _ (d : Diagram) (s : Option ℕ) (xs : List (List ℤ)) (run : Run) (n : Option ℕ) where
  abbrev trace_at : ℕ → List ℤ
  trace_at t = slice_index_or xs t []

  abbrev values_at : ℕ → List ℤ
  values_at t = slice_index_or run.values t []

  abbrev triggers_at : ℕ → List TrigMem
  triggers_at t = slice_index_or run.triggers t []

  -- the inputs of n by number: columns of the trace where n is s, else the wires that enter
  abbrev pub inputs_at : ℕ → List ℤ
  inputs_at t =
      if same_system s n
      then map (λ k. value_at (trace_at t) (column d.rows n (Number k)))
      (range_with_len 1 (length (inports_of d.rows n)))
      else map (value_at (values_at t)) (entering_wires d.rows n)

  -- its controls, an enable before a trigger
  abbrev pub controls_at : ℕ → List ℤ
  controls_at t =
      if same_system s n
      then map (λ p. value_at (trace_at t) (column d.rows n p))
      (control_ports (system_control d.rows n))
      else map (value_at (values_at t)) (control_wires_of d.rows n)

  -- the tick for the own rows of n
  abbrev pub system_tick : ℕ → SystemTick
  system_tick t = record {
    t = t;
    parent = active_in d s (trace_at t) (values_at t) (triggers_at t) (around_system d.rows s n);
    is_off_around =
        any_off d s (trace_at t) (values_at t) (triggers_at t) (around_system d.rows s n);
    inputs = inputs_at t;
    controls = controls_at t;
    before = value_at (values_before d s run t);
    value = value_at (values_at t);
    memory = memory_at (slice_index_or run.memories t []);
    memory_after = memory_at (slice_index_or run.memories (suc t) []);
    trigger = system_trigger (triggers_at t) n;
    trigger_after = system_trigger (triggers_at (suc t)) n;
  }

-- a run of the root, or of any system, is for each system within it a run of that system
abbrev pub RunsAreOfSystems : Type 0
RunsAreOfSystems =
    (r : ResolvedTree) (s n : Option ℕ) (xs : List (List ℤ)) (run : Run) → IsResolvedTree r →
    IsSystemWithin r.tree.table.rows s n → IsRunOver (diagram_of r) s xs run →
    IsSystemRun (diagram_of r) n (length xs) (system_tick (diagram_of r) s xs run n)

-- a child of the system n meets the activity that n has and what is off in it or around it, and
-- reads values of n's tick
pub record MeetsParent (d : Diagram) (n : Option ℕ) (m : SystemTick) (e : ℕ)
    (inner : SystemTick) : Type 0 where
  pub parent : inner.parent ≡ system_is_active d n m
  pub is_off_around : inner.is_off_around ≡ (m.is_off_around || system_is_off d n m)
  pub inputs : inner.inputs ≡ map m.value (entering_wires d.rows (Some e))
  pub controls : inner.controls ≡ map m.value (control_wires_of d.rows (Some e))

-- each child of a system within s does so at each tick
abbrev pub ChildrenMeetParents : Type 0
ChildrenMeetParents =
    (r : ResolvedTree) (s n : Option ℕ) (xs : List (List ℤ)) (run : Run) (t e : ℕ) →
    IsResolvedTree r →
    IsSystemWithin r.tree.table.rows s n → IsRunOver (diagram_of r) s xs run →
    IsRowOf r.tree.table.rows n e →
    MeetsParent (diagram_of r) n (system_tick (diagram_of r) s xs run n t) e
    (system_tick (diagram_of r) s xs run (Some e) t)
