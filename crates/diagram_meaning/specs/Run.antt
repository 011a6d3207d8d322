-- The run of a diagram, or of one of its systems, over a trace: what each row is at each tick. A
-- row of the trace has the system's inputs by port, and then its controls, an enable before a
-- trigger. What a delay remembers is a list, whose first is the oldest: one number, or as many as a
-- delay of several samples has.
use Rattle.std.specs.Prelude.{◌≡◌, ℕ, suc, Bool, true, false, not, ◌&&◌, ◌||◌, if◌then◌else◌, List, [], ◌∷◌, ◌++◌, map, drop, replicate, slice_index_or, Option, Some, None, ℤ, pos, ⊤}
use Rattle.base_core.specs.declared.Control.{Control}
use Rattle.base_core.specs.declared.Port.TheVariants.{Number, Enable, Trigger}
use Rattle.diagram_activity.specs.declared.TrigMem.{TrigMem}
use Rattle.diagram_activity.specs.declared.TrigMem.TheVariants.{NotYet}
use Rattle.diagram_activity.specs.Activity.{is_high, active, off, next_memory}
use Rattle.base_fixed_point.specs.declared.FixType.{FixType}
use Rattle.diagram_blocks.specs.declared.Kind.{Kind}
use Rattle.diagram_blocks.specs.declared.Kind.TheVariants as block
use Rattle.diagram_blocks.specs.declared.Op.{Op}
use Rattle.diagram_blocks.specs.declared.Op.TheVariants.{Copy, Delay, Line}
use Rattle.diagram_blocks.specs.Value.{rhs, input}
use Rattle.diagram_blocks.specs.Meaning.{has_value, delay_length}
use Rattle.base_fixed_point.specs.Conversion.{quantize}
use Rattle.diagram_meaning.specs.SampleTimes.{hit}
use Rattle.diagram_meaning.specs.Rows.{row_at, by_row, control_at, is_enabled, is_triggered, is_conditional, enable_wire, trigger_wire, is_system, system_control, around, is_inside, is_inport_of, column, outports_of}
use Rattle.diagram_blocks.specs.Kinds.{port_of, is_reset_outport, is_delay}
use Rattle.diagram_meaning.specs.Diagram.{Diagram, type_at, op_at, time_at}

-- the number of row b in a tick's list, 0 past its end
abbrev pub value_at : List ℤ → ℕ → ℤ
value_at v b = slice_index_or v b (pos 0)

-- what row b remembers in a tick's list, nothing past its end
abbrev pub memory_at : List (List ℤ) → ℕ → List ℤ
memory_at m b = slice_index_or m b []

-- the first of what a row remembers; the operation of a row that remembers nothing doesn't read it
abbrev pub first_of : List ℤ → ℤ
first_of [] = pos 0
first_of (v ∷ memory) = v

-- what a row remembers after it has taken a number: without its first, and with that as its last
abbrev pub moved_on : List ℤ → ℤ → List ℤ
moved_on memory v = drop 1 memory ++ v ∷ []

-- what the trigger of row e remembers in a tick's list
abbrev pub trigger_at : List TrigMem → ℕ → TrigMem
trigger_at g e = slice_index_or g e NotYet

-- the initial output of an Outport, by the control of the subsystem around it; another row has
-- none, which counts as 0
abbrev pub initial_output : Kind → Control → FixType → ℤ
initial_output (block.Outport port reset initial) around_it type =
    if is_conditional around_it then quantize initial type else pos 0
initial_output _ around_it type = pos 0

-- what a row is before the first tick: a delay's initial condition, the initial output of a
-- conditional subsystem's Outport, else 0
abbrev pub start_by : Op → Kind → Control → FixType → ℤ
start_by (Delay initial) kind around_it type = initial
start_by (Line length start) kind around_it type = start
start_by Copy kind around_it type = initial_output kind around_it type
start_by _ kind around_it type = pos 0

-- what row b is before the first tick
abbrev pub start_of : Diagram → ℕ → ℤ
start_of d b =
    start_by (op_at d b) (row_at d.rows b).kind (system_control d.rows (row_at d.rows b).owner)
    (type_at d.types b)

-- what row b remembers at first: its start, as many times as it remembers samples
abbrev pub initial_memory : Diagram → ℕ → List ℤ
initial_memory d b = replicate (delay_length (op_at d b)) (start_of d b)

-- One tick of the run of the system s: x is the trace's row, v the values, g what the triggers
-- remember.
module _ (d : Diagram) (s : Option ℕ) (x v : List ℤ) (g : List TrigMem) where
  -- the value of a wire; where there is none it isn't read
  abbrev pub wire_value : Option ℕ → ℤ
  wire_value None = pos 0
  wire_value (Some c) = value_at v c

  -- the enable of subsystem e; that of s itself is a column of the trace
  abbrev pub enable_value : ℕ → ℤ
  enable_value e =
      if is_system s e then value_at x (column d.rows s Enable)
      else wire_value (enable_wire d.rows e)

  -- the trigger of subsystem e; that of s itself is a column of the trace
  abbrev pub trigger_value : ℕ → ℤ
  trigger_value e =
      if is_system s e then value_at x (column d.rows s Trigger)
      else wire_value (trigger_wire d.rows e)

  -- whether the innermost of these subsystems is active, each inside the next
  abbrev pub active_in : List ℕ → Bool
  active_in [] = true
  active_in (e ∷ outer) =
      active (active_in outer) (control_at d.rows e) (trigger_at g e) (enable_value e)
      (trigger_value e)

  -- whether one of these subsystems is off
  abbrev pub any_off : List ℕ → Bool
  any_off [] = false
  any_off (e ∷ outer) =
      off (active_in outer) (control_at d.rows e) (enable_value e) || any_off outer

  -- whether the innermost has an enable, is disabled by it now, and is inside an active one
  abbrev pub is_disabled : List ℕ → Bool
  is_disabled [] = false
  is_disabled (e ∷ outer) =
      is_enabled (control_at d.rows e) && (active_in outer && not (is_high (enable_value e)))

  -- whether row b runs at tick t
  abbrev pub runs : ℕ → ℕ → Bool
  runs t b = active_in (around d.rows s b) && hit (time_at d b) t

  -- the values of row b's inputs; an Inport of s has a column of the trace
  abbrev pub input_values : ℕ → List ℤ
  input_values b =
      if is_inport_of d.rows s b
      then value_at x (column d.rows s (Number (port_of (row_at d.rows b).kind))) ∷ []
      else map (value_at v) (row_at d.rows b).inputs

-- the value of row b at tick t, given those before it, the memories m, and the values of the tick
abbrev pub row_value : Diagram → Option ℕ → ℕ →
    (x before : List ℤ) (m : List (List ℤ)) (g : List TrigMem) (v : List ℤ) → ℕ → ℤ
row_value d s t x before m g v b =
    if not (has_value (row_at d.rows b).kind) then pos 0
    else (if is_reset_outport (row_at d.rows b).kind && is_disabled d s x v g (around d.rows s b)
    then start_of d b
    else (if runs d s x v g t b then rhs (op_at d b) (input_values d s x v g b)
    (first_of (memory_at m b))
    else value_at before b))

-- what row b remembers after tick t
abbrev pub row_memory : Diagram → Option ℕ → ℕ →
    (x : List ℤ) (m : List (List ℤ)) (g : List TrigMem) (v : List ℤ) → ℕ → List ℤ
row_memory d s t x m g v b =
    if any_off d s x v g (around d.rows s b) then initial_memory d b
    else (if runs d s x v g t b then moved_on (memory_at m b) (input (input_values d s x v g b) 0)
    else memory_at m b)

-- what the trigger of subsystem e remembers after a tick
abbrev pub row_trigger : Diagram → Option ℕ → (x : List ℤ) (g : List TrigMem) (v : List ℤ) → ℕ →
    TrigMem
row_trigger d s x g v e =
    if any_off d s x v g (around d.rows s e) then NotYet
    else next_memory (active_in d s x v g (around d.rows s e)) (trigger_at g e)
    (trigger_value d s x v g e)

-- A list of values has 0 for each row outside s, a list of memories the empty list for all but the
-- delays inside s, and a list of triggers `NotYet` for all but the subsystems with triggers inside
-- s and s itself.

-- whether row b is a delay inside s
abbrev pub has_memory : Diagram → Option ℕ → ℕ → Bool
has_memory d s b = is_inside d.rows s b && is_delay (op_at d b)

-- whether row e is a subsystem with a trigger inside s, or s itself is one
abbrev pub has_trigger : Diagram → Option ℕ → ℕ → Bool
has_trigger d s e = (is_inside d.rows s e || is_system s e) && is_triggered (control_at d.rows e)

-- the list of values by row
abbrev pub values_by : Diagram → Option ℕ → (ℕ → ℤ) → List ℤ
values_by d s f = by_row d.rows (λ b. if is_inside d.rows s b then f b else pos 0)

-- the list of memories by row
abbrev pub memories_by : Diagram → Option ℕ → (ℕ → List ℤ) → List (List ℤ)
memories_by d s f = by_row d.rows (λ b. if has_memory d s b then f b else [])

-- the list of triggers by row
abbrev pub triggers_by : Diagram → Option ℕ → (ℕ → TrigMem) → List TrigMem
triggers_by d s f = by_row d.rows (λ e. if has_trigger d s e then f e else NotYet)

-- the equations of one tick: its values, and the memories and triggers after it
pub record IsTick (d : Diagram) (s : Option ℕ) (t : ℕ) (x before : List ℤ) (m : List (List ℤ))
    (g : List TrigMem) (v : List ℤ) (m' : List (List ℤ)) (g' : List TrigMem) : Type 0 where
  pub values : v ≡ values_by d s (row_value d s t x before m g v)
  pub memories : m' ≡ memories_by d s (row_memory d s t x m g v)
  pub triggers : g' ≡ triggers_by d s (row_trigger d s x g v)

-- from tick t on, with the values before it, its memories and its triggers: the rest of a run
abbrev pub RunFrom : Diagram → Option ℕ → ℕ →
    (before : List ℤ) (m : List (List ℤ)) (g : List TrigMem) (xs vs : List (List ℤ))
    (ms : List (List (List ℤ))) (gs : List (List TrigMem)) → Type 0
RunFrom d s t before m g [] [] [] [] = ⊤
RunFrom d s t before m g (x ∷ xs) (v ∷ vs) (m' ∷ ms) (g' ∷ gs) =
    IsTick d s t x before m g v m' g' × RunFrom d s (suc t) v m' g' xs vs ms gs
RunFrom d s t before m g _ _ _ _ = ⊥

-- vs are the values, ms the memories and gs the triggers of the system s over the trace xs, by tick
-- and row
abbrev pub IsRun : Diagram → Option ℕ → (xs vs : List (List ℤ)) → (ms : List (List (List ℤ))) →
    (gs : List (List TrigMem)) → Type 0
IsRun d s xs vs [] gs = ⊥
IsRun d s xs vs (m ∷ ms) [] = ⊥
IsRun d s xs vs (m ∷ ms) (g ∷ gs) =
    (m ≡ memories_by d s (initial_memory d)) × (g ≡ triggers_by d s (λ e. NotYet))
    × RunFrom d s 0 (values_by d s (start_of d)) m g xs vs ms gs

-- the values of the system's Outports by port
abbrev pub outs : Diagram → Option ℕ → List ℤ → List ℤ
outs d s v = map (value_at v) (outports_of d.rows s)
