-- When a subsystem is active, over the values of its controls and the memory of its trigger. A
-- control that a subsystem doesn't have counts for nothing.
use Rattle.std.specs.Prelude.{Bool, true, false, not, ◌&&◌, if◌then◌else◌, ℤ, pos, int_lt}
use Rattle.base_core.specs.declared.Control.{Control}
use Rattle.base_core.specs.declared.Control.TheVariants.{Plain, Enabled, Triggered, Both}
use Rattle.base_core.specs.declared.Edge.{Edge}
use Rattle.base_core.specs.declared.Edge.TheVariants.{Rising, Falling, Either}
use Rattle.diagram_activity.specs.declared.memory.TrigMem.{TrigMem}
use Rattle.diagram_activity.specs.declared.memory.TrigMem.TheVariants.{NotYet, Low, High}

-- whether a control is above 0
abbrev pub is_high : ℤ → Bool
is_high control = int_lt (pos 0) control

-- whether an event occurs where the trigger was as the memory says: it was low and is high, it was
-- high and isn't, or either
abbrev pub edge : Edge → TrigMem → ℤ → Bool
edge Rising NotYet trigger = false
edge Rising Low trigger = is_high trigger
edge Rising High trigger = false
edge Falling NotYet trigger = false
edge Falling Low trigger = false
edge Falling High trigger = not (is_high trigger)
edge Either NotYet trigger = false
edge Either Low trigger = is_high trigger
edge Either High trigger = not (is_high trigger)

-- whether a subsystem is active, given whether the system around it is
abbrev pub active : Bool → Control → TrigMem → ℤ → ℤ → Bool
active parent Plain memory enable trigger = parent
active parent (Enabled reset) memory enable trigger = parent && is_high enable
active parent (Triggered waits_for) memory enable trigger = parent && edge waits_for memory trigger
active parent (Both reset waits_for) memory enable trigger =
    parent && (is_high enable && edge waits_for memory trigger)

-- whether an active system around it disables a subsystem that loses its states then; a trigger
-- alone never does
abbrev pub off : Bool → Control → ℤ → Bool
off parent Plain enable = false
off parent (Enabled reset) enable = reset && (parent && not (is_high enable))
off parent (Triggered waits_for) enable = false
off parent (Both reset waits_for) enable = reset && (parent && not (is_high enable))

-- what a trigger remembers after a tick: its level, where the system around its subsystem is
-- active, whatever an enable says
abbrev pub next_memory : Bool → TrigMem → ℤ → TrigMem
next_memory false memory trigger = memory
next_memory true memory trigger = if is_high trigger then High else Low

-- what a trigger remembers, as a number
abbrev pub memory_number : TrigMem → ℤ
memory_number NotYet = pos 0
memory_number Low = pos 1
memory_number High = pos 2
