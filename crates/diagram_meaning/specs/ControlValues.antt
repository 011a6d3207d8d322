-- Activity by the values of a system's controls, an enable before a trigger.
use Rattle.std.specs.Prelude.{ℕ, Bool, false, not, ◌&&◌, List, slice_index_or, ℤ, pos}
use Rattle.base_core.specs.declared.Control.{Control}
use Rattle.base_core.specs.declared.Control.TheVariants.{Plain, Enabled, Triggered, Both}
use Rattle.diagram_activity.specs.declared.TrigMem.{TrigMem}
use Rattle.diagram_activity.specs.Activity.{active, off, next_memory, is_high}
use Rattle.base_core.specs.Numbers.{int_at}

-- the value of the enable among those of the controls, 0 where there is none
abbrev pub enable_in : Control → List ℤ → ℤ
enable_in Plain values = pos 0
enable_in (Enabled reset) values = int_at values 0
enable_in (Triggered edge) values = pos 0
enable_in (Both reset edge) values = int_at values 0

-- the value of the trigger among those of the controls, 0 where there is none
abbrev pub trigger_in : Control → List ℤ → ℤ
trigger_in Plain values = pos 0
trigger_in (Enabled reset) values = pos 0
trigger_in (Triggered edge) values = int_at values 0
trigger_in (Both reset edge) values = int_at values 1

-- whether a system is active, by the activity of the system around it
abbrev pub is_active_by : Bool → Control → TrigMem → List ℤ → Bool
is_active_by parent control memory values =
    active parent control memory (enable_in control values) (trigger_in control values)

-- whether a system is off: it loses its states, since an enable is low inside an active system
abbrev pub is_off_by : Bool → Control → List ℤ → Bool
is_off_by parent control values = off parent control (enable_in control values)

-- whether a system's enable is low inside an active system
abbrev pub is_disabled_by : Bool → Control → List ℤ → Bool
is_disabled_by parent Plain values = false
is_disabled_by parent (Enabled reset) values =
    parent && not (is_high (enable_in (Enabled reset) values))
is_disabled_by parent (Triggered edge) values = false
is_disabled_by parent (Both reset edge) values =
    parent && not (is_high (enable_in (Both reset edge) values))

-- what a trigger remembers after a tick, but where a subsystem around the system is off; an enable
-- counts for nothing
abbrev pub remembered_by : Bool → Control → TrigMem → List ℤ → TrigMem
remembered_by parent control memory values = next_memory parent memory (trigger_in control values)
