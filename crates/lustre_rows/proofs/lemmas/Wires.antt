-- Which system a row reads, by its kind, and how many wires it wants.
use Rattle.std.proofs.Common.{◌≡◌, refl, ap, ℕ, Bool, true, false, List, length, Option, None, Some}
use Rattle.base_core.specs.Ports.{control_ports}
use Rattle.base_core.specs.declared.Control.TheVariants.{Plain, Enabled, Triggered, Both}
use Rattle.base_fixed_point.specs.declared.FixType.{FixType}
use Rattle.diagram_blocks.specs.declared.Kind.{Kind}
use Rattle.diagram_blocks.specs.declared.Kind.TheVariants.{Inport, Outport, SubSystem, UnitDelay, Delay, RateTransition}
use Rattle.diagram_blocks.specs.Kinds.{is_inport, is_outport, is_subsystem, is_delay, control_of}
use Rattle.diagram_blocks.specs.Meaning.{op_of, has_value}
use Rattle.diagram_meaning.specs.declared.Row.{Row}
use Rattle.diagram_meaning.specs.Rows.{row_at}
use Rattle.diagram_meaning.specs.RunLaws.{IsSystemWithin}
use Rattle.diagram_meaning.specs.WellFormed.{reading_system, wires_wanted}

-- all rows but Inports read the system that they are in
pub own-reading : (rows : List Row) (k : Kind) (o : Option ℕ) → is_inport k ≡ false → reading_system rows k o ≡ o
own-reading rows (Inport port) o is = absurd (cc)
own-reading rows _ o is = refl

pub child-reading : (rows : List Row) (k : Kind) (o : Option ℕ) → is_subsystem k ≡ true → reading_system rows k o ≡ o
child-reading rows (Inport port) o is = absurd (cc)
child-reading rows _ o is = refl

-- an Inport reads the system around its own
pub outer-reading : (rows : List Row) (k : Kind) (o : Option ℕ) (e : ℕ) → is_inport k ≡ true → o ≡ Some e →
    reading_system rows k o ≡ (row_at rows e).owner
outer-reading rows (Inport port) o e is own = ap (reading_system rows (Inport port)) own
outer-reading rows _ o e is own = absurd (cc)

-- a subsystem wants a wire for each of its controls
pub controls-wanted : (k : Kind) (o : Option ℕ) → is_subsystem k ≡ true → wires_wanted k o ≡ length (control_ports (control_of k))
controls-wanted (SubSystem Plain) o is = refl
controls-wanted (SubSystem (Enabled reset)) o is = refl
controls-wanted (SubSystem (Triggered edge)) o is = refl
controls-wanted (SubSystem (Both reset edge)) o is = refl
controls-wanted _ o is = absurd (cc)

-- a delay reads one wire of its own system
pub delay-wires : (k : Kind) (o : Option ℕ) (ts : List FixType) (out : FixType) (delays : Bool) → is_delay (op_of k ts out delays) ≡ true →
    (is_inport k ≡ false) × (wires_wanted k o ≡ 1)
delay-wires (UnitDelay initial) o ts out delays is = (refl, refl)
delay-wires (Delay samples initial) o ts out delays is = (refl, refl)
delay-wires (RateTransition initial time) o ts out delays is = (refl, refl)
delay-wires _ o ts out delays is = absurd (cc)

pub outport-valued : (k : Kind) → is_outport k ≡ true → has_value k ≡ true
outport-valued (Outport port reset initial) is = refl
outport-valued _ is = absurd (cc)

-- each system is within the model
pub within-root : (rows : List Row) (n : Option ℕ) → IsSystemWithin rows None n
within-root rows None = refl
within-root rows (Some e) = refl
