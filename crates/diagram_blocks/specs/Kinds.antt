-- What the kind of a row says of its place in its system, and which operations delay.
use Rattle.std.specs.Prelude.{ℕ, Bool, true, false}
use Rattle.base_core.specs.declared.Control.{Control}
use Rattle.base_core.specs.declared.Control.TheVariants.{Plain}
use Rattle.diagram_blocks.specs.declared.kind.Kind.{Kind}
use Rattle.diagram_blocks.specs.declared.kind.Kind.TheVariants.{Inport, Outport, SubSystem, Delay}
use Rattle.diagram_blocks.specs.declared.op.Op.{Op}
use Rattle.diagram_blocks.specs.declared.op.Op.TheVariants as op

-- how a subsystem is controlled; a row of another kind counts as plain
abbrev pub control_of : Kind → Control
control_of (SubSystem control) = control
control_of _ = Plain

-- whether a row is a subsystem
abbrev pub is_subsystem : Kind → Bool
is_subsystem (SubSystem control) = true
is_subsystem _ = false

-- whether a row is an Inport
abbrev pub is_inport : Kind → Bool
is_inport (Inport port) = true
is_inport _ = false

-- whether a row is an Outport
abbrev pub is_outport : Kind → Bool
is_outport (Outport port reset initial) = true
is_outport _ = false

-- whether a row is an Outport whose output is reset while its subsystem is disabled
abbrev pub is_reset_outport : Kind → Bool
is_reset_outport (Outport port reset initial) = reset
is_reset_outport _ = false

-- the port of an Inport or Outport, from 1 on; a row of another kind has none, which counts as 0
abbrev pub port_of : Kind → ℕ
port_of (Inport port) = port
port_of (Outport port reset initial) = port
port_of _ = 0

-- whether an operation passes on what its row remembers
abbrev pub is_delay : Op → Bool
is_delay (op.Delay initial) = true
is_delay (op.Line length start) = true
is_delay _ = false
