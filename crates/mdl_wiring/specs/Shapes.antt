-- The ports of blocks by what they are.
use Rattle.std.specs.Prelude.{true, false}
use Rattle.mdl_blocks.specs.Blocks.{KindText, inport, outport, subsystem, constant, ground, terminator, gain, sum, product, unit_delay, delay, zero_order_hold, switch, relational, logic, convert, rate_transition, enable_port, trigger_port}
use Rattle.mdl_wiring.specs.declared.member.Shape.{Shape}
use Rattle.mdl_wiring.specs.declared.member.Shape.TheVariants.{Inport, Outport, SubSystem, EnablePort, TriggerPort, Plain}
use Rattle.mdl_wiring.specs.declared.shape.Inside.{Inside}

-- the ports of a block, which has these port blocks inside where it is a subsystem
abbrev pub shape_of : Inside → KindText → Shape
shape_of inside (inport port) = Inport port
shape_of inside (outport port reset initial) = Outport port
shape_of inside (subsystem system) =
    SubSystem inside.inports inside.outports inside.enable inside.trigger
shape_of inside (constant value) = Plain 0 true
shape_of inside ground = Plain 0 true
shape_of inside terminator = Plain 1 false
shape_of inside (sum count minus how) = Plain count true
shape_of inside (product count how) = Plain count true
shape_of inside (switch criterion threshold how) = Plain 3 true
shape_of inside (relational comparison) = Plain 2 true
shape_of inside (logic op count) = Plain count true
shape_of inside (enable_port reset) = EnablePort
shape_of inside (trigger_port edge) = TriggerPort
shape_of inside _ = Plain 1 true
