-- The controls of a system with their types.
use Rattle.std.specs.Prelude.{ℕ, List, length, Option, None, unwrap_or}
use Rattle.base_core.specs.declared.Control.{Control}
use Rattle.base_core.specs.declared.Port.{Port}
use Rattle.base_core.specs.declared.Port.TheVariants.{Number, Enable, Trigger}
use Rattle.base_fixed_point.specs.declared.FixType.{FixType}
use Rattle.diagram_meaning.specs.Rows.{enable_among, trigger_among}
use Rattle.diagram_meaning.specs.Diagram.{Diagram}
use Rattle.diagram_meaning.specs.Traces.{input_type_of}
use Rattle.diagram_meaning.specs.Types.{type_at}

-- the wire of a control, among the control wires of a subsystem
abbrev pub wire_among : Control → List ℕ → Port → Option ℕ
wire_among control wires (Number k) = None
wire_among control wires Enable = enable_among control wires
wire_among control wires Trigger = trigger_among control wires

-- a control with the type of its wire
abbrev pub typed_control : List FixType → Control → List ℕ → Port → Port × FixType
typed_control types control wires p =
    (p, type_at types (unwrap_or (wire_among control wires p) (length types)))

-- a control of a system of a diagram with its type
abbrev pub typed_control_of : Diagram → Option ℕ → Port → Port × FixType
typed_control_of d s p = (p, input_type_of d s p)
