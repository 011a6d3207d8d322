-- The parameters of a procedure by what they are for, and the names that they have.
use Rattle.std.specs.Prelude.{ℕ, List, map}
use Rattle.base_core.specs.declared.base.Control.{Control}
use Rattle.base_core.specs.declared.base.Control.TheVariants.{Plain, Enabled, Triggered, Both}
use Rattle.base_core.specs.declared.base.Port.{Port}
use Rattle.base_core.specs.declared.base.Port.TheVariants as port
use Rattle.c_syntax.specs.declared.code.CType.{CType}
use Rattle.c_syntax.specs.Tree.{ParamTree}
use Rattle.emit_shape.specs.Names.{now_name, input_name, control_name, second_control_name}
use Rattle.emit_layout.specs.declared.parameter.Parameter.{Parameter}
use Rattle.emit_layout.specs.declared.parameter.Parameter.TheVariants.{Now, Input, FirstControl, SecondControl}

-- the name of a parameter
abbrev pub param_name : Parameter → List ℕ
param_name Now = now_name
param_name (Input k) = input_name k
param_name FirstControl = control_name
param_name SecondControl = second_control_name

-- the parameter of a system's trigger, by the system's controls
abbrev pub trigger_parameter : Control → Parameter
trigger_parameter Plain = FirstControl
trigger_parameter (Enabled reset) = FirstControl
trigger_parameter (Triggered edge) = FirstControl
trigger_parameter (Both reset edge) = SecondControl

-- the parameter of an input, by the system's controls
abbrev pub port_parameter : Control → Port → Parameter
port_parameter control (port.Number k) = Input k
port_parameter control port.Enable = FirstControl
port_parameter control port.Trigger = trigger_parameter control

-- a parameter with its name
abbrev pub named_param : Parameter × CType → ParamTree
named_param e = record { name = param_name e.0; type = e.1 }

abbrev pub named_params : List (Parameter × CType) → List ParamTree
named_params params = map named_param params
