-- The inputs of a system by port, with their types, and the parameters for some of them.
use Rattle.std.specs.Prelude.{ℕ, Bool, true, ◌==◌, if◌then◌else◌, List, ◌++◌, map, filter, filter_map, zip, slice_get, Option, Some, None, option_and_then}
use Rattle.std.specs.List.{list_any}
use Rattle.base_core.specs.declared.base.Control.{Control}
use Rattle.base_core.specs.declared.base.Port.{Port}
use Rattle.base_core.specs.declared.base.Port.TheVariants.{Number, Enable, Trigger}
use Rattle.base_fixed_point.specs.declared.types.FixType.{FixType}
use Rattle.diagram_blocks.specs.Kinds.{is_inport, port_of}
use Rattle.modules_profile.specs.declared.local.LocalRow.{LocalRow}
use Rattle.modules_profile.specs.LocalSystem.{LocalSystem}
use Rattle.modules_profile.specs.SystemHeader.{SystemHeader}
use Rattle.modules_profile.specs.Headers.{ports_of_header}
use Rattle.c_syntax.specs.Tree.{ParamTree}
use Rattle.emit_shape.specs.Names.{container, port_name}
use Rattle.emit_system_spec.specs.declared.node.Place.{Place}
use Rattle.emit_system_spec.specs.declared.node.Place.TheVariants.{Row, Call}
use Rattle.emit_system_spec.specs.Places.{node_places}

-- the inputs of a system, and then its controls
abbrev pub port_types : SystemHeader → List (Port × FixType)
port_types h = zip (ports_of_header h) (h.inputs ++ h.controls)

-- the parameter for an input
abbrev pub port_param : Control → Port × FixType → ParamTree
port_param control e = record { name = port_name control e.0; type = container e.1 }

-- the parameters for the inputs that pass a test
abbrev pub params_where : Control → (Port → Bool) → List (Port × FixType) → List ParamTree
params_where control test inputs = map (port_param control) (filter (λ e. test e.0) inputs)

-- ---- What a group takes

-- the port of the Inport that a node is
abbrev pub inport_of : LocalRow → Option ℕ
inport_of r = if is_inport r.kind then Some (port_of r.kind) else None

abbrev pub inport_at : LocalSystem → Place → Option ℕ
inport_at local (Row p) = option_and_then inport_of (slice_get local.rows p)
inport_at local (Call k j) = None

abbrev pub inports_among : LocalSystem → List ℕ → List ℕ
inports_among local nodes =
    filter_map (λ n. option_and_then (inport_at local) (slice_get (node_places local) n)) nodes

-- a group takes the inputs whose Inports are among its nodes, and all controls
abbrev pub takes : (inports : List ℕ) → Port → Bool
takes inports (Number k) = list_any (λ p. p == k) inports
takes inports Enable = true
takes inports Trigger = true
