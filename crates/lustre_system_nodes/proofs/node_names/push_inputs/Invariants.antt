use Rattle.std.proofs.Common.{◌≡◌, ◌∷◌, ◌++◌, map, take}
use Rattle.emit_shape.specs.Names as shape
use Rattle.lustre_system.specs.Functions.{int_name}
use Rattle.lustre_system.specs.Names as names
use Rattle.lustre_system.specs.RowEquations.{bool_name}
use Rattle.lustre_system_nodes.proofs.node_names.push_inputs.Given as goal

abbrev pub invariant-loop-port : goal.invariant-loop-port
invariant-loop-port l =
    l.list ≡ l.fn.list ++ int_name shape.now_name ∷ bool_name names.around_active ∷ bool_name names.around_off
    ∷ map int_name (map (shape.port_name l.control) (take l.port-index l.ports))
