use Rattle.std.proofs.Common.{◌≡◌, ◌++◌, map, take}
use Rattle.emit_shape.specs.Names.{value_name}
use Rattle.lustre_system.specs.Functions.{int_name}
use Rattle.lustre_system_nodes.proofs.row_names.push_values.Given as goal

abbrev pub invariant-loop-b : goal.invariant-loop-b
invariant-loop-b l = l.list ≡ l.fn.list ++ map (λ o. int_name (value_name o)) (take l.b-index l.rows)
