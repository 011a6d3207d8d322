use Rattle.std.proofs.Common.{◌≡◌, map, take}
use Rattle.emit_shape.specs.Names.{value_name}
use Rattle.lustre_expressions.specs.Found.{place_in}
use Rattle.lustre_system_nodes.proofs.children.value_places.Given as goal

abbrev pub invariant-loop-b : goal.invariant-loop-b
invariant-loop-b l = l.list.items ≡ map (place_in l.names.places.now) (map value_name (take l.b-index l.rows))
