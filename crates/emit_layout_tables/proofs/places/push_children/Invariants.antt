use Rattle.std.proofs.Common.{◌≡◌, ◌++◌, take}
use Rattle.std.specs.List.{enumerate_from, flat_map}
use Rattle.emit_system_spec.specs.Places.{call_places}
use Rattle.emit_layout_tables.proofs.places.push_children.Given as goal

abbrev pub invariant-loop-place : goal.invariant-loop-place
invariant-loop-place l = l.nodes.items ≡ l.initial.nodes.items ++ flat_map call_places (enumerate_from 0 (take l.place l.children))
