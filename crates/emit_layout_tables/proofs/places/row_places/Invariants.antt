use Rattle.std.proofs.Common.{◌≡◌, map}
use Rattle.std.specs.List.{range_with_len}
use Rattle.emit_system_spec.specs.declared.node.Place.TheVariants.{Row}
use Rattle.emit_layout_tables.proofs.places.row_places.Given as goal

abbrev pub invariant-loop-place : goal.invariant-loop-place
invariant-loop-place l = l.nodes.items ≡ map Row (range_with_len 0 l.place)
