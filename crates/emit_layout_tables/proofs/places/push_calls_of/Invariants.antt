use Rattle.std.proofs.Common.{◌≡◌, ◌++◌, map}
use Rattle.std.specs.List.{range_with_len}
use Rattle.emit_system_spec.specs.declared.node.Place.TheVariants.{Call}
use Rattle.emit_layout_tables.proofs.places.push_calls_of.Given as goal

abbrev pub invariant-loop-k : goal.invariant-loop-k
invariant-loop-k l = l.nodes.items ≡ l.initial.nodes.items ++ map (Call l.place) (range_with_len 1 l.k)
