use Rattle.std.proofs.Common.{◌≡◌, map, take}
use Rattle.std.specs.List.{filter_map}
use Rattle.emit_linker.specs.Children.{told_names}
use Rattle.emit_linker.proofs.child_names.told.Given as goal

abbrev pub invariant-loop-entry : goal.invariant-loop-entry
invariant-loop-entry l = map (λ n. n.now) l.names.items ≡ filter_map (λ name. name) (told_names (take l.entry-index l.table))
