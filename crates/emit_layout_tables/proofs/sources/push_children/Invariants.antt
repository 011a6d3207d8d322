use Rattle.std.proofs.Common.{◌≡◌, ◌++◌, take}
use Rattle.std.specs.List.{enumerate_from, flat_map}
use Rattle.emit_system_spec.specs.Sources.{child_sources}
use Rattle.emit_layout_tables.proofs.sources.push_children.Given as goal

abbrev pub invariant-loop-place : goal.invariant-loop-place
invariant-loop-place l =
    l.list.items
    ≡ l.initial.list.items ++ flat_map (child_sources l.fields.local) (enumerate_from 0 (take l.place l.children))
