use Rattle.std.proofs.Common.{◌≡◌, ◌++◌, filter, map, take}
use Rattle.diagram_blocks.specs.Meaning.{has_value}
use Rattle.emit_system_spec.specs.Sources.{value_source}
use Rattle.emit_layout_tables.proofs.sources.push_values.Given as goal

abbrev pub invariant-loop-row : goal.invariant-loop-row
invariant-loop-row l =
    l.list.items
    ≡ l.initial.list.items
    ++ map (value_source l.fields.local) (filter (λ r. has_value r.kind) (take l.row-index l.rows))
