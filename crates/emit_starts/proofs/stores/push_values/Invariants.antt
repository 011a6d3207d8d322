use Rattle.std.proofs.Common.{◌≡◌, ◌++◌, filter, map, take}
use Rattle.diagram_blocks.specs.Meaning.{has_value}
use Rattle.c_syntax.specs.Plain.{stmt_tree}
use Rattle.emit_system_spec.specs.Fields.{value_field}
use Rattle.emit_system_spec.specs.Renewing.{start_store}
use Rattle.emit_starts.proofs.stores.push_values.Given as goal

abbrev pub invariant-loop-row : goal.invariant-loop-row
invariant-loop-row l =
    map stmt_tree l.body.items ≡ map stmt_tree l.initial.body.items
    ++ map (λ r. start_store l.layout.local (value_field l.layout.local r.row) r) (filter (λ r. has_value r.kind) (take l.row-index l.rows))
