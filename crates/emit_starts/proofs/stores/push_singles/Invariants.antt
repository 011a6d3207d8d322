use Rattle.std.proofs.Common.{◌≡◌, ◌++◌, filter, map, take}
use Rattle.c_syntax.specs.Plain.{stmt_tree}
use Rattle.emit_shape.specs.Delays.{is_single}
use Rattle.emit_system_spec.specs.Fields.{memory_field}
use Rattle.emit_system_spec.specs.Renewing.{start_store}
use Rattle.emit_starts.proofs.stores.push_singles.Given as goal

abbrev pub invariant-loop-row : goal.invariant-loop-row
invariant-loop-row l =
    map stmt_tree l.body.items ≡ map stmt_tree l.initial.body.items
    ++ map (λ r. start_store l.layout.local (memory_field l.layout.local r.row) r) (filter (λ r. is_single r.op) (take l.row-index l.rows))
