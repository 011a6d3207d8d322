use Rattle.std.proofs.Common.{◌≡◌, ◌++◌, filter, flat_map, map, take}
use Rattle.c_syntax.specs.Plain.{stmt_tree}
use Rattle.emit_shape.specs.Delays.{is_line}
use Rattle.emit_system_spec.specs.Renewing.{ring_stores}
use Rattle.emit_starts.proofs.stores.push_rings.Given as goal

abbrev pub invariant-loop-row : goal.invariant-loop-row
invariant-loop-row l = map stmt_tree l.body.items ≡ map stmt_tree l.initial.body.items
    ++ flat_map (ring_stores l.layout.local) (filter (λ r. is_line r.op) (take l.row-index l.rows))
