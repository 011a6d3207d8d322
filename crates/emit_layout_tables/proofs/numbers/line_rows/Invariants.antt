use Rattle.std.proofs.Common.{◌≡◌, filter, take}
use Rattle.emit_shape.specs.Delays.{is_line}
use Rattle.emit_system_spec.specs.Fields.{numbers}
use Rattle.emit_layout_tables.proofs.numbers.line_rows.Given as goal

abbrev pub invariant-loop-row : goal.invariant-loop-row
invariant-loop-row l = l.numbers.items ≡ numbers (filter (λ r. is_line r.op) (take l.row-index l.rows))
