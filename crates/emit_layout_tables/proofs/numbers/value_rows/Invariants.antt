use Rattle.std.proofs.Common.{◌≡◌, filter, take}
use Rattle.diagram_blocks.specs.Meaning.{has_value}
use Rattle.emit_system_spec.specs.Fields.{numbers}
use Rattle.emit_layout_tables.proofs.numbers.value_rows.Given as goal

abbrev pub invariant-loop-row : goal.invariant-loop-row
invariant-loop-row l = l.numbers.items ≡ numbers (filter (λ r. has_value r.kind) (take l.row-index l.rows))
