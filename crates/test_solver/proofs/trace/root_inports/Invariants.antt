use Rattle.std.proofs.Common.{◌≡◌, ◌&&◌, None, take}
use Rattle.std.specs.Prelude.{count_by}
use Rattle.diagram_meaning.specs.declared.table.Row.{Row}
use Rattle.diagram_meaning.specs.Rows.{same_system}
use Rattle.diagram_blocks.specs.Kinds.{is_inport}
use Rattle.test_solver.proofs.trace.root_inports.Given as goal

abbrev pub invariant-loop-row : goal.invariant-loop-row
invariant-loop-row l = l.count ≡ count_by (λ (row : Row). same_system row.owner None && is_inport row.kind) (take l.row-index l.rows)
