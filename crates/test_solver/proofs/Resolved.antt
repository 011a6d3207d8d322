-- A resolved tree has one operation, type and time for each row.
use Rattle.std.specs.Prelude.{◌≡◌, length}
use Rattle.std.proofs.Common.{◌∙◌, ap}
use Rattle.diagram_meaning.specs.ResolvedTree.{ResolvedTree, IsResolvedTree}
use Rattle.diagram_meaning.specs.Diagram.{op_in}
use Rattle.diagram_meaning.proofs.lemmas.ByRow.{length-by_row}

pub ops-len : (r : ResolvedTree) → IsResolvedTree r → length r.ops ≡ length r.tree.table.rows
ops-len r is = ap length is.resolved.are_ops ∙ length-by_row r.tree.table.rows (op_in r.tree.table.rows r.types r.times.delays)
