-- The operation of a row of a resolved tree is one that C can compute.
use Rattle.std.proofs.Common.{ℕ, ◌<◌, List, map, length, slice_index_or, false, ap, ◌∙◌}
use Rattle.diagram_blocks.specs.declared.Op.{Op}
use Rattle.diagram_blocks.specs.declared.Op.TheVariants.{Nothing}
use Rattle.diagram_meaning.specs.Rows.{row_at}
use Rattle.diagram_meaning.specs.Diagram.{op_at, op_in, type_at}
use Rattle.diagram_meaning.specs.ResolvedLaws.{ResolvedRowsAreNarrow}
use Rattle.diagram_meaning.specs.ResolvedTree.{ResolvedTree, IsResolvedTree, diagram_of}
use Rattle.diagram_meaning.proofs.lemmas.ByRow.{by_row-at}
use Rattle.diagram_meaning.proofs.lemmas.Resolving.{has_types, within_limits}
use Rattle.emit_row_code.specs.Resolved.{IsRowOp}

pub row_op : (r : ResolvedTree) → IsResolvedTree r → ResolvedRowsAreNarrow → (b : ℕ) → b < length r.tree.table.rows →
    IsRowOp (op_at (diagram_of r) b)
row_op r resolved narrow b inside = record {
  kind = (row_at r.tree.table.rows b).kind;
  types = map (type_at r.types) (row_at r.tree.table.rows b).inputs;
  out = type_at r.types b;
  delays = slice_index_or r.times.delays b false;
  is_op =
      ap (λ (ops : List Op). slice_index_or ops b Nothing) resolved.resolved.are_ops
      ∙ by_row-at r.tree.table.rows (op_in r.tree.table.rows r.types r.times.delays) b Nothing inside;
  within_limits = within_limits r.tree.table b resolved.tree.table inside;
  has_types = has_types r.tree.table r.types b resolved.tree.table inside;
  narrow = narrow r.tree.table r.types r.ops r.times b resolved.resolved inside;
}
