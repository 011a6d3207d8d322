use Rattle.std.proofs.Common.{sym, subst}
use Rattle.emit_row_code.specs.Resolved.{IsRowOp}
use Rattle.lustre_row_equations.proofs.RowOps.{row_op}
use Rattle.lustre_row_equations.proofs.values.row_code.Goals as goal

pub value_code-requires : goal.value_code-requires
value_code-requires c =
    subst IsRowOp (sym c.op_at.ensures)
    (row_op c.args.r.now c.is_resolved.ensures c.resolved_rows_are_narrow.ensures c.args.b c.requires)
