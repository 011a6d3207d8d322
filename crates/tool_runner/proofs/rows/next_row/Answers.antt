use Rattle.std.proofs.Common.{arith}
use Rattle.tool_runner.proofs.LineRows.{row_next, bad_next, too_many}
use Rattle.tool_runner.proofs.rows.next_row.Goals as goal

pub returns-then-lines-eq-MOST_LINES-clause-next : goal.returns-then-lines-eq-MOST_LINES-clause-next
returns-then-lines-eq-MOST_LINES-clause-next c =
    too_many c.args.line.now c.args.types.now c.args.lines c.if-lines-eq-MOST_LINES.true

pub returns-in-Ok-clause-next : goal.returns-in-Ok-clause-next
returns-in-Ok-clause-next c = row_next _ c.args.line.now c.args.types.now c.args.lines (omega arith) c.in-Ok.ensures.row

pub returns-in-Err-clause-next : goal.returns-in-Err-clause-next
returns-in-Err-clause-next c =
    bad_next c.args.line.now c.args.types.now c.args.lines _ c.if-lines-eq-MOST_LINES.false c.in-Err.ensures.row
