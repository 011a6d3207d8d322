use Rattle.std.proofs.Common.{arith, length}
use Rattle.tool_plain_rows.proofs.RowWalk.{row_next, bad_next, too_many}
use Rattle.tool_plain_rows.proofs.walk.next_plain_row.Goals as goal

pub returns-then-lines-eq-MOST_LINES-clause-next : goal.returns-then-lines-eq-MOST_LINES-clause-next
returns-then-lines-eq-MOST_LINES-clause-next c =
    too_many c.args.line.now c.args.lines (length c.args.into.now) c.if-lines-eq-MOST_LINES.true

pub returns-in-Ok-clause-next : goal.returns-in-Ok-clause-next
returns-in-Ok-clause-next c = row_next _ c.args.line.now c.args.lines _ (omega arith) c.in-Ok.ensures.row

pub returns-in-Err-clause-next : goal.returns-in-Err-clause-next
returns-in-Err-clause-next c = bad_next c.args.line.now c.args.lines _ _ c.if-lines-eq-MOST_LINES.false c.in-Err.ensures.row
