use Rattle.tool_plain_rows.proofs.RowWalk.{long_next, too_many}
use Rattle.tool_plain_rows.proofs.walk.long_plain_row.Goals as goal

pub returns-then-lines-eq-MOST_LINES : goal.returns-then-lines-eq-MOST_LINES
returns-then-lines-eq-MOST_LINES c = λ line size long. too_many line c.args.lines size c.if-lines-eq-MOST_LINES.true

pub returns : goal.returns
returns c = λ line size long. long_next line c.args.lines size c.if-lines-eq-MOST_LINES.false long
