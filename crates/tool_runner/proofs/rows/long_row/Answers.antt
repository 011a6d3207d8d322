use Rattle.tool_runner.proofs.LineRows.{long_next, too_many}
use Rattle.tool_runner.proofs.rows.long_row.Goals as goal

pub returns-then-lines-eq-MOST_LINES : goal.returns-then-lines-eq-MOST_LINES
returns-then-lines-eq-MOST_LINES c = λ line types long. too_many line types c.args.lines c.if-lines-eq-MOST_LINES.true

pub returns : goal.returns
returns c = λ line types long. long_next line types c.args.lines c.if-lines-eq-MOST_LINES.false long
