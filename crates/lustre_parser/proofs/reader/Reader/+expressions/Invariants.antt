use Rattle.std.proofs.Common.{◌+◌, ◌*◌}
use Rattle.lustre_parser.proofs.reader.Reader.+expressions.Given as goal

abbrev pub decreases-expression : goal.decreases-expression
decreases-expression l = 8 * l.levels + 0

abbrev pub decreases-boxed : goal.decreases-boxed
decreases-boxed l = 8 * l.levels + 1

abbrev pub decreases-closed : goal.decreases-closed
decreases-closed l = 8 * l.levels + 2

abbrev pub decreases-choice : goal.decreases-choice
decreases-choice l = 8 * l.levels + 3

abbrev pub decreases-joined : goal.decreases-joined
decreases-joined l = 8 * l.levels + 3

abbrev pub decreases-inside : goal.decreases-inside
decreases-inside l = 8 * l.levels + 4

abbrev pub decreases-parens : goal.decreases-parens
decreases-parens l = 8 * l.levels + 5

abbrev pub decreases-opened : goal.decreases-opened
decreases-opened l = 8 * l.levels + 6
