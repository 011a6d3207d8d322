use Rattle.std.proofs.Common.{◌+◌, ◌*◌}
use Rattle.lustre_evaluation.proofs.Depths.{depth}
use Rattle.lustre_evaluation.proofs.expressions.+evaluation.Given as goal

abbrev pub decreases-operand : goal.decreases-operand
decreases-operand l = 2 * depth l.e.now + 1

abbrev pub decreases-evaluate_any : goal.decreases-evaluate_any
decreases-evaluate_any l = 2 * depth l.e.now
