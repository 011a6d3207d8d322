use Rattle.test_solver.proofs.Systems.{rank}
use Rattle.test_solver.proofs.activity.+is_off.Given as goal

abbrev pub decreases-is_off : goal.decreases-is_off
decreases-is_off l = rank l.system
