use Rattle.test_solver.proofs.Systems.{rank}
use Rattle.test_solver.proofs.activity.+is_active.Given as goal

abbrev pub decreases-is_active : goal.decreases-is_active
decreases-is_active l = rank l.system
