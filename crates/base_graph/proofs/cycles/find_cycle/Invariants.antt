use Rattle.std.proofs.Common.{cond, eqb, sum_by}
use Rattle.base_graph.proofs.PathSteps.{PathLoop}
use Rattle.base_graph.proofs.cycles.find_cycle.Given as goal

abbrev pub invariant-loop-path : goal.invariant-loop-path
invariant-loop-path l = PathLoop l.g l.unmet l.places.items l.path.items l.at

abbrev pub decreases-loop-path : goal.decreases-loop-path
decreases-loop-path l = sum_by (λ place. cond (eqb place 0) 1 0) l.places.items
