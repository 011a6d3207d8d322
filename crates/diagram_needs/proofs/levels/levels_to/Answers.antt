use Rattle.std.proofs.Common.{subst}
use Rattle.base_graph.specs.NeedsGraph.{IsGraph}
use Rattle.diagram_needs.proofs.BlockSteps.{on_loop-below}
use Rattle.diagram_needs.proofs.levels.levels_to.Goals as goal

pub count_steps-requires-clause-row : goal.count_steps-requires-clause-row
count_steps-requires-clause-row c = on_loop-below c.args.g.now (subst IsGraph c.g.view_is c.g.invariant) c.args.z c.requires
