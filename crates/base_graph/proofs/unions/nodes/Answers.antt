use Rattle.base_graph.proofs.SpreadSteps.{nodes_step}
use Rattle.base_graph.proofs.unions.nodes.Goals as goal

pub loop-a-preserved : goal.loop-a-preserved
loop-a-preserved c = nodes_step c.args.n c.loop-a.a c.loop-a.nodes.items _ c.loop-a-test.true c.in_ok-push.ensures.items c.loop-a.invariant
