use Rattle.base_graph.proofs.ReadySteps.{added}
use Rattle.base_graph.proofs.ready.add.Goals as goal

pub returns-clause-has : goal.returns-clause-has
returns-clause-has c = added c.args.ready.now c.insert.new.self c.args.b c.in_ok-insert.ensures.updates.0 c.in_ok-insert.ensures.updates.1
