use Rattle.base_graph.proofs.ReadySteps.{ReadyBelow}
use Rattle.base_graph.proofs.ready.ready_nodes.Given as goal

abbrev pub invariant-loop-b : goal.invariant-loop-b
invariant-loop-b l = ReadyBelow l.unmet l.b l.ready.keys
