use Rattle.base_graph.proofs.ChainSteps.{ChainsUpTo}
use Rattle.base_graph.proofs.chains.chains_of.Given as goal

abbrev pub invariant-loop-k : goal.invariant-loop-k
invariant-loop-k l = ChainsUpTo l.g.n l.g.edges l.k l.last.items l.before.items
