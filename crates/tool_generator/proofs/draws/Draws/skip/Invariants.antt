use Rattle.std.proofs.Common.{◌≡◌}
use Rattle.tool_generator.specs.Draws.{state_after}
use Rattle.tool_generator.proofs.draws.Draws.skip.Given as goal

abbrev pub invariant-loop-k : goal.invariant-loop-k
invariant-loop-k l = l.self.state ≡ state_after l.fn.self.state l._k
