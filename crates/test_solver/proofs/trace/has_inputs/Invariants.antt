use Rattle.std.proofs.Common.{ℕ, ◌<◌}
use Rattle.test_solver.proofs.RowInputs.{HasInputOf}
use Rattle.test_solver.proofs.trace.has_inputs.Given as goal

abbrev pub invariant-loop-b : goal.invariant-loop-b
invariant-loop-b l = (k : ℕ) → k < l.b → HasInputOf l.fn.r l.inputs k
