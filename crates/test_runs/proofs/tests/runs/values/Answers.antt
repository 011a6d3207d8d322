use Rattle.std.proofs.Common.{arith}
use Rattle.std.proofs.lemmas.Grind.{common_steps}
use Rattle.test_runs.proofs.tests.runs.values.Goals as goal

pub plain_run-requires-clause-inputs : goal.plain_run-requires-clause-inputs
plain_run-requires-clause-inputs c = c.is_trace_for.ensures.0 (grind (arith, common_steps, c.if-not-is_trace_for.false))
