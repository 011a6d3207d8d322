use Rattle.std.proofs.Common.{◌≡◌, take, replicate, false}
use Rattle.tool_driver.proofs.calling.forget_calls.Given as goal

abbrev pub invariant-loop-k : goal.invariant-loop-k
invariant-loop-k l = take l.k l.called ≡ replicate l.k false
