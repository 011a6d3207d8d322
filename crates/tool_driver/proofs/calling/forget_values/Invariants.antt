use Rattle.std.proofs.Common.{◌≡◌, take, replicate, None}
use Rattle.tool_driver.proofs.calling.forget_values.Given as goal

abbrev pub invariant-loop-k : goal.invariant-loop-k
invariant-loop-k l = take l.k l.given ≡ replicate l.k None
