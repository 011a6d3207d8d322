use Rattle.std.proofs.Common.{◌≡◌, map, length, take}
use Rattle.tool_driver.proofs.counts.counts_of.Given as goal

abbrev pub invariant-loop-plan : goal.invariant-loop-plan
invariant-loop-plan l = l.found.items ≡ map (λ p. length p.inputs) (take l.plan-index l.plans)
