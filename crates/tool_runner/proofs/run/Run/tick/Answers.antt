use Rattle.std.proofs.Common.{arith}
use Rattle.tool_runner.proofs.TickBounds.{steps_bounded, calls_bounded, within_counted}
use Rattle.tool_runner.proofs.run.Run.tick.Goals as goal

pub count-requires-clause-steps : goal.count-requires-clause-steps
count-requires-clause-steps c =
    omega (arith, c.requires.within.steps, c.requires.more, steps_bounded _ _ _ _ _ c.in_ok-cost.ensures.ticked)

pub count-requires-clause-calls : goal.count-requires-clause-calls
count-requires-clause-calls c =
    omega (arith, c.requires.within.calls, c.requires.more, calls_bounded _ _ _ _ _ c.in_ok-cost.ensures.ticked)

pub returns-clause-within : goal.returns-clause-within
returns-clause-within c =
    within_counted c.args.self.now.totals c.count.new.self c.in_ok-cost.cost c.requires.within c.requires.more c.count.ensures
    (steps_bounded _ _ _ _ _ c.in_ok-cost.ensures.ticked) (calls_bounded _ _ _ _ _ c.in_ok-cost.ensures.ticked)
