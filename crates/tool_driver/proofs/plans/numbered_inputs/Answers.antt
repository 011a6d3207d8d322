use Rattle.std.proofs.Common.{arith}
use Rattle.tool_driver.proofs.LoopSteps.{numbered_more}
use Rattle.tool_driver.proofs.plans.numbered_inputs.Goals as goal

pub loop-place-preserved : goal.loop-place-preserved
loop-place-preserved c =
    numbered_more c.args.types.now c.loop-place.place c.index-types-place.result c.loop-place.inputs.items
    c.push.new.self.items c.numbered_input.result (omega arith) c.index-types-place.is c.loop-place.invariant
    c.numbered_input.ensures c.in_ok-push.ensures.items
