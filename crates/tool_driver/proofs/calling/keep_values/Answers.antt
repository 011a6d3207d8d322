use Rattle.std.proofs.Common.{◌-◌, ap, arith}
use Rattle.tool_driver.specs.declared.inputs.Input.{Input}
use Rattle.tool_driver.proofs.LoopSteps.{given_skip}
use Rattle.tool_driver.proofs.calling.keep_values.Goals as goal

pub loop-k-preserved : goal.loop-k-preserved
loop-k-preserved c = (
  omega arith,
  c.loop-k.invariant.1,
  given_skip c.args.given.now c.loop-k.given c.args.inputs.now c.args.values.now c.loop-k.k (c.loop-k.k - 1) c.index-inputs-k.result
      (omega arith) (omega arith) c.requires c.index-inputs-k.is
      (omega (arith, c.if-place-given.false, ap (λ (i : Input). i.place) c.index-inputs-k.is)) c.loop-k.invariant.2,
)
