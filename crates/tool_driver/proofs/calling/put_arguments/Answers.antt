use Rattle.std.proofs.Common.{arith, rules, w64, ℤ, length-set}
use Rattle.std.proofs.Math.Facts.{to_z-of_z}
use Rattle.tool_driver.proofs.LoopSteps.{take_first, arguments_more}
use Rattle.tool_driver.proofs.calling.put_arguments.Goals as goal

pub loop-k-init : goal.loop-k-init
loop-k-init c = take_first c.args.arguments.now _ (omega (arith, c.requires))

pub loop-k-preserved : goal.loop-k-preserved
loop-k-preserved c =
    arguments_more c.loop-k.arguments c.args.values.now _ _ c.loop-k.k
    (omega (arith, c.requires, c.loop-k.auto.arguments, length-set {A = ℤ})) (omega arith)
    (to_z-of_z {w = w64} (search rules)) c.loop-k.invariant
