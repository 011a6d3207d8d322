use Rattle.std.proofs.Common.{◌≡◌, Some, ℤ, arith, pos, rules, w64, subst}
use Rattle.std.proofs.Math.Facts.{to_z-of_z}
use Rattle.tool_driver.specs.Judging.{unlike_fault}
use Rattle.tool_driver.proofs.LoopSteps.{fault_found}
use Rattle.tool_driver.proofs.judging.first_unlike_fault.Goals as goal

pub returns-in-Some : goal.returns-in-Some
returns-in-Some c =
    fault_found (unlike_fault c.args.given.now) c.args.inputs.now c.args.values.now c.loop-k.k c.index-inputs-k.result
    (pos 0) c.in-Some.fault (omega arith) (omega arith) c.index-inputs-k.is
    (subst (λ (v : ℤ). Some c.in-Some.fault ≡ unlike_fault c.args.given.now (c.index-inputs-k.result, v))
    (to_z-of_z {w = w64} (search rules)) c.in-Some.ensures) c.loop-k.invariant
