use Rattle.std.proofs.Common.{arith, ap, ◌∙◌, sym, suc, ℕ}
use Rattle.std.specs.Prelude.{slice_get}
use Rattle.c_syntax.specs.Plain.{program_tree}
use Rattle.tool_driver.specs.Shapes.{function_plan}
use Rattle.tool_driver.proofs.LoopSteps.{each_more}
use Rattle.tool_driver.proofs.plans.function_plans.Goals as goal

pub loop-at-preserved : goal.loop-at-preserved
loop-at-preserved c =
    let plan = λ (k : ℕ). function_plan (program_tree c.args.program.now.program) c.args.shape.now (suc k) in
    let count = c.loop-at.invariant.0 in
    let pushed = c.in_ok-push.ensures.items in
    let each =
    each_more plan c.loop-at.plans.items c.in_ok-function_plan.field-0
    (λ k below. c.loop-at.invariant.1 k (omega (arith, below, count)))
    (c.in_ok-function_plan.ensures ∙ ap plan (sym count)) in
    (omega (arith, c.in_ok-push.ensures.len), λ k below. ap (λ xs. slice_get xs k) pushed ∙ each k (omega (arith, below, count)))
