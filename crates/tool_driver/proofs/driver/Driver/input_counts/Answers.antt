use Rattle.std.proofs.Common.{◌∙◌, ap, length, map}
use Rattle.std.proofs.lemmas.Result.{IfOk-weaker}
use Rattle.tool_driver.specs.Shapes.{CallPlan, inputs_of}
use Rattle.tool_driver.specs.States.{DriverState}
use Rattle.tool_driver.specs.Counts.{input_counts}
use Rattle.tool_driver.proofs.InputCounts.{few_taken, plans_take, counts-same}
use Rattle.tool_driver.proofs.driver.Driver.input_counts.Goals as goal

pub counts_of-requires : goal.counts_of-requires
counts_of-requires c =
    rw c.deref.ensures.value
    (few_taken _ c.self.inside.plans.items c.self.inside.update c.self.inside.arguments.items c.self.invariant)

pub returns-clause-counts : goal.returns-clause-counts
returns-clause-counts c =
    let plans = c.self.inside.plans.items in
    let same =
    counts-same (inputs_of c.self.inside.shape) c.self.inside.shape.functions plans c.self.invariant.plan_each
    (plans_take _ plans c.self.inside.update c.self.inside.arguments.items c.self.invariant) in
    IfOk-weaker c.counts_of.result _ _
    (λ found is. is ∙ ap (λ xs. map (λ (q : CallPlan). length q.inputs) xs) c.deref.ensures.value ∙ same
    ∙ ap (λ (d : DriverState). input_counts d.shape) c.self.view_is) c.counts_of.ensures
