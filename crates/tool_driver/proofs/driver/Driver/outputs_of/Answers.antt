use Rattle.std.proofs.Common.{◌∙◌, ap, ◌-◌, ◌<◌, suc, length, arith}
use Rattle.modules_profile.specs.Headers.{numbered_function}
use Rattle.tool_driver.specs.Shapes.{CallPlan}
use Rattle.tool_driver.specs.States.{DriverState}
use Rattle.tool_driver.proofs.InputCounts.{given_short, get-there}
use Rattle.tool_driver.proofs.driver.Driver.outputs_of.Goals as goal

pub returns-clause-within : goal.returns-clause-within
returns-clause-within c =
    let k = c.args.function - 1 in
    let shape = c.self.inside.shape in
    let less : k < length c.self.inside.plans.items =
    omega (
      arith,
      c.requires.least,
      c.requires.most,
      c.self.invariant.plan_each,
      ap (λ (d : DriverState). length d.shape.functions) c.self.view_is,
    ) in
    let plan = c.behind-self.view_is ∙ c.index.ensures
    ∙ get-there c.self.inside.plans.items k _ c.index.result.now (c.self.invariant.plans_are k less) in
    omega (
      arith,
      c.len.ensures,
      ap (λ (q : CallPlan). length q.outputs) plan,
      given_short (numbered_function shape.functions (suc k)) shape.outputs,
      ap (λ (d : DriverState). length d.shape.outputs) c.self.view_is,
    )
