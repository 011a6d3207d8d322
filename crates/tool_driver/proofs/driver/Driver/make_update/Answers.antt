use Rattle.std.proofs.Common.{◌∙◌, ap, sym, subst}
use Rattle.tool_driver.specs.States.{DriverState}
use Rattle.tool_driver.specs.Judging.{update_fault}
use Rattle.tool_driver.specs.Calling.{IsUpdateFor}
use Rattle.tool_driver.proofs.MadeCalls.{update_callable}
use Rattle.tool_driver.proofs.driver.Driver.make_update.Goals as goal

pub make_call-requires-clause-callable : goal.make_call-requires-clause-callable
make_call-requires-clause-callable c =
    let d : DriverState =
    record {
      machine = c.self.inside.machine;
      instance = c.self.inside.instance;
      shape = c.self.inside.shape;
      now = c.self.inside.tick;
      called = c.self.inside.called.items;
      given = c.self.inside.given.items;
    } in
    let call : IsUpdateFor d c.args.values.now = subst (λ s. IsUpdateFor s c.args.values.now) (sym c.self.view_is) c.requires.call in
    update_callable d c.self.inside.plans.items c.self.inside.update c.self.inside.arguments.items c.self.invariant
    c.args.values.now call (ap (λ s. update_fault s c.args.values.now) c.self.view_is ∙ c.requires.right)
