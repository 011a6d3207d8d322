use Rattle.std.proofs.Common.{sym, refl, ◌∙◌, []}
use Rattle.right_claim.specs.Scripts.{update_with}
use Rattle.tool_driver.specs.Shapes.{inputs_of}
use Rattle.tool_driver.specs.States.{plan_of_update}
use Rattle.tool_driver.proofs.Answering.{update_refuses, refusal_leaves, refusal_right, update_right, update_stuck_right}
use Rattle.tool_driver.proofs.driver.Driver.update.Goals as goal

pub returns-in-Some-clause-refused : goal.returns-in-Some-clause-refused
returns-in-Some-clause-refused c =
    update_refuses c.args.self.now c.args.values.now (inputs_of c.args.self.now.shape) c.in-Some.fault
    c.in-Some.ensures.fault ∙ c.in-Some.ensures.fault

pub returns-in-Some-clause-left : goal.returns-in-Some-clause-left
returns-in-Some-clause-left c =
    refusal_leaves c.in-Some.fault (plan_of_update c.args.self.now) c.args.values.now c.args.self.now c.args.self.now
    (update_refuses c.args.self.now c.args.values.now (inputs_of c.args.self.now.shape) c.in-Some.fault
    c.in-Some.ensures.fault) refl

pub returns-in-Some-clause-stands : goal.returns-in-Some-clause-stands
returns-in-Some-clause-stands c =
    refusal_right c.args.self.now c.args.self.now (update_with c.args.values.now) [] c.in-Some.fault
    (update_refuses c.args.self.now c.args.values.now (inputs_of c.args.self.now.shape) c.in-Some.fault
    c.in-Some.ensures.fault) refl

pub returns-in-Ok-clause-stands : goal.returns-in-Ok-clause-stands
returns-in-Ok-clause-stands c =
    update_right c.updates_go_on.ensures c.args.self.now _ c.in-None.ensures.drivable c.args.values.now c.requires
    (sym c.in-None.ensures.fault) c.in-Ok.cost c.in-Ok.ensures.made

pub returns-in-Err-clause-stands : goal.returns-in-Err-clause-stands
returns-in-Err-clause-stands c =
    update_stuck_right c.updates_go_on.ensures c.args.self.now _ c.in-None.ensures.drivable c.args.values.now c.requires
    (sym c.in-None.ensures.fault) c.in-Err.at c.in-Err.ensures.stuck
