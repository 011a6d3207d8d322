use Rattle.std.proofs.Common.{sym, refl, ◌∙◌}
use Rattle.right_claim.specs.Scripts.{out_with}
use Rattle.tool_driver.specs.Shapes.{function_inputs}
use Rattle.tool_driver.specs.States.{plan_of}
use Rattle.tool_driver.proofs.Answering.{call_refuses, refusal_leaves, refusal_right, call_right, call_stuck_right}
use Rattle.tool_driver.proofs.driver.Driver.call.Goals as goal

pub returns-in-Some-clause-refused : goal.returns-in-Some-clause-refused
returns-in-Some-clause-refused c =
    call_refuses c.args.self.now c.args.function c.args.values.now
    (function_inputs c.args.self.now.shape c.args.function) c.in-Some.fault c.in-Some.ensures.fault
    ∙ c.in-Some.ensures.fault

pub returns-in-Some-clause-left : goal.returns-in-Some-clause-left
returns-in-Some-clause-left c =
    refusal_leaves c.in-Some.fault (plan_of c.args.self.now c.args.function) c.args.values.now c.args.self.now
    c.args.self.now
    (call_refuses c.args.self.now c.args.function c.args.values.now
    (function_inputs c.args.self.now.shape c.args.function) c.in-Some.fault c.in-Some.ensures.fault) refl

pub returns-in-Some-clause-stands : goal.returns-in-Some-clause-stands
returns-in-Some-clause-stands c =
    refusal_right c.args.self.now c.args.self.now (out_with c.args.function c.args.values.now) c.args.out.now
    c.in-Some.fault
    (call_refuses c.args.self.now c.args.function c.args.values.now
    (function_inputs c.args.self.now.shape c.args.function) c.in-Some.fault c.in-Some.ensures.fault) refl

pub returns-in-Ok-clause-stands : goal.returns-in-Ok-clause-stands
returns-in-Ok-clause-stands c =
    call_right c.calls_go_on.ensures c.args.self.now _ c.in-None.ensures.drivable c.args.function c.args.values.now
    c.args.out.now c.make.new.out c.requires c.make.auto.out
    (sym c.in-None.ensures.fault) c.in-Ok.cost c.in-Ok.ensures.made

pub returns-in-Err-clause-stands : goal.returns-in-Err-clause-stands
returns-in-Err-clause-stands c =
    call_stuck_right c.calls_go_on.ensures c.args.self.now _ c.in-None.ensures.drivable c.args.function
    c.args.values.now c.args.out.now c.make.new.out c.requires c.make.auto.out
    (sym c.in-None.ensures.fault) c.in-Err.at c.in-Err.ensures.stuck
