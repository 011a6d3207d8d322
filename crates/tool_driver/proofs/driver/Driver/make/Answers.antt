use Rattle.std.proofs.Common.{◌≡◌, ◌-◌, ◌∙◌, ap, sym, subst, length, map, refl, arith, Some, Option, List, ℤ, Bool, true}
use Rattle.std.specs.Vec.{with_item, with_items}
use Rattle.std.specs.List.{zip}
use Rattle.std.proofs.lemmas.List.{with_items_is}
use Rattle.std.specs.Prelude.{slice_get}
use Rattle.tool_driver.specs.Shapes.{CallPlan}
use Rattle.tool_driver.specs.States.{DriverState, number_of}
use Rattle.tool_driver.specs.Judging.{call_fault}
use Rattle.tool_driver.specs.Calling.{IsCallFor, IsCallOf, given_with}
use Rattle.tool_driver.proofs.MadeCalls.{room_for, callable, made_call}
use Rattle.tool_driver.proofs.driver.Driver.make.Goals as goal

pub make_call-requires-clause-room : goal.make_call-requires-clause-room
make_call-requires-clause-room c =
    let d : DriverState =
    record {
      machine = c.self.inside.machine;
      instance = c.self.inside.instance;
      shape = c.self.inside.shape;
      now = c.self.inside.tick;
      called = c.self.inside.called.items;
      given = c.self.inside.given.items;
    } in
    let call : IsCallFor d c.args.function c.args.values.now c.args.out.now =
    subst (λ s. IsCallFor s c.args.function c.args.values.now c.args.out.now)
    (sym c.self.view_is) c.requires.call in
    let plan : CallPlan = c.plan_at-plan.result.now in
    let at : slice_get c.self.inside.plans.items (c.args.function - 1) ≡ Some plan =
    ap (λ ps. slice_get ps (c.args.function - 1)) (sym c.deref.ensures.value) ∙ c.plan_at-plan.ensures in
    let short =
    room_for d c.self.inside.plans.items c.self.inside.update c.self.inside.arguments.items c.self.invariant
    c.args.function c.args.values.now c.args.out.now call plan at in
    omega (arith, short, ap length c.deref_mut.ensures.value)

pub make_call-requires-clause-callable : goal.make_call-requires-clause-callable
make_call-requires-clause-callable c =
    let d : DriverState =
    record {
      machine = c.self.inside.machine;
      instance = c.self.inside.instance;
      shape = c.self.inside.shape;
      now = c.self.inside.tick;
      called = c.self.inside.called.items;
      given = c.self.inside.given.items;
    } in
    let call : IsCallFor d c.args.function c.args.values.now c.args.out.now =
    subst (λ s. IsCallFor s c.args.function c.args.values.now c.args.out.now)
    (sym c.self.view_is) c.requires.call in
    let plan : CallPlan = c.plan_at-plan.result.now in
    let at : slice_get c.self.inside.plans.items (c.args.function - 1) ≡ Some plan =
    ap (λ ps. slice_get ps (c.args.function - 1)) (sym c.deref.ensures.value) ∙ c.plan_at-plan.ensures in
    callable d c.self.inside.plans.items c.self.inside.update c.self.inside.arguments.items c.self.invariant
    c.args.function c.args.values.now c.args.out.now call plan at
    (ap (λ s. call_fault s c.args.function c.args.values.now) c.self.view_is ∙ c.requires.right)

pub returns-clause-made : goal.returns-clause-made
returns-clause-made c =
    let d : DriverState =
    record {
      machine = c.self.inside.machine;
      instance = c.self.inside.instance;
      shape = c.self.inside.shape;
      now = c.self.inside.tick;
      called = c.self.inside.called.items;
      given = c.self.inside.given.items;
    } in
    let call : IsCallFor d c.args.function c.args.values.now c.args.out.now =
    subst (λ s. IsCallFor s c.args.function c.args.values.now c.args.out.now)
    (sym c.self.view_is) c.requires.call in
    let plan : CallPlan = c.plan_at-plan.result.now in
    let at : slice_get c.self.inside.plans.items (c.args.function - 1) ≡ Some plan =
    ap (λ ps. slice_get ps (c.args.function - 1)) (sym c.deref.ensures.value) ∙ c.plan_at-plan.ensures in
    let called : List Bool = (with_item c.self.inside.called (c.args.function - 1) true).items in
    let given : List (Option ℤ) = (with_items c.self.inside.given c.keep_values.new.given).items in
    let after : DriverState = record d { machine = c.make_call.new.machine; called = called; given = given } in
    subst (λ s. IsCallOf c.args.function c.args.values.now c.put_numbers.new.out c.in-Ok.cost s after) c.self.view_is
    (made_call d c.self.inside.plans.items c.self.inside.update c.self.inside.arguments.items c.self.invariant
    c.args.function c.args.values.now c.args.out.now call plan at c.make_call.new.machine c.in-Ok.cost
    c.put_numbers.new.out called given c.in-Ok.ensures.called c.in-Ok.ensures.program
    (c.put_numbers.ensures
    ∙ ap (map (number_of c.make_call.new.machine c.self.inside.instance)) (c.deref-2.ensures.value
    ∙ ap (λ (p : CallPlan). p.outputs) c.plan.view_is))
    refl
    (with_items_is c.self.inside.given c.keep_values.new.given
    (omega (arith, c.keep_values.auto.given, ap length c.deref_mut-2.ensures.value, c.self.inside.given.ok.0))
    ∙ c.keep_values.ensures
    ∙ ap (λ g. given_with g (zip c.deref-3.result.now c.args.values.now)) c.deref_mut-2.ensures.value
    ∙ ap (λ ins. given_with c.self.inside.given.items (zip ins c.args.values.now)) (c.deref-3.ensures.value
    ∙ ap (λ (p : CallPlan). p.inputs) c.plan.view_is)))
