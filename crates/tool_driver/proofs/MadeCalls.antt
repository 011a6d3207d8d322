-- A driver's call from its parts: what the machine's call needs, and what is left.
use Rattle.std.specs.Prelude.{◌≡◌, ℕ, suc, ◌+◌, ◌-◌, ◌%◌, ◌<◌, ◌≤◌, Bool, true, false, List, ◌∷◌, map, zip, replicate, length, slice_get, slice_set, Option, Some, None, ℤ, pos, refl}
use Rattle.std.proofs.Common.{sym, ap, subst, ◌∙◌, arith}
use Rattle.modules_profile.specs.Headers.{numbered_function}
use Rattle.c_syntax.specs.declared.fault.Cost.{Cost}
use Rattle.c_syntax.specs.declared.fault.Stuck.{Stuck}
use Rattle.c_interpreter.specs.Machines.{IsCallable, IsCall, IsStuckCall}
use Rattle.c_interpreter.specs.States.{MachineState}
use Rattle.tool_driver.specs.Shapes.{CallPlan, inputs_of, function_inputs}
use Rattle.emit_shape.specs.Names.{function_name, named_update}
use Rattle.tool_driver.specs.States.{DriverState, IsDriver, plan_of, plan_of_update, number_of}
use Rattle.tool_driver.specs.Judging.{call_fault, update_fault, values_fault, first_fault, value_fault, unlike_fault, twice_fault, early_fault}
use Rattle.tool_driver.specs.Calling.{IsCallFor, IsUpdateFor, IsCallOf, IsUpdate, IsStuckIn, given_with}
use Rattle.tool_driver.proofs.Ticks.{no-first, no-second}
use Rattle.tool_driver.proofs.Callable.{callable_with}
use Rattle.tool_driver.proofs.Answering.{taken_short}
use Rattle.tool_driver.proofs.Standing.{some-same}

module _ (d : DriverState) (plans : List CallPlan) (update : CallPlan) (room : List ℤ) (is : IsDriver d plans update room) where
  pub plan_is : (j : ℕ) (plan : CallPlan) → 0 < j → j ≤ length d.shape.functions → slice_get plans (j - 1) ≡ Some plan → plan ≡ plan_of d j
  plan_is j plan some few at =
      let k : suc (j - 1) ≡ j = omega arith in
      some-same plan (plan_of d j) (sym at ∙ is.plans_are (j - 1) (omega (arith, is.plan_each)) ∙ ap (λ n. Some (plan_of d n)) k)

  module _ (j : ℕ) (values out : List ℤ) (call : IsCallFor d j values out) (plan : CallPlan)
      (at : slice_get plans (j - 1) ≡ Some plan) where
    planned : plan ≡ plan_of d j
    planned = plan_is j plan call.least call.most at

    pub room_for : length values < length room
    room_for = let short = taken_short (numbered_function d.shape.functions j) (inputs_of d.shape) in
        omega (arith, call.values_each, short, is.room)

    pub values_fit : length values ≡ length plan.inputs
    values_fit = call.values_each ∙ ap (λ (p : CallPlan). length p.inputs) (sym planned)

    pub out_fits : length out ≡ length plan.outputs
    out_fits = call.out_each ∙ ap (λ (p : CallPlan). length p.outputs) (sym planned)

    pub callable : call_fault d j values ≡ None → IsCallable d.machine plan.procedure d.instance (pos d.now ∷ values)
    callable none =
        subst (λ (p : CallPlan). IsCallable d.machine p.procedure d.instance (pos d.now ∷ values)) (sym planned)
        (callable_with d.machine d.instance d.shape (function_name d.shape.name j)
        (function_inputs d.shape j) d.now values is.drivable (is.drivable.functions j call.least call.most)
        is.in_cycle call.values_each
        (no-first (first_fault value_fault (zip (function_inputs d.shape j) values))
        (first_fault (unlike_fault d.given) (zip (function_inputs d.shape j) values))
        (no-second (twice_fault d.called j) (values_fault d.given (function_inputs d.shape j) values) none)))

    pub stuck_in : (m : MachineState) (place : Stuck) →
        IsStuckCall d.machine m plan.procedure d.instance (pos d.now ∷ values) place → m.program ≡ d.machine.program →
        IsStuckIn (plan_of d j) values place d (record d { machine = m })
    stuck_in m place stuck program = record {
      stuck = subst (λ (p : CallPlan). IsStuckCall d.machine m p.procedure d.instance (pos d.now ∷ values) place) planned stuck;
      program = program;
      tick = refl;
    }

    pub made_call : (m : MachineState) (cost : Cost) (told : List ℤ) (called : List Bool) (given : List (Option ℤ)) →
        IsCall d.machine m plan.procedure d.instance (pos d.now ∷ values) cost → m.program ≡ d.machine.program →
        told ≡ map (number_of m d.instance) plan.outputs → called ≡ slice_set d.called (j - 1) true →
        given ≡ given_with d.given (zip plan.inputs values) →
        IsCallOf j values told cost d (record d { machine = m; called = called; given = given })
    made_call m cost told called given made program outputs calls gives = record {
      makes = record {
        call = subst (λ (p : CallPlan). IsCall d.machine m p.procedure d.instance (pos d.now ∷ values) cost) planned
            made;
        program = program;
      };
      outputs = outputs ∙ ap (λ (p : CallPlan). map (number_of m d.instance) p.outputs) planned;
      tick = ap (λ (c : List Bool). record d { machine = m; called = c; given = given }) calls
          ∙ ap (λ (g : List (Option ℤ)). record d { machine = m; called = slice_set d.called (j - 1) true; given = g })
          (gives ∙ ap (λ (p : CallPlan). given_with d.given (zip p.inputs values)) planned);
    }

  module _ (values : List ℤ) (call : IsUpdateFor d values) where
    pub update_room : length values < length room
    update_room = omega (arith, call, is.room)

    pub update_values_fit : length values ≡ length update.inputs
    update_values_fit = call ∙ ap (λ (p : CallPlan). length p.inputs) (sym is.update_is)

    pub update_callable : update_fault d values ≡ None → IsCallable d.machine update.procedure d.instance (pos d.now ∷ values)
    update_callable none =
        subst (λ (p : CallPlan). IsCallable d.machine p.procedure d.instance (pos d.now ∷ values)) (sym is.update_is)
        (callable_with d.machine d.instance d.shape (named_update d.shape.name)
        (inputs_of d.shape) d.now values is.drivable is.drivable.update is.in_cycle call
        (no-first (first_fault value_fault (zip (inputs_of d.shape) values))
        (first_fault (unlike_fault d.given) (zip (inputs_of d.shape) values))
        (no-second (early_fault d.called) (values_fault d.given (inputs_of d.shape) values) none)))

    pub update_stuck_in : (m : MachineState) (place : Stuck) →
        IsStuckCall d.machine m update.procedure d.instance (pos d.now ∷ values) place → m.program ≡ d.machine.program →
        IsStuckIn (plan_of_update d) values place d (record d { machine = m })
    update_stuck_in m place stuck program = record {
      stuck = subst (λ (p : CallPlan). IsStuckCall d.machine m p.procedure d.instance (pos d.now ∷ values) place) is.update_is stuck;
      program = program;
      tick = refl;
    }

    pub made_update : (m : MachineState) (cost : Cost) (now : ℕ) (called : List Bool) (given : List (Option ℤ)) →
        IsCall d.machine m update.procedure d.instance (pos d.now ∷ values) cost → m.program ≡ d.machine.program →
        now ≡ (d.now + 1) % d.shape.hyper → called ≡ replicate (length d.called) false → given ≡ replicate (length d.given) None →
        IsUpdate values cost d (record d { machine = m; now = now; called = called; given = given })
    made_update m cost now called given made program tick calls gives = record {
      makes = record {
        call = subst (λ (p : CallPlan). IsCall d.machine m p.procedure d.instance (pos d.now ∷ values) cost)
            is.update_is made;
        program = program;
      };
      tick = ap (λ n. record d { machine = m; now = n; called = called; given = given }) tick
          ∙ ap (λ (c : List Bool). record d {
            machine = m;
            now = (d.now + 1) % d.shape.hyper;
            called = c;
            given = given;
          }) (calls ∙ ap (λ n. replicate n false) is.called_each)
          ∙ ap (λ (g : List (Option ℤ)). record d {
            machine = m;
            now = (d.now + 1) % d.shape.hyper;
            called = replicate (length d.shape.functions) false;
            given = g;
          }) (gives
          ∙ ap (λ n. replicate n None) is.given_each);
    }
