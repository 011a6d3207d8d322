-- What a tick took is little enough for the totals.
use Rattle.std.proofs.Common.{◌≡◌, ap, ◌^◌, ◌<◌, ◌≤◌, ◌+◌, List, arith}
use Rattle.std.specs.Prelude.{ℤ}
use Rattle.c_syntax.specs.declared.fault.Cost.{Cost}
use Rattle.c_interpreter.specs.States.{MachineState, tree_of, fields_of}
use Rattle.c_interpreter.specs.Machines.{IsTick}
use Rattle.tool_runner.specs.declared.outcome.Totals.{Totals}
use Rattle.tool_runner.specs.Ticks.{StaysWithin, counted}
use Rattle.tool_runner.proofs.lemmas.StepBounds.{step_run-bounded}

pub steps_bounded : (before after : MachineState) (row outputs : List ℤ) (cost : Cost) →
    IsTick before after row outputs cost → cost.steps ≤ 2 ^ 32
steps_bounded before after row outputs cost tick =
    omega (arith, ap (λ (c : Cost). c.steps) tick.cost_is, (step_run-bounded (tree_of before) row (fields_of before) tick.left tick.run).0)

pub calls_bounded : (before after : MachineState) (row outputs : List ℤ) (cost : Cost) →
    IsTick before after row outputs cost → cost.calls ≤ 2 ^ 32 + 1
calls_bounded before after row outputs cost tick =
    omega (arith, ap (λ (c : Cost). c.calls) tick.cost_is, (step_run-bounded (tree_of before) row (fields_of before) tick.left tick.run).1)

pub within_counted : (t t' : Totals) (cost : Cost) → StaysWithin t → t.ticks < 4294967295 → t' ≡ counted t cost →
    cost.steps ≤ 2 ^ 32 → cost.calls ≤ 2 ^ 32 + 1 → StaysWithin t'
within_counted t t' cost within more is steps calls =
    let ticks_is : t'.ticks ≡ t.ticks + 1 = ap (λ (x : Totals). x.ticks) is in
    let steps_is : t'.steps ≡ t.steps + cost.steps = ap (λ (x : Totals). x.steps) is in
    let calls_is : t'.calls ≡ t.calls + cost.calls = ap (λ (x : Totals). x.calls) is in
    record {
      ticks = omega (arith, ticks_is, more);
      steps = omega (arith, within.steps, ticks_is, steps_is, steps);
      calls = omega (arith, within.calls, ticks_is, calls_is, calls);
    }
