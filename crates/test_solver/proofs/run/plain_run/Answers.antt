use Rattle.std.proofs.Common.{◌∙◌, ◌<◌, ◌≤◌, None, [], slice_index_or, List, ℤ, Vec, Global, map, length, sym, ap, subst, arith, add-one}
use Rattle.std.proofs.lemmas.List.{length-map}
use Rattle.diagram_meaning.specs.ResolvedTree.{diagram_of}
use Rattle.diagram_meaning.specs.Laws.{Run}
use Rattle.diagram_typed_runs.specs.Traces.{HasInputs}
use Rattle.test_solver.proofs.Runs.{run_of, run_of-is, run_of-only, first-memories, first-triggers, values-each, run-values, run-memories, run-triggers, row-of, values-more, values-all}
use Rattle.diagram_typed_runs.proofs.lemmas.TraceRows.{trace-at, row-inputs}
use Rattle.test_solver.proofs.run.plain_run.Goals as goal

-- the items of a vector of numbers
abbrev items : Vec ℤ Global → List ℤ
items v = v.items

pub loop-tick-init : goal.loop-tick-init
loop-tick-init c =
    let d = diagram_of c.args.r.now in
    let xs = map items c.args.inputs.now in
    let run = run_of d xs in
    let is = run_of-is d xs c.requires.no_loop in record {
      values = ap (map items) c.new-values.ensures.items;
      before = c.in_ok-state.ensures.values;
      memories = c.in_ok-state.ensures.memories ∙ sym (first-memories d xs run.values run.memories run.triggers is);
      triggers = c.in_ok-state.ensures.triggers ∙ sym (first-triggers d xs run.values run.memories run.triggers is);
      fit = c.in_ok-state.ensures.fit;
    }

pub next_state-requires-clause-inputs : goal.next_state-requires-clause-inputs
next_state-requires-clause-inputs c =
    let d = diagram_of c.args.r.now in
    let xs = map items c.args.inputs.now in
    let t = c.loop-tick.tick in
    let below : t < length c.args.inputs.now = c.loop-tick-test.true in
    let in_trace : t < length xs = omega (arith, length-map c.args.inputs.now items) in
    subst (HasInputs d None)
    (row-of items c.args.inputs.now t c.index-inputs-tick.result c.as_slice.result.now c.index-inputs-tick.is
    c.as_slice.ensures.value below)
    (row-inputs c.args.r.now c.in_ok-state.ensures.resolved (slice_index_or xs t []) (trace-at d None xs c.requires.inputs t in_trace))

pub loop-tick-preserved : goal.loop-tick-preserved
loop-tick-preserved c =
    let d = diagram_of c.args.r.now in
    let xs = map items c.args.inputs.now in
    let run = run_of d xs in
    let is = run_of-is d xs c.requires.no_loop in
    let t = c.loop-tick.tick in
    let state = c.loop-tick.state in
    let after = c.in_ok-state-2.state in
    let below : t < length c.args.inputs.now = c.loop-tick-test.true in
    let in_trace : t < length xs = omega (arith, length-map c.args.inputs.now items) in
    let in_values : t < length run.values = omega (arith, in_trace, values-each d xs run.values run.memories run.triggers is) in
    let row =
    row-of items c.args.inputs.now t c.index-inputs-tick.result c.as_slice.result.now c.index-inputs-tick.is
    c.as_slice.ensures.value below in
    let v = run-values d c.requires.no_loop xs t in_trace c.as_slice.result.now state.values.items state.memories.items
    state.triggers.items after.values.items after.memories.items after.triggers.items
    row c.loop-tick.invariant.before c.loop-tick.invariant.memories c.loop-tick.invariant.triggers c.in_ok-state-2.ensures.tick in record {
      values =
          values-more items c.loop-tick.values.items c.push.new.self.items t c.in_ok-from_slice.field-0
          after.values.items run.values c.loop-tick.invariant.values c.in_ok-push.ensures.items
          (c.in_ok-from_slice.ensures.items ∙ c.as_slice-in-loop-tick.ensures.value) v in_values;
      before = rw add-one v;
      memories =
          run-memories d c.requires.no_loop xs t in_trace c.as_slice.result.now state.values.items state.memories.items
          state.triggers.items after.values.items after.memories.items after.triggers.items
          row c.loop-tick.invariant.before c.loop-tick.invariant.memories c.loop-tick.invariant.triggers c.in_ok-state-2.ensures.tick;
      triggers =
          run-triggers d c.requires.no_loop xs t in_trace c.as_slice.result.now state.values.items state.memories.items
          state.triggers.items after.values.items after.memories.items after.triggers.items
          row c.loop-tick.invariant.before c.loop-tick.invariant.memories c.loop-tick.invariant.triggers c.in_ok-state-2.ensures.tick;
      fit = c.in_ok-state-2.ensures.fit;
    }

pub returns : goal.returns
returns c =
    let d = diagram_of c.args.r.now in
    let xs = map items c.args.inputs.now in
    let run = run_of d xs in
    let is = run_of-is d xs c.requires.no_loop in
    let low = c.loop-tick-test.false in
    let most : length run.values ≤ c.loop-tick.tick =
    omega (
      arith,
      low,
      values-each d xs run.values run.memories run.triggers is,
      length-map c.args.inputs.now items,
    ) in
    let all = values-all items c.loop-tick.values.items c.loop-tick.tick run.values c.loop-tick.invariant.values most in record {
      run = run;
      is_run = is;
      values = all;
      only = λ other r. ap (λ (o : Run). o.values) (run_of-only d xs c.requires.no_loop other r) ∙ all;
    }
