use Rattle.std.specs.Prelude.{refl}
use Rattle.std.proofs.Common.{◌<◌, None, [], List, ℤ, Vec, Global, map, length, slice_index_or, true≢false, sym, subst, arith}
use Rattle.std.proofs.lemmas.Grind.{common_steps}
use Rattle.std.proofs.lemmas.List.{length-map}
use Rattle.diagram_meaning.specs.ResolvedTree.{diagram_of}
use Rattle.diagram_meaning.specs.Traces.{IsTraceRow}
use Rattle.test_solver.proofs.Runs.{row-of}
use Rattle.test_solver.proofs.RowInputs.{all-more}
use Rattle.diagram_typed_runs.proofs.lemmas.TraceRows.{trace-at, trace-from}
use Rattle.test_solver.proofs.trace.is_trace_for.Goals as goal

-- the items of a vector of numbers
abbrev items : Vec ℤ Global → List ℤ
items v = v.items

pub returns-then-not-is_trace_row : goal.returns-then-not-is_trace_row
returns-then-not-is_trace_row c = (
  λ impossible. absurd (true≢false (sym impossible)),
  λ all.
      let t = c.loop-row.row-index in
      let below : t < length c.args.inputs.now = c.loop-row-test.true in
      let row = row-of items c.args.inputs.now t c.row-item.result c.as_slice.result.now c.row-item.is c.as_slice.ensures.value below in
      let in_trace : t < length (map items c.args.inputs.now) = omega (arith, length-map c.args.inputs.now items) in
      let is =
      c.is_trace_row.ensures.1
      (subst (IsTraceRow (diagram_of c.args.r.now) None) row
      (trace-at (diagram_of c.args.r.now) None (map items c.args.inputs.now) all t in_trace)) in
      grind (arith, common_steps, is, c.if-not-is_trace_row.true),
)

pub loop-row-preserved : goal.loop-row-preserved
loop-row-preserved c =
    let t = c.loop-row.row-index in
    let below : t < length c.args.inputs.now = c.loop-row-test.true in
    let row = row-of items c.args.inputs.now t c.row-item.result c.as_slice.result.now c.row-item.is c.as_slice.ensures.value below in
    let has = c.is_trace_row.ensures.0 (grind (arith, common_steps, c.if-not-is_trace_row.false)) in
    all-more (λ k. IsTraceRow (diagram_of c.args.r.now) None (slice_index_or (map items c.args.inputs.now) k [])) t c.loop-row.invariant
    (subst (IsTraceRow (diagram_of c.args.r.now) None) (sym row) has)

pub returns : goal.returns
returns c = (
  λ is. trace-from (diagram_of c.args.r.now) None (map items c.args.inputs.now) (λ t in_trace.
      let low = c.loop-row-test.false in
      c.loop-row.invariant t (omega (arith, length-map c.args.inputs.now items, low, in_trace))),
  λ all. refl,
)
