use Rattle.std.proofs.Common.{◌≡◌, None, length, sym, true≢false, arith}
use Rattle.std.proofs.lemmas.Grind.{common_steps}
use Rattle.diagram_meaning.specs.Rows.{inports_of}
use Rattle.diagram_typed_runs.proofs.lemmas.TraceRows.{row-length, row-inputs, inputs-row}
use Rattle.test_solver.proofs.trace.is_trace_row.Goals as goal

pub returns-then-inputs-input_count : goal.returns-then-inputs-input_count
returns-then-inputs-input_count c = (
  λ impossible. absurd (true≢false (sym impossible)),
  λ row.
      let long = row-length c.args.r.now c.input_count.ensures.resolved c.args.inputs.now row in
      grind (arith, common_steps, long, c.input_count.ensures.count, c.if-inputs-input_count.true),
)

pub returns : goal.returns
returns c = (
  λ is.
      let long : length c.args.inputs.now ≡ length (inports_of c.args.r.now.tree.table.rows None) =
      grind (arith, common_steps, c.input_count.ensures.count, c.if-inputs-input_count.false) in
      inputs-row c.args.r.now c.input_count.ensures.resolved c.args.inputs.now long (c.has_inputs.ensures.0 is),
  λ row. c.has_inputs.ensures.1 (row-inputs c.args.r.now c.input_count.ensures.resolved c.args.inputs.now row),
)
