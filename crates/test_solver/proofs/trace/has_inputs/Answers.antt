use Rattle.std.specs.Prelude.{refl}
use Rattle.std.proofs.Common.{◌<◌, true≢false, length, sym, arith}
use Rattle.std.proofs.lemmas.Grind.{common_steps}
use Rattle.test_solver.proofs.RowInputs.{HasInputOf, all-more}
use Rattle.test_solver.proofs.trace.has_inputs.Goals as goal

pub returns-then-not-has_input_of : goal.returns-then-not-has_input_of
returns-then-not-has_input_of c = (
  λ impossible. absurd (true≢false (sym impossible)),
  λ all. let is = c.has_input_of.ensures.1 (λ port. all port c.loop-b.b) in grind (arith, common_steps, is, c.if-not-has_input_of.true),
)

pub loop-b-preserved : goal.loop-b-preserved
loop-b-preserved c =
    all-more (HasInputOf c.args.r.now c.args.inputs.now) c.loop-b.b c.loop-b.invariant
    (c.has_input_of.ensures.0 (grind (arith, common_steps, c.if-not-has_input_of.false)))

pub returns : goal.returns
returns c = (
  λ is port b input.
      let low = c.loop-b-test.false in
      let high = c.loop-b.auto.b-end in
      let inside : b < length c.args.r.now.tree.table.rows = input.in_table in
      c.loop-b.invariant b (omega (arith, c.row_count-b-end.ensures.count, low, high, inside)) port input,
  λ all. refl,
)
