use Rattle.std.proofs.Common.{◌≡◌, sym, ◌∙◌, ap, ◌++◌}
use Rattle.std.proofs.lemmas.List.{get_or_default}
use Rattle.diagram_meaning.specs.Rows.{row_at, no_row}
use Rattle.diagram_meaning.specs.SampleTimes.{step_in}
use Rattle.diagram_times.proofs.BaseSteps.{gcd_over, written_fractions, gcd-step, gcd-more, gcd-end}
use Rattle.diagram_times.proofs.bases.base_tick.Goals.{in-Some, in-None}
use Rattle.diagram_times.proofs.bases.base_tick.Goals as goal

pub loop-row-init : goal.loop-row-init
loop-row-init c =
    let d = c.args.denominator in
    let left = written_fractions c.args.rows.now in
    elim c.match-step.branch [
      | in-Some w ↦
          ap (λ n. gcd_over d n left) (w.numerator-is ∙ w.numerator_over-numerator.ensures.value)
          ∙ gcd-step d w.in-Some.step left
          ∙ ap (λ step. gcd_over d 0 (step_in step ++ left)) (sym w.in-Some.is)
      | in-None w ↦
          ap (λ n. gcd_over d n left) w.numerator-is ∙ ap (λ step. gcd_over d 0 (step_in step ++ left)) (sym w.in-None.is)
    ]

pub loop-row-preserved : goal.loop-row-preserved
loop-row-preserved c =
    let rows = c.args.rows.now in
    let i = c.loop-row.row-index in
    let read : c.row-item.result ≡ row_at rows i = c.row-item.is ∙ get_or_default rows i c.row-item.result no_row c.loop-row-test.true in
    gcd-more c.args.denominator c.loop-row.numerator c.refined-numerator.result rows i c.row-item.result c.written_time.result
    c.loop-row-test.true read c.written_time.ensures c.refined-numerator.ensures ∙ c.loop-row.invariant

pub returns : goal.returns
returns c table is_rows is_step is = record {
  denominator = is;
  numerator = gcd-end c.args.denominator c.loop-row.numerator c.args.rows.now c.args.step c.loop-row.row-index c.loop-row-test.false
      c.loop-row.invariant table is_rows is_step is;
}
