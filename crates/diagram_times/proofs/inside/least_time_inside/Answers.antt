use Rattle.std.proofs.Common.{ℕ, Bool, ◌-◌, length, ap, ◌∙◌, arith}
use Rattle.std.specs.Prelude.{is_some, ◌&&◌}
use Rattle.base_refusals.specs.Refusals.{PlainRefusal, TimeInside}
use Rattle.base_refusals.specs.FirstRefusal.{as_plain, least_line}
use Rattle.diagram_meaning.specs.Rows.{row_numbers}
use Rattle.diagram_meaning.specs.SampleTimes.{outermost_trigger, written_time}
use Rattle.diagram_meaning.specs.TimeRefusals.{is_each}
use Rattle.diagram_meaning.specs.TypeRefusals.{line_at}
use Rattle.diagram_times.proofs.BackSteps.{listed_where, listed-short, found-listed, listed-all, back-more, back-end}
use Rattle.diagram_times.proofs.inside.least_time_inside.Goals as goal

pub back-preserved : goal.back-preserved
back-preserved c =
    let rows = c.args.rows.now in
    let test : ℕ → Bool = λ b. is_some (outermost_trigger rows b) && is_each (written_time rows b) in
    let refusal : ℕ → PlainRefusal = λ b. TimeInside (line_at rows b) in
    let k = c.back-test.true in
    let h = c.back.invariant.below in
    record {
      below = omega arith;
      least = back-more (listed_where test refusal) (length rows) (c.back.b - 1) c.back.b
          (as_plain c.inside_fault.result) (as_plain c.back.least) (as_plain c.earlier-least.result)
          (omega arith) (omega arith) (listed-short test refusal (c.back.b - 1)) (c.inside_fault.ensures
          ∙ found-listed test refusal (c.back.b - 1))
          c.back.invariant.least c.earlier-least.ensures;
    }

pub returns : goal.returns
returns c =
    let rows = c.args.rows.now in
    let test : ℕ → Bool = λ b. is_some (outermost_trigger rows b) && is_each (written_time rows b) in
    let refusal : ℕ → PlainRefusal = λ b. TimeInside (line_at rows b) in
    back-end (listed_where test refusal) (length rows) c.back.b (as_plain c.back.least) c.back-test.false c.back.invariant.least
    ∙ ap least_line (listed-all test refusal (row_numbers rows))
