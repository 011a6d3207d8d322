use Rattle.std.proofs.Common.{◌≡◌, ℕ, List, ◌-◌, length, get_or, ap₂, ◌∙◌, arith}
use Rattle.std.proofs.lemmas.List.{get_or_default}
use Rattle.base_refusals.specs.Refusals.{PlainRefusal}
use Rattle.diagram_meaning.specs.declared.table.Row.{Row}
use Rattle.diagram_meaning.specs.declared.times.Time.{Time}
use Rattle.base_refusals.specs.FirstRefusal.{as_plain, least_line}
use Rattle.diagram_meaning.specs.Rows.{row_at, no_row}
use Rattle.diagram_meaning.specs.SampleTimes.{every_tick}
use Rattle.diagram_meaning.specs.TimeRefusals.{rate_faults}
use Rattle.diagram_meaning.specs.TypeRefusals.{line_at}
use Rattle.diagram_times.proofs.BackSteps.{rate-short, back-more}
use Rattle.diagram_times.proofs.rates.least_bad_rate.Goals as goal

pub back-preserved : goal.back-preserved
back-preserved c =
    let rows = c.args.rows.now in
    let k = c.back-test.true in
    let h = c.back.invariant.below in
    let n = c.requires.len in
    let row : c.index-rows-b.result ≡ row_at rows (c.back.b - 1) =
    c.index-rows-b.is ∙ get_or_default rows (c.back.b - 1) c.index-rows-b.result no_row (omega arith) in
    let time : c.index-inside-b.result ≡ get_or c.args.inside.now (c.back.b - 1) every_tick =
    c.index-inside-b.is ∙ get_or_default c.args.inside.now (c.back.b - 1) c.index-inside-b.result every_tick (omega arith) in
    record {
      below = omega arith;
      least = λ table e is_base.
          let f : ℕ → List PlainRefusal =
          λ b. rate_faults table (line_at rows b) (get_or c.args.inside.now b every_tick) (row_at rows b).kind in
          back-more f (length rows) (c.back.b - 1) c.back.b (as_plain c.rate_fault.result) (as_plain c.back.least)
          (as_plain c.earlier-least.result)
          (omega arith) (omega arith)
          (rate-short table (line_at rows (c.back.b - 1)) (get_or c.args.inside.now (c.back.b - 1) every_tick)
          (row_at rows (c.back.b - 1)).kind)
          (c.rate_fault.ensures table is_base ∙ ap₂ (λ (r : Row) (t : Time). least_line (rate_faults table r.place.line t r.kind)) row time)
          (c.back.invariant.least table e is_base) c.earlier-least.ensures;
    }
