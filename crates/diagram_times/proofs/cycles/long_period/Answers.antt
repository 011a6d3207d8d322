use Rattle.std.proofs.Common.{◌≡◌, sym, ◌∙◌, ap, subst, ◌+◌, [], ◌∷◌, drop}
use Rattle.std.specs.Prelude.{find, option_map}
use Rattle.std.proofs.lemmas.List.{get_or_default}
use Rattle.base_refusals.specs.declared.refusal.CycleWhat.TheVariants.{Period}
use Rattle.base_refusals.specs.Refusals.{PlainRefusal, LongCycle}
use Rattle.diagram_meaning.specs.declared.table.Row.{Row}
use Rattle.diagram_meaning.specs.Rows.{row_at, no_row}
use Rattle.diagram_meaning.specs.SampleTimes.{written_by}
use Rattle.diagram_meaning.specs.TimeRefusals.{AtLine}
use Rattle.diagram_times.specs.Lawful.{IsPeriodCountable}
use Rattle.diagram_times.proofs.LineNumbers.{of_rows, left-same, left-none}
use Rattle.diagram_times.proofs.PeriodSteps.{periods_by, is_long, by_line-periods, short-passed, long-found, periods-none}
use Rattle.diagram_times.proofs.cycles.long_period.Goals.{in-Each+else-h-gt-MOST_PERIOD, in_default}
use Rattle.diagram_times.proofs.cycles.long_period.Goals as goal

-- a period that is too long, as it is refused
abbrev refused : AtLine → PlainRefusal
refused p = LongCycle p.line Period p.number

pub ticks-h-requires : goal.ticks-h-requires
ticks-h-requires c =
    let rows = c.args.rows.now in
    let i = c.loop-row.row-index in
    let read : c.row-item.result ≡ row_at rows i = c.row-item.is ∙ get_or_default rows i c.row-item.result no_row c.loop-row-test.true in
    let text = sym (ap (λ (r : Row). written_by r.kind r.time_text) read) ∙ sym c.written_time.ensures ∙ c.in-Each.is in
    subst (IsPeriodCountable c.args.base) text (c.requires i c.loop-row-test.true)

pub returns-then-h-gt-MOST_PERIOD : goal.returns-then-h-gt-MOST_PERIOD
returns-then-h-gt-MOST_PERIOD c table same is =
    let rows = c.args.rows.now in
    let i = c.loop-row.row-index in
    let row = c.row-item.result in
    let f = periods_by c.args.base in
    let read : row ≡ row_at rows i = c.row-item.is ∙ get_or_default rows i row no_row c.loop-row-test.true in
    let left = left-same f rows i row c.written_time.result (c.ticks-h.result ∷ []) c.loop-row-test.true read c.written_time.ensures
    (ap f c.in-Each.is ∙ ap (λ n. n ∷ []) (sym c.ticks-h.ensures)) in
    sym (ap (option_map refused)
    (ap (find is_long) (by_line-periods table rows c.args.base same is) ∙ sym c.loop-row.invariant
    ∙ ap (find is_long) left
    ∙ long-found row.place.line c.ticks-h.result (of_rows f (drop (i + 1) rows)) c.if-h-gt-MOST_PERIOD.true))

pub loop-row-preserved : goal.loop-row-preserved
loop-row-preserved c =
    let rows = c.args.rows.now in
    let i = c.loop-row.row-index in
    let row = c.row-item.result in
    let f = periods_by c.args.base in
    let read : row ≡ row_at rows i = c.row-item.is ∙ get_or_default rows i row no_row c.loop-row-test.true in
    let more = left-same f rows i row c.written_time.result in
    elim c.match-written_time.branch [
      | in-Each+else-h-gt-MOST_PERIOD w ↦
          let left = more (w.ticks-h.result ∷ []) c.loop-row-test.true read c.written_time.ensures
          (ap f w.in-Each.is ∙ ap (λ n. n ∷ []) (sym w.ticks-h.ensures)) in
          sym (short-passed row.place.line w.ticks-h.result (of_rows f (drop (i + 1) rows)) w.if-h-gt-MOST_PERIOD.false)
          ∙ sym (ap (find is_long) left) ∙ c.loop-row.invariant
      | in_default w ↦
          let left = more [] c.loop-row-test.true read c.written_time.ensures
          (periods-none c.args.base c.written_time.result w.in_default.not-Each) in
          sym (ap (find is_long) left) ∙ c.loop-row.invariant
    ]

pub returns : goal.returns
returns c table same is =
    sym (ap (option_map refused)
    (ap (find is_long) (by_line-periods table c.args.rows.now c.args.base same is) ∙ sym c.loop-row.invariant
    ∙ ap (find is_long) (left-none (periods_by c.args.base) c.args.rows.now c.loop-row.row-index c.loop-row-test.false)))
