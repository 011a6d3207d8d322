use Rattle.std.proofs.Common.{◌≡◌, refl, sym, ◌∙◌, ap, subst, arith, ◌+◌, ◌<◌, ◌^◌, [], ◌∷◌, drop}
use Rattle.std.specs.Prelude.{Some}
use Rattle.std.proofs.lemmas.List.{get_or_default}
use Rattle.base_refusals.specs.declared.refusal.CycleWhat.TheVariants.{Hyper}
use Rattle.base_refusals.specs.Refusals.{plain_refusal}
use Rattle.diagram_meaning.specs.declared.table.Row.{Row}
use Rattle.diagram_meaning.specs.Rows.{row_at, no_row}
use Rattle.diagram_meaning.specs.SampleTimes.{written_by}
use Rattle.diagram_meaning.specs.RowTable.{RowTable}
use Rattle.diagram_meaning.specs.TimeRefusals.{first_over}
use Rattle.diagram_meaning.specs.TimeRefusals as refusal
use Rattle.diagram_times.specs.declared.cycles.Multiple.{Multiple}
use Rattle.diagram_times.specs.Bases.{IsBaseOf, IsCountedText}
use Rattle.diagram_times.proofs.Growing.{IsGrowing, grown, grown-over, left-to, grown-all, grown-value, too_long, refused-same}
use Rattle.diagram_times.proofs.LineNumbers.{of_rows, left-same, left-none, running-start}
use Rattle.diagram_times.proofs.PeriodSteps.{periods_by, by_line-periods, hyperperiod-is, periods-none}
use Rattle.diagram_times.proofs.cycles.hyperperiod.Goals.{in-Each+in_ok-grow, in_default}
use Rattle.diagram_times.proofs.cycles.hyperperiod.Goals as goal

pub loop-row-init : goal.loop-row-init
loop-row-init c = record {
  limit_is = refl;
  what_is = refl;
  within = omega arith;
  running = running-start (2 ^ 30) 1 (of_rows (periods_by c.args.base) c.args.rows.now) (omega arith);
}

pub ticks-requires : goal.ticks-requires
ticks-requires c =
    let rows = c.args.rows.now in
    let i = c.loop-row.row-index in
    let read : c.row-item.result ≡ row_at rows i = c.row-item.is ∙ get_or_default rows i c.row-item.result no_row c.loop-row-test.true in
    let text = sym (ap (λ (r : Row). written_by r.kind r.time_text) read) ∙ sym c.written_time.ensures ∙ c.in-Each.is in
    let counted = subst (IsCountedText c.args.base) text (c.requires i c.loop-row-test.true) in
    counted.period_countable

pub grow-requires-clause-some : goal.grow-requires-clause-some
grow-requires-clause-some c = c.loop-row.invariant.running.some

pub grow-requires-clause-low : goal.grow-requires-clause-low
grow-requires-clause-low c = let h = c.loop-row.invariant.within in omega (arith, h)

pub grow-requires-clause-number : goal.grow-requires-clause-number
grow-requires-clause-number c =
    let rows = c.args.rows.now in
    let i = c.loop-row.row-index in
    let read : c.row-item.result ≡ row_at rows i = c.row-item.is ∙ get_or_default rows i c.row-item.result no_row c.loop-row-test.true in
    let text = sym (ap (λ (r : Row). written_by r.kind r.time_text) read) ∙ sym c.written_time.ensures ∙ c.in-Each.is in
    let counted = subst (IsCountedText c.args.base) text (c.requires i c.loop-row-test.true) in
    let below = counted.below in
    let e = c.ticks.ensures in
    subst (λ n. 0 < n) (sym e) (omega (arith, below))

pub grow-requires-clause-small : goal.grow-requires-clause-small
grow-requires-clause-small c =
    let rows = c.args.rows.now in
    let i = c.loop-row.row-index in
    let read : c.row-item.result ≡ row_at rows i = c.row-item.is ∙ get_or_default rows i c.row-item.result no_row c.loop-row-test.true in
    let text = sym (ap (λ (r : Row). written_by r.kind r.time_text) read) ∙ sym c.written_time.ensures ∙ c.in-Each.is in
    let counted = subst (IsCountedText c.args.base) text (c.requires i c.loop-row-test.true) in
    let short = counted.short in
    subst (λ n. n < 2 ^ 32) (sym c.ticks.ensures) (omega (arith, short))

pub returns-in_err-grow-clause-refused : goal.returns-in_err-grow-clause-refused
returns-in_err-grow-clause-refused c =
    let rows = c.args.rows.now in
    let i = c.loop-row.row-index in
    let row = c.row-item.result in
    let f = periods_by c.args.base in
    let read : row ≡ row_at rows i = c.row-item.is ∙ get_or_default rows i row no_row c.loop-row-test.true in
    let left = left-same f rows i row c.written_time.result (c.ticks.result ∷ []) c.loop-row-test.true read c.written_time.ensures
    (ap f c.in-Each.is ∙ ap (λ n. n ∷ []) (sym c.ticks.ensures)) in
    let e = c.in_err-grow.field-0.0 in
    refused-same c.from_residual.result e
    (λ r. (table : RowTable) → table.rows ≡ rows → IsBaseOf table c.args.base → refusal.long_cycle table ≡ Some (plain_refusal r))
    c.from_residual.ensures.1
    (λ table same is.
    ap (λ all. too_long Hyper (first_over (2 ^ 30) 1 all)) (by_line-periods table rows c.args.base same is)
    ∙ grown-over (2 ^ 30) Hyper 1 (of_rows f rows) c.loop-row.cycle (of_rows f (drop (i + 1) rows)) row.place.line
    c.ticks.result (plain_refusal e)
    (left-to (2 ^ 30) Hyper 1 (of_rows f rows) c.loop-row.cycle _ _ left c.loop-row.invariant)
    c.in_err-grow.ensures.refused c.in_err-grow.ensures.above)

pub loop-row-preserved : goal.loop-row-preserved
loop-row-preserved c =
    let rows = c.args.rows.now in
    let i = c.loop-row.row-index in
    let row = c.row-item.result in
    let f = periods_by c.args.base in
    let all = of_rows f rows in
    let rest = of_rows f (drop (i + 1) rows) in
    let read : row ≡ row_at rows i = c.row-item.is ∙ get_or_default rows i row no_row c.loop-row-test.true in
    let more = left-same f rows i row c.written_time.result in
    let text = sym (ap (λ (r : Row). written_by r.kind r.time_text) read) ∙ sym c.written_time.ensures in
    elim c.match-written_time.branch [
      | in-Each+in_ok-grow w ↦
          let left = more (w.ticks.result ∷ []) c.loop-row-test.true read c.written_time.ensures
          (ap f w.in-Each.is ∙ ap (λ n. n ∷ []) (sym w.ticks.ensures)) in
          let counted = subst (IsCountedText c.args.base) (text ∙ w.in-Each.is) (c.requires i c.loop-row-test.true) in
          let below = counted.below in
          let above : 0 < w.ticks.result = subst (λ n. 0 < n) (sym w.ticks.ensures) (omega (arith, below)) in
          subst (λ (m : Multiple). IsGrowing (2 ^ 30) Hyper 1 all m rest) (sym w.cycle-is)
          (grown (2 ^ 30) Hyper 1 all c.loop-row.cycle rest w.grow.new.self row.place.line w.ticks.result
          (left-to (2 ^ 30) Hyper 1 all c.loop-row.cycle _ _ left c.loop-row.invariant) above
          w.in_ok-grow.ensures.grown w.in_ok-grow.ensures.within w.in_ok-grow.ensures.same)
      | in_default w ↦
          let left = more [] c.loop-row-test.true read c.written_time.ensures
          (periods-none c.args.base c.written_time.result w.in_default.not-Each) in
          subst (λ (m : Multiple). IsGrowing (2 ^ 30) Hyper 1 all m rest) (sym w.cycle-is)
          (left-to (2 ^ 30) Hyper 1 all c.loop-row.cycle _ _ left c.loop-row.invariant)
    ]

pub returns-clause-accepted : goal.returns-clause-accepted
returns-clause-accepted c table same is =
    let rows = c.args.rows.now in
    let f = periods_by c.args.base in
    let none = left-none f rows c.loop-row.row-index c.loop-row-test.false in
    ap (λ all. too_long Hyper (first_over (2 ^ 30) 1 all)) (by_line-periods table rows c.args.base same is)
    ∙ ap (too_long Hyper) (grown-all (2 ^ 30) Hyper 1 (of_rows f rows) c.loop-row.cycle _ none c.loop-row.invariant)

pub returns-clause-cycle : goal.returns-clause-cycle
returns-clause-cycle c table same is =
    let rows = c.args.rows.now in
    let f = periods_by c.args.base in
    let none = left-none f rows c.loop-row.row-index c.loop-row-test.false in
    grown-value (2 ^ 30) Hyper 1 (of_rows f rows) c.loop-row.cycle _ none c.loop-row.invariant
    ∙ hyperperiod-is table rows c.args.base same is
