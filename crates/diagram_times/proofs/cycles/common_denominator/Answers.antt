use Rattle.std.proofs.Common.{◌≡◌, sym, ◌∙◌, ap, subst, arith, ◌+◌, ◌<◌, ◌^◌, [], ◌∷◌, drop}
use Rattle.std.specs.Prelude.{Some}
use Rattle.std.proofs.lemmas.List.{get_or_default}
use Rattle.base_refusals.specs.declared.refusal.CycleWhat.TheVariants.{Denominator}
use Rattle.base_refusals.specs.Refusals.{plain_refusal}
use Rattle.diagram_meaning.specs.declared.table.Row.{Row}
use Rattle.diagram_meaning.specs.RowTable.{RowTable}
use Rattle.diagram_meaning.specs.Rows.{row_at, no_row}
use Rattle.diagram_meaning.specs.SampleTimes.{written_by}
use Rattle.diagram_meaning.specs.TimeRefusals.{denominators_in, first_over}
use Rattle.diagram_meaning.specs.TimeRefusals as refusal
use Rattle.diagram_times.specs.declared.cycles.Multiple.{Multiple}
use Rattle.diagram_times.specs.Lawful.{IsLawfulText}
use Rattle.diagram_times.proofs.DenominatorSteps.{step_den, denominators-one, denominators-two, denominators-none, denominators-first, long_denominator-is, common_denominator-is}
use Rattle.diagram_times.proofs.Divisors.{lcm-positive}
use Rattle.diagram_times.proofs.Growing.{IsGrowing, grown, grown-over, left-to, grown-all, grown-value, too_long, refused-same}
use Rattle.diagram_times.proofs.LineNumbers.{of_rows, left-same, left-none}
use Rattle.diagram_times.proofs.cycles.common_denominator.Goals.{in-Each+in_ok-grow+then-offset-ne0+in_ok-grow-2, in-Each+in_ok-grow+else-offset-ne0, in_default}
use Rattle.diagram_times.proofs.cycles.common_denominator.Goals as goal

pub returns-in_err-grow-clause-refused : goal.returns-in_err-grow-clause-refused
returns-in_err-grow-clause-refused c =
    let rows = c.args.rows.now in
    let i = c.loop-row.row-index in
    let row = c.row-item.result in
    let start = step_den c.args.step in
    let all = of_rows denominators_in rows in
    let rest = of_rows denominators_in (drop (i + 1) rows) in
    let read : row ≡ row_at rows i = c.row-item.is ∙ get_or_default rows i row no_row c.loop-row-test.true in
    let e = c.in_err-grow.field-0.0 in
    let line = row.place.line in
    refused-same c.from_residual.result e
    (λ r. (table : RowTable) → table.rows ≡ rows → table.fixed_step ≡ c.args.step → refusal.long_denominator table ≡ Some (plain_refusal r))
    c.from_residual.ensures.1
    (λ table same is_step.
    let more = denominators-first c.in-Each.period c.in-Each.offset in
    let left = left-same denominators_in rows i row c.written_time.result (c.in-Each.period.den ∷ more.0) c.loop-row-test.true read
    c.written_time.ensures (ap denominators_in c.in-Each.is ∙ more.1) in
    long_denominator-is table rows c.args.step same is_step
    ∙ grown-over (10 ^ 9) Denominator start all c.loop-row.denominator _ line c.in-Each.period.den (plain_refusal e)
    (left-to (10 ^ 9) Denominator start all c.loop-row.denominator _ _ left c.loop-row.invariant)
    c.in_err-grow.ensures.refused c.in_err-grow.ensures.above)

pub grow-requires-then-offset-ne0-clause-some : goal.grow-requires-then-offset-ne0-clause-some
grow-requires-then-offset-ne0-clause-some c =
    subst (λ n. 0 < n) (sym c.in_ok-grow.ensures.grown)
    (lcm-positive c.loop-row.denominator.so_far c.in-Each.period.den c.loop-row.invariant.running.some c.in-Each.period.lowest.0)

pub grow-requires-then-offset-ne0-clause-small : goal.grow-requires-then-offset-ne0-clause-small
grow-requires-then-offset-ne0-clause-small c =
    let rows = c.args.rows.now in
    let i = c.loop-row.row-index in
    let read : c.row-item.result ≡ row_at rows i = c.row-item.is ∙ get_or_default rows i c.row-item.result no_row c.loop-row-test.true in
    let text = sym (ap (λ (r : Row). written_by r.kind r.time_text) read) ∙ sym c.written_time.ensures ∙ c.in-Each.is in
    let lawful = subst IsLawfulText text (c.requires.texts i c.loop-row-test.true) in
    let low = lawful.offset_limits.1 in
    omega (arith, low)

pub returns-in_err-grow-2-clause-refused : goal.returns-in_err-grow-2-clause-refused
returns-in_err-grow-2-clause-refused c =
    let rows = c.args.rows.now in
    let i = c.loop-row.row-index in
    let row = c.row-item.result in
    let start = step_den c.args.step in
    let all = of_rows denominators_in rows in
    let rest = of_rows denominators_in (drop (i + 1) rows) in
    let read : row ≡ row_at rows i = c.row-item.is ∙ get_or_default rows i row no_row c.loop-row-test.true in
    let left =
    left-same denominators_in rows i row c.written_time.result (c.in-Each.period.den ∷ c.in-Each.offset.den
    ∷ []) c.loop-row-test.true read
    c.written_time.ensures (ap denominators_in c.in-Each.is ∙ denominators-two c.in-Each.period c.in-Each.offset c.if-offset-ne0.true) in
    let once = grown (10 ^ 9) Denominator start all c.loop-row.denominator _ c.grow.new.self row.place.line c.in-Each.period.den
    (left-to (10 ^ 9) Denominator start all c.loop-row.denominator _ _ left c.loop-row.invariant) c.in-Each.period.lowest.0
    c.in_ok-grow.ensures.grown c.in_ok-grow.ensures.within c.in_ok-grow.ensures.same in
    let e = c.in_err-grow-2.field-0.0 in
    refused-same c.from_residual-in_err-grow-2.result e
    (λ r. (table : RowTable) → table.rows ≡ rows → table.fixed_step ≡ c.args.step → refusal.long_denominator table ≡ Some (plain_refusal r))
    c.from_residual-in_err-grow-2.ensures.1
    (λ table same is_step.
    long_denominator-is table rows c.args.step same is_step
    ∙ grown-over (10 ^ 9) Denominator start all c.grow.new.self rest row.place.line c.in-Each.offset.den (plain_refusal e)
    once c.in_err-grow-2.ensures.refused c.in_err-grow-2.ensures.above)

pub loop-row-preserved : goal.loop-row-preserved
loop-row-preserved c =
    let rows = c.args.rows.now in
    let i = c.loop-row.row-index in
    let row = c.row-item.result in
    let start = step_den c.args.step in
    let all = of_rows denominators_in rows in
    let rest = of_rows denominators_in (drop (i + 1) rows) in
    let read : row ≡ row_at rows i = c.row-item.is ∙ get_or_default rows i row no_row c.loop-row-test.true in
    let left = left-same denominators_in rows i row c.written_time.result in
    let seen = c.written_time.ensures in
    let test = c.loop-row-test.true in
    elim c.match-written_time.branch [
      | in-Each+in_ok-grow+then-offset-ne0+in_ok-grow-2 w ↦
          let two = left (w.in-Each.period.den ∷ w.in-Each.offset.den ∷ []) test read seen
          (ap denominators_in w.in-Each.is ∙ denominators-two w.in-Each.period w.in-Each.offset w.if-offset-ne0.true) in
          let once = grown (10 ^ 9) Denominator start all c.loop-row.denominator _ w.grow.new.self row.place.line w.in-Each.period.den
          (left-to (10 ^ 9) Denominator start all c.loop-row.denominator _ _ two c.loop-row.invariant) w.in-Each.period.lowest.0
          w.in_ok-grow.ensures.grown w.in_ok-grow.ensures.within w.in_ok-grow.ensures.same in
          subst (λ (m : Multiple). IsGrowing (10 ^ 9) Denominator start all m rest) (sym w.denominator-is)
          (grown (10 ^ 9) Denominator start all w.grow.new.self rest w.grow-then-offset-ne0.new.self row.place.line w.in-Each.offset.den
          once w.in-Each.offset.lowest.0
          w.in_ok-grow-2.ensures.grown w.in_ok-grow-2.ensures.within w.in_ok-grow-2.ensures.same)
      | in-Each+in_ok-grow+else-offset-ne0 w ↦
          let one = left (w.in-Each.period.den ∷ []) test read seen
          (ap denominators_in w.in-Each.is ∙ denominators-one w.in-Each.period w.in-Each.offset w.if-offset-ne0.false) in
          subst (λ (m : Multiple). IsGrowing (10 ^ 9) Denominator start all m rest) (sym w.denominator-is)
          (grown (10 ^ 9) Denominator start all c.loop-row.denominator rest w.grow.new.self row.place.line w.in-Each.period.den
          (left-to (10 ^ 9) Denominator start all c.loop-row.denominator _ _ one c.loop-row.invariant) w.in-Each.period.lowest.0
          w.in_ok-grow.ensures.grown w.in_ok-grow.ensures.within w.in_ok-grow.ensures.same)
      | in_default w ↦
          let none = left [] test read seen (denominators-none c.written_time.result w.in_default.not-Each) in
          subst (λ (m : Multiple). IsGrowing (10 ^ 9) Denominator start all m rest) (sym w.denominator-is)
          (left-to (10 ^ 9) Denominator start all c.loop-row.denominator _ _ none c.loop-row.invariant)
    ]

pub returns-clause-accepted : goal.returns-clause-accepted
returns-clause-accepted c table same is_step =
    let rows = c.args.rows.now in
    let none = left-none denominators_in rows c.loop-row.row-index c.loop-row-test.false in
    long_denominator-is table rows c.args.step same is_step
    ∙ ap (too_long Denominator)
    (grown-all (10 ^ 9) Denominator (step_den c.args.step) (of_rows denominators_in rows) c.loop-row.denominator _ none
    c.loop-row.invariant)

pub returns-clause-denominator : goal.returns-clause-denominator
returns-clause-denominator c table same is_step =
    let rows = c.args.rows.now in
    let none = left-none denominators_in rows c.loop-row.row-index c.loop-row-test.false in
    grown-value (10 ^ 9) Denominator (step_den c.args.step) (of_rows denominators_in rows) c.loop-row.denominator _ none
    c.loop-row.invariant
    ∙ common_denominator-is table rows c.args.step same is_step
