use Rattle.std.proofs.Common.{◌≡◌, refl, sym, ◌∙◌, ap, None, Some}
use Rattle.base_refusals.specs.Refusals.{plain_refusal}
use Rattle.base_refusals.specs.FirstRefusal.{as_plain, least_line}
use Rattle.diagram_meaning.specs.RowTable.{RowTable}
use Rattle.diagram_meaning.specs.TimeRefusals.{times_inside, written_time_refusal, long_denominator, long_period, long_cycle}
use Rattle.diagram_times.specs.Bases.{IsBaseOf}
use Rattle.diagram_times.proofs.Growing.{refused-same}
use Rattle.diagram_times.proofs.WrittenTicks.{are-countable, counted-short, base-low, at-denominator, at-period, at-cycle, at-none}
use Rattle.diagram_times.proofs.infer.ticks_of.Goals as goal

pub returns-in_err-denominator-clause-refused : goal.returns-in_err-denominator-clause-refused
returns-in_err-denominator-clause-refused c =
    let table : RowTable = record { rows = c.args.rows.now; fixed_step = c.args.step } in
    let e = c.in_err-denominator.field-0.0 in
    refused-same c.from_residual.result e (λ r. written_time_refusal table ≡ Some (plain_refusal r)) c.from_residual.ensures.1
    (at-denominator (least_line (times_inside table.rows)) (long_denominator table) (long_period table) (long_cycle table) (plain_refusal e)
    (sym c.in_default.ensures) (c.in_err-denominator.ensures.refused table refl refl))

pub long_period-requires : goal.long_period-requires
long_period-requires c =
    let table : RowTable = record { rows = c.args.rows.now; fixed_step = c.args.step } in
    let common = c.in_ok-denominator.ensures.denominator table refl refl in
    let base = c.base_tick-base.result in
    let is : IsBaseOf table base = c.base_tick-base.ensures table refl refl common in
    let low = base-low table base c.in_ok-denominator.denominator is common c.in_ok-denominator.ensures.low in
    are-countable table base is low c.requires.lawful.texts

pub returns-in-Some-long_period-clause-refused : goal.returns-in-Some-long_period-clause-refused
returns-in-Some-long_period-clause-refused c =
    let table : RowTable = record { rows = c.args.rows.now; fixed_step = c.args.step } in
    let common = c.in_ok-denominator.ensures.denominator table refl refl in
    let base = c.base_tick-base.result in
    let is : IsBaseOf table base = c.base_tick-base.ensures table refl refl common in
    let low = base-low table base c.in_ok-denominator.denominator is common c.in_ok-denominator.ensures.low in
    let e = c.in-Some-long_period.refused in
    at-period (least_line (times_inside table.rows)) (long_denominator table) (long_period table) (long_cycle table) (plain_refusal e)
    (sym c.in_default.ensures) (c.in_ok-denominator.ensures.accepted table refl refl)
    (sym (c.long_period.ensures table refl is) ∙ ap as_plain c.in-Some-long_period.is)

pub hyperperiod-requires : goal.hyperperiod-requires
hyperperiod-requires c =
    let table : RowTable = record { rows = c.args.rows.now; fixed_step = c.args.step } in
    let common = c.in_ok-denominator.ensures.denominator table refl refl in
    let base = c.base_tick-base.result in
    let is : IsBaseOf table base = c.base_tick-base.ensures table refl refl common in
    let low = base-low table base c.in_ok-denominator.denominator is common c.in_ok-denominator.ensures.low in
    let short : long_period table ≡ None = sym (c.in_default-long_period.ensures table refl is) in
    counted-short table base is low c.requires.lawful.texts short

pub returns-in_err-hyper-clause-refused : goal.returns-in_err-hyper-clause-refused
returns-in_err-hyper-clause-refused c =
    let table : RowTable = record { rows = c.args.rows.now; fixed_step = c.args.step } in
    let common = c.in_ok-denominator.ensures.denominator table refl refl in
    let base = c.base_tick-base.result in
    let is : IsBaseOf table base = c.base_tick-base.ensures table refl refl common in
    let low = base-low table base c.in_ok-denominator.denominator is common c.in_ok-denominator.ensures.low in
    let short : long_period table ≡ None = sym (c.in_default-long_period.ensures table refl is) in
    let e = c.in_err-hyper.field-0.0 in
    refused-same c.from_residual-in_err-hyper.result e (λ r. written_time_refusal table
    ≡ Some (plain_refusal r)) c.from_residual-in_err-hyper.ensures.1
    (at-cycle (least_line (times_inside table.rows)) (long_denominator table) (long_period table) (long_cycle table) (plain_refusal e)
    (sym c.in_default.ensures) (c.in_ok-denominator.ensures.accepted table refl refl) short (c.in_err-hyper.ensures.refused table refl is))

pub returns-clause-accepted : goal.returns-clause-accepted
returns-clause-accepted c =
    let table : RowTable = record { rows = c.args.rows.now; fixed_step = c.args.step } in
    let common = c.in_ok-denominator.ensures.denominator table refl refl in
    let base = c.base_tick-base.result in
    let is : IsBaseOf table base = c.base_tick-base.ensures table refl refl common in
    let low = base-low table base c.in_ok-denominator.denominator is common c.in_ok-denominator.ensures.low in
    let short : long_period table ≡ None = sym (c.in_default-long_period.ensures table refl is) in
    at-none (least_line (times_inside table.rows)) (long_denominator table) (long_period table) (long_cycle table)
    (sym c.in_default.ensures) (c.in_ok-denominator.ensures.accepted table refl refl) short (c.in_ok-hyper.ensures.accepted table refl is)

pub returns-clause-base : goal.returns-clause-base
returns-clause-base c =
    let table : RowTable = record { rows = c.args.rows.now; fixed_step = c.args.step } in
    c.base_tick-base.ensures table refl refl (c.in_ok-denominator.ensures.denominator table refl refl)

pub returns-clause-counted : goal.returns-clause-counted
returns-clause-counted c =
    let table : RowTable = record { rows = c.args.rows.now; fixed_step = c.args.step } in
    let common = c.in_ok-denominator.ensures.denominator table refl refl in
    let base = c.base_tick-base.result in
    let is : IsBaseOf table base = c.base_tick-base.ensures table refl refl common in
    let low = base-low table base c.in_ok-denominator.denominator is common c.in_ok-denominator.ensures.low in
    let short : long_period table ≡ None = sym (c.in_default-long_period.ensures table refl is) in
    counted-short table base is low c.requires.lawful.texts short

pub returns-clause-hyper : goal.returns-clause-hyper
returns-clause-hyper c =
    let table : RowTable = record { rows = c.args.rows.now; fixed_step = c.args.step } in
    let is : IsBaseOf table c.base_tick-base.result =
    c.base_tick-base.ensures table refl refl (c.in_ok-denominator.ensures.denominator table refl refl) in
    c.in_ok-hyper.ensures.cycle table refl is
