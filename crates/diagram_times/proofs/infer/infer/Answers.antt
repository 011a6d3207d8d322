use Rattle.std.proofs.Common.{◌≡◌, refl, sym, ◌∙◌, ap, subst, length, List, Option, None, Some}
use Rattle.std.specs.Prelude.{MatchOption}
use Rattle.base_refusals.specs.Refusals.{PlainRefusal}
use Rattle.diagram_meaning.specs.declared.times.Time.{Time}
use Rattle.base_refusals.specs.FirstRefusal.{as_plain}
use Rattle.diagram_meaning.specs.RowTable.{RowTable}
use Rattle.diagram_meaning.specs.TimeRefusals.{AreInputTimes, HasTimeRefusal, rate_refusal, written_time_refusal}
use Rattle.diagram_times.proofs.infer.infer.Goals as goal

-- the first refusal, where nothing is wrong with what is written
by-rates : (table : RowTable) (inside : List Time) (found : Option PlainRefusal) → written_time_refusal table ≡ None →
    AreInputTimes table inside →
    found ≡ rate_refusal table inside → HasTimeRefusal table found
by-rates table inside found none input e =
    subst (λ written. MatchOption written ((inside : List Time) × AreInputTimes table inside
    × (found ≡ rate_refusal table inside)) (λ refusal. found ≡ Some refusal))
    (sym none) (inside, input, e)

pub least_bad_rate-requires-clause-len : goal.least_bad_rate-requires-clause-len
least_bad_rate-requires-clause-len c =
    let table : RowTable = record { rows = c.args.rows.now; fixed_step = c.args.step } in
    let input : AreInputTimes table c.in_ok-inside.inside.items = c.in_ok-inside.ensures table refl c.in-Ok.ensures.base in
    ap length c.deref-3.ensures.value ∙ input.one_each

pub run_times-requires-clause-len : goal.run_times-requires-clause-len
run_times-requires-clause-len c =
    let table : RowTable = record { rows = c.args.rows.now; fixed_step = c.args.step } in
    let input : AreInputTimes table c.in_ok-inside.inside.items = c.in_ok-inside.ensures table refl c.in-Ok.ensures.base in
    ap length c.deref-5.ensures.value ∙ input.one_each

pub delay_marks-requires-clause-len : goal.delay_marks-requires-clause-len
delay_marks-requires-clause-len c =
    let table : RowTable = record { rows = c.args.rows.now; fixed_step = c.args.step } in
    let input : AreInputTimes table c.in_ok-inside.inside.items = c.in_ok-inside.ensures table refl c.in-Ok.ensures.base in
    ap length c.deref-7.ensures.value ∙ input.one_each

pub returns-in-Some-clause-refused : goal.returns-in-Some-clause-refused
returns-in-Some-clause-refused c =
    let table : RowTable = record { rows = c.args.rows.now; fixed_step = c.args.step } in
    let input : AreInputTimes table c.in_ok-inside.inside.items = c.in_ok-inside.ensures table refl c.in-Ok.ensures.base in
    let seen = subst (AreInputTimes table) (sym c.deref-3.ensures.value) input in
    by-rates table c.deref-3.result.now _ c.in-Ok.ensures.accepted seen
    (sym (ap as_plain c.in-Some.is) ∙ c.least_bad_rate.ensures table refl c.in-Ok.ensures.base)

pub returns-clause-times : goal.returns-clause-times
returns-clause-times c =
    let table : RowTable = record { rows = c.args.rows.now; fixed_step = c.args.step } in
    let input : AreInputTimes table c.in_ok-inside.inside.items = c.in_ok-inside.ensures table refl c.in-Ok.ensures.base in
    let is = c.in-Ok.ensures.base in
    let seen = subst (AreInputTimes table) (sym c.deref-3.ensures.value) input in
    let run = c.in_ok-run.ensures table refl is (subst (AreInputTimes table) (sym c.deref-5.ensures.value) input) in
    let delays = c.in_ok-delays.ensures table refl is (subst (AreInputTimes table) (sym c.deref-7.ensures.value) input) in
    record {
      accepted = by-rates table c.deref-3.result.now _ c.in-Ok.ensures.accepted seen
          (sym (ap as_plain c.in_default.is) ∙ c.least_bad_rate.ensures table refl is);
      are_times = record {
        run_length = run.len;
        run = run.each;
        delays_length = delays.len;
        delays = delays.each;
        hyper = c.in-Ok.ensures.hyper;
      };
    }
