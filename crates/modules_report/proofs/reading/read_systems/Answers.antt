use Rattle.std.proofs.Common.{◌≡◌, ◌<◌, ◌^◌, ◌+◌, List, ◌∷◌, [], length, inl, refl, ap, ◌∙◌, arith, rules}
use Rattle.std.proofs.lemmas.List.{length-append}
use Rattle.modules_report.specs.PlainReport.{PlainReport}
use Rattle.modules_report.specs.Reading.{IsSystemReport}
use Rattle.modules_report.specs.Stops.{NoneBegins, StopsIn, StopsInSystem}
use Rattle.modules_report.specs.Texts.{last_line}
use Rattle.modules_report.proofs.FunctionLines.{all-more}
use Rattle.modules_report.proofs.Handed.{handed, never-left}
use Rattle.modules_report.proofs.ReadSystems.{systems_on}
use Rattle.modules_report.proofs.Stopping.{no-head-stands, no-last-stands, shorter}
use Rattle.modules_report.proofs.SystemStops.{stops-behind, stops-in-system}
use Rattle.modules_report.proofs.reading.read_systems.Goals as goal

pub loop-preserved : goal.loop-preserved
loop-preserved c = record {
  text = systems_on c.args.bytes.now c.loop.rest.now c.in_ok-report.next.now c.loop.reports.items c.push.new.self.items
      c.in_ok-report.report
      c.in_ok-push.ensures.items c.loop.invariant.text c.in_ok-report.ensures.text;
  each = all-more IsSystemReport c.loop.reports.items c.push.new.self.items c.in_ok-report.report c.in_ok-push.ensures.items
      c.loop.invariant.each c.in_ok-report.ensures.report;
  number = (let e : length c.push.new.self.items ≡ length c.loop.reports.items + 1 =
      ap (λ (rs : List PlainReport). length rs) c.in_ok-push.ensures.items
      ∙ length-append c.loop.reports.items (c.in_ok-report.report ∷ []) in
      let before = c.loop.invariant.number in omega (arith, e, before));
  short = (let less = shorter c.in_ok-report.report c.loop.rest.now c.in_ok-report.next.now c.in_ok-report.ensures.text in
      let before = c.loop.invariant.short in omega (arith, less, before));
}

pub returns-in_err-end-clause-stops : goal.returns-in_err-end-clause-stops
returns-in_err-end-clause-stops c =
    never-left c.from_residual.result c.in_err-end.field-0.0 (StopsIn c.args.bytes.now) c.from_residual.ensures.1
    c.in_err-end.ensures.memory

pub returns-in-Some-clause-stops : goal.returns-in-Some-clause-stops
returns-in-Some-clause-stops c =
    let len : c.len.result ≡ length c.loop.reports.items = search rules in
    stops-behind c.args.bytes.now c.loop.rest.now c.in-Some.end.now c.len.result c.loop.reports.items
    c.loop.invariant.each c.loop.invariant.text len
    (search rules) (search rules) (λ none. let not_empty = c.if-is_empty.false in let tested = c.is_empty.ensures in
    search (rules, none, not_empty, tested))

pub returns-in_err-report-clause-stops : goal.returns-in_err-report-clause-stops
returns-in_err-report-clause-stops c =
    let len : c.len.result ≡ length c.loop.reports.items = search rules in
    let no_last : NoneBegins c.loop.rest.now (last_line c.len.result) = search rules in
    handed c.from_residual-in_err-report.result c.in_err-report.field-0.0 (StopsInSystem c.loop.rest.now) (StopsIn c.args.bytes.now)
    c.from_residual-in_err-report.ensures.1
    (λ left at. stops-in-system c.args.bytes.now c.loop.rest.now left c.len.result c.loop.reports.items
    c.loop.invariant.each c.loop.invariant.text len
    (search rules) no_last at)
    c.in_err-report.ensures.stops

pub returns-clause-stops : goal.returns-clause-stops
returns-clause-stops c =
    let number = c.loop.invariant.number in let short = c.loop.invariant.short in let done = c.loop-test.false in
    let most = c.loop.auto.counter-end in
    let none : length c.loop.rest.now ≡ 0 = omega (arith, short, done) in
    let fits : length c.loop.reports.items < 2 ^ 64 = omega (arith, number, most) in
    stops-in-system c.args.bytes.now c.loop.rest.now _ (length c.loop.reports.items) c.loop.reports.items
    c.loop.invariant.each c.loop.invariant.text refl
    fits (no-last-stands c.loop.rest.now (length c.loop.reports.items) none) (inl (no-head-stands c.loop.rest.now none, refl))
