use Rattle.std.proofs.Common.{◌≡◌, List, ℕ, get_or, subst, refl, rules}
use Rattle.modules_certificate.specs.declared.Difference.{Difference}
use Rattle.modules_report.specs.Stops.{NoneBegins}
use Rattle.modules_report.specs.Texts.{differ_line}
use Rattle.modules_report.proofs.Stopping.{stops-at-difference}
use Rattle.modules_report.proofs.reading.read_differences.Goals as goal

abbrev none : Difference
none = record { first = 0; second = 0; bit = 0 }

pub returns-in-None-clause-stops : goal.returns-in-None-clause-stops
returns-in-None-clause-stops c =
    let line : c.as_bytes.result.now ≡ differ_line c.args.ports.now (get_or c.args.differ.now c.loop-d.d-index none) = search rules in
    let other : NoneBegins c.loop-d.rest.now c.as_bytes.result.now = search rules in
    stops-at-difference c.args.ports.now c.args.differ.now c.loop-d.d-index none c.args.text.now c.loop-d.rest.now _ c.loop-d-test.true
    c.loop-d.invariant refl (subst (λ (t : List ℕ). NoneBegins c.loop-d.rest.now t) line other)
