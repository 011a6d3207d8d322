use Rattle.std.proofs.Common.{◌≡◌, Option, subst, sym, true≢false, ◌∙◌}
use Rattle.diagram_meaning.specs.declared.times.Time.{Time}
use Rattle.diagram_meaning.specs.SampleTimes.{Includes}
use Rattle.diagram_times.specs.Hulls.{IsWidened}
use Rattle.diagram_times.proofs.HullLemmas.{widened-some}
use Rattle.diagram_times.proofs.search.widened.Goals as goal

pub returns-in-Some-2 : goal.returns-in-Some-2
returns-in-Some-2 c =
    let same : c.in-Some-2.found ≡ c.in-Some.found = cc (c.in-Some-2.is, c.in-Some.is) in
    subst (λ (o : Option Time). IsWidened o c.args.time c.hull.result) (sym c.in-Some-2.is)
    (widened-some c.in-Some-2.found c.args.time c.hull.result c.hull.ensures
    (λ is. true≢false (sym (c.includes.ensures.1 (subst (λ (t : Time). Includes t c.args.time) same is)) ∙ c.if-includes.false)))
