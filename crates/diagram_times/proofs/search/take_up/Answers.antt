use Rattle.std.proofs.Common.{refl, sym, subst, ◌∙◌, Option}
use Rattle.diagram_meaning.specs.declared.times.Time.{Time}
use Rattle.diagram_times.specs.Hulls.{IsWidened}
use Rattle.diagram_times.proofs.search.take_up.Goals as goal

pub returns : goal.returns
returns c = (
  c.in-Some.time,
  c.in-Some-widened.wider,
  sym c.found_at.ensures ∙ c.in-Some.is,
  refl,
  subst (λ (o : Option Time). IsWidened o c.in-Some.time c.in-Some-widened.wider) c.found_at-2.ensures c.in-Some-widened.ensures,
)
