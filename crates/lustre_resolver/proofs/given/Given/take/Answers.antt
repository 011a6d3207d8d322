use Rattle.std.proofs.Common.{sym, ◌∙◌, ap, Err}
use Rattle.lustre_resolver.specs.Scopes.{scope_of}
use Rattle.lustre_resolver.proofs.GivenLaws.{given-input, given-again, given-new}
use Rattle.lustre_resolver.proofs.given.Given.take.Goals as goal

pub returns-then-k-place-clause-given : goal.returns-then-k-place-clause-given
returns-then-k-place-clause-given c =
    given-input c.args.line (scope_of c.args.place.now c.args.self.now.places.keys) c.args.name.now c.in-Some.k
    (sym c.position.ensures ∙ c.in-Some.is) c.if-k-place.true ∙ ap Err (sym c.fault_at.ensures)

pub returns-then-is_new-clause-given : goal.returns-then-is_new-clause-given
returns-then-is_new-clause-given c =
    given-new c.args.line (scope_of c.args.place.now c.args.self.now.places.keys) c.args.name.now c.in-Some.k
    (sym c.position.ensures ∙ c.in-Some.is) c.if-k-place.false (sym c.in_ok-is_new.ensures.added ∙ c.if-is_new.true)

pub returns-else-is_new-clause-given : goal.returns-else-is_new-clause-given
returns-else-is_new-clause-given c =
    given-again c.args.line (scope_of c.args.place.now c.args.self.now.places.keys) c.args.name.now c.in-Some.k
    (sym c.position.ensures ∙ c.in-Some.is) (sym c.in_ok-is_new.ensures.added ∙ c.if-is_new.false)
    ∙ ap Err (sym c.fault_at.ensures)
