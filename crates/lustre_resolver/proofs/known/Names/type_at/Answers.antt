use Rattle.std.proofs.Common.{sym, ◌∙◌, ap, length, List, ℕ, Bool}
use Rattle.std.proofs.lemmas.Bool.{ltb-true}
use Rattle.lustre_syntax.specs.Plain.{declared_names}
use Rattle.lustre_syntax.specs.Tree.{types_of}
use Rattle.lustre_syntax.specs.Typing.{type_at}
use Rattle.lustre_resolver.proofs.GivenLaws.{type-here}
use Rattle.lustre_resolver.proofs.known.Names.type_at.Goals as goal

pub returns-in-Some : goal.returns-in-Some
returns-in-Some c =
    type-here c.deref.result.now c.args.place c.in-Some.field-0.now
    (ltb-true c.args.place (length c.deref.result.now) (sym c.in-Some.ensures.lookup.0)) c.in-Some.ensures.lookup.1
    ∙ ap (λ (xs : List (List ℕ × Bool)). type_at (types_of (declared_names xs)) c.args.place) c.deref.ensures.value
