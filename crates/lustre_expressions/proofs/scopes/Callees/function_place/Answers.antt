use Rattle.std.proofs.Common.{sym, ap, ◌∙◌}
use Rattle.std.proofs.lemmas.Bool.{ltb-true}
use Rattle.lustre_expressions.specs.Found.{place_in}
use Rattle.lustre_expressions.proofs.NameLaws.{function_at}
use Rattle.lustre_expressions.proofs.scopes.Callees.function_place.Goals as goal

pub returns-in-Some : goal.returns-in-Some
returns-in-Some c =
    let self = c.args.self.now in
    c.place.ensures
    ∙ ap (place_in self.places.now)
    (c.bytes.ensures ∙ function_at self.functions.now c.args.function c.in-Some.pure.now
    (ltb-true _ _ (sym c.in-Some.ensures.lookup.0)) c.in-Some.ensures.lookup.1 self.prelude)
