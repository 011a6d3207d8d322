use Rattle.std.proofs.Common.{sym, ◌∙◌, ap, ◌+◌, [], map, drop, List}
use Rattle.c_rules.proofs.lemmas.Each.{map_push}
use Rattle.c_rules.proofs.lemmas.ParamLaws.{from_place}
use Rattle.lustre_syntax.specs.declared.code.LusEq.{LusEq}
use Rattle.lustre_syntax.specs.Plain.{equation_tree}
use Rattle.lustre_grammar.specs.Written.{WrittenEquation}
use Rattle.lustre_grammar.specs.WrittenTrees.{equation_of}
use Rattle.lustre_rules.specs.Resolve.{resolve_equation}
use Rattle.lustre_resolver.specs.Scopes.{scope_of}
use Rattle.lustre_resolver.proofs.EquationLaws.{equation_next, equations-walk}
use Rattle.lustre_resolver.proofs.Walks.{walk_after, walk-begins, walk-more}
use Rattle.lustre_resolver.proofs.equations.resolve_equations.Goals as goal

pub loop-e-init : goal.loop-e-init
loop-e-init c =
    let place = c.args.place.now in
    let es = map equation_of c.args.equations.now in
    let none = sym c.new-resolved.ensures.items in
    let given = sym c.new-given.ensures in
    equations-walk (scope_of place []) es ∙ walk-begins resolve_equation equation_next (scope_of place []) es
    ∙ (λ j. walk_after resolve_equation equation_next (map equation_tree (none j)) (scope_of place (given j)) es)

pub loop-e-preserved : goal.loop-e-preserved
loop-e-preserved c =
    let place = c.args.place.now in
    let es = c.args.equations.now in
    let i = c.loop-e.e-index in
    let scope = scope_of place c.loop-e.given.places.keys in
    let done = map equation_tree c.loop-e.resolved.items in
    let rest = map equation_of (drop (i + 1) es) in
    let x = c.in_ok-resolve_equation.field-0 in
    let taken = sym c.in_ok-resolve_equation.ensures.taken in
    let more = map_push equation_tree c.loop-e.resolved.items x
    ∙ ap (λ (xs : List LusEq). map equation_tree xs) (sym c.in_ok-push.ensures.items) in
    c.loop-e.invariant
    ∙ ap (λ (ws : List WrittenEquation). walk_after resolve_equation equation_next done scope ws)
    (from_place equation_of es i c.e-item.result c.loop-e-test.true c.e-item.is)
    ∙ walk-more resolve_equation equation_next done scope (equation_of c.e-item.result) rest (equation_tree x)
    c.in_ok-resolve_equation.ensures.resolved
    ∙ (λ j. walk_after resolve_equation equation_next (more j) (scope_of place (taken j)) rest)
