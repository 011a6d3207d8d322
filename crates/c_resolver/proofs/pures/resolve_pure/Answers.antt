use Rattle.std.proofs.Common.{sym, ◌∙◌, ap, map, Ok}
use Rattle.c_syntax.specs.Plain.{pure_tree, expr_tree}
use Rattle.c_grammar.specs.Written.{WrittenPureParam}
use Rattle.c_rules.specs.Resolve.{resolve_pure}
use Rattle.c_grammar.specs.WrittenTrees.{pure_of, pure_param_of}
use Rattle.c_resolver.specs.Scopes.{known_of}
use Rattle.c_rules.proofs.lemmas.NamedPlaces.{map-map}
use Rattle.c_rules.proofs.lemmas.Fails.{gives-same}
use Rattle.c_resolver.proofs.PureLaws.{fails_body, gives_pure}
use Rattle.c_resolver.proofs.pures.resolve_pure.Goals as goal

pub returns-in_err-body-clause-resolved : goal.returns-in_err-body-clause-resolved
returns-in_err-body-clause-resolved c =
    let known = known_of c.args.known.now in
    let p = pure_of c.args.p.now in
    let e = c.in_err-body.field-0.0 in
    gives-same pure_tree c.from_residual-in_err-body.result e
    (resolve_pure known p) c.from_residual-in_err-body.ensures.1
    (fails_body known p (sym c.has_function.ensures ∙ c.if-has_function.false) e c.in_err-body.ensures)

pub returns-clause-resolved : goal.returns-clause-resolved
returns-clause-resolved c =
    let known = known_of c.args.known.now in
    let p = pure_of c.args.p.now in
    let items = c.args.p.now.params.items in
    let texts = c.in_ok-params.ensures ∙ ap (map (λ q. q.name.now)) c.as_slice.ensures.value
    ∙ sym (map-map (λ (q : WrittenPureParam). q.name) pure_param_of items) in
    gives_pure known p (sym c.has_function.ensures ∙ c.if-has_function.false) (expr_tree c.in_ok-body.body)
    c.in_ok-body.ensures
    ∙ (λ j. Ok
    (record {
      name = sym c.in_ok-name.ensures j;
      params = sym texts j;
      body = expr_tree c.in_ok-body.body;
      line = p.return_line;
    }))
