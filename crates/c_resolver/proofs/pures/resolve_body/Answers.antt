use Rattle.std.proofs.Common.{sym, ◌∙◌, ap, subst, map, [], ℕ, List, Result}
use Rattle.c_syntax.specs.Plain.{expr_tree}
use Rattle.c_syntax.specs.Tree.{ExprTree}
use Rattle.c_syntax.specs.declared.fault.CFault.{CFault}
use Rattle.c_grammar.specs.Written.{WrittenPureParam}
use Rattle.c_rules.specs.Resolve.{function_names, check_params, resolve_expr}
use Rattle.c_grammar.specs.WrittenTrees.{pure_of, pure_param_of}
use Rattle.c_resolver.specs.Bodies.{pure_body}
use Rattle.c_rules.specs.Gives.{Fails, Gives}
use Rattle.c_resolver.specs.Scopes.{known_of}
use Rattle.c_resolver.specs.Params.{line_and_name}
use Rattle.c_rules.proofs.lemmas.NamedPlaces.{map-map}
use Rattle.c_rules.proofs.lemmas.Fails.{gives-same}
use Rattle.c_resolver.proofs.PureLaws.{pure_scope, fails_params, behind_params}
use Rattle.c_resolver.proofs.pures.resolve_body.Goals as goal

pub returns-in_err-names : goal.returns-in_err-names
returns-in_err-names c =
    let known = known_of c.args.known.now in
    let p = pure_of c.args.p.now in
    let lines = ap (map line_and_name) c.as_slice.ensures.value
    ∙ sym (map-map (λ (q : WrittenPureParam). (q.line, q.name)) pure_param_of c.args.p.now.params.items) in
    let e = c.in_err-names.field-0.0 in
    gives-same expr_tree c.from_residual.result e (pure_body known p) c.from_residual.ensures.1
    (fails_params known p e
    (subst (λ (ps : List (ℕ × List ℕ)). Fails e (check_params (function_names known) [] ps)) lines
    c.in_err-names.ensures.checked))

pub returns : goal.returns
returns c =
    let known = known_of c.args.known.now in
    let p = pure_of c.args.p.now in
    let items = c.args.p.now.params.items in
    let lines = ap (map line_and_name) c.as_slice.ensures.value
    ∙ sym (map-map (λ (q : WrittenPureParam). (q.line, q.name)) pure_param_of items) in
    let names = c.in_ok-names.ensures.names ∙ ap (map (λ q. q.name.now)) c.as_slice.ensures.value
    ∙ sym (map-map (λ (q : WrittenPureParam). q.name) pure_param_of items) in
    let checked = ap (check_params (function_names known) []) (sym lines) ∙ c.in_ok-names.ensures.checked in
    subst (λ (ruled : Result ExprTree CFault). Gives expr_tree c.resolve_expr.result ruled)
    (ap (λ (ns : List (List ℕ)). resolve_expr (pure_scope known ns) p.body) names ∙ behind_params known p checked)
    c.resolve_expr.ensures
