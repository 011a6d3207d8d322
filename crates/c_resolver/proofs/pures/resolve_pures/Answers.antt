use Rattle.std.proofs.Common.{◌∙◌, ap, map, drop, ◌++◌, ◌∷◌, [], ◌+◌}
use Rattle.c_rules.specs.Resolve.{resolve_pure, resolve_pures}
use Rattle.c_grammar.specs.WrittenTrees.{pure_of}
use Rattle.c_resolver.specs.Scopes.{known_of}
use Rattle.c_rules.proofs.lemmas.ParamLaws.{from_place}
use Rattle.c_rules.proofs.lemmas.Fails.{gives-same, fails-bind}
use Rattle.c_resolver.proofs.pures.resolve_pures.Goals as goal

pub returns-in_err-pure : goal.returns-in_err-pure
returns-in_err-pure c =
    let known = known_of c.loop-p.known in
    let i = c.loop-p.p-index in
    let e = c.in_err-pure.field-0.0 in
    let whole = resolve_pures (known_of c.args.known.now) (map pure_of c.args.pures.now) in
    gives-same (λ _. known_of c.loop-p.known) c.from_residual.result e whole c.from_residual.ensures.1
    (fails-bind e (resolve_pure known (pure_of c.p-item.result))
    (λ x. resolve_pures (record known { pures = known.pures ++ x ∷ [] })
    (map pure_of (drop (i + 1) c.args.pures.now))) whole (c.loop-p.invariant
    ∙ ap (resolve_pures known)
    (from_place pure_of c.args.pures.now i c.p-item.result c.loop-p-test.true c.p-item.is))
    c.in_err-pure.ensures.resolved)
