use Rattle.std.proofs.Common.{◌∙◌, ap, map, drop, ◌++◌, ◌∷◌, [], ◌+◌}
use Rattle.c_rules.specs.Resolve.{resolve_struct, resolve_structs}
use Rattle.c_grammar.specs.WrittenTrees.{struct_of}
use Rattle.c_resolver.specs.Scopes.{known_of}
use Rattle.c_rules.proofs.lemmas.ParamLaws.{from_place}
use Rattle.c_rules.proofs.lemmas.Fails.{gives-same, fails-bind}
use Rattle.c_resolver.proofs.structs.resolve_structs.Goals as goal

pub returns-in_err-def : goal.returns-in_err-def
returns-in_err-def c =
    let known = known_of c.loop-d.known in
    let i = c.loop-d.d-index in
    let e = c.in_err-def.field-0.0 in
    let whole = resolve_structs (known_of c.args.known.now) (map struct_of c.args.structs.now) in
    gives-same (λ _. known_of c.loop-d.known) c.from_residual.result e whole c.from_residual.ensures.1
    (fails-bind e (resolve_struct known (struct_of c.d-item.result))
    (λ x. resolve_structs (record known { structs = known.structs ++ x ∷ [] })
    (map struct_of (drop (i + 1) c.args.structs.now))) whole (c.loop-d.invariant
    ∙ ap (resolve_structs known)
    (from_place struct_of c.args.structs.now i c.d-item.result c.loop-d-test.true c.d-item.is))
    c.in_err-def.ensures.resolved)
