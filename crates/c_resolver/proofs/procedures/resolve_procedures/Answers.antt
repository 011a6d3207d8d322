use Rattle.std.proofs.Common.{◌∙◌, ap, map, drop, ◌++◌, ◌∷◌, [], ◌+◌}
use Rattle.c_syntax.specs.Chains.{stmts_chain}
use Rattle.c_rules.specs.Resolve.{resolve_procedure, resolve_procedures}
use Rattle.c_grammar.specs.WrittenTrees.{procedure_of}
use Rattle.c_resolver.specs.Scopes.{known_of}
use Rattle.c_rules.proofs.lemmas.ParamLaws.{from_place}
use Rattle.c_rules.proofs.lemmas.Fails.{gives-same, fails-bind}
use Rattle.c_resolver.proofs.procedures.resolve_procedures.Goals as goal

pub returns-in_err-procedure : goal.returns-in_err-procedure
returns-in_err-procedure c =
    let known = known_of c.loop-p.known in
    let i = c.loop-p.p-index in
    let e = c.in_err-procedure.field-0.0 in
    let whole = resolve_procedures (known_of c.args.known.now) (map procedure_of c.args.procedures.now) in
    gives-same (λ _. known_of c.loop-p.known) c.from_residual.result e whole c.from_residual.ensures.1
    (fails-bind e (resolve_procedure known (procedure_of c.p-item.result))
    (λ x. resolve_procedures
    (record known {
      procedures = known.procedures ++ x ∷ [];
      chains = known.chains ++ (stmts_chain known.chains x.body + 1) ∷ [];
    })
    (map procedure_of (drop (i + 1) c.args.procedures.now))) whole (c.loop-p.invariant
    ∙ ap (resolve_procedures known)
    (from_place procedure_of c.args.procedures.now i c.p-item.result c.loop-p-test.true c.p-item.is))
    c.in_err-procedure.ensures.resolved)
