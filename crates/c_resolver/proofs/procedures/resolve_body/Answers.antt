use Rattle.std.proofs.Common.{sym, ◌∙◌, ap, subst, map, [], ℕ, List, Vec, Result}
use Rattle.std.specs.declared.alloc.Global.{Global}
use Rattle.c_syntax.specs.declared.code.Stmt.{Stmt}
use Rattle.c_syntax.specs.declared.fault.CFault.{CFault}
use Rattle.c_syntax.specs.Plain.{stmt_tree}
use Rattle.c_syntax.specs.Tree.{StmtTrees, stmts_of_list}
use Rattle.c_grammar.specs.declared.written.WrittenParam.{WrittenParam as TypedParam}
use Rattle.c_grammar.specs.declared.written.WrittenStmt.{WrittenStmt}
use Rattle.c_grammar.specs.Written.{WrittenParam}
use Rattle.c_grammar.specs.Parsing.{stmts_from}
use Rattle.c_rules.specs.Resolve.{function_names, check_params, resolve_stmts}
use Rattle.c_grammar.specs.WrittenTrees.{stmt_of, param_of, procedure_of}
use Rattle.c_resolver.specs.Bodies.{procedure_body}
use Rattle.c_rules.specs.Gives.{Fails, Gives}
use Rattle.c_resolver.specs.Scopes.{known_of}
use Rattle.c_rules.proofs.lemmas.Fails.{gives-same}
use Rattle.c_resolver.proofs.ProcedureLaws.{procedure_scope, fails_params, behind_params}
use Rattle.c_resolver.proofs.procedures.resolve_body.Goals as goal

pub returns-in_err-names : goal.returns-in_err-names
returns-in_err-names c =
    let known = known_of c.args.known.now in
    let p = procedure_of c.args.p.now in
    let lines = ap (λ (ps : List TypedParam). map (λ (q : WrittenParam). (q.line, q.name)) (map param_of ps)) c.as_slice.ensures.value in
    let e = c.in_err-names.field-0.0 in
    gives-same (λ (v : Vec Stmt Global). stmts_of_list (map stmt_tree v.items)) c.from_residual.result e
    (procedure_body known c.args.of p) c.from_residual.ensures.1
    (fails_params known p c.args.of e
    (subst (λ (ps : List (ℕ × List ℕ)). Fails e (check_params (function_names known) [] ps)) lines
    c.in_err-names.ensures.checked))

pub returns : goal.returns
returns c =
    let known = known_of c.args.known.now in
    let p = procedure_of c.args.p.now in
    let lines = ap (λ (ps : List TypedParam). map (λ (q : WrittenParam). (q.line, q.name)) (map param_of ps)) c.as_slice.ensures.value in
    let names = c.in_ok-names.ensures.names
    ∙ ap (λ (ps : List TypedParam). map (λ (q : WrittenParam). q.name) (map param_of ps)) c.as_slice.ensures.value in
    let checked = ap (check_params (function_names known) []) (sym lines) ∙ c.in_ok-names.ensures.checked in
    let body = ap (λ (ss : List WrittenStmt). stmts_from (map stmt_of ss)) c.as_slice-2.ensures.value in
    subst (λ (ruled : Result StmtTrees CFault).
    Gives (λ (v : Vec Stmt Global). stmts_of_list (map stmt_tree v.items)) c.resolve_stmts.result ruled)
    ((λ j. resolve_stmts (procedure_scope known c.args.of (names j)) (body j)) ∙ behind_params known p c.args.of checked)
    c.resolve_stmts.ensures
