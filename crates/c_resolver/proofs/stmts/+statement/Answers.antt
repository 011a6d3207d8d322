use Rattle.std.proofs.Common.{◌≡◌, sym, ◌∙◌, ap, map, length, List, Vec, Ok, arith}
use Rattle.std.specs.declared.alloc.Global.{Global}
use Rattle.c_syntax.specs.declared.code.Stmt.{Stmt}
use Rattle.c_syntax.specs.Tree.{stmts_of_list}
use Rattle.c_syntax.specs.Plain.{cond_tree, stmt_tree}
use Rattle.c_grammar.specs.Parsing.{stmts_from}
use Rattle.c_rules.specs.Resolve.{resolve_stmt, resolve_stmts}
use Rattle.c_grammar.specs.WrittenTrees.{cond_of, choice_of, stmt_of}
use Rattle.c_resolver.specs.Scopes.{names_of}
use Rattle.c_resolver.proofs.Rows.{stmt_of-If, stmts-each}
use Rattle.c_rules.proofs.lemmas.Each.{each, each-push, each-all, bind_ok}
use Rattle.c_rules.proofs.lemmas.Fails.{gives-same, each-fails}
use Rattle.c_resolver.proofs.ChoiceLaws.{fails_first, fails_second, gives_choice}
use Rattle.c_resolver.proofs.stmts.+statement.Goals as goal

pub resolve_stmt-returns-in_err-on_true-in-If : goal.resolve_stmt-returns-in_err-on_true-in-If
resolve_stmt-returns-in_err-on_true-in-If t c =
    let i = c.in-If in
    let names = names_of c.args.scope.now in
    let first = stmts_from (map stmt_of c.deref.result.now) in
    let second = stmts_from (map stmt_of i.no.items) in
    let is = ap stmt_of i.is ∙ stmt_of-If i.line i.test i.yes i.has_else i.no
    ∙ (λ j. choice_of i.line (cond_of i.test) (stmts_from (map stmt_of (sym c.deref.ensures.value j))) i.has_else
    second) in
    let e = c.in_err-on_true-in-If.field-0.0 in
    gives-same stmt_tree c.from_residual-in_err-on_true-in-If.result e
    (resolve_stmt names (stmt_of c.args.s.now)) c.from_residual-in_err-on_true-in-If.ensures.1
    (fails_first names (stmt_of c.args.s.now) i.line (cond_of i.test) first i.has_else second is
    (cond_tree c.in_ok-test-in-If.test.value) c.in_ok-test-in-If.ensures e c.in_err-on_true-in-If.ensures)

pub resolve_stmt-returns-in_err-on_false-in-If : goal.resolve_stmt-returns-in_err-on_false-in-If
resolve_stmt-returns-in_err-on_false-in-If t c =
    let i = c.in-If in
    let names = names_of c.args.scope.now in
    let first = stmts_from (map stmt_of c.deref.result.now) in
    let second = stmts_from (map stmt_of c.deref-in-If.result.now) in
    let is = ap stmt_of i.is ∙ stmt_of-If i.line i.test i.yes i.has_else i.no
    ∙ (λ j. choice_of i.line (cond_of i.test) (stmts_from (map stmt_of (sym c.deref.ensures.value j))) i.has_else
    (stmts_from (map stmt_of (sym c.deref-in-If.ensures.value j)))) in
    let e = c.in_err-on_false-in-If.field-0.0 in
    gives-same stmt_tree c.from_residual-in_err-on_false-in-If.result e
    (resolve_stmt names (stmt_of c.args.s.now)) c.from_residual-in_err-on_false-in-If.ensures.1
    (fails_second names (stmt_of c.args.s.now) i.line (cond_of i.test) first i.has_else second is
    (cond_tree c.in_ok-test-in-If.test.value) c.in_ok-test-in-If.ensures
    (stmts_of_list (map stmt_tree c.in_ok-on_true-in-If.on_true.items)) c.in_ok-on_true-in-If.ensures e
    c.in_err-on_false-in-If.ensures)

pub resolve_stmt-returns-in_ok-on_false-in-If : goal.resolve_stmt-returns-in_ok-on_false-in-If
resolve_stmt-returns-in_ok-on_false-in-If t c =
    let i = c.in-If in
    let names = names_of c.args.scope.now in
    let first = stmts_from (map stmt_of c.deref.result.now) in
    let second = stmts_from (map stmt_of c.deref-in-If.result.now) in
    let is = ap stmt_of i.is ∙ stmt_of-If i.line i.test i.yes i.has_else i.no
    ∙ (λ j. choice_of i.line (cond_of i.test) (stmts_from (map stmt_of (sym c.deref.ensures.value j))) i.has_else
    (stmts_from (map stmt_of (sym c.deref-in-If.ensures.value j)))) in
    gives_choice names (stmt_of c.args.s.now) i.line (cond_of i.test) first i.has_else second is
    (cond_tree c.in_ok-test-in-If.test.value) c.in_ok-test-in-If.ensures
    (stmts_of_list (map stmt_tree c.in_ok-on_true-in-If.on_true.items)) c.in_ok-on_true-in-If.ensures
    (stmts_of_list (map stmt_tree c.in_ok-on_false-in-If.on_false.items)) c.in_ok-on_false-in-If.ensures
    ∙ ap Ok (sym c.choice.ensures)

pub resolve_stmts-returns-in_err-resolve_stmt : goal.resolve_stmts-returns-in_err-resolve_stmt
resolve_stmts-returns-in_err-resolve_stmt t c =
    let names = names_of c.args.scope.now in
    let ss = c.args.ss.now in
    gives-same (λ (v : Vec Stmt Global). stmts_of_list (map stmt_tree v.items)) c.from_residual.result
    c.in_err-resolve_stmt.field-0.0 (resolve_stmts names (stmts_from (map stmt_of ss))) c.from_residual.ensures.1
    (each-fails (λ s. resolve_stmt names (stmt_of s)) (λ xs. Ok (stmts_of_list xs))
    (resolve_stmts names (stmts_from (map stmt_of ss))) ss c.loop-s.s-index c.s-item.result
    (map stmt_tree c.loop-s.resolved.items) c.in_err-resolve_stmt.field-0.0
    (stmts-each names ss) c.loop-s-test.true c.s-item.is c.loop-s.invariant c.in_err-resolve_stmt.ensures)

pub resolve_stmts-loop-s-preserved : goal.resolve_stmts-loop-s-preserved
resolve_stmts-loop-s-preserved t c =
    each-push (λ s. resolve_stmt (names_of c.args.scope.now) (stmt_of s)) stmt_tree c.args.ss.now c.loop-s.s-index
    c.s-item.result c.loop-s.resolved.items c.in_ok-resolve_stmt.field-0 c.loop-s-test.true c.s-item.is
    c.loop-s.invariant c.in_ok-resolve_stmt.ensures
    ∙ ap (λ (xs : List Stmt). Ok (map stmt_tree xs)) (sym c.in_ok-push.ensures.items)

pub resolve_stmts-returns : goal.resolve_stmts-returns
resolve_stmts-returns t c =
    let names = names_of c.args.scope.now in
    let ss = c.args.ss.now in
    let i = c.loop-s.s-index in
    let all : length ss ≡ i = omega (arith, c.loop-s-test.false, c.loop-s.auto.s-index-end) in
    stmts-each names ss ∙ bind_ok (each (λ s. resolve_stmt names (stmt_of s)) ss) (λ xs. Ok (stmts_of_list xs))
    (map stmt_tree c.loop-s.resolved.items)
    (each-all (λ s. resolve_stmt names (stmt_of s)) ss i (map stmt_tree c.loop-s.resolved.items) all
    c.loop-s.invariant)
