use Rattle.std.proofs.Common.{◌≡◌, sym, ◌∙◌, ap, subst, map, length, List, Vec, Ok, arith}
use Rattle.std.specs.declared.alloc.Global.{Global}
use Rattle.c_syntax.specs.declared.code.Expr.{Expr}
use Rattle.c_syntax.specs.Tree.{exprs_of_list}
use Rattle.c_syntax.specs.Plain.{expr_tree}
use Rattle.c_grammar.specs.Written.{WrittenExpr, pure}
use Rattle.c_grammar.specs.Parsing.{exprs_from}
use Rattle.c_rules.specs.Resolve.{resolve_expr, resolve_exprs}
use Rattle.c_grammar.specs.WrittenTrees.{expr_of}
use Rattle.c_rules.specs.Gives.{Gives}
use Rattle.c_resolver.specs.Scopes.{names_of}
use Rattle.c_resolver.proofs.Rows.{expr_of-Pure, exprs-each}
use Rattle.c_rules.proofs.lemmas.Each.{each, each-push, each-all, bind_ok}
use Rattle.c_rules.proofs.lemmas.Fails.{gives-same, each-fails}
use Rattle.c_resolver.proofs.exprs.+expression.Goals as goal

pub resolve_expr-returns-in-Pure : goal.resolve_expr-returns-in-Pure
resolve_expr-returns-in-Pure t c =
    let i = c.in-Pure in
    let values = ap (λ es. pure i.line i.function.now (exprs_from (map expr_of es))) c.as_slice.ensures.value in
    let same = values ∙ sym (ap expr_of i.is ∙ expr_of-Pure i.line i.function i.values) in
    subst (λ (w : WrittenExpr). Gives expr_tree c.resolve_call_of_pure.result
    (resolve_expr (names_of c.args.scope.now) w)) same c.resolve_call_of_pure.ensures

pub resolve_exprs-returns-in_err-resolve_expr : goal.resolve_exprs-returns-in_err-resolve_expr
resolve_exprs-returns-in_err-resolve_expr t c =
    let names = names_of c.args.scope.now in
    let es = c.args.es.now in
    gives-same (λ (v : Vec Expr Global). exprs_of_list (map expr_tree v.items)) c.from_residual.result
    c.in_err-resolve_expr.field-0.0 (resolve_exprs names (exprs_from (map expr_of es))) c.from_residual.ensures.1
    (each-fails (λ e. resolve_expr names (expr_of e)) (λ xs. Ok (exprs_of_list xs))
    (resolve_exprs names (exprs_from (map expr_of es))) es c.loop-e.e-index c.e-item.result
    (map expr_tree c.loop-e.resolved.items) c.in_err-resolve_expr.field-0.0
    (exprs-each names es) c.loop-e-test.true c.e-item.is c.loop-e.invariant c.in_err-resolve_expr.ensures)

pub resolve_exprs-loop-e-preserved : goal.resolve_exprs-loop-e-preserved
resolve_exprs-loop-e-preserved t c =
    each-push (λ e. resolve_expr (names_of c.args.scope.now) (expr_of e)) expr_tree c.args.es.now c.loop-e.e-index
    c.e-item.result c.loop-e.resolved.items c.in_ok-resolve_expr.field-0 c.loop-e-test.true c.e-item.is
    c.loop-e.invariant c.in_ok-resolve_expr.ensures
    ∙ ap (λ (xs : List Expr). Ok (map expr_tree xs)) (sym c.in_ok-push.ensures.items)

pub resolve_exprs-returns : goal.resolve_exprs-returns
resolve_exprs-returns t c =
    let names = names_of c.args.scope.now in
    let es = c.args.es.now in
    let i = c.loop-e.e-index in
    let all : length es ≡ i = omega (arith, c.loop-e-test.false, c.loop-e.auto.e-index-end) in
    exprs-each names es ∙ bind_ok (each (λ e. resolve_expr names (expr_of e)) es) (λ xs. Ok (exprs_of_list xs))
    (map expr_tree c.loop-e.resolved.items)
    (each-all (λ e. resolve_expr names (expr_of e)) es i (map expr_tree c.loop-e.resolved.items) all
    c.loop-e.invariant)
