use Rattle.std.proofs.Common.{◌≡◌, sym, ◌∙◌, ap, map, length, List, Vec, Ok, arith}
use Rattle.std.specs.declared.alloc.Global.{Global}
use Rattle.c_syntax.specs.declared.code.Expr.{Expr}
use Rattle.c_syntax.specs.Tree.{exprs_of_list}
use Rattle.c_syntax.specs.Plain.{expr_tree}
use Rattle.c_grammar.specs.Parsing.{arguments_from}
use Rattle.c_rules.specs.Resolve.{resolve_expr, resolve_arguments}
use Rattle.c_grammar.specs.declared.written.Argument.{Argument}
use Rattle.c_grammar.specs.WrittenTrees.{expr_of, argument_of}
use Rattle.c_resolver.specs.Scopes.{names_of}
use Rattle.c_resolver.proofs.Rows.{arguments-each}
use Rattle.c_rules.proofs.lemmas.Each.{each, each-push, each-all, bind_ok}
use Rattle.c_rules.proofs.lemmas.Fails.{gives-same, each-fails}
use Rattle.c_resolver.proofs.calls.resolve_arguments.Goals as goal

pub returns-in_err-resolve_expr : goal.returns-in_err-resolve_expr
returns-in_err-resolve_expr c =
    let names = names_of c.args.scope.now in
    let es = c.args.values.now in
    gives-same (λ (v : Vec Expr Global). exprs_of_list (map expr_tree v.items)) c.from_residual.result
    c.in_err-resolve_expr.field-0.0 (resolve_arguments names (arguments_from (map argument_of es)))
    c.from_residual.ensures.1
    (each-fails (λ (a : Argument). resolve_expr names (expr_of a.value)) (λ xs. Ok (exprs_of_list xs))
    (resolve_arguments names (arguments_from (map argument_of es))) es c.loop-value.value-index c.value-item.result
    (map expr_tree c.loop-value.resolved.items) c.in_err-resolve_expr.field-0.0
    (arguments-each names es) c.loop-value-test.true c.value-item.is c.loop-value.invariant
    c.in_err-resolve_expr.ensures)

pub loop-value-preserved : goal.loop-value-preserved
loop-value-preserved c =
    each-push (λ (a : Argument). resolve_expr (names_of c.args.scope.now) (expr_of a.value)) expr_tree c.args.values.now
    c.loop-value.value-index c.value-item.result c.loop-value.resolved.items c.in_ok-resolve_expr.field-0
    c.loop-value-test.true c.value-item.is c.loop-value.invariant c.in_ok-resolve_expr.ensures
    ∙ ap (λ (xs : List Expr). Ok (map expr_tree xs)) (sym c.in_ok-push.ensures.items)

pub returns : goal.returns
returns c =
    let names = names_of c.args.scope.now in
    let es = c.args.values.now in
    let i = c.loop-value.value-index in
    let all : length es ≡ i = omega (arith, c.loop-value-test.false, c.loop-value.auto.value-index-end) in
    arguments-each names es ∙ bind_ok (each (λ (a : Argument). resolve_expr names (expr_of a.value)) es)
    (λ xs. Ok (exprs_of_list xs)) (map expr_tree c.loop-value.resolved.items)
    (each-all (λ (a : Argument). resolve_expr names (expr_of a.value)) es i
    (map expr_tree c.loop-value.resolved.items) all c.loop-value.invariant)
