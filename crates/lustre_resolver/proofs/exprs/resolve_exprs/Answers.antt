use Rattle.std.proofs.Common.{◌≡◌, sym, ◌∙◌, ap, map, length, List, Vec, Result, Ok, arith}
use Rattle.std.specs.declared.alloc.Global.{Global}
use Rattle.c_rules.proofs.lemmas.Each.{each-push, each-all}
use Rattle.c_rules.proofs.lemmas.Fails.{gives-same, each-fails}
use Rattle.c_rules.proofs.lemmas.Each.{each}
use Rattle.lustre_syntax.specs.declared.code.LusExpr.{LusExpr}
use Rattle.c_syntax.specs.declared.fault.CFault.{CFault}
use Rattle.lustre_grammar.specs.declared.written.LusWrittenExpr.{LusWrittenExpr}
use Rattle.lustre_syntax.specs.Tree.{ExprTree, texts_of}
use Rattle.lustre_syntax.specs.Plain.{expr_tree}
use Rattle.lustre_grammar.specs.WrittenTrees.{expr_of}
use Rattle.lustre_rules.specs.Resolve.{resolve_expr, resolve_exprs}
use Rattle.lustre_resolver.specs.Scopes.{names_of}
use Rattle.lustre_resolver.proofs.Views.{exprs-each, themselves}
use Rattle.lustre_resolver.proofs.exprs.resolve_exprs.Goals as goal

pub returns-in_err-resolve_expr : goal.returns-in_err-resolve_expr
returns-in_err-resolve_expr c =
    let texts = texts_of (names_of c.args.names.now) in
    let es = c.args.es.now in
    let e = c.in_err-resolve_expr.field-0.0 in
    let rule : LusWrittenExpr → Result ExprTree CFault = λ x. resolve_expr texts (expr_of x) in
    gives-same (λ (v : Vec LusExpr Global). map expr_tree v.items) c.from_residual.result e
    (resolve_exprs texts (map expr_of es)) c.from_residual.ensures.1
    (each-fails rule (λ xs. Ok xs) (resolve_exprs texts (map expr_of es)) es c.loop-e.e-index c.e-item.result
    (map expr_tree c.loop-e.resolved.items) e (exprs-each texts es ∙ themselves (each rule es)) c.loop-e-test.true
    c.e-item.is c.loop-e.invariant c.in_err-resolve_expr.ensures)

pub loop-e-preserved : goal.loop-e-preserved
loop-e-preserved c =
    each-push (λ e. resolve_expr (texts_of (names_of c.args.names.now)) (expr_of e)) expr_tree c.args.es.now c.loop-e.e-index
    c.e-item.result c.loop-e.resolved.items c.in_ok-resolve_expr.field-0 c.loop-e-test.true c.e-item.is
    c.loop-e.invariant c.in_ok-resolve_expr.ensures
    ∙ ap (λ (xs : List LusExpr). Ok (map expr_tree xs)) (sym c.in_ok-push.ensures.items)

pub returns : goal.returns
returns c =
    let texts = texts_of (names_of c.args.names.now) in
    let es = c.args.es.now in
    let i = c.loop-e.e-index in
    let all : length es ≡ i = omega (arith, c.loop-e-test.false, c.loop-e.auto.e-index-end) in
    exprs-each texts es
    ∙ each-all (λ e. resolve_expr texts (expr_of e)) es i (map expr_tree c.loop-e.resolved.items) all c.loop-e.invariant
