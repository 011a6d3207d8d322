use Rattle.std.proofs.Common.{None, Option, refl, ap, sym, ◌∙◌}
use Rattle.std.specs.Option.{option_map}
use Rattle.c_syntax.specs.Plain.{cond_tree}
use Rattle.lustre_syntax.specs.declared.code.LusExpr.{LusExpr}
use Rattle.lustre_syntax.specs.declared.LusOp.TheVariants.{Or}
use Rattle.lustre_syntax.specs.Plain.{expr_tree}
use Rattle.lustre_syntax.specs.Tree.{ExprTree, name, two}
use Rattle.lustre_system.specs.Names.{around_active}
use Rattle.lustre_expressions.specs.Found.{place_in}
use Rattle.lustre_system_nodes.proofs.StateLaws.{reset-is, off_tree}
use Rattle.lustre_system_nodes.proofs.controls.reset_value.Goals as goal

pub returns-in_default : goal.returns-in_default
returns-in_default c d s are =
    let names = c.args.names.now in
    let off = c.place.result in
    let on = place_in names.places.now around_active in
    reset-is names d s are c.in_ok-control_leaves.field-0 (option_map cond_tree c.in_ok-test.test)
    (option_map expr_tree c.in_ok-test-2.field-0) off on (name off) (c.in_ok-control_leaves.ensures d.rows s None are)
    c.in_ok-test.ensures (c.in_ok-test-2.ensures d s are) c.place.ensures refl
    (ap (λ (o : Option LusExpr). off_tree (name off) (name on) (option_map expr_tree o)) (sym c.in_default.is))

pub returns : goal.returns
returns c d s are =
    let off = c.place.result in
    let on = c.place-2.result in
    reset-is c.args.names.now d s are c.in_ok-control_leaves.field-0 (option_map cond_tree c.in_ok-test.test)
    (option_map expr_tree c.in_ok-test-2.field-0) off on (expr_tree c.in_ok-two.field-0)
    (c.in_ok-control_leaves.ensures d.rows s None are) c.in_ok-test.ensures (c.in_ok-test-2.ensures d s are) c.place.ensures
    c.place-2.ensures
    (c.in_ok-two.ensures ∙ ap (λ (x : ExprTree). two Or (name off) x) c.in_ok-off.ensures
    ∙ ap (λ (o : Option LusExpr). off_tree (name off) (name on) (option_map expr_tree o)) (sym c.in-Some.is))
