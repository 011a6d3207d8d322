use Rattle.std.proofs.Common.{◌≡◌, ◌∙◌, None, ap}
use Rattle.std.specs.Option.{option_map}
use Rattle.diagram_meaning.specs.Diagram.{time_at}
use Rattle.diagram_meaning.specs.ResolvedTree.{diagram_of}
use Rattle.emit_row_code.specs.TestCode.{hit_test}
use Rattle.lustre_syntax.specs.Plain.{expr_tree}
use Rattle.lustre_syntax.specs.Tree.{name}
use Rattle.lustre_system.specs.Names.{active_name, now_leaf}
use Rattle.lustre_system.specs.RowEquations.{test_in}
use Rattle.lustre_expressions.specs.Found.{place_in}
use Rattle.lustre_row_equations.specs.Also.{also_tree}
use Rattle.lustre_row_equations.specs.Placed.{placed_expr}
use Rattle.lustre_row_equations.proofs.Renaming.{also_placed}
use Rattle.lustre_row_equations.proofs.tests_of_rows.runs.Goals as goal

pub returns : goal.returns
returns c =
    let d = diagram_of c.args.scope.now.diagram.now in
    let s = c.args.scope.now.system in
    let places = c.args.scope.now.names.now.places.now in
    let named = c.requires.named in
    let hit = test_in d s (hit_test (time_at d c.args.b) (now_leaf d.rows s)) in
    let test : option_map expr_tree c.in_ok-hit-2.hit ≡ option_map (placed_expr c.args.scope.now.names.now) hit =
    c.in_ok-hit-2.ensures d s named
    ∙ ap (λ t. option_map (placed_expr c.args.scope.now.names.now) (test_in d s t))
    (c.in_ok-hit.ensures ∙ (λ i. hit_test (c.time_at.ensures i) (c.in_ok-now_leaf.ensures d.rows s None named i))) in
    c.in_ok-also.ensures ∙ (λ i. also_tree (name (c.place.ensures i)) (test i))
    ∙ also_placed (place_in places) (name active_name) hit
