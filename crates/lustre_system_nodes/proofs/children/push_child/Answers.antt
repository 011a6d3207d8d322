use Rattle.std.proofs.Common.{List, ◌∷◌, [], ◌++◌, map, ap, ◌∙◌}
use Rattle.std.proofs.lemmas.List.{map-append}
use Rattle.lustre_syntax.specs.declared.code.LusEq.{LusEq}
use Rattle.lustre_syntax.specs.Plain.{equation_tree, expr_tree}
use Rattle.lustre_syntax.specs.Tree.{EquationTree}
use Rattle.diagram_meaning.specs.ResolvedTree.{diagram_of}
use Rattle.lustre_system_nodes.proofs.ChildLaws.{outputs-are, call-placed}
use Rattle.lustre_system_nodes.proofs.children.push_child.Goals as goal

pub returns : goal.returns
returns c =
    let child = c.args.child.now in
    let before = c.args.equations.now.items in
    ap (λ (es : List LusEq). map equation_tree es) c.in_ok-push.ensures.items
    ∙ map-append equation_tree before (_ ∷ [])
    ∙ ap (λ (es : List EquationTree). map equation_tree before ++ es)
    (call-placed c.args.names.now (diagram_of c.args.r.now) child.row c.wires.result.now c.new.result c.in_ok-node.node
    (map expr_tree c.in_ok-values.values.items)
    (c.wires.ensures ∙ outputs-are c.args.r.now.tree.table.rows child c.requires.row c.requires.is_subsystem)
    (c.new.ensures ∙ c.in_ok-given.ensures) c.in_ok-node.ensures c.in_ok-values.ensures)
