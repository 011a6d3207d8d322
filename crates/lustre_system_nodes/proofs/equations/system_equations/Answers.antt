use Rattle.std.proofs.Common.{List, map, refl, ap, ◌∙◌}
use Rattle.diagram_meaning.specs.ResolvedTree.{diagram_of}
use Rattle.lustre_syntax.specs.declared.code.LusEq.{LusEq}
use Rattle.lustre_syntax.specs.Named.{all_names}
use Rattle.lustre_syntax.specs.Plain.{equation_tree}
use Rattle.lustre_system.specs.SystemNodes.{system_node}
use Rattle.lustre_expressions.specs.Found.{place_in}
use Rattle.lustre_system_nodes.proofs.NodeParts.{are-names, equations-are}
use Rattle.lustre_system_nodes.proofs.equations.system_equations.Goals as goal

pub push_rows-requires-clause-named : goal.push_rows-requires-clause-named
push_rows-requires-clause-named c =
    are-names c.args.r.now.tree.table.rows c.args.named.now.parts _ c.requires.parts refl c.as_slice.ensures.value refl

pub returns : goal.returns
returns c =
    let d = diagram_of c.args.r.now in
    let s = c.args.named.now.parts.row in
    equations-are d s c.in_ok-places.places (place_in c.args.callees.now.places.now) c.list.result.now (all_names (system_node d s))
    (map equation_tree c.new-equations.result.items) (map equation_tree c.push_states.new.equations.items)
    (map equation_tree c.push_rows.new.equations.items) (c.list.ensures ∙ c.requires.names) c.in_ok-places.ensures
    (ap (λ (es : List LusEq). map equation_tree es) c.new-equations.ensures.items)
    (c.in_ok-push_states.ensures d s
    (are-names c.args.r.now.tree.table.rows c.args.named.now.parts _ c.requires.parts refl c.as_slice.ensures.value refl))
    c.in_ok-push_rows.ensures
