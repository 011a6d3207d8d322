use Rattle.std.proofs.Common.{List, [], ◌∷◌, ◌++◌, map, reverse, ap, ◌∙◌}
use Rattle.diagram_meaning.specs.ResolvedTree.{diagram_of}
use Rattle.modules_profile.specs.Systems.{systems}
use Rattle.lustre_syntax.specs.declared.file.LusNode.{LusNode}
use Rattle.lustre_syntax.specs.Plain.{node_tree}
use Rattle.lustre_syntax.specs.Tree.{NodeTree}
use Rattle.lustre_system.specs.File.{root_node}
use Rattle.lustre_system.specs.Functions.{function_nodes}
use Rattle.lustre_system.specs.SystemNodes.{system_node}
use Rattle.lustre_expressions.specs.Found.{place_in}
use Rattle.lustre_expressions.specs.Placed.{placed_by}
use Rattle.lustre_emitter.proofs.Lists.{with-one, map-three}
use Rattle.lustre_emitter.proofs.emission.nodes_of.Goals as goal

pub returns : goal.returns
returns c =
    let placed = placed_by (place_in c.args.callees.now.places.now) in
    let d = diagram_of c.args.r.now in
    let hyper = c.args.r.now.times.hyper in
    let all = reverse (systems d.rows) in
    with-one node_tree c.push_systems.new.list.items c.push.new.self.items c.in_ok-root_node.field-0 (placed (root_node d hyper))
    c.in_ok-push.ensures.items c.in_ok-root_node.ensures
    ∙ ap (λ (ns : List NodeTree). ns ++ placed (root_node d hyper) ∷ [])
    (c.in_ok-push_systems.ensures
    ∙ (λ i. (c.in_ok-push_functions.ensures ∙ ap (λ (ns : List LusNode). map node_tree ns ++ map placed function_nodes)
    c.new-nodes.ensures.items) i ++ map placed (map (system_node d) (c.requires.rows i))))
    ∙ map-three placed function_nodes (map (system_node d) all) (root_node d hyper)
