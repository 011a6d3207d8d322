use Rattle.std.proofs.Common.{nat_eq, ap, ◌∙◌, ◌++◌, take}
use Rattle.std.specs.List.{filter_map}
use Rattle.indexmap.specs.IndexMap.{get}
use Rattle.modules_profile.specs.NodeWires.{edge_by, edges_from}
use Rattle.modules_profile.proofs.EdgeSteps.{edges-step}
use Rattle.modules_profile.proofs.edges.edges.Goals as goal

pub loop-b-preserved : goal.loop-b-preserved
loop-b-preserved c =
    let giver = get nat_eq c.args.givers.now in
    c.in_ok-push_edges.ensures ∙ ap (λ es. es ++ filter_map (edge_by giver c.loop-b.b) c.wires.result.now) c.loop-b.invariant
    ∙ ap (λ ws. edges_from giver 0 (take c.loop-b.b c.args.nodes.now) ++ filter_map (edge_by giver c.loop-b.b) ws) c.wires.ensures
    ∙ edges-step giver c.args.nodes.now c.loop-b.b c.index-nodes-b.result c.loop-b-test.true c.index-nodes-b.is
