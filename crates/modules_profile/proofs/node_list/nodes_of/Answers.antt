use Rattle.std.proofs.Common.{ℕ, List, ◌++◌, ◌↔◌, Contains, sym, ap, ap₂, subst, ◌∙◌, length, map}
use Rattle.std.specs.List.{flat_map}
use Rattle.diagram_blocks.specs.Kinds.{is_outport}
use Rattle.modules_profile.specs.declared.local.ChildUse.{ChildUse}
use Rattle.modules_profile.specs.declared.local.LocalRow.{LocalRow}
use Rattle.modules_profile.specs.declared.node_wires.NodeWires.{NodeWires}
use Rattle.modules_profile.specs.declared.nodes.Node.TheVariants.{Row}
use Rattle.modules_profile.specs.LocalSystem.{LocalSystem}
use Rattle.modules_profile.specs.LocalNodes.{call_nodes}
use Rattle.modules_profile.specs.NodeWires.{wires_of_all, IsEdge, AreGivenOnce}
use Rattle.modules_profile.specs.Places.{ported_places, places_by_port}
use Rattle.modules_profile.proofs.NodesAre.{nodes-are}
use Rattle.modules_profile.proofs.node_list.nodes_of.Goals as goal

pub node_graph-requires-clause-once : goal.node_graph-requires-clause-once
node_graph-requires-clause-once c =
    let rows_is = c.as_slice-rows.ensures.value ∙ ap (λ (s : LocalSystem). s.rows) c.local.view_is in
    let children_is = c.as_slice-children.ensures.value ∙ ap (λ (s : LocalSystem). s.children) c.local.view_is in
    subst AreGivenOnce (sym (c.deref.ensures.value ∙ c.in_ok-wires.ensures ∙ ap₂ wires_of_all rows_is children_is)) c.requires.once

pub returns : goal.returns
returns c =
    let rows_is = c.as_slice-rows.ensures.value ∙ ap (λ (s : LocalSystem). s.rows) c.local.view_is in
    let children_is = c.as_slice-children.ensures.value ∙ ap (λ (s : LocalSystem). s.children) c.local.view_is in
    let wires_is = c.deref.ensures.value ∙ c.in_ok-wires.ensures ∙ ap₂ wires_of_all rows_is children_is in
    let g = c.in_ok-node_graph.field-0 in
    nodes-are c.args.local.now c.requires g c.in_ok-node_list.field-0.items c.in_ok-outport_places.field-0.items
    (c.in_ok-node_graph.ensures.count ∙ ap (λ (ws : List NodeWires). length ws) wires_is)
    c.in_ok-node_graph.ensures.inside
    (subst (λ (ws : List NodeWires). (a b : ℕ) → Contains g.edges (a, b) ↔ IsEdge ws a b) wires_is c.in_ok-node_graph.ensures.edges)
    (c.in_ok-node_list.ensures
    ∙ ap₂ (λ (rows : List LocalRow) (children : List ChildUse). map (λ (r : LocalRow). Row r.row) rows
    ++ flat_map call_nodes children) rows_is children_is)
    (c.in_ok-outport_places.ensures ∙ ap (λ (rows : List LocalRow). places_by_port (ported_places is_outport rows)) rows_is)
