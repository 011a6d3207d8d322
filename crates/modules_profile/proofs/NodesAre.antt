-- The nodes of a lawful local system are those that are wanted.
use Rattle.std.specs.Prelude.{◌≡◌, ◌↔◌, ℕ, List, map, length, slice_get, Contains, Some}
use Rattle.std.proofs.Common.{sym, ap, subst, ◌∙◌}
use Rattle.std.proofs.lemmas.Option.{same_Some}
use Rattle.diagram_blocks.specs.Kinds.{is_outport}
use Rattle.base_graph.specs.NeedsGraph.{NeedsGraph, IsGraph}
use Rattle.modules_profile.specs.declared.node_wires.NodeWires.{NodeWires}
use Rattle.modules_profile.specs.declared.nodes.Node.{Node}
use Rattle.modules_profile.specs.LocalSystem.{LocalSystem}
use Rattle.modules_profile.specs.LocalNodes.{node_list, NodeNeeds, AreNodesOf}
use Rattle.modules_profile.specs.Places.{ported_places, places_by_port}
use Rattle.modules_profile.specs.NodeWires.{wires_of_nodes, IsEdge}
use Rattle.modules_profile.specs.LawfulLocals.{IsLocal}
use Rattle.modules_profile.proofs.NodeLists.{wires_at, nodes-many, wires-at}
use Rattle.modules_profile.proofs.lemmas.PlaceSteps.{places-are, places-stand}

module _ (local : LocalSystem) (is : IsLocal local) where
  needs-from : (a b : ℕ) (x y : Node) → slice_get (node_list local) a ≡ Some x →
      slice_get (node_list local) b ≡ Some y → IsEdge (wires_of_nodes local) a b → NodeNeeds local y x
  needs-from a b x y from to e =
      let giver : e.giver ≡ wires_at local x = same_Some e.giver (wires_at local x) (sym e.from ∙ wires-at local is a x from) in
      let taker : e.taker ≡ wires_at local y = same_Some e.taker (wires_at local y) (sym e.to ∙ wires-at local is b y to) in (
        e.wire,
        subst (λ (w : NodeWires). Contains w.needs e.wire) taker e.needed,
        subst (λ (w : NodeWires). Contains w.gives e.wire) giver e.given,
      )

  edge-from : (a b : ℕ) (x y : Node) → slice_get (node_list local) a ≡ Some x → slice_get (node_list local) b ≡ Some y →
      NodeNeeds local y x → IsEdge (wires_of_nodes local) a b
  edge-from a b x y from to (c, needed, given) = record {
    giver = wires_at local x;
    taker = wires_at local y;
    from = wires-at local is a x from;
    to = wires-at local is b y to;
    wire = c;
    given = given;
    needed = needed;
  }

  pub nodes-are : (g : NeedsGraph) (list : List Node) (outputs : List ℕ) → g.n ≡ length (wires_of_nodes local) →
      IsGraph g → ((a b : ℕ) → Contains g.edges (a, b) ↔ IsEdge (wires_of_nodes local) a b) →
      list ≡ node_list local → outputs ≡ places_by_port (ported_places is_outport local.rows) →
      AreNodesOf local (record { graph = g; list = list; outputs = outputs })
  nodes-are g list outputs many inside edges listed placed = record {
    list = listed;
    count = many ∙ nodes-many local is;
    inside = inside;
    edges = λ a b x y from to. (λ h. needs-from a b x y from to ((edges a b).0 h), λ n. (edges a b).1 (edge-from a b x y from to n));
    outputs = ap (map Some) (placed ∙ places-are local is is_outport) ∙ places-stand local is is_outport;
  }
