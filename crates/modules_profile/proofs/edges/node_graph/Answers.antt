use Rattle.std.proofs.Common.{ℕ, List, Contains, ◌↔◌, nat_eq, subst, sym}
use Rattle.indexmap.specs.IndexMap.{get}
use Rattle.modules_profile.specs.NodeWires.{IsEdge}
use Rattle.modules_profile.proofs.EdgeSteps.{edges-are, edges-inside}
use Rattle.modules_profile.proofs.edges.node_graph.Goals as goal

pub returns-clause-edges : goal.returns-clause-edges
returns-clause-edges c =
    subst (λ (es : List (ℕ × ℕ)). (a b : ℕ) → Contains es (a, b) ↔ IsEdge c.args.nodes.now a b) (sym c.in_ok-edges.ensures)
    (edges-are c.args.nodes.now (get nat_eq c.in_ok-givers.givers) c.requires.once c.in_ok-givers.ensures)

pub returns-clause-inside : goal.returns-clause-inside
returns-clause-inside c =
    edges-inside c.args.nodes.now c.in_ok-edges.edges.items
    (subst (λ (es : List (ℕ × ℕ)). (a b : ℕ) → Contains es (a, b) ↔ IsEdge c.args.nodes.now a b) (sym c.in_ok-edges.ensures)
    (edges-are c.args.nodes.now (get nat_eq c.in_ok-givers.givers) c.requires.once c.in_ok-givers.ensures))

pub invariant_of-result : goal.invariant_of-result
invariant_of-result c =
    edges-inside c.args.nodes.now c.in_ok-edges.edges.items
    (subst (λ (es : List (ℕ × ℕ)). (a b : ℕ) → Contains es (a, b) ↔ IsEdge c.args.nodes.now a b) (sym c.in_ok-edges.ensures)
    (edges-are c.args.nodes.now (get nat_eq c.in_ok-givers.givers) c.requires.once c.in_ok-givers.ensures))
