-- A graph's needs as a function from a node to the nodes that it needs, and the rows that loops go
-- through.
use Rattle.std.specs.Prelude.{◌≡◌, ℕ, ◌<◌, ◌==◌, List, map, filter, length, Contains, ◌↔◌}
use Rattle.base_graph.specs.NeedsGraph.{NeedsGraph, Needs}
use Rattle.diagram_meaning.specs.declared.table.Row.{Row}
use Rattle.diagram_meaning.specs.Walk.{Walk}

-- the nodes that node b needs
abbrev pub needed : NeedsGraph → ℕ → List ℕ
needed g b = map (λ edge. edge.0) (filter (λ edge. edge.1 == b) g.edges)

-- a walk leads from row b back to it
abbrev pub IsOnLoop : (ℕ → List ℕ) → ℕ → Type 0
IsOnLoop needs b = (path : List ℕ) × Walk needs b path b

-- a graph whose nodes are the rows and whose edges are these needs
pub record IsGraphOf (rows : List Row) (needs : ℕ → List ℕ) (g : NeedsGraph) : Type 0 where
  pub size : g.n ≡ length rows
  pub edges : (b a : ℕ) → Needs g b a ↔ Contains (needs b) a

-- an edge to each row below n from each row that it needs, and no other
abbrev pub AreEdgesBelow : (ℕ → List ℕ) → ℕ → List (ℕ × ℕ) → Type 0
AreEdgesBelow needs n edges = (b a : ℕ) → Contains edges (a, b) ↔ ((b < n) × Contains (needs b) a)
