-- Walks along needs, what reaches a node, and cycles.
use Rattle.std.specs.Prelude.{◌≡◌, ℕ, List, [], ◌∷◌, ◌⊎◌}
use Rattle.base_graph.specs.NeedsGraph.{NeedsGraph, Needs}

-- node b needs the first node of the path, each of these the next, and the last one needs a
abbrev pub Walk : NeedsGraph → ℕ → List ℕ → ℕ → Type 0
Walk g b [] a = Needs g b a
Walk g b (c ∷ path) a = Needs g b c × Walk g c path a

-- node a reaches node b: it is b itself, or b needs it along a walk
abbrev pub Reaches : NeedsGraph → ℕ → ℕ → Type 0
Reaches g a b = (a ≡ b) ⊎ ((path : List ℕ) × Walk g b path a)

-- each of these nodes needs the next one, and the last the first
abbrev pub IsCycle : NeedsGraph → List ℕ → Type 0
IsCycle g [] = ⊥
IsCycle g (a ∷ path) = Walk g a path a

-- no nodes form a cycle
abbrev pub HasNoCycle : NeedsGraph → Type 0
HasNoCycle g = (cycle : List ℕ) → IsCycle g cycle → ⊥
