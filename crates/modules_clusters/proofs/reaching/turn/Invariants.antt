use Rattle.std.proofs.Common.{◌≡◌, ℕ, map, take}
use Rattle.modules_clusters.proofs.reaching.turn.Given as goal

abbrev pub invariant-loop-a : goal.invariant-loop-a
invariant-loop-a l = l.edges.items ≡ map (λ (edge : ℕ × ℕ). (edge.1, edge.0)) (take l.a-index l.a-items)
