use Rattle.std.proofs.Common.{ℕ, ◌<◌, All, Contains}
use Rattle.base_graph.proofs.unions.nodes.Given as goal

abbrev pub invariant-loop-a : goal.invariant-loop-a
invariant-loop-a l = All (λ a. a < l.n) l.nodes.items × ((a : ℕ) → a < l.a → Contains l.nodes.items a)
