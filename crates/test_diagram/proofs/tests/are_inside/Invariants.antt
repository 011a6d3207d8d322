use Rattle.std.proofs.Common.{ℕ, ◌<◌, slice_index_or}
use Rattle.test_diagram.proofs.tests.are_inside.Given as goal

abbrev pub invariant-loop-edge : goal.invariant-loop-edge
invariant-loop-edge l = (k : ℕ) → k < l.edge-index →
    ((slice_index_or l.edges k (0, 0)).0 < l.n) × ((slice_index_or l.edges k (0, 0)).1 < l.n)
