use Rattle.std.proofs.Common.{◌≡◌, ◌<◌, ℕ, length, slice_get}
use Rattle.std.specs.Prelude.{nat_lt}
use Rattle.lustre_flows.specs.Values.{value_at}
use Rattle.lustre_solver.specs.Searching.{searching, was_tried, HasRoom}
use Rattle.lustre_solver.proofs.search.Search.start.Given as goal

abbrev pub invariant-loop-slot : goal.invariant-loop-slot
invariant-loop-slot l = record {
  room : HasRoom (length l.initial.self.values.items) (searching l.self);
  given : (k : ℕ) → k < l.slot → value_at l.self.values.items k ≡ slice_get l.row k;
  tried : (k : ℕ) → k < l.slot → was_tried l.self.tried.items k ≡ nat_lt k (length l.row);
}
