use Rattle.std.proofs.Common.{◌≡◌, ◌<◌, ℕ, true}
use Rattle.lustre_solver.specs.Searching.{searching, was_tried, IsSearch, GoesOn}
use Rattle.lustre_solver.proofs.search.Search.settle.Given as goal

abbrev pub invariant-loop-k : goal.invariant-loop-k
invariant-loop-k l = record {
  search : IsSearch l.frame (searching l.self);
  idle : l.self.depth ≡ 0;
  on : GoesOn l.frame (searching l.fn.self) (searching l.self);
}

abbrev pub invariant-loop-slot : goal.invariant-loop-slot
invariant-loop-slot l = record {
  search : IsSearch l.frame (searching l.self);
  idle : l.self.depth ≡ 0;
  on : GoesOn l.frame (searching l.fn.self) (searching l.self);
  tried : (k : ℕ) → k < l.slot → was_tried (searching l.self).tried k ≡ true;
}
