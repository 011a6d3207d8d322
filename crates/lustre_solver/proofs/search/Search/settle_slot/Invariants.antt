use Rattle.std.proofs.Common.{◌≡◌, true}
use Rattle.lustre_solver.specs.Searching.{searching, was_tried, work, IsSearch, GoesOn}
use Rattle.lustre_solver.proofs.search.Search.settle_slot.Given as goal

abbrev pub invariant-loop-self : goal.invariant-loop-self
invariant-loop-self l = record {
  search : IsSearch l.frame (searching l.self);
  on : GoesOn l.frame (searching l.fn.self) (searching l.self);
  tried : was_tried (searching l.self).tried l.slot ≡ true;
}

abbrev pub decreases-loop-self : goal.decreases-loop-self
decreases-loop-self l = work (searching l.self)
