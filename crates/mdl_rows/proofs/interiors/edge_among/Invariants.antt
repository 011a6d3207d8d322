use Rattle.std.proofs.Common.{◌≡◌, drop}
use Rattle.mdl_rows.specs.Interiors.{first_that, edge_waited}
use Rattle.mdl_rows.specs.Held.{all_seen}
use Rattle.mdl_rows.proofs.interiors.edge_among.Given as goal

abbrev pub invariant-loop-block : goal.invariant-loop-block
invariant-loop-block l = first_that edge_waited (all_seen (drop l.block-index l.own)) ≡ first_that edge_waited (all_seen l.fn.own)
