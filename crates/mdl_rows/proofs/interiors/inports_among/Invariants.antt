use Rattle.std.proofs.Common.{◌≡◌, ◌+◌, drop}
use Rattle.mdl_rows.specs.Interiors.{count_that, inport_number}
use Rattle.mdl_rows.specs.Held.{all_seen}
use Rattle.mdl_rows.proofs.interiors.inports_among.Given as goal

abbrev pub invariant-loop-block : goal.invariant-loop-block
invariant-loop-block l = l.count + count_that inport_number (all_seen (drop l.block-index l.own))
    ≡ count_that inport_number (all_seen l.fn.own)
