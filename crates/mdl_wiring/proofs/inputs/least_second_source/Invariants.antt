use Rattle.std.proofs.Common.{◌≡◌, drop}
use Rattle.base_refusals.specs.FirstRefusal.{as_plain, earlier_of}
use Rattle.mdl_wiring.specs.Refusals.{least_from, second_source, double_sources}
use Rattle.mdl_wiring.specs.Held.{ends_seen}
use Rattle.mdl_wiring.proofs.inputs.least_second_source.Given as goal

abbrev pub invariant-loop-at : goal.invariant-loop-at
invariant-loop-at l =
    earlier_of (as_plain l.least) (least_from (second_source (ends_seen l.fn.ends)) l.at (ends_seen (drop l.at l.ends)))
    ≡ double_sources (ends_seen l.fn.ends)
