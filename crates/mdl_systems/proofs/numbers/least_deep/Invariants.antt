use Rattle.std.proofs.Common.{◌≡◌, drop}
use Rattle.base_refusals.specs.FirstRefusal.{least_in, as_plain, earlier_of}
use Rattle.mdl_systems.specs.Held.{all_seen}
use Rattle.mdl_systems.specs.Refusals.{deep}
use Rattle.mdl_systems.proofs.numbers.least_deep.Given as goal

abbrev pub invariant-loop-block : goal.invariant-loop-block
invariant-loop-block l =
    earlier_of (as_plain l.least) (least_in deep (all_seen (drop l.block-index l.blocks))) ≡ least_in deep (all_seen l.fn.blocks)
