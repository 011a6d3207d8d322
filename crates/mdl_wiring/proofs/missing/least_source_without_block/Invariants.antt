use Rattle.std.proofs.Common.{◌≡◌, drop}
use Rattle.base_refusals.specs.FirstRefusal.{as_plain, earlier_of, least_in}
use Rattle.mdl_wiring.specs.Refusals.{no_block}
use Rattle.mdl_wiring.specs.Held.{places_seen}
use Rattle.mdl_wiring.proofs.missing.least_source_without_block.Given as goal

abbrev pub invariant-loop-source : goal.invariant-loop-source
invariant-loop-source l =
    earlier_of (as_plain l.least) (least_in no_block (places_seen (drop l.source-index l.sources)))
    ≡ least_in no_block (places_seen l.fn.sources)
