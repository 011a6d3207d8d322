use Rattle.std.proofs.Common.{◌≡◌, drop}
use Rattle.base_refusals.specs.FirstRefusal.{as_plain, earlier_of, least_in}
use Rattle.mdl_wiring.specs.Lines.{LineEnd}
use Rattle.mdl_wiring.specs.Refusals.{no_block}
use Rattle.mdl_wiring.specs.Held.{ends_seen}
use Rattle.mdl_wiring.proofs.missing.least_target_without_block.Given as goal

abbrev pub invariant-loop-end : goal.invariant-loop-end
invariant-loop-end l =
    earlier_of (as_plain l.least) (least_in (λ (e : LineEnd). no_block e.target) (ends_seen (drop l.end-index l.ends)))
    ≡ least_in (λ (e : LineEnd). no_block e.target) (ends_seen l.fn.ends)
