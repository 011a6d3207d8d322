use Rattle.std.proofs.Common.{ap, ◌∙◌}
use Rattle.base_refusals.specs.FirstRefusal.{as_plain, earlier_of}
use Rattle.mdl_wiring.specs.Refusals.{second_source}
use Rattle.mdl_wiring.specs.Held.{end_seen, ends_seen}
use Rattle.mdl_wiring.proofs.PassLemmas.{from-at}
use Rattle.mdl_wiring.proofs.inputs.least_second_source.Goals as goal

pub loop-at-preserved : goal.loop-at-preserved
loop-at-preserved c =
    from-at (second_source (ends_seen c.args.ends.now)) end_seen c.args.ends.now c.loop-at.at _
    (as_plain c.loop-at.least) (as_plain c.earlier-least.result) _
    c.loop-at-test.true (c.earlier-least.ensures ∙ ap (earlier_of (as_plain c.loop-at.least)) c.second_source.ensures) c.loop-at.invariant
