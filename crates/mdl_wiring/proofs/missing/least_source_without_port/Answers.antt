use Rattle.std.proofs.Common.{ap, ◌∙◌}
use Rattle.base_refusals.specs.FirstRefusal.{as_plain, earlier_of}
use Rattle.mdl_wiring.specs.Refusals.{no_output}
use Rattle.mdl_wiring.specs.Held.{place_seen}
use Rattle.mdl_wiring.proofs.PassLemmas.{least-at}
use Rattle.mdl_wiring.proofs.missing.least_source_without_port.Goals as goal

pub loop-source-preserved : goal.loop-source-preserved
loop-source-preserved c =
    least-at no_output place_seen c.args.sources.now c.loop-source.source-index _ (as_plain c.loop-source.least)
    (as_plain c.earlier-least.result) _
    c.loop-source-test.true (c.earlier-least.ensures
    ∙ ap (earlier_of (as_plain c.loop-source.least)) c.no_output.ensures) c.loop-source.invariant
