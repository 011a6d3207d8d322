use Rattle.std.proofs.Common.{ap, ◌∙◌}
use Rattle.base_refusals.specs.FirstRefusal.{as_plain, earlier_of}
use Rattle.mdl_wiring.specs.Lines.{LineEnd}
use Rattle.mdl_wiring.specs.Refusals.{no_input}
use Rattle.mdl_wiring.specs.Held.{end_seen}
use Rattle.mdl_wiring.proofs.PassLemmas.{least-at}
use Rattle.mdl_wiring.proofs.missing.least_target_without_port.Goals as goal

pub loop-end-preserved : goal.loop-end-preserved
loop-end-preserved c =
    least-at (λ (e : LineEnd). no_input e.target) end_seen c.args.ends.now c.loop-end.end-index _
    (as_plain c.loop-end.least) (as_plain c.earlier-least.result) _
    c.loop-end-test.true (c.earlier-least.ensures ∙ ap (earlier_of (as_plain c.loop-end.least)) c.no_input.ensures) c.loop-end.invariant
