use Rattle.std.proofs.Common.{sym, subst}
use Rattle.std.specs.Prelude.{◌↔◌, IsTrue}
use Rattle.diagram_blocks.specs.declared.Kind.{Kind}
use Rattle.diagram_meaning.specs.SampleTimes.{IsSlowToFast}
use Rattle.diagram_times.proofs.OneInput.{slow-to-fast}
use Rattle.diagram_times.proofs.running.is_slow_to_fast.Goals as goal

pub returns-in-RateTransition : goal.returns-in-RateTransition
returns-in-RateTransition c table b is_base given =
    let told = c.is_faster.ensures table is_base in
    let by_input = slow-to-fast table b c.in-RateTransition.out c.args.inside given in
    subst (λ (kind : Kind). IsTrue c.is_faster.result ↔ IsSlowToFast table b kind) (sym c.in-RateTransition.is)
    (λ h. by_input.0 (told.0 h), λ h. told.1 (by_input.1 h))
