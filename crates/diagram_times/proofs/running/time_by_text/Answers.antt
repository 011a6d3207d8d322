use Rattle.std.proofs.Common.{sym, subst}
use Rattle.diagram_meaning.specs.declared.times.Time.{Time}
use Rattle.diagram_meaning.specs.SampleTimes.{HasTimeBy}
use Rattle.diagram_times.proofs.CollectSteps.{writes-of}
use Rattle.diagram_times.proofs.OneInput.{has-written}
use Rattle.diagram_times.proofs.running.time_by_text.Goals as goal

pub returns-in-Some : goal.returns-in-Some
returns-in-Some c table b is_base given =
    subst (λ (time : Time). HasTimeBy table b c.args.kind.now c.args.text time) (sym c.time_by_kind.ensures)
    (has-written table b c.args.kind.now c.args.text c.args.inside c.in-Some.outside given
    (writes-of table c.args.base is_base c.args.text c.time_of.result c.in-Some.outside c.time_of.ensures c.in-Some.is))
