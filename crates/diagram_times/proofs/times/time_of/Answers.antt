use Rattle.std.proofs.Common.{refl, sym, subst, Some}
use Rattle.base_core.specs.declared.TimeText.{TimeText}
use Rattle.diagram_times.specs.Bases.{IsTimeOf}
use Rattle.diagram_times.proofs.times.time_of.Goals as goal

pub returns-in-Each : goal.returns-in-Each
returns-in-Each c =
    subst (λ (text : TimeText). IsTimeOf c.args.base text (Some c.counted.result)) (sym c.in-Each.is)
    (c.counted.result, refl, c.counted.ensures.period, c.counted.ensures.offset)
