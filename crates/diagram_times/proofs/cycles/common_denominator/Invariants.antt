use Rattle.std.proofs.Common.{◌^◌, drop}
use Rattle.std.specs.Option.{option_map_or}
use Rattle.base_refusals.specs.declared.refusal.CycleWhat.TheVariants.{Denominator}
use Rattle.base_core.specs.declared.Frac.{Frac}
use Rattle.diagram_meaning.specs.TimeRefusals.{denominators_in}
use Rattle.diagram_times.proofs.Growing.{IsGrowing}
use Rattle.diagram_times.proofs.LineNumbers.{of_rows}
use Rattle.diagram_times.proofs.cycles.common_denominator.Given as goal

abbrev pub invariant-loop-row : goal.invariant-loop-row
invariant-loop-row l =
    IsGrowing (10 ^ 9) Denominator (option_map_or (λ (step : Frac). step.den) l.fn.step 1) (of_rows denominators_in l.rows) l.denominator
    (of_rows denominators_in (drop l.row-index l.rows))
