use Rattle.std.proofs.Common.{◌≡◌, ◌++◌, drop}
use Rattle.diagram_meaning.specs.SampleTimes.{step_in}
use Rattle.diagram_times.proofs.BaseSteps.{gcd_over, written_fractions}
use Rattle.diagram_times.proofs.bases.base_tick.Given as goal

abbrev pub invariant-loop-row : goal.invariant-loop-row
invariant-loop-row l = gcd_over l.denominator l.numerator (written_fractions (drop l.row-index l.rows))
    ≡ gcd_over l.denominator 0 (step_in l.fn.step ++ written_fractions l.rows)
