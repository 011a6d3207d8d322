use Rattle.std.proofs.Common.{◌≡◌, ◌≤◌, drop}
use Rattle.diagram_meaning.specs.DelayRefusals.{delay_refusal}
use Rattle.diagram_verdict.proofs.DelaySums.{refusal_from}
use Rattle.diagram_verdict.proofs.delays.refusal_of_delays.Given as goal

abbrev pub invariant-loop-row : goal.invariant-loop-row
invariant-loop-row l = record {
  within : l.total ≤ 1_000_000;
  rest : refusal_from 1_000_000 l.total (drop l.row-index l.rows) ≡ delay_refusal l.fn.rows;
}
