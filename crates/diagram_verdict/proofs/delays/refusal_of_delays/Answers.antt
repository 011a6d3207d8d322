use Rattle.std.proofs.Common.{arith}
use Rattle.diagram_verdict.proofs.DelaySums.{delays-by_row}
use Rattle.diagram_verdict.proofs.delays.refusal_of_delays.Goals as goal

pub loop-row-init : goal.loop-row-init
loop-row-init c = record { within = omega arith; rest = delays-by_row c.args.rows.now }
