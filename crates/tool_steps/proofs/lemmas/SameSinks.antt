-- A sink is what it reports.
use Rattle.std.proofs.Common.{◌≡◌}
use Rattle.tool_endings.specs.Told.{SinkTold}

pub same-sink : (b b' : SinkTold) → b'.bytes ≡ b.bytes → b'.faults ≡ b.faults → b' ≡ b
same-sink b b' bytes faults = λ i. record { bytes = bytes i; faults = faults i }
