use Rattle.std.proofs.Common.{◌≡◌, ◌≤◌, ◌-◌, ◌^◌}
use Rattle.diagram_blocks.specs.Width.{least_power, power_bits}
use Rattle.diagram_blocks.proofs.width.power_bits.Given as goal

abbrev pub invariant-loop-power : goal.invariant-loop-power
invariant-loop-power l = record {
  is_power : l.power ≡ 2 ^ l.bits;
  same_search : power_bits l.n ≡ least_power (l.n - l.bits) l.n l.bits;
  bound : l.bits ≤ 64;
}

abbrev pub decreases-loop-power : goal.decreases-loop-power
decreases-loop-power l = l.n - l.power
