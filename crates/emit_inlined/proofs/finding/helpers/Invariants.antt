use Rattle.std.proofs.Common.{◌≡◌, length}
use Rattle.emit_inlined.proofs.FoundHelpers.{AreFound}
use Rattle.emit_inlined.proofs.finding.helpers.Given as goal

abbrev pub invariant-loop-position : goal.invariant-loop-position
invariant-loop-position l = record {
  long : length l.list.items ≡ l.position;
  found : AreFound l.counts l.procedures l.list.items l.position;
}
