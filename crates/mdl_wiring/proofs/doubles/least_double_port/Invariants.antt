use Rattle.std.proofs.Common.{◌≡◌, drop, take}
use Rattle.base_refusals.specs.FirstRefusal.{as_plain, earlier_of}
use Rattle.mdl_wiring.specs.Members.{members_seen}
use Rattle.mdl_wiring.specs.Refusals.{least_from, double, first_double, same_port}
use Rattle.mdl_wiring.specs.Doubles.{ArePortsOf}
use Rattle.mdl_wiring.proofs.doubles.least_double_port.Given as goal

abbrev pub invariant-loop-member : goal.invariant-loop-member
invariant-loop-member l = record {
  ports : ArePortsOf l.fn.side (take l.member-index (members_seen l.members)) l.ports;
  least :
      earlier_of (as_plain l.least)
      (least_from (double (same_port l.fn.side) (members_seen l.fn.members)) l.member-index
      (members_seen (drop l.member-index l.members)))
      ≡ first_double (same_port l.fn.side) (members_seen l.fn.members);
}
