use Rattle.std.proofs.Common.{◌≡◌, drop}
use Rattle.base_refusals.specs.FirstRefusal.{as_plain, earlier_of}
use Rattle.mdl_wiring.specs.Members.{members_seen}
use Rattle.mdl_wiring.specs.Refusals.{least_from, double, first_double, same_name}
use Rattle.mdl_wiring.proofs.doubles.least_double_name.Given as goal

abbrev pub invariant-loop-at : goal.invariant-loop-at
invariant-loop-at l =
    earlier_of (as_plain l.least) (least_from (double same_name (members_seen l.fn.members)) l.at (members_seen (drop l.at l.members)))
    ≡ first_double same_name (members_seen l.fn.members)
