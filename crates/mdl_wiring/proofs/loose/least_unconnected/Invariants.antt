use Rattle.std.proofs.Common.{◌≡◌, List, drop}
use Rattle.base_refusals.specs.FirstRefusal.{as_plain, earlier_of}
use Rattle.mdl_wiring.specs.Members.{members_seen}
use Rattle.mdl_wiring.specs.Lines.{LineEnd}
use Rattle.mdl_wiring.specs.Refusals.{least_from, unconnected, unconnected_ports}
use Rattle.mdl_wiring.specs.Held.{AreInputsOf}
use Rattle.mdl_wiring.proofs.loose.least_unconnected.Given as goal

abbrev pub invariant-loop-at : goal.invariant-loop-at
invariant-loop-at l =
    (ends : List LineEnd) → AreInputsOf ends l.fn.inputs →
    earlier_of (as_plain l.least) (least_from (unconnected ends) l.at (members_seen (drop l.at l.members)))
    ≡ unconnected_ports ends (members_seen l.fn.members)
