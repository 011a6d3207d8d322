use Rattle.std.proofs.Common.{◌≡◌, drop}
use Rattle.base_refusals.specs.FirstRefusal.{as_plain, earlier_of, found_where, least_in}
use Rattle.mdl_wiring.specs.Members.{members_seen}
use Rattle.mdl_wiring.specs.Refusals.{is_control, control_port}
use Rattle.mdl_wiring.proofs.controls.least_control.Given as goal

abbrev pub invariant-loop-member : goal.invariant-loop-member
invariant-loop-member l =
    earlier_of (as_plain l.least) (least_in (found_where is_control control_port) (members_seen (drop l.member-index l.members)))
    ≡ least_in (found_where is_control control_port) (members_seen l.fn.members)
