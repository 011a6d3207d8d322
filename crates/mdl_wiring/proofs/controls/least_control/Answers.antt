use Rattle.std.proofs.Common.{ap, ◌∙◌}
use Rattle.base_refusals.specs.FirstRefusal.{as_plain, earlier_of, found_where}
use Rattle.mdl_wiring.specs.Members.{member_seen}
use Rattle.mdl_wiring.specs.Refusals.{is_control, control_port}
use Rattle.mdl_wiring.proofs.PassLemmas.{least-at}
use Rattle.mdl_wiring.proofs.controls.least_control.Goals as goal

pub loop-member-preserved : goal.loop-member-preserved
loop-member-preserved c =
    least-at (found_where is_control control_port) member_seen c.args.members.now c.loop-member.member-index _
    (as_plain c.loop-member.least) (as_plain c.earlier-least.result) _
    c.loop-member-test.true (c.earlier-least.ensures
    ∙ ap (earlier_of (as_plain c.loop-member.least)) c.control_found.ensures) c.loop-member.invariant
