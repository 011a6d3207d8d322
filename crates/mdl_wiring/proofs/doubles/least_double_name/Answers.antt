use Rattle.std.proofs.Common.{ap, ◌∙◌}
use Rattle.base_refusals.specs.FirstRefusal.{as_plain, earlier_of}
use Rattle.mdl_wiring.specs.Members.{member_seen, members_seen}
use Rattle.mdl_wiring.specs.Refusals.{double, same_name}
use Rattle.mdl_wiring.proofs.PassLemmas.{from-at}
use Rattle.mdl_wiring.proofs.doubles.least_double_name.Goals as goal

pub loop-at-preserved : goal.loop-at-preserved
loop-at-preserved c =
    from-at (double same_name (members_seen c.args.members.now)) member_seen c.args.members.now c.loop-at.at _
    (as_plain c.loop-at.least) (as_plain c.earlier-least.result) _
    c.loop-at-test.true (c.earlier-least.ensures ∙ ap (earlier_of (as_plain c.loop-at.least)) c.double_name.ensures) c.loop-at.invariant
