use Rattle.std.proofs.Common.{ap, ◌∙◌, take}
use Rattle.base_refusals.specs.FirstRefusal.{as_plain, earlier_of}
use Rattle.mdl_wiring.specs.Members.{member_seen, members_seen}
use Rattle.mdl_wiring.specs.Refusals.{double, same_port}
use Rattle.mdl_wiring.proofs.PassLemmas.{from-at}
use Rattle.mdl_wiring.proofs.DoubleLemmas.{ports-next}
use Rattle.mdl_wiring.proofs.doubles.least_double_port.Goals as goal

pub loop-member-preserved : goal.loop-member-preserved
loop-member-preserved c =
    let side = c.args.side in
    let ms = c.args.members.now in
    let i = c.loop-member.member-index in
    record {
      ports = ports-next side ms i _ c.loop-member.ports c.double_port.new.ports c.loop-member-test.true
          c.loop-member.invariant.ports c.in_ok-double_port.ensures.taken;
      least =
          from-at (double (same_port side) (members_seen ms)) member_seen ms i _ (as_plain c.loop-member.least)
          (as_plain c.earlier-least.result) _
          c.loop-member-test.true (c.earlier-least.ensures
          ∙ ap (earlier_of (as_plain c.loop-member.least))
          (c.in_ok-double_port.ensures.found (take i (members_seen ms)) c.loop-member.invariant.ports))
          c.loop-member.invariant.least;
    }
