use Rattle.std.proofs.Common.{refl, ap, ◌∙◌}
use Rattle.base_refusals.specs.FirstRefusal.{as_plain, earlier_of}
use Rattle.mdl_wiring.specs.Members.{member_seen}
use Rattle.mdl_wiring.specs.Refusals.{unconnected}
use Rattle.mdl_wiring.proofs.PassLemmas.{from-at, from-end}
use Rattle.mdl_wiring.proofs.loose.least_unconnected.Goals as goal

pub loop-at-init : goal.loop-at-init
loop-at-init c = λ ends h. refl

pub loop-at-preserved : goal.loop-at-preserved
loop-at-preserved c =
    λ ends h. from-at (unconnected ends) member_seen c.args.members.now c.loop-at.at _ (as_plain c.loop-at.least)
    (as_plain c.earlier-least.result) _
    c.loop-at-test.true (c.earlier-least.ensures
    ∙ ap (earlier_of (as_plain c.loop-at.least)) (c.unconnected.ensures ends h)) (c.loop-at.invariant ends h)

pub returns : goal.returns
returns c =
    λ ends h. from-end (unconnected ends) member_seen c.args.members.now c.loop-at.at
    (as_plain c.loop-at.least) _ c.loop-at-test.false (c.loop-at.invariant ends h)
