use Rattle.std.proofs.Common.{◌≡◌, ◌<◌, ap, length, arith}
use Rattle.modules_profile.specs.SystemHeader.{SystemHeader}
use Rattle.emit_nodes.proofs.TakenSteps.{numbers_more, low_more}
use Rattle.emit_nodes.proofs.taken.ports_of.Goals as goal

pub loop-k-preserved : goal.loop-k-preserved
loop-k-preserved c =
    let k = c.loop-k.k in
    let same : length c.header.inside.inputs.items ≡ length c.args.header.now.inputs =
    ap (λ (h : SystemHeader). length h.inputs) c.header.view_is in
    let small : k < 63 = omega (arith, c.requires, c.loop-k-test.true, same) in (
      numbers_more k c.loop-k.ports.items c.push.new.self.items c.loop-k.invariant.0 c.in_ok-push.ensures.items,
      low_more k c.loop-k.ports.items c.push.new.self.items small c.loop-k.invariant.1 c.in_ok-push.ensures.items,
    )
