use Rattle.std.proofs.Common.{◌<◌, get_or, arith}
use Rattle.std.proofs.lemmas.List.{get_or_read}
use Rattle.modules_clusters.proofs.ClusterSteps.{bits-more}
use Rattle.modules_clusters.proofs.reaching.class_bits.Goals as goal

pub loop-i-preserved : goal.loop-i-preserved
loop-i-preserved c =
    let node : get_or c.args.outputs.now c.loop-i.i 0 < c.args.n = c.requires.nodes c.loop-i.i 0 c.loop-i-test.true in
    let low : get_or c.args.class.now c.loop-i.i 0 < 32 = c.requires.classes c.loop-i.i 0 (omega arith) in
    bits-more c.args.n c.args.outputs.now c.args.class.now c.loop-i.bits.items c.loop-i.i c.index_mut.result.now node (omega arith)
    (get_or_read c.loop-i.bits.items (get_or c.args.outputs.now c.loop-i.i 0) c.index_mut.result.now
    (omega (arith, c.loop-i.invariant.len)) c.index_mut.ensures.value 0)
    c.loop-i.invariant
