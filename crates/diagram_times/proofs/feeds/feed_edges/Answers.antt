use Rattle.std.proofs.Common.{◌≡◌, length, subst, arith, ◌∙◌}
use Rattle.diagram_times.specs.Feeding.{AreFeedsBelow}
use Rattle.diagram_times.proofs.FeedSteps.{feeds-none, feeds-more}
use Rattle.diagram_times.proofs.feeds.feed_edges.Goals as goal

pub loop-b-init : goal.loop-b-init
loop-b-init c = feeds-none c.args.rows.now c.new-edges.result.items c.new-edges.ensures.items

pub loop-b-preserved : goal.loop-b-preserved
loop-b-preserved c =
    feeds-more c.args.rows.now c.loop-b.b c.loop-b.edges.items c.push_all.new.edges.items c.deref.result.now
    (c.deref.ensures.value ∙ c.in_ok-fed.ensures) c.in_ok-push_all.ensures c.loop-b.invariant

pub returns : goal.returns
returns c =
    let low = c.loop-b-test.false in let high = c.loop-b.auto.b-end in
    let all : c.loop-b.b ≡ length c.args.rows.now = omega arith in
    subst (λ n. AreFeedsBelow c.args.rows.now n c.loop-b.edges.items) all c.loop-b.invariant
