use Rattle.std.proofs.Common.{length, refl}
use Rattle.diagram_times.proofs.FeedSteps.{feeds-graph, feeds-done}
use Rattle.diagram_times.proofs.feeds.feeds.Goals as goal

pub invariant_of-result : goal.invariant_of-result
invariant_of-result c =
    feeds-graph c.args.rows.now c.in_ok-edges.edges.items (length c.args.rows.now) c.requires.inside refl
    c.in_ok-edges.ensures

pub returns : goal.returns
returns c = feeds-done c.args.rows.now c.in_ok-edges.edges.items (length c.args.rows.now) refl c.in_ok-edges.ensures
