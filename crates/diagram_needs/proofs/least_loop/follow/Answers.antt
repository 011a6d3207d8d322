use Rattle.std.proofs.Common.{◌≡◌, None, subst, rules, arith}
use Rattle.diagram_needs.specs.Least.{IsLeastOf}
use Rattle.diagram_needs.specs.Needed.{needed}
use Rattle.diagram_needs.specs.LeastPaths.{IsNextOn}
use Rattle.diagram_needs.proofs.LeastPathSteps.{way-step, way-done, next-read}
use Rattle.diagram_needs.proofs.least_loop.follow.Goals as goal

pub loop-next-smaller : goal.loop-next-smaller
loop-next-smaller c =
    let found =
    next-read (needed c.args.g.now) c.args.steps.now c.in_ok-nearer.nearer.items c.loop-next.at c.index.result.now
    c.in_ok-nearer.ensures c.loop-next.invariant.counted c.index.ensures in
    let next = subst (IsLeastOf (IsNextOn (needed c.args.g.now) c.args.steps.now c.loop-next.at)) c.in-Some.is found in
    let shorter = next.0.shorter in omega arith

pub loop-next-preserved : goal.loop-next-preserved
loop-next-preserved c =
    let found =
    next-read (needed c.args.g.now) c.args.steps.now c.in_ok-nearer.nearer.items c.loop-next.at c.index.result.now
    c.in_ok-nearer.ensures c.loop-next.invariant.counted c.index.ensures in
    way-step (needed c.args.g.now) c.args.row c.args.steps.now c.args.row c.requires.levels.0 c.requires.levels.1
    c.loop-next.at c.in-Some.next c.loop-next.rows.items c.push-in-Some.new.self.items
    c.in_ok-push-2.ensures.items
    (subst (IsLeastOf (IsNextOn (needed c.args.g.now) c.args.steps.now c.loop-next.at)) c.in-Some.is found)
    c.loop-next.invariant

pub returns : goal.returns
returns c =
    let found =
    next-read (needed c.args.g.now) c.args.steps.now c.in_ok-nearer.nearer.items c.loop-next.at c.index.result.now
    c.in_ok-nearer.ensures c.loop-next.invariant.counted c.index.ensures in
    let none : c.index.result.now ≡ None = search rules in
    way-done (needed c.args.g.now) c.args.row c.args.steps.now c.args.row c.requires.levels.0 c.requires.levels.1
    c.loop-next.at c.loop-next.rows.items
    (subst (IsLeastOf (IsNextOn (needed c.args.g.now) c.args.steps.now c.loop-next.at)) none found) c.loop-next.invariant
