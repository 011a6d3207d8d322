use Rattle.std.proofs.Math.Nat.{div-mul-le_self}
use Rattle.std.proofs.Common.{◌≡◌, ◌*◌, ap, subst, arith}
use Rattle.base_graph.specs.NeedsGraph.{IsGraph}
use Rattle.diagram_needs.specs.Least.{IsLeastOf}
use Rattle.diagram_needs.specs.Needed.{needed}
use Rattle.diagram_needs.specs.Blocks.{IsOnLoopIn}
use Rattle.diagram_needs.proofs.BlockSteps.{block_least, block_none, on_loop-below}
use Rattle.diagram_needs.proofs.least_row.least_on_loop.Goals as goal

pub returns-in-Some : goal.returns-in-Some
returns-in-Some c = block_least (needed c.args.g.now) (c.from-first.result * 64)
    (λ b loop. let at = c.loop-block.invariant b loop in let same = c.from-first.ensures in omega arith) c.in-Some.row
    (subst (IsLeastOf (IsOnLoopIn (needed c.args.g.now) (c.from-first.result * 64))) c.in-Some.is c.in_ok-row.ensures)

pub loop-block-init : goal.loop-block-init
loop-block-init c b loop =
    let below = div-mul-le_self c.in_ok-floor.floor 64 in
    let above = c.in_ok-floor.ensures b loop in
    omega arith

pub loop-block-preserved : goal.loop-block-preserved
loop-block-preserved c b loop =
    let first : c.from-first.result ≡ c.loop-block.block = c.from-first.ensures in
    let later = block_none (needed c.args.g.now) (c.from-first.result * 64)
    (λ b loop. let at = c.loop-block.invariant b loop in omega arith)
    (subst (IsLeastOf (IsOnLoopIn (needed c.args.g.now) (c.from-first.result * 64))) c.in_default.is c.in_ok-row.ensures) b loop in
    omega arith

pub returns : goal.returns
returns c b loop =
    let first = c.loop-block.invariant b loop in
    let below = on_loop-below c.args.g.now (subst IsGraph c.g.view_is c.g.invariant) b loop in
    let same = ap (λ v. v.n) c.g.view_is in
    let end = c.loop-block-test.false in
    omega arith
