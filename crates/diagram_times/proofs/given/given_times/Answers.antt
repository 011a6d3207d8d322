use Rattle.std.proofs.Common.{◌≡◌, length, subst, arith}
use Rattle.diagram_times.specs.Bases.{AreGiven}
use Rattle.diagram_times.proofs.GivenSteps.{given-none, given-more}
use Rattle.diagram_times.proofs.given.given_times.Goals as goal

pub loop-b-init : goal.loop-b-init
loop-b-init c = given-none c.args.rows.now c.args.base c.new-given.result.items c.new-given.ensures.items

pub loop-b-preserved : goal.loop-b-preserved
loop-b-preserved c =
    given-more c.args.rows.now c.args.base c.loop-b.b c.loop-b.given.items _ c.given_time.result c.given_time.ensures
    c.in_ok-push.ensures.items c.loop-b.invariant

pub returns : goal.returns
returns c =
    let low = c.loop-b-test.false in let high = c.loop-b.auto.b-end in
    let all : c.loop-b.b ≡ length c.args.rows.now = omega arith in
    subst (λ n. AreGiven c.args.rows.now c.args.base n c.loop-b.given.items) all c.loop-b.invariant
