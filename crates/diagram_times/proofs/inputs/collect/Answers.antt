use Rattle.std.proofs.Common.{◌≡◌, length, subst, arith}
use Rattle.diagram_times.specs.Collecting.{AreCollected}
use Rattle.diagram_times.proofs.CollectSteps.{collected-none, collected-more}
use Rattle.diagram_times.proofs.inputs.collect.Goals as goal

pub loop-b-init : goal.loop-b-init
loop-b-init c = collected-none c.args.rows.now c.args.found.now c.new-inside.result.items c.new-inside.ensures.items

pub loop-b-preserved : goal.loop-b-preserved
loop-b-preserved c =
    collected-more c.args.rows.now c.args.found.now c.loop-b.b c.loop-b.inside.items c.push.new.self.items
    c.in_ok-input_time.field-0 c.in_ok-input_time.ensures
    c.in_ok-push.ensures.items c.loop-b.invariant

pub returns : goal.returns
returns c =
    let low = c.loop-b-test.false in let high = c.loop-b.auto.b-end in
    let all : c.loop-b.b ≡ length c.args.rows.now = omega arith in
    subst (λ n. AreCollected c.args.rows.now c.args.found.now n c.loop-b.inside.items) all c.loop-b.invariant
