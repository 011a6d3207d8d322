use Rattle.std.proofs.Common.{◌≡◌, ◌∙◌, ◌<◌, ◌+◌, length, subst, sym, arith}
use Rattle.std.proofs.lemmas.List.{get_or_default}
use Rattle.diagram_meaning.specs.Rows.{no_row}
use Rattle.diagram_needs.specs.TrueNeeds.{AreInputBits}
use Rattle.diagram_needs.proofs.InputSteps.{inputs-none, inputs-more}
use Rattle.diagram_needs.proofs.true_needs.input_bits.Goals as goal

pub loop-b-init : goal.loop-b-init
loop-b-init c =
    subst (AreInputBits c.args.rows.now c.args.system 0) (sym c.new-bits.ensures.items)
    (inputs-none c.args.rows.now c.args.system)

pub loop-b-preserved : goal.loop-b-preserved
loop-b-preserved c =
    let inside : c.loop-b.b < length c.args.rows.now = c.loop-b-test.true in
    subst (AreInputBits c.args.rows.now c.args.system (c.loop-b.b + 1)) (sym c.in_ok-push.ensures.items)
    (inputs-more c.args.rows.now c.args.system c.loop-b.b (c.loop-b.b + 1) c.row_bit.result c.loop-b.bits.items
    c.index-rows-b.result (omega arith) inside
    (c.index-rows-b.is ∙ get_or_default c.args.rows.now c.loop-b.b c.index-rows-b.result no_row inside)
    c.row_bit.ensures c.loop-b.invariant)

pub returns : goal.returns
returns c =
    let low = c.loop-b-test.false in
    let high = c.loop-b.auto.b-end in
    let all : c.loop-b.b ≡ length c.args.rows.now = omega arith in
    subst (λ n. AreInputBits c.args.rows.now c.args.system n c.loop-b.bits.items) all c.loop-b.invariant
