use Rattle.std.proofs.Common.{◌≡◌, ◌+◌, subst, sym, arith}
use Rattle.modules_profile.specs.NodeInputs.{AreInputBits}
use Rattle.modules_profile.proofs.lemmas.InputMasks.{bits-none, bits-more}
use Rattle.modules_profile.proofs.needs.input_bits.Goals as goal

pub loop-a-init : goal.loop-a-init
loop-a-init c = subst (AreInputBits c.args.rows.now 0) (sym c.new-bits.ensures.items) (bits-none c.args.rows.now)

pub loop-a-preserved : goal.loop-a-preserved
loop-a-preserved c =
    subst (AreInputBits c.args.rows.now (c.loop-a.a + 1)) (sym c.in_ok-push.ensures.items)
    (bits-more c.args.rows.now c.loop-a.a (c.loop-a.a + 1) c.place_bit.result c.loop-a.bits.items
    (omega arith) c.place_bit.ensures c.loop-a.invariant)

pub returns : goal.returns
returns c =
    let low = c.loop-a-test.false in
    let high = c.loop-a.auto.a-end in
    let all : c.loop-a.a ≡ c.args.count = omega arith in
    subst (λ n. AreInputBits c.args.rows.now n c.loop-a.bits.items) all c.loop-a.invariant
