use Rattle.std.proofs.Common.{true, false, ◌++◌, ◌∷◌, [], sym, ap, ◌∙◌}
use Rattle.std.proofs.lemmas.List.{append-nil}
use Rattle.base_core.specs.Ports.{has_bit}
use Rattle.modules_profile.proofs.EntrySteps.{given-more}
use Rattle.modules_profile.proofs.entries.given.Goals as goal
use Rattle.modules_profile.proofs.entries.given.Goals.{then-has_bit+in_ok-push, else-has_bit}

pub loop-bit-preserved : goal.loop-bit-preserved
loop-bit-preserved c =
    let f = c.args.function.now in
    let i = c.loop-bit.bit in
    let o = c.index-outputs-bit.result in
    let told = ap (λ m. has_bit m i) (sym c.from.ensures) ∙ sym c.has_bit.ensures in
    elim c.if-has_bit.branch [
      | then-has_bit+in_ok-push w ↦ ap (λ v. v.items) w.wires-is ∙ w.in_ok-push.ensures.items
          ∙ ap (λ ws. ws ++ o.0 ∷ []) c.loop-bit.invariant
          ∙ sym (given-more f c.args.outputs.now i o true c.loop-bit-test.true c.index-outputs-bit.is (told ∙ w.if-has_bit.true))
      | else-has_bit w ↦ ap (λ v. v.items) w.wires-is ∙ sym (append-nil c.loop-bit.wires.items) ∙ ap (λ ws. ws ++ []) c.loop-bit.invariant
          ∙ sym (given-more f c.args.outputs.now i o false c.loop-bit-test.true c.index-outputs-bit.is (told ∙ w.if-has_bit.false))
    ]
