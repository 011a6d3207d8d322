use Rattle.std.proofs.Common.{true, false, ◌++◌, ◌∷◌, [], sym, ap, ◌∙◌, arith}
use Rattle.std.proofs.lemmas.List.{append-nil}
use Rattle.base_core.specs.Ports.{has_bit}
use Rattle.tool_driver.proofs.LoopSteps.{given_more}
use Rattle.tool_driver.proofs.plans.outputs_given.Goals as goal
use Rattle.tool_driver.proofs.plans.outputs_given.Goals.{then-has_bit+in_ok-copy_of+in_ok-push, else-has_bit}

pub loop-bit-preserved : goal.loop-bit-preserved
loop-bit-preserved c =
    let f = c.args.function.now in
    let i = c.loop-bit.bit in
    let told = c.has_bit.ensures ∙ ap (λ m. has_bit m i) c.from.ensures in
    elim c.if-has_bit.branch [
      | then-has_bit+in_ok-copy_of+in_ok-push w ↦
          given_more f c.args.names.now i c.index-names-bit.result c.loop-bit.given.items c.if-has_bit.given.items true
          (omega arith) c.index-names-bit.is c.loop-bit.invariant
          (sym w.if-has_bit.true ∙ told)
          (ap (λ v. v.items) w.given-is ∙ w.in_ok-push.ensures.items
          ∙ ap (λ n. c.loop-bit.given.items ++ n ∷ []) (w.in_ok-copy_of.ensures ∙ w.bytes.ensures))
      | else-has_bit w ↦
          given_more f c.args.names.now i c.index-names-bit.result c.loop-bit.given.items c.if-has_bit.given.items false
          (omega arith) c.index-names-bit.is c.loop-bit.invariant
          (sym w.if-has_bit.false ∙ told) (ap (λ v. v.items) w.given-is ∙ sym (append-nil c.loop-bit.given.items))
    ]
