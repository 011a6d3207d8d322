use Rattle.std.proofs.Common.{true, false, sym, ap, append-nil, ◌∙◌}
use Rattle.modules_certificate.proofs.Chosen.{one-more}
use Rattle.modules_certificate.proofs.making.least_outputs.Goals as goal
use Rattle.modules_certificate.proofs.making.least_outputs.Goals.{then-not-contains+in_ok-push, else-not-contains}

pub loop-output-preserved : goal.loop-output-preserved
loop-output-preserved c = elim c.if-not-contains.branch [
  | then-not-contains+in_ok-push w ↦
      one-more c.args.needs.now c.loop-output.outputs.items _ c.loop-output.output false c.loop-output.invariant
      (sym c.contains.ensures.value ∙ w.if-not-contains.true) (ap (λ v. v.items) w.outputs-is ∙ w.in_ok-push.ensures.items)
  | else-not-contains w ↦
      one-more c.args.needs.now c.loop-output.outputs.items _ c.loop-output.output true c.loop-output.invariant
      (sym c.contains.ensures.value ∙ w.if-not-contains.false) (ap (λ v. v.items) w.outputs-is
      ∙ sym (append-nil c.loop-output.outputs.items))
]
