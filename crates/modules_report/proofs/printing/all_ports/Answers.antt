use Rattle.std.proofs.Common.{List, ◌++◌, ◌∷◌, [], sym, ap, ◌∙◌, arith}
use Rattle.base_core.specs.declared.Port.{Port}
use Rattle.base_core.specs.declared.Port.TheVariants.{Number}
use Rattle.modules_report.proofs.Words.{numbers-more}
use Rattle.modules_report.proofs.printing.all_ports.Goals as goal

pub loop-k-preserved : goal.loop-k-preserved
loop-k-preserved c = c.in_ok-push.ensures.items ∙ ap (λ (ports : List Port). ports ++ Number c.loop-k.k ∷ []) c.loop-k.invariant
    ∙ sym (numbers-more Number c.loop-k.k (omega arith))
