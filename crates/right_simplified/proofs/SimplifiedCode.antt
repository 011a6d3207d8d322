-- Code, and its text, when it is simplified.
use Rattle.diagram_meaning.specs.ResolvedTable.{diagram_of_table}
use Rattle.emit_fused.specs.Fused.{fused}
use Rattle.emit_fused.specs.Laws.{FusedIsLawful}
use Rattle.emit_inlined.specs.Inlined.{inlined}
use Rattle.emit_inlined.specs.Laws.{InlinedIsLawful}
use Rattle.right_fused.specs.Laws.{FusedIsCode}
use Rattle.right_inlined.specs.Laws.{InlinedIsCode}
use Rattle.right_pruned.specs.Laws.{PrunedIsCode, TextOfPrunedIsRight}
use Rattle.right_simplified.specs.Laws.{SimplifiedIsCode, TextOfSimplifiedIsRight}

pub simplified_is_code : InlinedIsLawful → FusedIsLawful → InlinedIsCode → FusedIsCode → PrunedIsCode → SimplifiedIsCode
simplified_is_code inlines fuses inlined_code fused_code pruned_code p d delays hyper lawful is =
    pruned_code (fused (inlined p)) d delays hyper (fuses (inlined p) (inlines p lawful))
    (fused_code (inlined p) d delays hyper (inlines p lawful) (inlined_code p d delays hyper lawful is))

-- what is pruned last is code before it is
pub text_of_simplified_is_right : InlinedIsLawful → FusedIsLawful → InlinedIsCode → FusedIsCode → TextOfPrunedIsRight →
    TextOfSimplifiedIsRight
text_of_simplified_is_right inlines fuses inlined_code fused_code texts bytes p q made lawful text =
    let pruned = texts bytes (fused (inlined p)) q made (fuses (inlined p) (inlines p lawful)) text in record {
      right = λ r is.
          pruned.right r
          (fused_code (inlined p) (diagram_of_table r) r.times.delays r.times.hyper (inlines p lawful)
          (inlined_code p (diagram_of_table r) r.times.delays r.times.hyper lawful is));
      none_idle = pruned.none_idle;
    }
