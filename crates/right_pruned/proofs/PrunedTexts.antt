-- The text of a program that is pruned.
use Rattle.std.proofs.Common.{sym, subst}
use Rattle.diagram_meaning.specs.ResolvedTable.{diagram_of_table}
use Rattle.emit_pruned.specs.Calls.{NoneIdle}
use Rattle.emit_pruned.specs.Laws.{CallsMeanNoLines, PrunedHasNoneIdle}
use Rattle.right_claim.specs.LineLaws.{TextOfCodeIsRight}
use Rattle.right_claim.specs.Right.{IsCodeFor}
use Rattle.right_pruned.specs.Laws.{PrunedIsCode, TextOfPrunedIsRight}

pub text_of_pruned_is_right : PrunedIsCode → PrunedHasNoneIdle → CallsMeanNoLines → TextOfCodeIsRight → TextOfPrunedIsRight
text_of_pruned_is_right code none lines texts bytes p q made lawful text = record {
  right = λ r is. texts bytes q r text
      (subst (λ x. IsCodeFor x (diagram_of_table r) r.times.delays r.times.hyper) (sym made)
      (code p (diagram_of_table r) r.times.delays r.times.hyper lawful is));
  none_idle = λ reading read. subst NoneIdle (sym (text.one reading read))
      (lines q text.reading (sym text.same) (subst NoneIdle (sym made) (none p lawful)));
}
