-- Laws of the simplified program, by those of the three passes.
use Rattle.std.proofs.Common.{refl}
use Rattle.c_refinement.specs.Laws.{RefinementsCompose, SameRunsRefine}
use Rattle.c_refinement.specs.Refinement.{RefinesBy, kept_all, in_place}
use Rattle.emit_fused.specs.Fused.{fused}
use Rattle.emit_fused.specs.Laws.{FusedIsLawful, FusedRefines}
use Rattle.emit_inlined.specs.Inlined.{stays, place, inlined}
use Rattle.emit_inlined.specs.Laws.{InlinedIsLawful, InlinedRefines}
use Rattle.emit_pruned.specs.Laws.{PrunedIsLawful, PrunedRunsAlike, PrunedHasNoneIdle}
use Rattle.emit_pruned.specs.Pruned.{pruned}
use Rattle.emit_simplified.specs.Laws.{SimplifiedIsLawful, SimplifiedRefines, SimplifiedHasNoneIdle}
use Rattle.emit_simplified.specs.Simplified.{simplified}

pub simplified_is_lawful : InlinedIsLawful → FusedIsLawful → PrunedIsLawful → SimplifiedIsLawful
simplified_is_lawful inlines fuses prunes p lawful = prunes (fused (inlined p)) (fuses (inlined p) (inlines p lawful))

pub simplified_has_none_idle : InlinedIsLawful → FusedIsLawful → PrunedHasNoneIdle → SimplifiedHasNoneIdle
simplified_has_none_idle inlines fuses none p lawful = none (fused (inlined p)) (fuses (inlined p) (inlines p lawful))

pub simplified_refines : InlinedIsLawful → FusedIsLawful → InlinedRefines → FusedRefines → PrunedRunsAlike → RefinementsCompose →
    SameRunsRefine → SimplifiedRefines
simplified_refines inlines fuses inlined_refines fused_refines pruned_alike compose same p lawful =
    let q = fused (inlined p) in
    let runs = pruned_alike q (fuses (inlined p) (inlines p lawful)) in
    let two : RefinesBy (place p) (stays p) p q =
    compose (place p) in_place (stays p) kept_all p (inlined p) q (inlined_refines p lawful) (fused_refines (inlined p)) (λ k keep. refl) in
    let three : RefinesBy in_place kept_all q (pruned q) = same q (pruned q) runs.calls runs.start runs.rows in
    compose (place p) in_place (stays p) kept_all p q (simplified p) two three (λ k keep. refl)
