use Rattle.std.proofs.Common.{◌≡◌, ◌+◌, ◌∷◌, [], ◌++◌, length, sym, ap, ◌∙◌, if◌then◌else◌, arith}
use Rattle.emit_pruned.specs.Marks.{flag_at}
use Rattle.emit_pruned.proofs.lemmas.Places.{counts-more, kept-more}
use Rattle.emit_pruned.proofs.PlaceLaws.{placed}
use Rattle.emit_pruned.proofs.placing.places_of.Goals as goal

pub loop-is_needed-preserved : goal.loop-is_needed-preserved
loop-is_needed-preserved c =
    let keeps = flag_at c.args.needed.now in
    let i = c.loop-is_needed.is_needed-index in
    record {
      before =
          c.in_ok-push.ensures.items ∙ (λ j. c.loop-is_needed.invariant.before j ++ c.loop-is_needed.invariant.kept j ∷ [])
          ∙ sym (counts-more keeps i);
      kept = c.in_ok-kept.ensures ∙ ap (λ m. m + (if keeps i then 1 else 0)) c.loop-is_needed.invariant.kept ∙ sym (kept-more keeps i);
    }

pub returns : goal.returns
returns c =
    let flags = c.args.needed.now in
    let i = c.loop-is_needed.is_needed-index in
    let all : i ≡ length flags = omega arith in
    (λ k. placed flags c.loop-is_needed.before.items c.loop-is_needed.kept i k all c.loop-is_needed.invariant.before
    c.loop-is_needed.invariant.kept)
