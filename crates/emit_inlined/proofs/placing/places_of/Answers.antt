use Rattle.std.proofs.Common.{◌≡◌, ◌+◌, ◌∷◌, [], ◌++◌, length, Bool, true, false, not, ℕ, refl, sym, ap, ◌∙◌, if◌then◌else◌, arith}
use Rattle.emit_pruned.specs.Marks.{flag_at}
use Rattle.emit_pruned.proofs.lemmas.Places.{counts-more, kept-more}
use Rattle.emit_inlined.specs.Steps.{is_kept}
use Rattle.emit_inlined.proofs.PlaceLaws.{placed}
use Rattle.emit_inlined.proofs.placing.places_of.Goals as goal

-- a position is counted among those that stay, or among the others
one-of-both : (b : Bool) (kept dropped i more less : ℕ) → kept + dropped ≡ i → more ≡ kept + (if not b then 1 else 0) →
    less ≡ dropped + (if b then 1 else 0) → more + less ≡ i + 1
one-of-both true kept dropped i more less sum first second = omega (arith, sum, first, second)
one-of-both false kept dropped i more less sum first second = omega (arith, sum, first, second)

pub loop-is_inlined-preserved : goal.loop-is_inlined-preserved
loop-is_inlined-preserved c =
    let keeps = is_kept c.args.inlined.now in
    let i = c.loop-is_inlined.is_inlined-index in
    let before = c.loop-is_inlined.invariant in
    record {
      before = c.in_ok-push.ensures.items ∙ (λ j. before.before j ++ before.kept j ∷ []) ∙ sym (counts-more keeps i);
      kept = c.in_ok-kept.ensures ∙ ap (λ m. m + (if keeps i then 1 else 0)) before.kept ∙ sym (kept-more keeps i);
      sum =
          one-of-both (flag_at c.args.inlined.now i) c.loop-is_inlined.kept c.loop-is_inlined.dropped i c.in_ok-kept.kept
          c.in_ok-dropped.dropped before.sum c.in_ok-kept.ensures c.in_ok-dropped.ensures;
    }

pub returns : goal.returns
returns c =
    let flags = c.args.inlined.now in
    let i = c.loop-is_inlined.is_inlined-index in
    let all : i ≡ length flags = omega arith in
    (λ k. placed flags c.loop-is_inlined.before.items c.loop-is_inlined.kept c.loop-is_inlined.dropped i k all
    c.loop-is_inlined.invariant.before c.loop-is_inlined.invariant.kept c.loop-is_inlined.invariant.sum)
