use Rattle.std.proofs.Common.{◌≡◌, ◌∙◌, sym, ap, map, length, arith}
use Rattle.std.proofs.lemmas.Bool.{false≢true}
use Rattle.modules_certificate.specs.Sound.{pairs_below, positions}
use Rattle.modules_certificate.proofs.Pairs.{places-below}
use Rattle.modules_certificate.proofs.checking.check.Goals as goal
use Rattle.modules_certificate.proofs.checking.check.Goals.{then-are_outputs, else-are_outputs}

-- the differences stand for all pairs of the representatives
are_pairs : (c : goal.After-deref-then-are_all_pairs-2) →
    map positions c.deref-then-are_all_pairs-2.result.now ≡ pairs_below (length c.deref-then-are_all_pairs.result.now)
are_pairs c = let t = c.if-are_all_pairs.true in elim c.if-are_outputs.branch [
  | then-are_outputs w ↦
      ap (map positions) (c.deref-then-are_all_pairs-2.ensures.value ∙ sym w.deref-then-are_outputs.ensures.value)
      ∙ w.are_all_pairs.ensures.0 (sym w.value-is ∙ t)
      ∙ ap pairs_below (w.len.ensures ∙ sym c.deref-then-are_all_pairs.ensures.len)
  | else-are_outputs w ↦ absurd (false≢true (sym w.if-are_outputs.false ∙ sym w.value-is ∙ t))
]

pub all_differ-requires-clause-first : goal.all_differ-requires-clause-first
all_differ-requires-clause-first c = λ k d within.
    let r = places-below c.deref-then-are_all_pairs-2.result.now (length c.deref-then-are_all_pairs.result.now) k d
    (are_pairs c) within in omega (arith, r.0, r.1)

pub all_differ-requires-clause-second : goal.all_differ-requires-clause-second
all_differ-requires-clause-second c = λ k d within.
    (places-below c.deref-then-are_all_pairs-2.result.now (length c.deref-then-are_all_pairs.result.now) k d (are_pairs c) within).1
