use Rattle.std.proofs.Common.{◌∙◌, ◌+◌, ◌-◌, inl, inr, refl, sym, subst, arith, true≢false}
use Rattle.std.specs.List.{AllZip, range_with_len}
use Rattle.std.proofs.lemmas.Bool.{cases_lt}
use Rattle.diagram_meaning.specs.ResolvedTree.{diagram_of}
use Rattle.diagram_same.specs.Same.{AreAlike}
use Rattle.diagram_same.proofs.lemmas.Zips.{zip-at, zip-each}
use Rattle.diagram_same.proofs.alike.are_alike.Goals as goal

pub returns-then-not-is_alike : goal.returns-then-not-is_alike
returns-then-not-is_alike c =
    let test = c.loop-k-test.true in
    let from = c.loop-k.auto.k in (
      λ e. absurd (true≢false (sym e)),
      λ zip. absurd (true≢false (sym (c.is_alike.ensures.1
          (zip-at (AreAlike (diagram_of c.args.r.now) c.args.a.row c.args.b.row) (c.args.a.row + 1) (c.args.b.row + 1)
          (c.args.a.end - (c.args.a.row + 1)) (c.args.b.end - (c.args.b.row + 1)) (c.args.a.row + c.loop-k.k) (c.args.b.row + c.loop-k.k) zip
          (omega (arith, from)) (omega (arith, from, test)) (omega arith)))
          ∙ c.if-not-is_alike.true)),
    )

pub loop-k-preserved : goal.loop-k-preserved
loop-k-preserved c = λ j from less. elim (cases_lt j c.loop-k.k) [
  | inl before ↦ c.loop-k.invariant j from before
  | inr last ↦
      subst (λ j. AreAlike (diagram_of c.args.r.now) c.args.a.row c.args.b.row (c.args.a.row + j) (c.args.b.row + j))
      (omega (arith, last, less)) (c.is_alike.ensures.0 c.if-not-is_alike.false)
]

pub returns : goal.returns
returns c =
    let test = c.loop-k-test.false in
    let same = c.requires.counts in
    let late = c.requires.first.late in
    let also = c.requires.second.late in (
      λ z. subst (λ n. AllZip (AreAlike (diagram_of c.args.r.now) c.args.a.row c.args.b.row)
          (range_with_len (c.args.a.row + 1) (c.args.a.end - (c.args.a.row + 1))) (range_with_len (c.args.b.row + 1) n))
          (omega (arith, same, late, also))
          (zip-each (AreAlike (diagram_of c.args.r.now) c.args.a.row c.args.b.row) (c.args.a.row + 1) (c.args.b.row + 1)
          (c.args.a.end - (c.args.a.row + 1))
          (λ i less. subst (λ x. AreAlike (diagram_of c.args.r.now) c.args.a.row c.args.b.row x (c.args.b.row + 1 + i)) (omega arith)
          (subst (λ y. AreAlike (diagram_of c.args.r.now) c.args.a.row c.args.b.row (c.args.a.row + (1 + i)) y) (omega arith)
          (c.loop-k.invariant (1 + i) (omega arith) (omega (arith, less, test)))))),
      λ z. refl,
    )
