use Rattle.std.proofs.Common.{◌≡◌, ◌∙◌, length, refl, sym, subst, arith, true≢false}
use Rattle.diagram_meaning.specs.Diagram.{type_at}
use Rattle.diagram_same.proofs.AlikeSteps.{AreFirst, first-more, map-at, map-first, map-long}
use Rattle.diagram_same.proofs.alike.have_equal_types.Goals as goal

pub returns-then-bs-cs : goal.returns-then-bs-cs
returns-then-bs-cs c =
    let other = c.if-bs-cs.true in (
      λ e. absurd (true≢false (sym e)),
      λ same. let long = map-long (type_at c.args.r.now.types) c.args.bs.now c.args.cs.now same in absurd (omega (arith, other, long)),
    )

pub returns-then-not-have_equal_type : goal.returns-then-not-have_equal_type
returns-then-not-have_equal_type c =
    let test = c.loop-k-test.true in
    let long = c.if-bs-cs.false in (
      λ e. absurd (true≢false (sym e)),
      λ same. absurd (true≢false (sym (c.have_equal_type.ensures.1
          (map-at (type_at c.args.r.now.types) c.args.bs.now c.args.cs.now c.loop-k.k same (omega (arith, test)) (omega (arith, test, long))))
          ∙ c.if-not-have_equal_type.true)),
    )

pub loop-k-preserved : goal.loop-k-preserved
loop-k-preserved c =
    first-more (λ b d. type_at c.args.r.now.types b ≡ type_at c.args.r.now.types d) c.args.bs.now c.args.cs.now c.loop-k.k
    c.loop-k.invariant (c.have_equal_type.ensures.0 c.if-not-have_equal_type.false)

pub returns : goal.returns
returns c =
    let test = c.loop-k-test.false in
    let most = c.loop-k.auto.k-end in
    let same = c.if-bs-cs.false in
    let all : c.loop-k.k ≡ length c.args.bs.now = omega (arith, test, most) in (
      λ z. map-first (type_at c.args.r.now.types) c.args.bs.now c.args.cs.now (omega (arith, same))
          (subst (AreFirst (λ b d. type_at c.args.r.now.types b ≡ type_at c.args.r.now.types d) c.args.bs.now c.args.cs.now) all
          c.loop-k.invariant),
      λ z. refl,
    )
