use Rattle.std.proofs.Common.{◌≡◌, length, refl, subst, arith}
use Rattle.diagram_same.specs.Same.{IsMoved}
use Rattle.diagram_same.proofs.AlikeSteps.{AreFirst, zip-first}
use Rattle.diagram_same.proofs.alike.are_moved.Goals as goal

pub returns : goal.returns
returns c =
    let test = c.loop-k-test.false in
    let most = c.loop-k.auto.k-end in
    let same = c.if-bs-cs.false in
    let all : c.loop-k.k ≡ length c.args.bs.now = omega (arith, test, most) in (
      λ z. zip-first (IsMoved c.args.e c.args.f) c.args.bs.now c.args.cs.now (omega (arith, same))
          (subst (AreFirst (IsMoved c.args.e c.args.f) c.args.bs.now c.args.cs.now) all c.loop-k.invariant),
      λ z. refl,
    )
