use Rattle.std.proofs.Common.{◌≡◌, ◌+◌, ◌∙◌, ap, refl, subst, arith}
use Rattle.diagram_meaning.specs.ResolvedTree.{diagram_of}
use Rattle.diagram_same.specs.Signatures.{mixed}
use Rattle.diagram_same.proofs.SignatureSteps.{IsSum, sum-all, sum-more, sum-none}
use Rattle.diagram_same.proofs.signature.signature_of.Goals as goal

pub loop-b-init : goal.loop-b-init
loop-b-init c = (omega arith, sum-none (diagram_of c.args.r.now) (c.args.inside.row + 1) (c.args.inside.row + 1) refl)

pub mixed-sum-requires-clause-sum : goal.mixed-sum-requires-clause-sum
mixed-sum-requires-clause-sum c = c.loop-b.invariant.1.1

pub loop-b-preserved : goal.loop-b-preserved
loop-b-preserved c =
    let late = c.loop-b.invariant.0 in (
      omega (arith, late),
      sum-more (diagram_of c.args.r.now) (c.args.inside.row + 1) c.loop-b.b c.loop-b.sum c.mixed-sum.result late c.loop-b.invariant.1
          (c.mixed-sum.ensures.next ∙ ap (mixed c.loop-b.sum) c.row_number.ensures.number) c.mixed-sum.ensures.below,
    )

pub returns : goal.returns
returns c =
    let test = c.loop-b-test.false in
    let most = c.loop-b.auto.b-end in
    let late = c.requires.late in
    let all : c.loop-b.b ≡ c.args.inside.end = omega (arith, test, most, late) in
    sum-all (diagram_of c.args.r.now) c.args.inside.row c.args.inside.end c.loop-b.sum c.requires
    (subst (λ b. IsSum (diagram_of c.args.r.now) (c.args.inside.row + 1) b c.loop-b.sum) all c.loop-b.invariant.1)
