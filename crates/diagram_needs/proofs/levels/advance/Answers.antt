use Rattle.std.proofs.Common.{◌≡◌, ◌+◌, suc, length, get_or, subst, sym, arith}
use Rattle.std.proofs.lemmas.List.{get_or_default}
use Rattle.diagram_needs.specs.Levels.{IsFront}
use Rattle.diagram_needs.proofs.LevelSteps.{levels-more, levels-fall}
use Rattle.diagram_needs.proofs.NumberSteps.{front-advances, next-exact}
use Rattle.diagram_needs.proofs.levels.advance.Goals as goal

pub number-requires-clause-row : goal.number-requires-clause-row
number-requires-clause-row c =
    c.requires.inside (get_or c.args.front.now c.loop-a.a-index 0) (
      c.loop-a.a-index,
      c.loop-a-test.true,
      get_or_default c.args.front.now c.loop-a.a-index (get_or c.args.front.now c.loop-a.a-index 0) 0
          c.loop-a-test.true,
    )

pub returns-clause-levels : goal.returns-clause-levels
returns-clause-levels c z levels exact =
    let low = c.loop-a-test.false in let high = c.loop-a.auto.a-index-end in
    let all : c.loop-a.a-index ≡ length c.args.front.now = omega arith in
    let more : c.args.k + 1 ≡ suc c.args.k = omega arith in (
      levels-more c.args.g.now z c.args.k c.args.steps.now c.loop-a.steps levels
          (front-advances c.args.g.now (c.args.k + 1) c.args.front.now c.args.steps.now z c.args.k c.loop-a.steps
          c.loop-a.next.items c.loop-a.a-index all more levels exact c.loop-a.invariant)
          (c.args.k + 1) more,
      subst (λ n. IsFront z n c.loop-a.steps c.loop-a.next.items) (sym more)
          (next-exact c.args.g.now (c.args.k + 1) c.args.front.now c.args.steps.now z c.args.k c.loop-a.steps
          c.loop-a.next.items c.loop-a.a-index all more levels exact c.loop-a.invariant),
    )

pub returns-clause-falls : goal.returns-clause-falls
returns-clause-falls c z levels exact loop none =
    let low = c.loop-a-test.false in let high = c.loop-a.auto.a-index-end in
    let all : c.loop-a.a-index ≡ length c.args.front.now = omega arith in
    let more : c.args.k + 1 ≡ suc c.args.k = omega arith in
    levels-fall c.args.g.now z c.args.k c.args.steps.now c.loop-a.steps levels
    (front-advances c.args.g.now (c.args.k + 1) c.args.front.now c.args.steps.now z c.args.k c.loop-a.steps
    c.loop-a.next.items c.loop-a.a-index all more levels exact c.loop-a.invariant)
    loop none
