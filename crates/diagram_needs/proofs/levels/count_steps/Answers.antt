use Rattle.std.proofs.Common.{◌<◌, Contains, subst, sym, ◌∙◌, arith}
use Rattle.diagram_needs.specs.Levels.{IsFront, unreached}
use Rattle.diagram_needs.proofs.NumberSteps.{front-inside}
use Rattle.diagram_needs.proofs.levels.count_steps.Goals as goal

pub advance-requires-clause-inside : goal.advance-requires-clause-inside
advance-requires-clause-inside c a is =
    front-inside c.args.g.now.n c.args.z c.levels.k c.levels.steps c.levels.front.items c.requires.row
    c.levels.invariant.len c.levels.invariant.front a
    (subst (λ xs. Contains xs a) c.deref.ensures.value is)

pub levels-smaller : goal.levels-smaller
levels-smaller c =
    let front = subst (IsFront c.args.z c.levels.k c.levels.steps) (sym c.deref.ensures.value) c.levels.invariant.front in
    c.in_ok-front-2.ensures.falls c.args.z c.levels.invariant.levels front c.requires.on_loop c.levels-test.true

pub levels-preserved : goal.levels-preserved
levels-preserved c =
    let front = subst (IsFront c.args.z c.levels.k c.levels.steps) (sym c.deref.ensures.value) c.levels.invariant.front in
    let next = c.in_ok-front-2.ensures.levels c.args.z c.levels.invariant.levels front in
    let fewer : unreached c.advance.new.steps < unreached c.levels.steps =
    c.in_ok-front-2.ensures.falls c.args.z c.levels.invariant.levels front c.requires.on_loop c.levels-test.true in
    let room = c.levels.invariant.room in
    record {
      len = c.advance.auto.steps ∙ c.levels.invariant.len;
      levels = next.0;
      front = next.1;
      room = omega arith;
    }
