use Rattle.std.proofs.Common.{◌≡◌, ◌∙◌, ◌+◌, None, length, sym, ap, subst, arith}
use Rattle.std.specs.Cmp.{signed_Decides}
use Rattle.std.proofs.lemmas.Slice.Eq.{slice_eq-Decides}
use Rattle.diagram_meaning.specs.ResolvedTree.{diagram_of}
use Rattle.diagram_meaning.proofs.lemmas.Tick.{next_round}
use Rattle.diagram_typed_runs.specs.Fitting.{AreFit}
use Rattle.test_solver.proofs.Rounds.{rounds, no-round, round-more, rounds-solve}
use Rattle.test_solver.proofs.tick.solution.Goals as goal

pub loop-turn-init : goal.loop-turn-init
loop-turn-init c =
    let d = diagram_of c.args.tick.now.diagram.now in
    let copied = c.in_ok-values.ensures.items ∙ c.as_slice.ensures.value in record {
      made = copied
          ∙ no-round d c.args.tick.now.number c.args.tick.now.inputs.now c.args.tick.now.before.now.values.items c.args.tick.now.before.now.memories.items
          c.args.tick.now.before.now.triggers.items c.args.tick.now.before.now.values.items;
      fit = subst (AreFit d) (sym copied) c.requires.before.values;
    }

pub loop-turn-preserved : goal.loop-turn-preserved
loop-turn-preserved c = record {
  made = round-more (diagram_of c.args.tick.now.diagram.now) c.args.tick.now.number c.args.tick.now.inputs.now c.args.tick.now.before.now.values.items
      c.args.tick.now.before.now.memories.items c.args.tick.now.before.now.triggers.items
      c.args.tick.now.before.now.values.items c.loop-turn.values.items c.in_ok-next.next.items c.loop-turn._turn c.loop-turn.invariant.made
      (c.in_ok-next.ensures.values
      ∙ ap (next_round (diagram_of c.args.tick.now.diagram.now) None c.args.tick.now.number c.args.tick.now.inputs.now c.args.tick.now.before.now.values.items
      c.args.tick.now.before.now.memories.items c.args.tick.now.before.now.triggers.items) c.as_slice-in-loop-turn.ensures.value);
  fit = c.in_ok-next.ensures.fit;
}

-- a round that changes nothing solves the equations
pub returns-then-eq-clause-solves : goal.returns-then-eq-clause-solves
returns-then-eq-clause-solves c =
    let same =
    (slice_eq-Decides signed_Decides c.as_slice-in-loop-turn-2.result.now c.as_slice-in-loop-turn-3.result.now
    c.eq.result c.eq.ensures).0 c.if-eq.true in
    let made = sym c.as_slice-in-loop-turn-2.ensures.value ∙ same ∙ c.as_slice-in-loop-turn-3.ensures.value in
    c.in_ok-next.ensures.values
    ∙ ap (next_round (diagram_of c.args.tick.now.diagram.now) None c.args.tick.now.number c.args.tick.now.inputs.now c.args.tick.now.before.now.values.items
    c.args.tick.now.before.now.memories.items c.args.tick.now.before.now.triggers.items) (c.as_slice-in-loop-turn.ensures.value
    ∙ sym made)

pub returns-clause-solves : goal.returns-clause-solves
returns-clause-solves c =
    let d = diagram_of c.args.tick.now.diagram.now in
    let low = c.loop-turn-test.false in
    let high = c.loop-turn.auto._turn-end in
    let all : c.loop-turn._turn ≡ length d.rows + 2 = omega (arith, c.row_count-turn-end.ensures.count, low, high) in
    rounds-solve d c.args.tick.now.number c.args.tick.now.inputs.now c.args.tick.now.before.now.values.items c.args.tick.now.before.now.memories.items
    c.args.tick.now.before.now.triggers.items c.requires.no_loop
    c.args.tick.now.before.now.values.items c.loop-turn.values.items
    (c.loop-turn.invariant.made
    ∙ ap (rounds d c.args.tick.now.number c.args.tick.now.inputs.now c.args.tick.now.before.now.values.items c.args.tick.now.before.now.memories.items
    c.args.tick.now.before.now.triggers.items c.args.tick.now.before.now.values.items) all)
