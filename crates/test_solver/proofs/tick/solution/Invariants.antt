use Rattle.std.proofs.Common.{◌≡◌}
use Rattle.diagram_meaning.specs.ResolvedTree.{diagram_of}
use Rattle.diagram_typed_runs.specs.Fitting.{AreFit}
use Rattle.test_solver.proofs.Rounds.{rounds}
use Rattle.test_solver.proofs.tick.solution.Given as goal

abbrev pub invariant-loop-turn : goal.invariant-loop-turn
invariant-loop-turn l = record {
  made : l.values.items
      ≡ rounds (diagram_of l.tick.diagram.now) l.tick.number l.tick.inputs.now l.tick.before.now.values.items l.tick.before.now.memories.items l.tick.before.now.triggers.items
      l.tick.before.now.values.items l._turn;
  fit : AreFit (diagram_of l.tick.diagram.now) l.values.items;
}
