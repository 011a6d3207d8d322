use Rattle.std.proofs.Common.{◌≡◌, [], map, take, slice_index_or}
use Rattle.diagram_meaning.specs.ResolvedTree.{diagram_of}
use Rattle.diagram_meaning.proofs.lemmas.Ticks.{before_tick}
use Rattle.diagram_typed_runs.specs.Fitting.{IsFit}
use Rattle.test_solver.proofs.Runs.{run_of, first_values}
use Rattle.test_solver.proofs.run.plain_run.Given as goal

abbrev pub invariant-loop-tick : goal.invariant-loop-tick
invariant-loop-tick l =
    let d = diagram_of l.fn.r in
    let run = run_of d (map (λ x. x.items) l.inputs) in record {
      values : map (λ v. v.items) l.values.items ≡ take l.tick run.values;
      before : l.state.values.items ≡ before_tick (first_values d) run.values l.tick;
      memories : l.state.memories.items ≡ slice_index_or run.memories l.tick [];
      triggers : l.state.triggers.items ≡ slice_index_or run.triggers l.tick [];
      fit : IsFit d l.state.values.items l.state.memories.items l.state.triggers.items;
    }
