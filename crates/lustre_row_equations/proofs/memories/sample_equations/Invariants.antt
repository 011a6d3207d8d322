use Rattle.std.proofs.Common.{◌≡◌, ◌++◌, map, None}
use Rattle.diagram_meaning.specs.ResolvedTree.{diagram_of}
use Rattle.lustre_syntax.specs.Plain.{equation_tree}
use Rattle.lustre_system.specs.RowEquations.{samples, sample_equations}
use Rattle.lustre_row_equations.specs.Placed.{placed_equations}
use Rattle.lustre_row_equations.proofs.Samples.{from_sample}
use Rattle.lustre_row_equations.proofs.memories.sample_equations.Given as goal

abbrev pub invariant-loop-k : goal.invariant-loop-k
invariant-loop-k l =
    map equation_tree l.fn.equations.items
    ++ placed_equations l.scope.names.now (sample_equations (diagram_of l.scope.diagram.now) None l.b (samples (diagram_of l.scope.diagram.now) None l.b))
    ≡ map equation_tree l.equations.items ++ placed_equations l.scope.names.now (from_sample (diagram_of l.scope.diagram.now) l.b l.k)
