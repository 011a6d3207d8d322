-- What is found of a diagram's run.
use Rattle.std.specs.Prelude.{◌≡◌, List, None, ℤ}
use Rattle.diagram_meaning.specs.Diagram.{Diagram}
use Rattle.diagram_meaning.specs.Laws.{Run, IsRunOver}

-- over the trace xs the diagram has a run, whose values by tick and row are these, and no run has
-- others
pub record AreValuesOf (d : Diagram) (xs vs : List (List ℤ)) : Type 0 where
  pub run : Run
  pub is_run : IsRunOver d None xs run
  pub values : run.values ≡ vs
  pub only : (other : Run) → IsRunOver d None xs other → other.values ≡ vs
