-- The laws of the loop that is reported, on which a file's one verdict rests.
use Rattle.std.specs.Prelude.{◌≡◌, ℕ, List, ◌⊎◌}
use Rattle.diagram_meaning.specs.Diagram.{Diagram}
use Rattle.diagram_meaning.specs.Needs.{needs_of, HasNoLoop, IsLeastLoop}

-- a diagram has no loop, or one that is reported
abbrev pub LoopIsToldOrNone : Type 0
LoopIsToldOrNone =
    (d : Diagram) → HasNoLoop (needs_of d) ⊎ ((loop : List ℕ) × IsLeastLoop (needs_of d) loop)

-- at most one loop is reported
abbrev pub ToldLoopIsOne : Type 0
ToldLoopIsOne = (needs : ℕ → List ℕ) (loop other : List ℕ) → IsLeastLoop needs loop →
    IsLeastLoop needs other → loop ≡ other
