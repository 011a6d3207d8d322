-- What holds of subsystems that are the same.
use Rattle.std.specs.Prelude.{◌≡◌, ℕ, true, List, slice_get, Some}
use Rattle.diagram_blocks.specs.Kinds.{is_subsystem}
use Rattle.diagram_meaning.specs.Rows.{row_at}
use Rattle.diagram_meaning.specs.Diagram.{Diagram}
use Rattle.diagram_meaning.specs.ResolvedTree.{ResolvedTree, IsResolvedTree, diagram_of}
use Rattle.diagram_same.specs.Same.{AreSame, AreFirsts, rows_inside}

-- each is the same as itself, and of two that are the same as a third each is the same as the other
pub record SameIsEquivalence : Type 0 where
  pub itself : (d : Diagram) (e : ℕ) → AreSame d e e
  pub turned : (d : Diagram) (e f : ℕ) → AreSame d e f → AreSame d f e
  pub through : (d : Diagram) (e f g : ℕ) → AreSame d e f → AreSame d f g → AreSame d e g

-- the subsystems at one place inside two that are the same are the same
abbrev pub InnerAreSame : Type 0
InnerAreSame =
    (r : ResolvedTree) (e f place b c : ℕ) → IsResolvedTree r → AreSame (diagram_of r) e f →
    slice_get (rows_inside (diagram_of r).rows e) place ≡ Some b →
    slice_get (rows_inside (diagram_of r).rows f) place ≡ Some c →
    is_subsystem (row_at (diagram_of r).rows b).kind ≡ true →
    AreSame (diagram_of r) b c

-- each model has one list of firsts
abbrev pub FirstsAreOne : Type 0
FirstsAreOne =
    (d : Diagram) (firsts others : List ℕ) → AreFirsts d firsts → AreFirsts d others →
    firsts ≡ others
