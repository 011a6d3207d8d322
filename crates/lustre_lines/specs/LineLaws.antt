-- The law of lines.
use Rattle.std.specs.Prelude.{◌≡◌}
use Rattle.diagram_meaning.specs.Diagram.{Diagram}
use Rattle.lustre_syntax.specs.Tree.{FileTree, without_lines}
use Rattle.lustre_syntax.specs.Lawful.{IsLawful}
use Rattle.lustre_right.specs.Right.{IsLustreOf}

-- a lawful file is right for a diagram where the same file on other lines is
abbrev pub LinesMeanNothing : Type 0
LinesMeanNothing =
    (f g : FileTree) (d : Diagram) → without_lines f ≡ without_lines g → IsLawful g →
    IsLustreOf f d → IsLustreOf g d
