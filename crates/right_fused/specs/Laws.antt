-- Code for a diagram is code for it when it is fused.
use Rattle.std.specs.Prelude.{ℕ, Bool, List}
use Rattle.diagram_meaning.specs.Diagram.{Diagram}
use Rattle.c_syntax.specs.Tree.{ProgramTree}
use Rattle.c_syntax.specs.Lawful.{IsLawful}
use Rattle.right_claim.specs.Right.{IsCodeFor}
use Rattle.emit_fused.specs.Fused.{fused}

-- a pass takes lawful code for a diagram to code for it
abbrev pub KeepsCode : (ProgramTree → ProgramTree) → Type 0
KeepsCode pass =
    (p : ProgramTree) (d : Diagram) (delays : List Bool) (hyper : ℕ) → IsLawful p →
    IsCodeFor p d delays hyper →
    IsCodeFor (pass p) d delays hyper

abbrev pub FusedIsCode : Type 0
FusedIsCode = KeepsCode fused
