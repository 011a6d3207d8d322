-- Code for a diagram is code for it without the pure functions that it doesn't need.
use Rattle.std.specs.Prelude.{◌≡◌, ℕ, Bool, List}
use Rattle.diagram_meaning.specs.Diagram.{Diagram}
use Rattle.diagram_meaning.specs.ResolvedTable.{ResolvedTable, diagram_of_table}
use Rattle.c_syntax.specs.Tree.{ProgramTree}
use Rattle.c_syntax.specs.Lawful.{IsLawful}
use Rattle.c_rules.specs.Reading.{CText, IsTextOf}
use Rattle.emit_pruned.specs.Calls.{NoneIdle}
use Rattle.emit_pruned.specs.Pruned.{pruned}
use Rattle.right_claim.specs.Right.{IsCodeFor, IsRightFor}

-- lawful code for a diagram is code for it when it is pruned
abbrev pub PrunedIsCode : Type 0
PrunedIsCode =
    (p : ProgramTree) (d : Diagram) (delays : List Bool) (hyper : ℕ) → IsLawful p →
    IsCodeFor p d delays hyper →
    IsCodeFor (pruned p) d delays hyper

-- bytes are right for each table for whose diagram a program is code, and of their one reading no
-- pure function is idle
pub record IsTextOfCode (bytes : List ℕ) (p : ProgramTree) : Type 0 where
  pub right : (r : ResolvedTable) → IsCodeFor p (diagram_of_table r) r.times.delays r.times.hyper →
      IsRightFor bytes r
  pub none_idle : (reading : ProgramTree) → CText bytes reading → NoneIdle reading

-- so it is with the text of a lawful program that is pruned
abbrev pub TextOfPrunedIsRight : Type 0
TextOfPrunedIsRight = (bytes : List ℕ) (p q : ProgramTree) → q ≡ pruned p → IsLawful p →
    IsTextOf bytes q → IsTextOfCode bytes p
