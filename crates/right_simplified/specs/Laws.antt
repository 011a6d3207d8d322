-- Code for a diagram is code for it when it is simplified.
use Rattle.std.specs.Prelude.{◌≡◌, ℕ, List}
use Rattle.c_syntax.specs.Tree.{ProgramTree}
use Rattle.c_syntax.specs.Lawful.{IsLawful}
use Rattle.c_rules.specs.Reading.{IsTextOf}
use Rattle.right_fused.specs.Laws.{KeepsCode}
use Rattle.right_pruned.specs.Laws.{IsTextOfCode}
use Rattle.emit_simplified.specs.Simplified.{simplified}

abbrev pub SimplifiedIsCode : Type 0
SimplifiedIsCode = KeepsCode simplified

-- the text of lawful code that is simplified is right for the code's table, and each pure function
-- in it is called
abbrev pub TextOfSimplifiedIsRight : Type 0
TextOfSimplifiedIsRight = (bytes : List ℕ) (p q : ProgramTree) → q ≡ simplified p → IsLawful p →
    IsTextOf bytes q → IsTextOfCode bytes p
