-- What holds of a lawful program holds of the pruned one, of which no function is idle.
use Rattle.std.specs.Prelude.{◌≡◌, ℕ, ℤ, List}
use Rattle.c_syntax.specs.Tree.{ProgramTree}
use Rattle.c_syntax.specs.Lawful.{IsLawful, without_lines}
use Rattle.c_semantics.specs.Cells.{Cells}
use Rattle.c_semantics.specs.Machine.{call_from_outside}
use Rattle.c_semantics.specs.Rows.{c_rows, start_run}
use Rattle.emit_pruned.specs.Calls.{NoneIdle}
use Rattle.emit_pruned.specs.Pruned.{pruned}

-- the one program does what the other does at each call from outside, from the start, and over each
-- trace
pub record RunsAs (p q : ProgramTree) : Type 0 where
  pub calls : (k : ℕ) (path : List ℕ) (values : List ℤ) (cells : Cells) →
      call_from_outside p k path values cells ≡ call_from_outside q k path values cells
  pub start : start_run p ≡ start_run q
  pub rows : (trace : List (List ℤ)) → c_rows p trace ≡ c_rows q trace

-- it keeps the static rules and the limits
abbrev pub PrunedIsLawful : Type 0
PrunedIsLawful = (p : ProgramTree) → IsLawful p → IsLawful (pruned p)

-- it does the same
abbrev pub PrunedRunsAlike : Type 0
PrunedRunsAlike = (p : ProgramTree) → IsLawful p → RunsAs (pruned p) p

-- each function of it is called
abbrev pub PrunedHasNoneIdle : Type 0
PrunedHasNoneIdle = (p : ProgramTree) → IsLawful p → NoneIdle (pruned p)

-- which functions are called isn't a matter of lines
abbrev pub CallsMeanNoLines : Type 0
CallsMeanNoLines = (p q : ProgramTree) → without_lines p ≡ without_lines q → NoneIdle p → NoneIdle q
