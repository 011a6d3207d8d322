-- What two programs that differ in lines alone have in common: all that they do, except for the line
-- where one is stuck.
use Rattle.std.specs.Prelude.{◌≡◌, ℕ, ℤ, List, option_map}
use Rattle.c_syntax.specs.declared.fault.Stuck.{Stuck}
use Rattle.c_syntax.specs.Tree.{ProgramTree}
use Rattle.c_semantics.specs.Cells.{Cells}
use Rattle.c_semantics.specs.Machine.{Outcome, done, stuck, call_from_outside}
use Rattle.c_semantics.specs.Rows.{Rows, c_rows, start_run}
use Rattle.c_syntax.specs.Lawful.{without_lines}

-- why something is stuck, at line 0
abbrev pub stuck_aside : Stuck → Stuck
stuck_aside at = record { line = 0; why = at.why }

-- an outcome that doesn't say at which line it is stuck
abbrev pub outcome_aside : Outcome → Outcome
outcome_aside (done after) = done after
outcome_aside (stuck at cells) = stuck (stuck_aside at) cells

-- rows that don't say so
abbrev pub rows_aside : Rows → Rows
rows_aside rows =
    record {
      ticks = rows.ticks;
      cells = rows.cells;
      stuck_place = option_map stuck_aside rows.stuck_place;
    }

-- both do the same at each call from outside, from the start, and over each trace
pub record RunAlike (p q : ProgramTree) : Type 0 where
  pub calls : (k : ℕ) (path : List ℕ) (values : List ℤ) (cells : Cells) →
      outcome_aside (call_from_outside p k path values cells)
      ≡ outcome_aside (call_from_outside q k path values cells)
  pub start : outcome_aside (start_run p) ≡ outcome_aside (start_run q)
  pub rows : (trace : List (List ℤ)) → rows_aside (c_rows p trace) ≡ rows_aside (c_rows q trace)

-- programs that differ in lines alone do
abbrev pub LinesMeanNothing : Type 0
LinesMeanNothing = (p q : ProgramTree) → without_lines p ≡ without_lines q → RunAlike p q
