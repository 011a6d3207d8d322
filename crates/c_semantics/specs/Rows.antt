-- What a program gives over a trace.
use Rattle.std.specs.Prelude.{ℕ, ℤ, List, [], ◌∷◌, length, map, Option, Some, None, unwrap_or, slice_index_or, codes}
use Rattle.c_syntax.specs.declared.fault.Stuck.{Stuck}
use Rattle.c_syntax.specs.Tree.{ProgramTree}
use Rattle.c_semantics.specs.Cells.{Cells, no_cells, number_at, zero_instances}
use Rattle.c_semantics.specs.Machine.{LoggedCall, StoredField, After, Outcome, done, stuck, call_from_outside}
use Rattle.c_syntax.specs.RootFields.{procedure_named, output_fields, root_struct, root_fields}

-- the instance of `struct root` with all numbers 0
abbrev pub zero_root : ProgramTree → Cells
zero_root p = slice_index_or (zero_instances [] p.structs) (root_struct p) no_cells

-- a call of `root_start`, from all numbers 0
abbrev pub start_run : ProgramTree → Outcome
start_run p =
    call_from_outside p (unwrap_or (procedure_named p (codes "root_start")) 0) [] [] (zero_root p)

-- a call of `root_step` on one row of the trace
abbrev pub step_run : ProgramTree → List ℤ → Cells → Outcome
step_run p row cells =
    call_from_outside p (unwrap_or (procedure_named p (codes "root_step")) 0) [] row cells

-- a tick: the outputs after it, and its steps, interface calls and stores
pub record TickRow : Type 0 where
  pub outputs : List ℤ
  pub steps : ℕ
  pub log : List LoggedCall
  pub stores : List StoredField

-- how many interface calls a tick has
abbrev pub interface_calls : TickRow → ℕ
interface_calls row = length row.log

-- the row of a tick from what the execution of its step leaves
abbrev pub tick_row : ProgramTree → After → TickRow
tick_row p a =
    record {
      outputs = map (number_at a.cells) (output_fields (root_fields p));
      steps = a.steps;
      log = a.log;
      stores = a.stores;
    }

-- what a run gives: the ticks, the fields that it leaves, and the place where it is stuck, if it is
pub record Rows : Type 0 where
  pub ticks : List TickRow
  pub cells : Cells
  pub stuck_place : Option Stuck

-- the rows with one more before them
abbrev pub with_tick : TickRow → Rows → Rows
with_tick row rows =
    record { ticks = row ∷ rows.ticks; cells = rows.cells; stuck_place = rows.stuck_place }

-- the row of a tick and what follows, or the end where the tick is stuck
abbrev pub rows_after : ProgramTree → Outcome → (Cells → Rows) → Rows
rows_after p (done a) go = with_tick (tick_row p a) (go a.cells)
rows_after p (stuck at cells) go = record { ticks = []; cells = cells; stuck_place = Some at }

-- the rows of a trace from these fields
abbrev pub rows_from : ProgramTree → List (List ℤ) → Cells → Rows
rows_from p [] cells = record { ticks = []; cells = cells; stuck_place = None }
rows_from p (row ∷ trace) cells = rows_after p (step_run p row cells) (rows_from p trace)

-- the rows of a program over a trace, from all numbers 0 and after `root_start`
abbrev pub rows_of_start : ProgramTree → Outcome → List (List ℤ) → Rows
rows_of_start p (done a) trace = rows_from p trace a.cells
rows_of_start p (stuck at cells) trace = record { ticks = []; cells = cells; stuck_place = Some at }

-- the rows of a program over a trace
abbrev pub c_rows : ProgramTree → List (List ℤ) → Rows
c_rows p trace = rows_of_start p (start_run p) trace
