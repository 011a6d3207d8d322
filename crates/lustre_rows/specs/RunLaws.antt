-- In a run of a model without a loop the rows of each system are as the laws of equations ask.
use Rattle.std.specs.Prelude.{◌≡◌, ℕ, ◌<◌, true, List, length, Option, None, ℤ}
use Rattle.diagram_blocks.specs.Meaning.{has_value}
use Rattle.diagram_meaning.specs.Rows.{row_at}
use Rattle.diagram_meaning.specs.ResolvedTree.{ResolvedTree, IsResolvedTree, diagram_of}
use Rattle.diagram_meaning.specs.Needs.{needs_of, HasNoLoop}
use Rattle.diagram_meaning.specs.Traces.{IsTrace}
use Rattle.diagram_meaning.specs.Laws.{Run, IsRunOver}
use Rattle.diagram_meaning.specs.SystemRuns.{IsRowOf, system_tick}
use Rattle.diagram_typed_runs.specs.TypedRuns.{IsSystem}
use Rattle.lustre_rows.specs.EquationLaws.{IsTimedRow, IsComputedRow}

-- a tick of the run of the root, for the system n
pub record IsRunTick (r : ResolvedTree) (xs : List (List ℤ)) (run : Run) (n : Option ℕ) (t : ℕ) :
    Type 0 where
  pub resolved : IsResolvedTree r
  pub no_loop : HasNoLoop (needs_of (diagram_of r))
  pub trace : IsTrace (diagram_of r) None xs
  pub is_run : IsRunOver (diagram_of r) None xs run
  pub within : t < length xs
  pub system : IsSystem r.tree.table.rows n

-- a row of the system at that tick
pub record IsRunRow (r : ResolvedTree) (xs : List (List ℤ)) (run : Run) (n : Option ℕ) (t b : ℕ) :
    Type 0 where
  pub tick : IsRunTick r xs run n t
  pub row : IsRowOf r.tree.table.rows n b

-- it is hit at the tick's place in the cycle as at the tick, and its start is small
abbrev pub RowsOfRunsAreTimed : Type 0
RowsOfRunsAreTimed =
    (r : ResolvedTree) (xs : List (List ℤ)) (run : Run) (n : Option ℕ) (t b : ℕ) →
    IsRunRow r xs run n t b → IsTimedRow (diagram_of r) r.times.hyper n t b

-- and if it has a value, that can be computed from what it reads
abbrev pub RowsOfRunsAreComputed : Type 0
RowsOfRunsAreComputed =
    (r : ResolvedTree) (xs : List (List ℤ)) (run : Run) (n : Option ℕ) (t b : ℕ) →
    IsRunRow r xs run n t b → has_value (row_at r.tree.table.rows b).kind ≡ true →
    IsComputedRow (diagram_of r) n (system_tick (diagram_of r) None xs run n t) b
