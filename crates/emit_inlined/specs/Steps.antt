-- What the functions of this crate keep: how often each procedure is called, which helpers are
-- found, which of them go where they are called, and where the others are.
use Rattle.std.specs.Prelude.{ℕ, ◌+◌, ◌-◌, ◌^◌, ◌==◌, min, not, Bool, true, false, ◌&&◌, ◌||◌, if◌then◌else◌, List, [], ◌∷◌, length, map, flat_map, replicate, slice_index, slice_index_or, Option, Some, None, option_map}
use Rattle.std.specs.List.{slice_set}
use Rattle.c_syntax.specs.declared.code.Target.TheVariants as target
use Rattle.c_syntax.specs.Tree.{StmtTree, call, StmtTrees, no_stmts, more_stmts, stmts_append, ProcedureTree}
use Rattle.c_semantics.specs.Machine.{is_interface}
use Rattle.emit_pruned.specs.Marks.{flag_at, flags_of}
use Rattle.emit_inlined.specs.declared.places.Places.{Places}
use Rattle.emit_inlined.specs.declared.helpers.HelperCall.{HelperCall}
use Rattle.emit_inlined.specs.declared.moves.Moves.{Moves}
use Rattle.emit_inlined.specs.declared.params.Params.{Params}
use Rattle.emit_inlined.specs.declared.params.Params.TheVariants.{Itself, Passed}
use Rattle.emit_inlined.specs.Inlined.{stmts_calls, no_procedure, is_root_name, params_of, moved_stmt, moved_stmts, kept_from, itself}

-- ---- Counts

-- one call more; beyond 32 bits none is counted
abbrev pub one_more : ℕ → ℕ
one_more n = min (n + 1) (2 ^ 32 - 1)

-- counts with one more for each call of these procedures; past the end there is none
abbrev pub counted : List ℕ → List ℕ → List ℕ
counted counts [] = counts
counted counts (k ∷ ks) = counted (slice_set counts k (one_more (slice_index counts k))) ks

-- the counts of all calls
abbrev pub counts_of : List ProcedureTree → List ℕ
counts_of procedures =
    counted (replicate (length procedures) 0) (flat_map (λ q. stmts_calls q.body) procedures)

-- whether a procedure is a helper that is called so often
abbrev pub is_helper_of : ProcedureTree → ℕ → Bool
is_helper_of q calls =
    q.private && (calls == 1) && not (is_interface q.name || is_root_name q.name)

-- whether that at a position is one, by these counts
abbrev pub helper_at : List ℕ → List ProcedureTree → ℕ → Bool
helper_at counts procedures k =
    is_helper_of (slice_index_or procedures k no_procedure) (slice_index counts k)

-- ---- Helpers that are called

-- which procedures are helpers
module _ (helpers : ℕ → Bool) where
  -- the helper that a statement calls on `s`, and what it passes
  abbrev pub call_by : StmtTree → Option (ℕ × List ℕ)
  call_by (call line k target.Own values) =
      if helpers k then option_map (λ ks. (k, ks)) (params_of values) else None
  call_by _ = None

  -- the helpers whose bodies go where these statements call them
  abbrev pub helpers_by : StmtTrees → List ℕ
  helpers_by no_stmts = []
  helpers_by (more_stmts s ss) = elim (call_by s) [
    | Some found ↦ found.0 ∷ helpers_by ss
    | None ↦ helpers_by ss
  ]

  -- those that one statement calls
  abbrev pub stmt_helpers : StmtTree → List ℕ
  stmt_helpers s = elim (call_by s) [ Some found ↦ found.0 ∷ [] | None ↦ [] ]

  -- those that a procedure calls
  abbrev pub helpers_of : ProcedureTree → List ℕ
  helpers_of q = if is_interface q.name then helpers_by q.body else []

-- a call that was found
abbrev pub call_seen : HelperCall → ℕ × List ℕ
call_seen found = (found.procedure, found.params.items)

-- the flags of the helpers whose bodies go where these procedures call them
abbrev pub inlined_flags : (ℕ → Bool) → List ProcedureTree → List Bool
inlined_flags helpers procedures =
    flags_of (length procedures) (flat_map (helpers_of helpers) procedures)

-- whether a procedure stays, by the flags of those that don't
abbrev pub is_kept : List Bool → ℕ → Bool
is_kept inlined k = not (flag_at inlined k)

-- ---- Places

-- the new position of the procedure at a position
abbrev pub place_in : Places → ℕ → ℕ
place_in places k = slice_index_or places.before.items k (k - places.dropped)

-- the parameter of the code around for that of a body
abbrev pub param_in : Params → ℕ → ℕ
param_in Itself k = k
param_in (Passed params) k = slice_index_or params.items k 0

-- what code reads for a parameter, and where what it calls is
abbrev pub move_param : Moves → ℕ → ℕ
move_param moves = param_in moves.params.now

abbrev pub move_place : Moves → ℕ → ℕ
move_place moves = place_in moves.places.now

-- ---- Code

module _ (procedures : List ProcedureTree) (helpers : ℕ → Bool) (place : ℕ → ℕ) where
  -- what goes where a statement is
  abbrev pub in_place_by : StmtTree → StmtTrees
  in_place_by s = elim (call_by helpers s) [
    | Some found ↦
        moved_stmts (λ i. slice_index_or found.1 i 0) place
        (slice_index_or procedures found.0 no_procedure).body
    | None ↦ more_stmts (moved_stmt itself place s) no_stmts
  ]

  abbrev pub stmts_by : StmtTrees → StmtTrees
  stmts_by no_stmts = no_stmts
  stmts_by (more_stmts s ss) = stmts_append (in_place_by s) (stmts_by ss)

  abbrev pub procedure_by : ProcedureTree → ProcedureTree
  procedure_by q = record {
    name = q.name;
    private = q.private;
    of = q.of;
    params = q.params;
    body = if is_interface q.name then stmts_by q.body else moved_stmts itself place q.body;
  }
