-- Code in which the body of a private procedure is where it is called, if that is at one place.
use Rattle.std.specs.Prelude.{ℕ, zero, suc, ◌+◌, ◌==◌, not, Bool, false, ◌&&◌, ◌||◌, if◌then◌else◌, List, [], ◌∷◌, ◌++◌, map, flat_map, count_by, slice_index_or, Option, Some, None, option_map, option_and_then, bytes_eq, codes}
use Rattle.std.specs.List.{list_any}
use Rattle.c_syntax.specs.declared.code.Leaf.{Leaf}
use Rattle.c_syntax.specs.declared.code.Leaf.TheVariants.{Param, Own, Child}
use Rattle.c_syntax.specs.declared.code.Target.TheVariants as target
use Rattle.c_syntax.specs.Tree.{ExprTree, literal, neg, read, binary, pick, pure, item, ExprTrees, no_exprs, more_exprs, CondTree, compare, both, either, negated, StmtTree, assign, assign_at, branch, call, StmtTrees, no_stmts, more_stmts, stmts_append, ProcedureTree, ProgramTree}
pub use Rattle.emit_pruned.specs.Pruned.{kept_before, kept_from}
use Rattle.c_renaming.specs.Renamed.{renamed_expr, renamed_exprs, renamed_cond, renamed_stmt, renamed_stmts}
use Rattle.c_semantics.specs.Machine.{is_interface}

-- ---- Who calls what

abbrev mutual
  -- the procedures that statements call, each by its position
  pub stmt_calls : StmtTree → List ℕ
  stmt_calls (assign line f value) = []
  stmt_calls (assign_at line f index value) = []
  stmt_calls (branch line test on_true on_false) = stmts_calls on_true ++ stmts_calls on_false
  stmt_calls (call line k target values) = k ∷ []

  pub stmts_calls : StmtTrees → List ℕ
  stmts_calls no_stmts = []
  stmts_calls (more_stmts s ss) = stmt_calls s ++ stmts_calls ss

-- how many calls of a procedure a program has
abbrev pub call_count : ProgramTree → ℕ → ℕ
call_count p k = count_by (λ j. j == k) (flat_map (λ q. stmts_calls q.body) p.procedures)

-- the procedure at a position; no lawful program calls past the end
abbrev pub no_procedure : ProcedureTree
no_procedure = record { name = []; private = false; of = 0; params = []; body = no_stmts }

abbrev pub procedure_at : ProgramTree → ℕ → ProcedureTree
procedure_at p k = slice_index_or p.procedures k no_procedure

-- the procedures with which a run begins
abbrev pub is_root_name : List ℕ → Bool
is_root_name name = bytes_eq name (codes "root_start") || bytes_eq name (codes "root_step")

-- A helper: private, called at one place, and none whose calls are counted or with which a run
-- begins.
abbrev pub is_helper : ProgramTree → ℕ → Bool
is_helper p k =
    (procedure_at p k).private && (call_count p k == 1)
    && not (is_interface (procedure_at p k).name || is_root_name (procedure_at p k).name)

-- ---- Which calls are replaced

-- the parameter that an expression is a plain read of
abbrev pub param_of : ExprTree → Option ℕ
param_of (read (Param k)) = Some k
param_of _ = None

-- the caller's parameters that are passed on, where nothing else is
abbrev pub params_of : ExprTrees → Option (List ℕ)
params_of no_exprs = Some []
params_of (more_exprs e es) =
    option_and_then (λ k. option_map (λ ks. k ∷ ks) (params_of es)) (param_of e)

-- the helper that a statement calls on `s`, to which it passes on these parameters
abbrev pub helper_call : ProgramTree → StmtTree → Option (ℕ × List ℕ)
helper_call p (call line k target.Own values) =
    if is_helper p k then option_map (λ ks. (k, ks)) (params_of values) else None
helper_call p _ = None

-- whether that is so
abbrev pub helpers_in : ProgramTree → StmtTrees → List ℕ
helpers_in p no_stmts = []
helpers_in p (more_stmts s ss) = elim (helper_call p s) [
  | Some found ↦ found.0 ∷ helpers_in p ss
  | None ↦ helpers_in p ss
]

-- The helpers whose bodies go where they are called: at the top of the body of a procedure whose
-- calls are counted, so not below an `if`, and not in another helper, a start or a reset.
abbrev pub inlined_helpers : ProgramTree → List ℕ
inlined_helpers p =
    flat_map (λ q. if is_interface q.name then helpers_in p q.body else []) p.procedures

-- whether a procedure stays
abbrev pub stays : ProgramTree → ℕ → Bool
stays p k = not (list_any (λ j. j == k) (inlined_helpers p))

-- ---- Code with other parameters, and calls by other positions

module _ (param place : ℕ → ℕ) where
  abbrev pub moved_leaf : Leaf → Leaf
  moved_leaf (Param k) = Param (param k)
  moved_leaf (Own f) = Own f
  moved_leaf (Child f g) = Child f g

  -- an expression, expressions and a condition
  abbrev pub moved_expr : ExprTree → ExprTree
  moved_expr e = renamed_expr moved_leaf (λ k. k) place e

  abbrev pub moved_exprs : ExprTrees → ExprTrees
  moved_exprs es = renamed_exprs moved_leaf (λ k. k) place es

  abbrev pub moved_cond : CondTree → CondTree
  moved_cond test = renamed_cond moved_leaf (λ k. k) place test

  -- a statement and statements
  abbrev pub moved_stmt : StmtTree → StmtTree
  moved_stmt s = renamed_stmt moved_leaf (λ k. k) place s

  abbrev pub moved_stmts : StmtTrees → StmtTrees
  moved_stmts ss = renamed_stmts moved_leaf (λ k. k) place ss

-- ---- Bodies in place of calls

-- each parameter as it is
abbrev pub itself : ℕ → ℕ
itself k = k

module _ (p : ProgramTree) where
  -- the new position of a procedure that stays
  abbrev pub place : ℕ → ℕ
  place = kept_before (stays p)

  -- what stands for a statement: the body of the helper that it calls, which reads the caller's
  -- parameters, or the statement itself
  abbrev pub in_place_of : StmtTree → StmtTrees
  in_place_of s = elim (helper_call p s) [
    | Some found ↦
        moved_stmts (λ i. slice_index_or found.1 i 0) place (procedure_at p found.0).body
    | None ↦ more_stmts (moved_stmt itself place s) no_stmts
  ]

  abbrev pub inlined_stmts : StmtTrees → StmtTrees
  inlined_stmts no_stmts = no_stmts
  inlined_stmts (more_stmts s ss) = stmts_append (in_place_of s) (inlined_stmts ss)

  abbrev pub inlined_procedure : ProcedureTree → ProcedureTree
  inlined_procedure q = record {
    name = q.name;
    private = q.private;
    of = q.of;
    params = q.params;
    body =
        if is_interface q.name then inlined_stmts q.body else moved_stmts itself place q.body;
  }

-- a program without its helpers, whose bodies are where they were called; the other procedures
-- keep their order
abbrev pub inlined : ProgramTree → ProgramTree
inlined p =
    record {
      pures = p.pures;
      structs = p.structs;
      procedures = map (inlined_procedure p) (kept_from (stays p) 0 p.procedures);
    }
