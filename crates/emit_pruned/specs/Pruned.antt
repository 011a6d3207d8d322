-- A program without the pure functions that it doesn't need. Those that stay keep their order, and
-- calls name them by their new positions.
use Rattle.std.specs.Prelude.{ℕ, zero, suc, ◌+◌, if◌then◌else◌, Bool, List, [], ◌∷◌, ◌++◌, map}
use Rattle.c_syntax.specs.Tree.{ExprTree, ExprTrees, CondTree, StmtTree, StmtTrees, PureTree, ProcedureTree, ProgramTree}
use Rattle.c_renaming.specs.Renamed.{renamed_expr, renamed_exprs, renamed_cond, renamed_stmt, renamed_stmts, renamed_pure, renamed_procedure}
use Rattle.emit_pruned.specs.Needed.{is_needed}

-- ---- Calls by other positions

-- the new position of each pure function
module _ (place : ℕ → ℕ) where
  -- an expression, expressions and a condition
  abbrev pub renumbered_expr : ExprTree → ExprTree
  renumbered_expr e = renamed_expr (λ leaf. leaf) place (λ k. k) e

  abbrev pub renumbered_exprs : ExprTrees → ExprTrees
  renumbered_exprs es = renamed_exprs (λ leaf. leaf) place (λ k. k) es

  abbrev pub renumbered_cond : CondTree → CondTree
  renumbered_cond test = renamed_cond (λ leaf. leaf) place (λ k. k) test

  -- a statement and statements
  abbrev pub renumbered_stmt : StmtTree → StmtTree
  renumbered_stmt s = renamed_stmt (λ leaf. leaf) place (λ k. k) s

  abbrev pub renumbered_stmts : StmtTrees → StmtTrees
  renumbered_stmts ss = renamed_stmts (λ leaf. leaf) place (λ k. k) ss

  -- a pure function and a procedure
  abbrev pub renumbered_pure : PureTree → PureTree
  renumbered_pure f = renamed_pure (λ leaf. leaf) place (λ k. k) f

  abbrev pub renumbered_procedure : ProcedureTree → ProcedureTree
  renumbered_procedure q = renamed_procedure (λ leaf. leaf) place (λ k. k) q

-- ---- Some functions alone

-- which items of a list are kept
module _ (keeps : ℕ → Bool) where
  -- how many of the first k are kept, which is the new position of the one at k
  abbrev pub kept_before : ℕ → ℕ
  kept_before zero = 0
  kept_before (suc k) = kept_before k + (if keeps k then 1 else 0)

  -- those of the items from position n on that are kept
  abbrev pub kept_from : {A : Type 0} → ℕ → List A → List A
  kept_from n [] = []
  kept_from n (x ∷ xs) = (if keeps n then x ∷ [] else []) ++ kept_from (suc n) xs

  -- a program with these functions alone
  abbrev pub kept_program : ProgramTree → ProgramTree
  kept_program p = record {
    pures = map (renumbered_pure kept_before) (kept_from 0 p.pures);
    structs = p.structs;
    procedures = map (renumbered_procedure kept_before) p.procedures;
  }

-- a program with those alone that it needs
abbrev pub pruned : ProgramTree → ProgramTree
pruned p = kept_program (is_needed p) p
