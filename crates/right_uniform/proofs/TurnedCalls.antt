-- What turned code calls, and code that is turned and then moved.
use Rattle.std.specs.Prelude.{◌≡◌, ℕ, ◌++◌, map}
use Rattle.std.specs.List.{AllByRecursion}
use Rattle.std.proofs.Common.{refl, sym, ap, ap₂, ◌∙◌}
use Rattle.std.proofs.lemmas.List.{map-append}
use Rattle.c_syntax.specs.Tree.{ExprTree, ExprTrees, CondTree, StmtTree, assign, assign_at, branch, call, StmtTrees, no_stmts, more_stmts, stmts_append}
use Rattle.c_renaming.specs.Renamed.{renamed_expr, renamed_exprs, renamed_cond}
use Rattle.emit_pruned.proofs.lemmas.Numbers.{all-left, all-right}
use Rattle.emit_inlined.specs.Inlined.{stmt_calls, stmts_calls, moved_expr, moved_exprs, moved_cond, moved_stmt, moved_stmts}
use Rattle.emit_uniform.specs.Turned.{turned_stmt, turned_stmts}
use Rattle.right_uniform.proofs.Renamings.{expr-same, exprs-same, cond-same}

module _ (number : ℕ → ℕ) where
  mutual
    pub stmt_calls-turned : (s : StmtTree) → stmt_calls (turned_stmt number s) ≡ map number (stmt_calls s)
    stmt_calls-turned (assign line f e) = refl
    stmt_calls-turned (assign_at line f index e) = refl
    stmt_calls-turned (branch line test a b) =
        ap₂ ◌++◌ (calls-turned a) (calls-turned b) ∙ sym (map-append number (stmts_calls a) (stmts_calls b))
    stmt_calls-turned (call line k target es) = refl

    pub calls-turned : (ss : StmtTrees) → stmts_calls (turned_stmts number ss) ≡ map number (stmts_calls ss)
    calls-turned no_stmts = refl
    calls-turned (more_stmts s ss) =
        ap₂ ◌++◌ (stmt_calls-turned s) (calls-turned ss) ∙ sym (map-append number (stmt_calls s) (stmts_calls ss))

  pub append-turned : (xs ys : StmtTrees) →
      turned_stmts number (stmts_append xs ys) ≡ stmts_append (turned_stmts number xs) (turned_stmts number ys)
  append-turned no_stmts ys = refl
  append-turned (more_stmts x xs) ys = ap (more_stmts (turned_stmt number x)) (append-turned xs ys)

-- code that calls by other numbers and then by their places does so the other way round, if that is so of each number that it calls
module _ (param place number later : ℕ → ℕ) where
  abbrev pub IsMovedTo : ℕ → Type 0
  IsMovedTo k = place (number k) ≡ later (place k)

  expr-moved : (e : ExprTree) →
      moved_expr param place (renamed_expr (λ l. l) (λ k. k) number e) ≡ renamed_expr (λ l. l) (λ k. k) later (moved_expr param place e)
  expr-moved e = ap (moved_expr param place) (expr-same number e) ∙ sym (expr-same later (moved_expr param place e))

  exprs-moved : (es : ExprTrees) →
      moved_exprs param place (renamed_exprs (λ l. l) (λ k. k) number es)
      ≡ renamed_exprs (λ l. l) (λ k. k) later (moved_exprs param place es)
  exprs-moved es = ap (moved_exprs param place) (exprs-same number es) ∙ sym (exprs-same later (moved_exprs param place es))

  cond-moved : (c : CondTree) →
      moved_cond param place (renamed_cond (λ l. l) (λ k. k) number c) ≡ renamed_cond (λ l. l) (λ k. k) later (moved_cond param place c)
  cond-moved c = ap (moved_cond param place) (cond-same number c) ∙ sym (cond-same later (moved_cond param place c))

  mutual
    pub stmt-moved : (s : StmtTree) → AllByRecursion IsMovedTo (stmt_calls s) →
        moved_stmt param place (turned_stmt number s) ≡ turned_stmt later (moved_stmt param place s)
    stmt-moved (assign line f e) h = ap (assign line f) (expr-moved e)
    stmt-moved (assign_at line f index e) h =
        let at = expr-moved index in let value = expr-moved e in (λ i. assign_at line f (at i) (value i))
    stmt-moved (branch line test a b) h =
        let first = cond-moved test in
        let one = stmts-moved a (all-left IsMovedTo (stmts_calls a) (stmts_calls b) h) in
        let other = stmts-moved b (all-right IsMovedTo (stmts_calls a) (stmts_calls b) h) in
        (λ i. branch line (first i) (one i) (other i))
    stmt-moved (call line k target es) h =
        let where_to = h.0 in let values = exprs-moved es in (λ i. call line (where_to i) target (values i))

    pub stmts-moved : (ss : StmtTrees) → AllByRecursion IsMovedTo (stmts_calls ss) →
        moved_stmts param place (turned_stmts number ss) ≡ turned_stmts later (moved_stmts param place ss)
    stmts-moved no_stmts h = refl
    stmts-moved (more_stmts s ss) h =
        let one = stmt-moved s (all-left IsMovedTo (stmt_calls s) (stmts_calls ss) h) in
        let rest = stmts-moved ss (all-right IsMovedTo (stmt_calls s) (stmts_calls ss) h) in
        (λ i. more_stmts (one i) (rest i))
