-- Rows of expressions and statements that are moved one by one.
use Rattle.std.proofs.Common.{◌≡◌, refl, ap, ◌∙◌, ℕ, ◌≤◌, List, [], ◌∷◌, length, map, take}
use Rattle.std.proofs.lemmas.List.{take_all}
use Rattle.c_syntax.specs.declared.code.Expr.{Expr}
use Rattle.c_syntax.specs.declared.code.Stmt.{Stmt}
use Rattle.c_syntax.specs.Tree.{more_exprs, more_stmts, exprs_of_list, stmts_of_list}
use Rattle.c_syntax.specs.Plain.{expr_tree, stmt_tree}
use Rattle.emit_shape.specs.Relocation.{Relocation, moved_expr, moved_exprs, moved_stmt, moved_stmts}

exprs-one-by-one : (m : Relocation) (es : List Expr) →
    exprs_of_list (map (λ e. moved_expr m (expr_tree e)) es) ≡ moved_exprs m (exprs_of_list (map expr_tree es))
exprs-one-by-one m [] = refl
exprs-one-by-one m (e ∷ es) = ap (more_exprs (moved_expr m (expr_tree e))) (exprs-one-by-one m es)

stmts-one-by-one : (m : Relocation) (ss : List Stmt) →
    stmts_of_list (map (λ s. moved_stmt m (stmt_tree s)) ss) ≡ moved_stmts m (stmts_of_list (map stmt_tree ss))
stmts-one-by-one m [] = refl
stmts-one-by-one m (s ∷ ss) = ap (more_stmts (moved_stmt m (stmt_tree s))) (stmts-one-by-one m ss)

pub exprs-moved : (m : Relocation) (es list : List Expr) (i : ℕ) → length es ≤ i →
    map expr_tree list ≡ map (λ e. moved_expr m (expr_tree e)) (take i es) →
    exprs_of_list (map expr_tree list) ≡ moved_exprs m (exprs_of_list (map expr_tree es))
exprs-moved m es list i all before = ap exprs_of_list (before ∙ ap (map (λ e. moved_expr m (expr_tree e))) (take_all i es all))
    ∙ exprs-one-by-one m es

pub stmts-moved : (m : Relocation) (ss list : List Stmt) (i : ℕ) → length ss ≤ i →
    map stmt_tree list ≡ map (λ s. moved_stmt m (stmt_tree s)) (take i ss) →
    stmts_of_list (map stmt_tree list) ≡ moved_stmts m (stmts_of_list (map stmt_tree ss))
stmts-moved m ss list i all before = ap stmts_of_list (before ∙ ap (map (λ s. moved_stmt m (stmt_tree s))) (take_all i ss all))
    ∙ stmts-one-by-one m ss
