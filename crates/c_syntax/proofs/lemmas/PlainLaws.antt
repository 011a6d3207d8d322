-- The plain trees of nodes with vectors.
use Rattle.std.proofs.Common.{◌≡◌, refl, ap, ◌∙◌, ℕ, map, Vec}
use Rattle.std.specs.declared.alloc.Global.{Global}
use Rattle.c_syntax.specs.declared.code.Expr.{Expr, Row_of-Expr, end_of-Expr, more_of-Expr, items-the_row-Expr, items_hidden-the_row-Expr-0}
use Rattle.c_syntax.specs.declared.code.Cond.TheViews as views
use Rattle.c_syntax.specs.declared.code.Stmt.{Stmt, Row_of-Stmt, end_of-Stmt, more_of-Stmt, items-the_row-Stmt, items_hidden-the_row-Stmt-0}
use Rattle.c_syntax.specs.Tree.{branch, pure, more_exprs, more_stmts, exprs_of_list, stmts_of_list}
use Rattle.c_syntax.specs.declared.code.Stmt.TheViews as stmt_views
use Rattle.c_syntax.specs.declared.code.Cond.{Cond}
use Rattle.c_syntax.specs.Plain.{cond_tree, expr_tree, exprs_tree, stmt_tree, stmts_tree}

-- a row of expressions, by its items
pub exprs_tree-items : {m : _} (row : Row_of-Expr m) → exprs_tree row ≡ exprs_of_list (map expr_tree (items-the_row-Expr m row))
exprs_tree-items end_of-Expr = refl
exprs_tree-items (more_of-Expr first rest) = ap (more_exprs (expr_tree first)) (exprs_tree-items rest)

pub stmts_tree-items : {m : _} (row : Row_of-Stmt m) → stmts_tree row ≡ stmts_of_list (map stmt_tree (items-the_row-Stmt m row))
stmts_tree-items end_of-Stmt = refl
stmts_tree-items (more_of-Stmt first rest) = ap (more_stmts (stmt_tree first)) (stmts_tree-items rest)

pub expr_tree-Pure : (k : ℕ) (values : Vec Expr Global) →
    expr_tree (views.Pure k values) ≡ pure k (exprs_of_list (map expr_tree values.items))
expr_tree-Pure k values =
    ap (pure k) (exprs_tree-items (Rattle.c_syntax.specs.declared.code.Cond.TheBlock.hidden-the_row-Expr-0 values)
    ∙ ap (λ xs. exprs_of_list (map expr_tree xs)) (items_hidden-the_row-Expr-0 values))

pub stmt_tree-If : (line : ℕ) (test : Cond) (on_true on_false : Vec Stmt Global) →
    stmt_tree (stmt_views.If line test on_true on_false)
    ≡ branch line (cond_tree test) (stmts_of_list (map stmt_tree on_true.items))
    (stmts_of_list (map stmt_tree on_false.items))
stmt_tree-If line test on_true on_false =
    λ i. branch line (cond_tree test)
    ((stmts_tree-items (Rattle.c_syntax.specs.declared.code.Stmt.TheBlock.hidden-the_row-Stmt-0 on_true)
    ∙ ap (λ xs. stmts_of_list (map stmt_tree xs)) (items_hidden-the_row-Stmt-0 on_true)) i)
    ((stmts_tree-items (Rattle.c_syntax.specs.declared.code.Stmt.TheBlock.hidden-the_row-Stmt-0 on_false)
    ∙ ap (λ xs. stmts_of_list (map stmt_tree xs)) (items_hidden-the_row-Stmt-0 on_false)) i)
