-- Rows of written expressions and statements, by their items.
use Rattle.std.proofs.Common.{◌≡◌, refl, ap, ◌∙◌, ℕ, suc, ◌+◌, Bool, true, false, Bor, List, [], ◌∷◌, length, map, Result, Ok, Err, Vec, arith}
use Rattle.std.specs.declared.alloc.Global.{Global}
use Rattle.c_syntax.specs.declared.fault.CFault.{CFault}
use Rattle.c_syntax.specs.Tree.{ExprTree, StmtTree, ExprTrees, StmtTrees, exprs_of_list, stmts_of_list}
use Rattle.c_grammar.specs.Written.{WrittenCond, WrittenStmts, pure, more_exprs, more_stmts}
use Rattle.c_grammar.specs.Parsing.{exprs_from, arguments_from, stmts_from}
use Rattle.base_core.specs.Results.{◌>>=◌}
use Rattle.c_rules.specs.Resolve.{Names, exprs_count, argument_casts, resolve_expr, resolve_exprs, resolve_arguments, resolve_cond, resolve_stmt, resolve_stmts}
use Rattle.c_resolver.specs.Choices.{resolve_second}
use Rattle.c_grammar.specs.declared.written.WrittenExpr.{WrittenExpr as Expr, Row_of-WrittenExpr, end_of-WrittenExpr, more_of-WrittenExpr, items-the_row-WrittenExpr, items_hidden-the_row-WrittenExpr-0}
use Rattle.c_grammar.specs.declared.written.WrittenCond.{WrittenCond as Cond}
use Rattle.c_grammar.specs.declared.written.WrittenCond.TheViews as views
use Rattle.c_grammar.specs.declared.written.Argument.{Argument}
use Rattle.c_grammar.specs.declared.written.WrittenStmt.{WrittenStmt as Stmt, Row_of-WrittenStmt, end_of-WrittenStmt, more_of-WrittenStmt, items-the_row-WrittenStmt, items_hidden-the_row-WrittenStmt-0}
use Rattle.c_grammar.specs.declared.written.WrittenStmt.TheViews as stmt_views
use Rattle.c_grammar.specs.WrittenTrees.{expr_of, exprs_of, cond_of, argument_of, choice_of, stmt_of, stmts_of}
use Rattle.c_rules.proofs.lemmas.Each.{each}

exprs_of-items : {m : _} (row : Row_of-WrittenExpr m) → exprs_of row ≡ exprs_from (map expr_of (items-the_row-WrittenExpr m row))
exprs_of-items end_of-WrittenExpr = refl
exprs_of-items (more_of-WrittenExpr first rest) = ap (more_exprs (expr_of first)) (exprs_of-items rest)

stmts_of-items : {m : _} (row : Row_of-WrittenStmt m) → stmts_of row ≡ stmts_from (map stmt_of (items-the_row-WrittenStmt m row))
stmts_of-items end_of-WrittenStmt = refl
stmts_of-items (more_of-WrittenStmt first rest) = ap (more_stmts (stmt_of first)) (stmts_of-items rest)

pub expr_of-Pure : (line : ℕ) (function : Bor (List ℕ)) (values : Vec Expr Global) →
    expr_of (views.Pure line function values) ≡ pure line function.now (exprs_from (map expr_of values.items))
expr_of-Pure line function values =
    ap (pure line function.now)
    (exprs_of-items
    (Rattle.c_grammar.specs.declared.written.WrittenCond.TheBlock.hidden-the_row-WrittenExpr-0 values)
    ∙ ap (λ xs. exprs_from (map expr_of xs)) (items_hidden-the_row-WrittenExpr-0 values))

pub stmt_of-If : (line : ℕ) (test : Cond) (on_true : Vec Stmt Global) (has_else : Bool) (on_false : Vec Stmt Global) →
    stmt_of (stmt_views.If line test on_true has_else on_false)
    ≡ choice_of line (cond_of test) (stmts_from (map stmt_of on_true.items)) has_else
    (stmts_from (map stmt_of on_false.items))
stmt_of-If line test on_true has_else on_false =
    λ i. choice_of line (cond_of test)
    ((stmts_of-items (Rattle.c_grammar.specs.declared.written.WrittenStmt.TheBlock.hidden-the_row-WrittenStmt-0 on_true)
    ∙ ap (λ xs. stmts_from (map stmt_of xs)) (items_hidden-the_row-WrittenStmt-0 on_true)) i) has_else
    ((stmts_of-items
    (Rattle.c_grammar.specs.declared.written.WrittenStmt.TheBlock.hidden-the_row-WrittenStmt-0 on_false)
    ∙ ap (λ xs. stmts_from (map stmt_of xs)) (items_hidden-the_row-WrittenStmt-0 on_false)) i)

-- how many expressions a list has
pub count_of_exprs : (es : List Expr) → exprs_count (exprs_from (map expr_of es)) ≡ length es
count_of_exprs [] = refl
count_of_exprs (e ∷ es) = ap (λ n. n + 1) (count_of_exprs es) ∙ next (length es)
  where
    next : (n : ℕ) → n + 1 ≡ suc n
    next n = omega arith

-- the casts of a list of arguments
pub casts_of_arguments : (values : List Argument) → argument_casts (arguments_from (map argument_of values)) ≡ map (λ a. a.cast) values
casts_of_arguments [] = refl
casts_of_arguments (v ∷ vs) = ap (λ ts. v.cast ∷ ts) (casts_of_arguments vs)

-- what one answer does to the next
later-exprs : (r : Result ExprTree CFault) (s : Result (List ExprTree) CFault) →
    (r >>= λ x. (s >>= λ xs. Ok (exprs_of_list xs)) >>= λ xs. Ok (ExprTrees.more_exprs x xs))
    ≡ ((r >>= λ x. s >>= λ xs. Ok (x ∷ xs)) >>= λ xs. Ok (exprs_of_list xs))
later-exprs (Err fault) s = refl
later-exprs (Ok x) (Err fault) = refl
later-exprs (Ok x) (Ok xs) = refl

pub exprs-each : (names : Names) (es : List Expr) →
    resolve_exprs names (exprs_from (map expr_of es))
    ≡ (each (λ (e : Expr). resolve_expr names (expr_of e)) es >>= λ xs. Ok (exprs_of_list xs))
exprs-each names [] = refl
exprs-each names (e ∷ es) =
    ap (λ s. resolve_expr names (expr_of e) >>= λ x. s >>= λ xs. Ok (ExprTrees.more_exprs x xs)) (exprs-each names es)
    ∙ later-exprs (resolve_expr names (expr_of e)) (each (λ (e : Expr). resolve_expr names (expr_of e)) es)

pub arguments-each : (names : Names) (values : List Argument) →
    resolve_arguments names (arguments_from (map argument_of values))
    ≡ (each (λ (a : Argument). resolve_expr names (expr_of a.value)) values >>= λ xs. Ok (exprs_of_list xs))
arguments-each names [] = refl
arguments-each names (a ∷ values) =
    ap (λ s. resolve_expr names (expr_of a.value) >>= λ x. s >>= λ xs. Ok (ExprTrees.more_exprs x xs))
    (arguments-each names values)
    ∙ later-exprs (resolve_expr names (expr_of a.value))
    (each (λ (a : Argument). resolve_expr names (expr_of a.value)) values)

later-stmts : (r : Result StmtTree CFault) (s : Result (List StmtTree) CFault) →
    (r >>= λ x. (s >>= λ xs. Ok (stmts_of_list xs)) >>= λ xs. Ok (StmtTrees.more_stmts x xs))
    ≡ ((r >>= λ x. s >>= λ xs. Ok (x ∷ xs)) >>= λ xs. Ok (stmts_of_list xs))
later-stmts (Err fault) s = refl
later-stmts (Ok x) (Err fault) = refl
later-stmts (Ok x) (Ok xs) = refl

pub stmts-each : (names : Names) (ss : List Stmt) →
    resolve_stmts names (stmts_from (map stmt_of ss))
    ≡ (each (λ (s : Stmt). resolve_stmt names (stmt_of s)) ss >>= λ xs. Ok (stmts_of_list xs))
stmts-each names [] = refl
stmts-each names (s ∷ ss) =
    ap (λ r. resolve_stmt names (stmt_of s) >>= λ x. r >>= λ xs. Ok (StmtTrees.more_stmts x xs)) (stmts-each names ss)
    ∙ later-stmts (resolve_stmt names (stmt_of s)) (each (λ (s : Stmt). resolve_stmt names (stmt_of s)) ss)

-- a choice, with or without a second block
pub choice-second : (names : Names) (line : ℕ) (test : WrittenCond) (on_true : WrittenStmts) (has_else : Bool) (on_false : WrittenStmts) →
    resolve_stmt names (choice_of line test on_true has_else on_false)
    ≡ (resolve_cond names test >>= λ c. resolve_stmts names on_true >>= λ xs. resolve_second names has_else on_false
    >>= λ ys. Ok (StmtTree.branch line c xs ys))
choice-second names line test on_true true on_false = refl
choice-second names line test on_true false on_false = refl
