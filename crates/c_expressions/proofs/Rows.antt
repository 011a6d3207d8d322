-- The written trees of rows of expressions.
use Rattle.std.proofs.Common.{◌≡◌, refl, ap, ◌∙◌, map, Vec}
use Rattle.std.specs.declared.alloc.Global.{Global}
use Rattle.c_grammar.specs.declared.written.WrittenExpr.{WrittenExpr as Expr, Row_of-WrittenExpr, end_of-WrittenExpr, more_of-WrittenExpr, items-the_row-WrittenExpr, items_hidden-the_row-WrittenExpr-0}
use Rattle.c_grammar.specs.WrittenTrees.{expr_of, exprs_of}
use Rattle.c_grammar.specs.Written.{more_exprs}
use Rattle.c_grammar.specs.Parsing.{exprs_from}

-- a row of expressions, by its items
pub exprs_of-items : {m : _} (row : Row_of-WrittenExpr m) → exprs_of row ≡ exprs_from (map expr_of (items-the_row-WrittenExpr m row))
exprs_of-items end_of-WrittenExpr = refl
exprs_of-items (more_of-WrittenExpr first rest) = ap (more_exprs (expr_of first)) (exprs_of-items rest)

pub exprs-of_vec : (values : Vec Expr Global) →
    exprs_of (Rattle.c_grammar.specs.declared.written.WrittenCond.TheBlock.hidden-the_row-WrittenExpr-0 values)
    ≡ exprs_from (map expr_of values.items)
exprs-of_vec values =
    exprs_of-items (Rattle.c_grammar.specs.declared.written.WrittenCond.TheBlock.hidden-the_row-WrittenExpr-0 values)
    ∙ ap (λ xs. exprs_from (map expr_of xs)) (items_hidden-the_row-WrittenExpr-0 values)
