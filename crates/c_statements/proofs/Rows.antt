-- The written trees of rows of statements.
use Rattle.std.proofs.Common.{◌≡◌, refl, ap, ◌∙◌, map, Vec}
use Rattle.std.specs.declared.alloc.Global.{Global}
use Rattle.c_grammar.specs.declared.written.WrittenStmt.{WrittenStmt as Stmt, Row_of-WrittenStmt, end_of-WrittenStmt, more_of-WrittenStmt, items-the_row-WrittenStmt, items_hidden-the_row-WrittenStmt-0}
use Rattle.c_grammar.specs.WrittenTrees.{stmt_of, stmts_of}
use Rattle.c_grammar.specs.Written.{more_stmts}
use Rattle.c_grammar.specs.Parsing.{stmts_from}

-- a row of statements, by its items
pub stmts_of-items : {m : _} (row : Row_of-WrittenStmt m) → stmts_of row ≡ stmts_from (map stmt_of (items-the_row-WrittenStmt m row))
stmts_of-items end_of-WrittenStmt = refl
stmts_of-items (more_of-WrittenStmt first rest) = ap (more_stmts (stmt_of first)) (stmts_of-items rest)

pub stmts-of_vec : (statements : Vec Stmt Global) →
    stmts_of (Rattle.c_grammar.specs.declared.written.WrittenStmt.TheBlock.hidden-the_row-WrittenStmt-0 statements)
    ≡ stmts_from (map stmt_of statements.items)
stmts-of_vec statements =
    stmts_of-items
    (Rattle.c_grammar.specs.declared.written.WrittenStmt.TheBlock.hidden-the_row-WrittenStmt-0 statements)
    ∙ ap (λ xs. stmts_from (map stmt_of xs)) (items_hidden-the_row-WrittenStmt-0 statements)
