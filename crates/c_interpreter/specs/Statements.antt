-- The statements that the machine runs, as plain trees.
use Rattle.std.specs.Prelude.{map}
use Rattle.c_syntax.specs.Plain.{cond_tree, expr_tree, stmt_tree}
use Rattle.c_syntax.specs.Tree.{StmtTree, assign, assign_at, branch, call, exprs_of_list, stmts_of_list}
use Rattle.c_interpreter.specs.declared.statements.Assignment.{Assignment}
use Rattle.c_interpreter.specs.declared.statements.Branch.{Branch}
use Rattle.c_interpreter.specs.declared.statements.Call.{Call}
use Rattle.c_interpreter.specs.declared.statements.ItemAssignment.{ItemAssignment}

-- a store in a number field
abbrev pub assignment_tree : Assignment → StmtTree
assignment_tree a = assign a.line a.field (expr_tree a.value.now)

-- a store in an item of an array
abbrev pub item_assignment_tree : ItemAssignment → StmtTree
item_assignment_tree a = assign_at a.line a.field (expr_tree a.index.now) (expr_tree a.value.now)

-- a choice between statements
abbrev pub branch_tree : Branch → StmtTree
branch_tree b =
    branch b.line (cond_tree b.test.now) (stmts_of_list (map stmt_tree b.on_true.now))
    (stmts_of_list (map stmt_tree b.on_false.now))

-- a call of a procedure
abbrev pub call_tree : Call → StmtTree
call_tree c = call c.line c.procedure c.target (exprs_of_list (map expr_tree c.values.now))
