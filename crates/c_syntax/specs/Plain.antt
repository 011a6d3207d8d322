-- The plain trees of the values of the source.
use Rattle.std.specs.Prelude.{ℕ, List, map}
use Rattle.c_syntax.specs.declared.code.CType.{CType}
use Rattle.c_syntax.specs.declared.code.Expr.{Expr, Literal, Neg', Read, Binary', Pick', Pure', At', Row_of-Expr, end_of-Expr, more_of-Expr}
use Rattle.c_syntax.specs.declared.code.Cond.{Cond, Compare, Both', Either', Not'}
use Rattle.c_syntax.specs.declared.code.Stmt.{Stmt, Set, SetAt, If', Call, Row_of-Stmt, end_of-Stmt, more_of-Stmt}
use Rattle.c_syntax.specs.declared.program.Pure.{Pure}
use Rattle.c_syntax.specs.declared.program.Procedure.{Procedure}
use Rattle.c_syntax.specs.declared.program.Program.{Program}
use Rattle.c_syntax.specs.Tree.{ExprTree, literal, neg, read, binary, pick, pure, item, ExprTrees, no_exprs, more_exprs, CondTree, compare, both, either, negated, StmtTree, assign, assign_at, branch, call, StmtTrees, no_stmts, more_stmts, stmts_of_list, exprs_of_list, PureTree, ParamTree, ProcedureTree, ProgramTree}

abbrev mutual
  -- the plain tree of an expression
  pub expr_tree : Expr → ExprTree
  expr_tree (Literal value) = literal value
  expr_tree (Neg' p operand) = neg (expr_tree operand)
  expr_tree (Read leaf) = read leaf
  expr_tree (Binary' op p left q right) = binary op (expr_tree left) (expr_tree right)
  expr_tree (Pick' p test q on_true r on_false) =
      pick (cond_tree test) (expr_tree on_true) (expr_tree on_false)
  expr_tree (Pure' function shape values) = pure function (exprs_tree values)
  expr_tree (At' field p index) = item field (expr_tree index)

  -- the plain trees of a row of expressions
  pub exprs_tree : {m : _} → Row_of-Expr m → ExprTrees
  exprs_tree end_of-Expr = no_exprs
  exprs_tree (more_of-Expr first rest) = more_exprs (expr_tree first) (exprs_tree rest)

  -- the plain tree of a condition
  pub cond_tree : Cond → CondTree
  cond_tree (Compare how left right) = compare how (expr_tree left) (expr_tree right)
  cond_tree (Both' p left q right) = both (cond_tree left) (cond_tree right)
  cond_tree (Either' p left q right) = either (cond_tree left) (cond_tree right)
  cond_tree (Not' p operand) = negated (cond_tree operand)

abbrev mutual
  -- the plain tree of a statement
  pub stmt_tree : Stmt → StmtTree
  stmt_tree (Set line field value) = assign line field (expr_tree value)
  stmt_tree (SetAt line field index value) =
      assign_at line field (expr_tree index) (expr_tree value)
  stmt_tree (If' line test p on_true q on_false) =
      branch line (cond_tree test) (stmts_tree on_true) (stmts_tree on_false)
  stmt_tree (Call line procedure target values) =
      call line procedure target (exprs_of_list (map expr_tree values.items))

  -- the plain trees of a row of statements
  pub stmts_tree : {m : _} → Row_of-Stmt m → StmtTrees
  stmts_tree end_of-Stmt = no_stmts
  stmts_tree (more_of-Stmt first rest) = more_stmts (stmt_tree first) (stmts_tree rest)

-- the plain tree of a pure function
abbrev pub pure_tree : Pure → PureTree
pure_tree p =
    record { name = p.name; params = p.params.items; body = expr_tree p.body; line = p.line }

-- the parameters of a procedure
abbrev pub param_trees : List (List ℕ × CType) → List ParamTree
param_trees params = map (λ q. record { name = q.0; type = q.1 }) params

-- the plain tree of a procedure
abbrev pub procedure_tree : Procedure → ProcedureTree
procedure_tree p =
    record {
      name = p.name;
      private = p.private;
      of = p.of;
      params = param_trees p.params.items;
      body = stmts_of_list (map stmt_tree p.body.items);
    }

-- the plain tree of a program
abbrev pub program_tree : Program → ProgramTree
program_tree p =
    record {
      pures = map pure_tree p.pure.items;
      structs = p.structs.items;
      procedures = map procedure_tree p.procedures.items;
    }
