-- What the bodies of procedures store, test and call, and the leaves that they read.
use Rattle.std.specs.Prelude.{ℕ, List, [], ◌∷◌, ◌++◌}
use Rattle.c_syntax.specs.declared.Leaf.{Leaf}
use Rattle.c_syntax.specs.declared.Leaf.TheVariants as leaf
use Rattle.c_syntax.specs.declared.Target.{Target}
use Rattle.c_syntax.specs.Tree.{ExprTree, literal, neg, read, binary, pick, pure, item, ExprTrees, no_exprs, more_exprs, CondTree, compare, both, either, negated, StmtTree, assign, assign_at, branch, call, StmtTrees, no_stmts, more_stmts, list_of_exprs}

-- the leaves in an expression, those in the tests of its choices too; an item of an array counts as
-- its field
abbrev mutual
  pub expr_leaves : ExprTree → List Leaf
  expr_leaves (literal value) = []
  expr_leaves (neg e) = expr_leaves e
  expr_leaves (read l) = l ∷ []
  expr_leaves (binary op a b) = expr_leaves a ++ expr_leaves b
  expr_leaves (pick test a b) = cond_leaves test ++ expr_leaves a ++ expr_leaves b
  expr_leaves (pure function values) = exprs_leaves values
  expr_leaves (item field index) = leaf.Own field ∷ expr_leaves index

  pub exprs_leaves : ExprTrees → List Leaf
  exprs_leaves no_exprs = []
  exprs_leaves (more_exprs e es) = expr_leaves e ++ exprs_leaves es

  pub cond_leaves : CondTree → List Leaf
  cond_leaves (compare how a b) = expr_leaves a ++ expr_leaves b
  cond_leaves (both a b) = cond_leaves a ++ cond_leaves b
  cond_leaves (either a b) = cond_leaves a ++ cond_leaves b
  cond_leaves (negated a) = cond_leaves a

-- a store: the position of the field, and the value; a store in an item counts as one in its field
pub record StoreSite : Type 0 where
  pub field : ℕ
  pub value : ExprTree

-- an index: the position of the array's field, and the expression
pub record IndexSite : Type 0 where
  pub field : ℕ
  pub index : ExprTree

-- the indices in expressions, those inside an index too
abbrev mutual
  pub expr_indices : ExprTree → List IndexSite
  expr_indices (literal value) = []
  expr_indices (neg e) = expr_indices e
  expr_indices (read l) = []
  expr_indices (binary op a b) = expr_indices a ++ expr_indices b
  expr_indices (pick test a b) = cond_indices test ++ expr_indices a ++ expr_indices b
  expr_indices (pure function values) = exprs_indices values
  expr_indices (item field index) = record { field = field; index = index } ∷ expr_indices index

  pub exprs_indices : ExprTrees → List IndexSite
  exprs_indices no_exprs = []
  exprs_indices (more_exprs e es) = expr_indices e ++ exprs_indices es

  pub cond_indices : CondTree → List IndexSite
  cond_indices (compare how a b) = expr_indices a ++ expr_indices b
  cond_indices (both a b) = cond_indices a ++ cond_indices b
  cond_indices (either a b) = cond_indices a ++ cond_indices b
  cond_indices (negated a) = cond_indices a

-- a call: the procedure's position, the target, and the arguments
pub record CallSite : Type 0 where
  pub procedure : ℕ
  pub target : Target
  pub values : List ExprTree

-- the stores, `if` tests and calls in statements
abbrev mutual
  pub stmt_stores : StmtTree → List StoreSite
  stmt_stores (assign line field value) = record { field = field; value = value } ∷ []
  stmt_stores (assign_at line field index value) = record { field = field; value = value } ∷ []
  stmt_stores (branch line test on_true on_false) = stores_in on_true ++ stores_in on_false
  stmt_stores (call line procedure target values) = []

  pub stores_in : StmtTrees → List StoreSite
  stores_in no_stmts = []
  stores_in (more_stmts s ss) = stmt_stores s ++ stores_in ss

abbrev mutual
  pub stmt_tests : StmtTree → List CondTree
  stmt_tests (assign line field value) = []
  stmt_tests (assign_at line field index value) = []
  stmt_tests (branch line test on_true on_false) = test ∷ tests_in on_true ++ tests_in on_false
  stmt_tests (call line procedure target values) = []

  pub tests_in : StmtTrees → List CondTree
  tests_in no_stmts = []
  tests_in (more_stmts s ss) = stmt_tests s ++ tests_in ss

abbrev mutual
  pub stmt_calls : StmtTree → List CallSite
  stmt_calls (assign line field value) = []
  stmt_calls (assign_at line field index value) = []
  stmt_calls (branch line test on_true on_false) = calls_in on_true ++ calls_in on_false
  stmt_calls (call line procedure target values) =
      record { procedure = procedure; target = target; values = list_of_exprs values } ∷ []

  pub calls_in : StmtTrees → List CallSite
  calls_in no_stmts = []
  calls_in (more_stmts s ss) = stmt_calls s ++ calls_in ss

abbrev mutual
  -- the leaves in statements: in values, tests and arguments
  pub stmt_leaves : StmtTree → List Leaf
  stmt_leaves (assign line field value) = expr_leaves value
  stmt_leaves (assign_at line field index value) = expr_leaves index ++ expr_leaves value
  stmt_leaves (branch line test on_true on_false) =
      cond_leaves test ++ stmts_leaves on_true ++ stmts_leaves on_false
  stmt_leaves (call line procedure target values) = exprs_leaves values

  pub stmts_leaves : StmtTrees → List Leaf
  stmts_leaves no_stmts = []
  stmts_leaves (more_stmts s ss) = stmt_leaves s ++ stmts_leaves ss

abbrev mutual
  -- the indices in statements: of stores in items, and in values, tests and arguments
  pub stmt_indices : StmtTree → List IndexSite
  stmt_indices (assign line field value) = expr_indices value
  stmt_indices (assign_at line field index value) =
      record { field = field; index = index } ∷ expr_indices index ++ expr_indices value
  stmt_indices (branch line test on_true on_false) =
      cond_indices test ++ indices_in on_true ++ indices_in on_false
  stmt_indices (call line procedure target values) = exprs_indices values

  pub indices_in : StmtTrees → List IndexSite
  indices_in no_stmts = []
  indices_in (more_stmts s ss) = stmt_indices s ++ indices_in ss
