-- What each token of a written program opens: something that has a limit, and how deep it is or the
-- how manieth.
use Rattle.std.specs.Prelude.{ℕ, ◌+◌, Bool, true, false, nat_le, List, [], ◌∷◌, ◌++◌}
use Rattle.c_syntax.specs.Kinds.{WrittenKind, number_kind, array_kind, struct_kind}
use Rattle.c_grammar.specs.Written.{WrittenLeaf, param, own, child, WrittenExpr, literal, neg, read, binary, pick, pure, item, WrittenExprs, no_exprs, more_exprs, WrittenCond, compare, both, either, negated, WrittenTarget, own_target, field_target, WrittenArguments, no_arguments, more_arguments, WrittenStmt, assign, assign_at, branch, branch_else, call, WrittenStmts, no_stmts, more_stmts, WrittenParam, WrittenPureParam, WrittenPure, WrittenField, WrittenStruct, WrittenProcedure, WrittenProgram}
use Rattle.c_syntax.specs.Limits.{expr_limit, stmt_limit, pure_limit, param_limit}

-- what a token opens
pub data Opening : Type 0 where
  -- nothing that has a limit
  none : Opening
  -- an expression or a condition; an outermost one is 1 deep
  operand : (depth : ℕ) → Opening
  -- a statement; an outermost one is 1 deep
  statement : (depth : ℕ) → Opening
  -- the first, the second, and so on
  pure_function : (number : ℕ) → Opening
  parameter : (number : ℕ) → Opening

-- it is within its limit
abbrev pub is_within : Opening → Bool
is_within none = true
is_within (operand depth) = nat_le depth expr_limit
is_within (statement depth) = nat_le depth stmt_limit
is_within (pure_function number) = nat_le number pure_limit
is_within (parameter number) = nat_le number param_limit

abbrev pub leaf_openings : WrittenLeaf → List Opening
leaf_openings (param name) = none ∷ []
leaf_openings (own field) = none ∷ none ∷ none ∷ []
leaf_openings (child field inner) = none ∷ none ∷ none ∷ none ∷ none ∷ []

abbrev mutual
  -- of the tokens of an expression or condition at a depth
  pub expr_openings : ℕ → WrittenExpr → List Opening
  expr_openings depth (literal value) = operand depth ∷ none ∷ none ∷ none ∷ []
  expr_openings depth (neg e) = operand depth ∷ none ∷ (expr_openings (depth + 1) e ++ none ∷ [])
  expr_openings depth (read line leaf) = operand depth ∷ none ∷ none ∷ leaf_openings leaf
  expr_openings depth (binary op a b) =
      operand depth
      ∷ (expr_openings (depth + 1) a ++ none ∷ (expr_openings (depth + 1) b ++ none ∷ []))
  expr_openings depth (pick test a b) =
      operand depth
      ∷ (cond_openings (depth + 1) test ++ none
      ∷ (expr_openings (depth + 1) a ++ none ∷ (expr_openings (depth + 1) b ++ none ∷ [])))
  expr_openings depth (pure line function values) =
      operand depth ∷ none ∷ (exprs_openings (depth + 1) values ++ none ∷ [])
  expr_openings depth (item line field index) =
      operand depth ∷ none ∷ none ∷ none ∷ none ∷ none ∷ none
      ∷ (expr_openings (depth + 1) index ++ none ∷ [])

  pub exprs_openings : ℕ → WrittenExprs → List Opening
  exprs_openings depth no_exprs = []
  exprs_openings depth (more_exprs e es) = expr_openings depth e ++ more_exprs_openings depth es

  -- each after a `,`
  pub more_exprs_openings : ℕ → WrittenExprs → List Opening
  more_exprs_openings depth no_exprs = []
  more_exprs_openings depth (more_exprs e es) =
      none ∷ (expr_openings depth e ++ more_exprs_openings depth es)

  pub cond_openings : ℕ → WrittenCond → List Opening
  cond_openings depth (compare how a b) =
      operand depth
      ∷ (expr_openings (depth + 1) a ++ none ∷ (expr_openings (depth + 1) b ++ none ∷ []))
  cond_openings depth (both a b) =
      operand depth
      ∷ (cond_openings (depth + 1) a ++ none ∷ (cond_openings (depth + 1) b ++ none ∷ []))
  cond_openings depth (either a b) =
      operand depth
      ∷ (cond_openings (depth + 1) a ++ none ∷ (cond_openings (depth + 1) b ++ none ∷ []))
  cond_openings depth (negated a) =
      operand depth ∷ none ∷ (cond_openings (depth + 1) a ++ none ∷ [])

abbrev pub target_openings : WrittenTarget → List Opening
target_openings own_target = none ∷ []
target_openings (field_target field) = none ∷ none ∷ none ∷ none ∷ []

-- a `,`, a cast and an expression each
abbrev pub arguments_openings : WrittenArguments → List Opening
arguments_openings no_arguments = []
arguments_openings (more_arguments cast e rest) =
    none ∷ none ∷ none ∷ none ∷ (expr_openings 1 e ++ arguments_openings rest)

abbrev mutual
  -- of the tokens of a statement at a depth
  pub stmt_openings : ℕ → WrittenStmt → List Opening
  stmt_openings depth (assign line field cast value) =
      statement depth ∷ none ∷ none ∷ none ∷ none ∷ none ∷ none
      ∷ (expr_openings 1 value ++ none ∷ [])
  stmt_openings depth (assign_at line field index cast value) =
      statement depth ∷ none ∷ none ∷ none
      ∷ (expr_openings 1 index ++ none ∷ none ∷ none ∷ none ∷ none
      ∷ (expr_openings 1 value ++ none ∷ []))
  stmt_openings depth (branch line test on_true) =
      statement depth
      ∷ (cond_openings 1 test ++ none ∷ (stmts_openings (depth + 1) on_true ++ none ∷ []))
  stmt_openings depth (branch_else line test on_true on_false) =
      statement depth
      ∷ (cond_openings 1 test ++ none
      ∷ (stmts_openings (depth + 1) on_true ++ none ∷ none ∷ none
      ∷ (stmts_openings (depth + 1) on_false ++ none ∷ [])))
  stmt_openings depth (call line procedure target values) =
      statement depth ∷ none
      ∷ (target_openings target ++ (arguments_openings values ++ none ∷ none ∷ []))

  pub stmts_openings : ℕ → WrittenStmts → List Opening
  stmts_openings depth no_stmts = []
  stmts_openings depth (more_stmts s ss) = stmt_openings depth s ++ stmts_openings depth ss

-- parameters from a number on, each after a `,`; the `s` of a procedure isn't counted
abbrev pub more_params_openings : ℕ → List WrittenParam → List Opening
more_params_openings number [] = []
more_params_openings number (p ∷ ps) =
    none ∷ parameter number ∷ none ∷ more_params_openings (number + 1) ps

abbrev pub more_pure_params_openings : ℕ → List WrittenPureParam → List Opening
more_pure_params_openings number [] = []
more_pure_params_openings number (p ∷ ps) =
    none ∷ parameter number ∷ none ∷ more_pure_params_openings (number + 1) ps

abbrev pub pure_params_openings : List WrittenPureParam → List Opening
pure_params_openings [] = []
pure_params_openings (p ∷ ps) = parameter 1 ∷ none ∷ more_pure_params_openings 2 ps

-- `static int64_t name (`, parameters, `) { return`, an expression, `; }`
abbrev pub pure_openings : ℕ → WrittenPure → List Opening
pure_openings number p =
    pure_function number ∷ none ∷ none ∷ none
    ∷ (pure_params_openings p.params ++ none ∷ none ∷ none
    ∷ (expr_openings 1 p.body ++ none ∷ none ∷ []))

abbrev pub pures_openings : ℕ → List WrittenPure → List Opening
pures_openings number [] = []
pures_openings number (p ∷ ps) = pure_openings number p ++ pures_openings (number + 1) ps

-- a type, or `struct` and a name
abbrev pub kind_openings : WrittenKind → List Opening
kind_openings (number_kind type) = none ∷ []
kind_openings (array_kind type count) = none ∷ []
kind_openings (struct_kind name) = none ∷ none ∷ []

-- for an array `[`, a literal and `]`
abbrev pub length_openings : WrittenKind → List Opening
length_openings (number_kind type) = []
length_openings (array_kind type count) = none ∷ none ∷ none ∷ []
length_openings (struct_kind name) = []

-- each with its kind, a name, its length, and `;`
abbrev pub fields_openings : List WrittenField → List Opening
fields_openings [] = []
fields_openings (f ∷ fs) =
    kind_openings f.kind ++ none ∷ (length_openings f.kind ++ none ∷ fields_openings fs)

-- `struct name {`, fields, `} ;`
abbrev pub structs_openings : List WrittenStruct → List Opening
structs_openings [] = []
structs_openings (d ∷ ds) =
    none ∷ none ∷ none ∷ (fields_openings d.fields ++ none ∷ none ∷ structs_openings ds)

abbrev pub private_openings : Bool → List Opening
private_openings true = none ∷ none ∷ []
private_openings false = none ∷ []

-- `void name ( struct name * s`, parameters, `) {`, statements, `}`
abbrev pub procedures_openings : List WrittenProcedure → List Opening
procedures_openings [] = []
procedures_openings (p ∷ ps) =
    private_openings p.private ++ none ∷ none ∷ none ∷ none ∷ none ∷ none
    ∷ (more_params_openings 1 p.params ++ none ∷ none
    ∷ (stmts_openings 1 p.body ++ none ∷ procedures_openings ps))

-- of the tokens of a program, one for each
abbrev pub openings : WrittenProgram → List Opening
openings p =
    pures_openings 1 p.pures ++ (structs_openings p.structs ++ procedures_openings p.procedures)
