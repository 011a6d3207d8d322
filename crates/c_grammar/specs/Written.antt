-- A program as it is written: names in place of positions, with the lines of what a rule may
-- refuse.
use Rattle.std.specs.Prelude.{ℕ, Bool, List}
use Rattle.base_core.specs.declared.base.Compare.{Compare}
use Rattle.c_syntax.specs.declared.code.BinOp.{BinOp}
use Rattle.c_syntax.specs.declared.code.CType.{CType}
use Rattle.c_syntax.specs.Kinds.{WrittenKind}

-- a parameter, a field, or a field of a field
pub data WrittenLeaf : Type 0 where
  param : (name : List ℕ) → WrittenLeaf
  own : (field : List ℕ) → WrittenLeaf
  child : (field inner : List ℕ) → WrittenLeaf

mutual
  -- an expression
  pub data WrittenExpr : Type 0 where
    literal : (value : ℕ) → WrittenExpr
    neg : (operand : WrittenExpr) → WrittenExpr
    read : (line : ℕ) (leaf : WrittenLeaf) → WrittenExpr
    binary : (op : BinOp) (left right : WrittenExpr) → WrittenExpr
    pick : (test : WrittenCond) (on_true on_false : WrittenExpr) → WrittenExpr
    pure : (line : ℕ) (function : List ℕ) (values : WrittenExprs) → WrittenExpr
    -- an item of the array that an own field is
    item : (line : ℕ) (field : List ℕ) (index : WrittenExpr) → WrittenExpr

  -- a row of expressions
  pub data WrittenExprs : Type 0 where
    no_exprs : WrittenExprs
    more_exprs : (first : WrittenExpr) (rest : WrittenExprs) → WrittenExprs

  -- a condition
  pub data WrittenCond : Type 0 where
    compare : (how : Compare) (left right : WrittenExpr) → WrittenCond
    both : (left right : WrittenCond) → WrittenCond
    either : (left right : WrittenCond) → WrittenCond
    negated : (operand : WrittenCond) → WrittenCond

-- the target of a call: the own instance, or that of a field
pub data WrittenTarget : Type 0 where
  own_target : WrittenTarget
  field_target : (field : List ℕ) → WrittenTarget

-- the arguments of a call of a procedure, each with its cast
pub data WrittenArguments : Type 0 where
  no_arguments : WrittenArguments
  more_arguments : (cast : CType) (first : WrittenExpr) (rest : WrittenArguments) → WrittenArguments

mutual
  -- a statement
  pub data WrittenStmt : Type 0 where
    assign : (line : ℕ) (field : List ℕ) (cast : CType) (value : WrittenExpr) → WrittenStmt
    assign_at : (line : ℕ) (field : List ℕ) (index : WrittenExpr) (cast : CType)
        (value : WrittenExpr) → WrittenStmt
    branch : (line : ℕ) (test : WrittenCond) (on_true : WrittenStmts) → WrittenStmt
    branch_else : (line : ℕ) (test : WrittenCond) (on_true on_false : WrittenStmts) → WrittenStmt
    call : (line : ℕ) (procedure : List ℕ) (target : WrittenTarget) (values : WrittenArguments) →
        WrittenStmt

  -- a row of statements
  pub data WrittenStmts : Type 0 where
    no_stmts : WrittenStmts
    more_stmts : (first : WrittenStmt) (rest : WrittenStmts) → WrittenStmts

-- a parameter
pub record WrittenParam : Type 0 where
  pub line : ℕ
  pub type : CType
  pub name : List ℕ

-- a parameter of a pure function, which is an int64_t
pub record WrittenPureParam : Type 0 where
  pub line : ℕ
  pub name : List ℕ

-- a pure function, with the line of its `return`
pub record WrittenPure : Type 0 where
  pub line : ℕ
  pub name : List ℕ
  pub params : List WrittenPureParam
  pub return_line : ℕ
  pub body : WrittenExpr

-- a field, with its line
pub record WrittenField : Type 0 where
  pub line : ℕ
  pub kind : WrittenKind
  pub name : List ℕ

-- a struct, with its line
pub record WrittenStruct : Type 0 where
  pub line : ℕ
  pub name : List ℕ
  pub fields : List WrittenField

-- a procedure, with its line
pub record WrittenProcedure : Type 0 where
  pub line : ℕ
  pub private : Bool
  pub name : List ℕ
  pub of : List ℕ
  pub params : List WrittenParam
  pub body : WrittenStmts

-- a program
pub record WrittenProgram : Type 0 where
  pub pures : List WrittenPure
  pub structs : List WrittenStruct
  pub procedures : List WrittenProcedure
