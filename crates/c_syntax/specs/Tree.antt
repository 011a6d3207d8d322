-- Programs as plain trees: the same variants and fields as the values of the source, with lists for
-- vectors.
use Rattle.std.specs.Prelude.{ℕ, ℤ, Bool, List, [], ◌∷◌, map, slice_index_or}
use Rattle.base_core.specs.declared.base.Compare.{Compare}
use Rattle.c_syntax.specs.declared.code.BinOp.{BinOp}
use Rattle.c_syntax.specs.declared.code.CType.{CType}
use Rattle.c_syntax.specs.declared.code.CType.TheVariants.{I64}
use Rattle.c_syntax.specs.declared.code.Leaf.{Leaf}
use Rattle.c_syntax.specs.declared.code.Target.{Target}
use Rattle.c_syntax.specs.declared.program.FieldKind.{FieldKind}
use Rattle.c_syntax.specs.declared.program.FieldKind.TheVariants.{Number, Array, Struct}

-- expressions, lists of them, and conditions
mutual
  -- an expression
  pub data ExprTree : Type 0 where
    literal : (value : ℤ) → ExprTree
    neg : (operand : ExprTree) → ExprTree
    read : (leaf : Leaf) → ExprTree
    binary : (op : BinOp) (left right : ExprTree) → ExprTree
    pick : (test : CondTree) (on_true on_false : ExprTree) → ExprTree
    pure : (function : ℕ) (values : ExprTrees) → ExprTree
    item : (field : ℕ) (index : ExprTree) → ExprTree

  -- a row of expressions
  pub data ExprTrees : Type 0 where
    no_exprs : ExprTrees
    more_exprs : (first : ExprTree) (rest : ExprTrees) → ExprTrees

  -- a condition
  pub data CondTree : Type 0 where
    compare : (how : Compare) (left right : ExprTree) → CondTree
    both : (left right : CondTree) → CondTree
    either : (left right : CondTree) → CondTree
    negated : (operand : CondTree) → CondTree

-- statements with their lines, and lists of them
mutual
  -- a statement
  pub data StmtTree : Type 0 where
    assign : (line field : ℕ) (value : ExprTree) → StmtTree
    assign_at : (line field : ℕ) (index value : ExprTree) → StmtTree
    branch : (line : ℕ) (test : CondTree) (on_true on_false : StmtTrees) → StmtTree
    call : (line procedure : ℕ) (target : Target) (values : ExprTrees) → StmtTree

  -- a row of statements
  pub data StmtTrees : Type 0 where
    no_stmts : StmtTrees
    more_stmts : (first : StmtTree) (rest : StmtTrees) → StmtTrees

-- a field of a struct
pub record FieldTree : Type 0 where
  pub name : List ℕ
  pub kind : FieldKind

-- a struct
pub record StructTree : Type 0 where
  pub name : List ℕ
  pub fields : List FieldTree

-- the fields of the struct at a position, and none past the end
abbrev pub no_struct : StructTree
no_struct = record { name = []; fields = [] }

-- the fields of the struct at a position, and none past the end
abbrev pub struct_fields : List StructTree → ℕ → List FieldTree
struct_fields structs k = (slice_index_or structs k no_struct).fields

-- the types of the fields, of an array that of its items; a struct has none of its own, and no
-- lawful program stores in one
abbrev pub kind_type : FieldKind → CType
kind_type (Number type) = type
kind_type (Array type count) = type
kind_type (Struct k) = I64

-- the type of each field
abbrev pub field_types : List FieldTree → List CType
field_types fields = map (λ f. kind_type f.kind) fields

-- the type at a position, which in a lawful program is there
abbrev pub type_at : List CType → ℕ → CType
type_at types k = slice_index_or types k I64

-- a pure function, with the line of its `return`
pub record PureTree : Type 0 where
  pub name : List ℕ
  pub params : List (List ℕ)
  pub body : ExprTree
  pub line : ℕ

-- a parameter of a procedure
pub record ParamTree : Type 0 where
  pub name : List ℕ
  pub type : CType

-- a procedure of the struct at position `of`
pub record ProcedureTree : Type 0 where
  pub name : List ℕ
  pub private : Bool
  pub of : ℕ
  pub params : List ParamTree
  pub body : StmtTrees

-- a program
pub record ProgramTree : Type 0 where
  pub pures : List PureTree
  pub structs : List StructTree
  pub procedures : List ProcedureTree

-- the expressions of a row
abbrev pub list_of_exprs : ExprTrees → List ExprTree
list_of_exprs no_exprs = []
list_of_exprs (more_exprs e es) = e ∷ list_of_exprs es

-- a row of expressions from a list of them
abbrev pub exprs_of_list : List ExprTree → ExprTrees
exprs_of_list [] = no_exprs
exprs_of_list (e ∷ es) = more_exprs e (exprs_of_list es)

-- the statements of a row
abbrev pub list_of_stmts : StmtTrees → List StmtTree
list_of_stmts no_stmts = []
list_of_stmts (more_stmts s ss) = s ∷ list_of_stmts ss

-- a row of statements from a list of them
abbrev pub stmts_of_list : List StmtTree → StmtTrees
stmts_of_list [] = no_stmts
stmts_of_list (s ∷ ss) = more_stmts s (stmts_of_list ss)

-- one list of statements after another
abbrev pub stmts_append : StmtTrees → StmtTrees → StmtTrees
stmts_append no_stmts later = later
stmts_append (more_stmts s ss) later = more_stmts s (stmts_append ss later)
