-- A file as it is written: names by their texts, with the lines of what a rule may refuse.
use Rattle.std.specs.Prelude.{ℕ, List}
use Rattle.lustre_syntax.specs.Tree.{ValueType, Expr}

-- a name that is read, with its line
pub record Word : Type 0 where
  pub line : ℕ
  pub text : List ℕ

abbrev pub WrittenExpr : Type 0
WrittenExpr = Expr Word

-- an equation, with the line of its first token
pub data WrittenEquation : Type 0 where
  set : (line : ℕ) (given : List ℕ) (value : WrittenExpr) → WrittenEquation
  call : (line : ℕ) (given : List (List ℕ)) (callee : List ℕ) (values : List WrittenExpr) →
      WrittenEquation

-- a declared name, with its line
pub record WrittenDeclared : Type 0 where
  pub line : ℕ
  pub text : List ℕ
  pub type : ValueType

-- a node, with the line of its first token
pub record WrittenNode : Type 0 where
  pub line : ℕ
  pub text : List ℕ
  pub inputs : List WrittenDeclared
  pub outputs : List WrittenDeclared
  pub others : List WrittenDeclared
  pub equations : List WrittenEquation

-- a file
pub record WrittenFile : Type 0 where
  pub nodes : List WrittenNode
