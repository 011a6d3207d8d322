-- The types of expressions.
use Rattle.std.specs.Prelude.{ℕ, Bool, true, false, not, ◌&&◌, if◌then◌else◌, List, [], ◌∷◌, take, drop, slice_index_or, Option, Some, None}
use Rattle.lustre_syntax.specs.declared.code.LusOp.{LusOp}
use Rattle.lustre_syntax.specs.declared.code.LusOp.TheVariants.{Add, Sub, Mul, Div, Mod, Eq, Ne, Lt, Le, Gt, Ge, And, Or}
use Rattle.lustre_syntax.specs.Tree.{ValueType, int, bool, Expr, number, truth, name, negative, negation, two, choice, arrow, previous, NodeTree, types_of}

-- two types are one
abbrev pub same_type : ValueType → ValueType → Bool
same_type false u = not u
same_type true u = u

-- what is known of the type of an expression: types don't agree in it; any type may be its type, as
-- far as it is known, since the type of a name isn't; or this is its type
pub data Typing : Type 0 where
  clash : Typing
  open_type : Typing
  known : (type : ValueType) → Typing

-- what is known of two things of one type
abbrev pub meet : Typing → Typing → Typing
meet clash second = clash
meet open_type second = second
meet (known t) clash = clash
meet (known t) open_type = known t
meet (known t) (known u) = if same_type t u then known t else clash

-- a typing, where nothing disagrees in another one
abbrev pub unless_clash : Typing → Typing → Typing
unless_clash clash second = clash
unless_clash open_type second = second
unless_clash (known t) second = second

abbrev pub no_clash : Typing → Bool
no_clash clash = false
no_clash open_type = true
no_clash (known t) = true

-- the type at a place, which in a lawful file is there
abbrev pub type_at : List ValueType → ℕ → ValueType
type_at types k = slice_index_or types k int

-- a name with a type, if it has one
abbrev pub of_name : Option ValueType → Typing
of_name None = open_type
of_name (Some t) = known t

-- the type of an operator's two operands, which for `=` and `<>` may be any
abbrev pub operand_type : LusOp → Typing
operand_type Add = known int
operand_type Sub = known int
operand_type Mul = known int
operand_type Div = known int
operand_type Mod = known int
operand_type Eq = open_type
operand_type Ne = open_type
operand_type Lt = known int
operand_type Le = known int
operand_type Gt = known int
operand_type Ge = known int
operand_type And = known bool
operand_type Or = known bool

-- the type of what an operator gives
abbrev pub gives_type : LusOp → ValueType
gives_type Add = int
gives_type Sub = int
gives_type Mul = int
gives_type Div = int
gives_type Mod = int
gives_type Eq = bool
gives_type Ne = bool
gives_type Lt = bool
gives_type Le = bool
gives_type Gt = bool
gives_type Ge = bool
gives_type And = bool
gives_type Or = bool

-- the typing of an expression, where this gives the types of names
module _ {N : Type 0} (type_of_name : N → Option ValueType) where
  abbrev pub typing : Expr N → Typing
  typing (number value) = known int
  typing (truth value) = known bool
  typing (name x) = of_name (type_of_name x)
  typing (negative a) = unless_clash (meet (known int) (typing a)) (known int)
  typing (negation a) = unless_clash (meet (known bool) (typing a)) (known bool)
  typing (two op a b) =
      unless_clash (meet (operand_type op) (meet (typing a) (typing b))) (known (gives_type op))
  typing (choice test a b) =
      unless_clash (meet (known bool) (typing test)) (meet (typing a) (typing b))
  typing (arrow a b) = meet (typing a) (typing b)
  typing (previous x) = of_name (type_of_name x)

  -- whether an expression may have a type, and expressions these types, one for each
  abbrev pub fits : Expr N → ValueType → Bool
  fits e t = no_clash (meet (known t) (typing e))

  abbrev pub all_fit : List (Expr N) → List ValueType → Bool
  all_fit [] [] = true
  all_fit (e ∷ es) (t ∷ ts) = fits e t && all_fit es ts
  all_fit _ _ = false

-- whether names have these types, one for each
abbrev pub have_types : List ValueType → List ℕ → List ValueType → Bool
have_types types [] [] = true
have_types types (k ∷ ks) (t ∷ ts) = same_type (type_at types k) t && have_types types ks ts
have_types types _ _ = false

-- the types of a node's inputs and of its outputs
abbrev pub input_types : NodeTree → List ValueType
input_types n = take n.inputs (types_of n.names)

abbrev pub output_types : NodeTree → List ValueType
output_types n = take n.outputs (drop n.inputs (types_of n.names))
