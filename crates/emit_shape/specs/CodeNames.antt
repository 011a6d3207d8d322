-- What positions in a system's code stand for, so that rules are said by names: once for a system's
-- code by itself, and once for a program.
use Rattle.std.specs.Prelude.{◌≡◌, ℕ, List, [], map, slice_index_or}
use Rattle.c_syntax.specs.declared.CType.{CType}
use Rattle.c_syntax.specs.declared.CType.TheVariants.{I64}
use Rattle.c_syntax.specs.declared.Leaf.{Leaf}
use Rattle.c_syntax.specs.declared.Leaf.TheVariants.{Param, Own, Child}
use Rattle.c_syntax.specs.declared.FieldKind.{FieldKind}
use Rattle.c_syntax.specs.declared.FieldKind.TheVariants.{Number, Array, Struct}
use Rattle.c_syntax.specs.Tree.{ExprTree, read, FieldTree, ParamTree}
use Rattle.emit_shape.specs.NamedLeaf.{NamedLeaf, param, own, child}
use Rattle.emit_shape.specs.Heads.{Head}
use Rattle.c_syntax.specs.Kinds.{WrittenKind, number_kind, array_kind, struct_kind}

-- the names of own fields, of the fields of a child, and of structs, and the heads of procedures,
-- by position
pub record CodeNames : Type 0 where
  pub own : ℕ → List ℕ
  pub inner : ℕ → ℕ → List ℕ
  pub struct : ℕ → List ℕ
  pub callee : ℕ → Head

-- a parameter that no lawful code names
abbrev pub no_param : ParamTree
no_param = record { name = []; type = I64 }

-- what a leaf reads in a procedure with these parameters
abbrev pub named_leaf : CodeNames → List ParamTree → Leaf → NamedLeaf
named_leaf n params (Param k) = param (slice_index_or params k no_param).name
named_leaf n params (Own f) = own (n.own f)
named_leaf n params (Child f g) = child (n.own f) (n.inner f g)

abbrev pub named_leaves : CodeNames → List ParamTree → List Leaf → List NamedLeaf
named_leaves n params leaves = map (named_leaf n params) leaves

-- an expression is nothing but a read of this
abbrev pub IsReadOf : CodeNames → List ParamTree → NamedLeaf → ExprTree → Type 0
IsReadOf n params wanted e = (leaf : Leaf) × (e ≡ read leaf) × (named_leaf n params leaf ≡ wanted)

-- a field by its name and what it is declared as
pub record NamedField : Type 0 where
  pub name : List ℕ
  pub kind : WrittenKind

abbrev pub named_kind : CodeNames → FieldKind → WrittenKind
named_kind n (Number type) = number_kind type
named_kind n (Array type count) = array_kind type count
named_kind n (Struct k) = struct_kind (n.struct k)

abbrev pub named_fields : CodeNames → List FieldTree → List NamedField
named_fields n fields = map (λ f. record { name = f.name; kind = named_kind n f.kind }) fields
