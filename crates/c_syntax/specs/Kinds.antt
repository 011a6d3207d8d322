-- Kinds of fields as they are written: an array with its length as written, a struct by its name.
use Rattle.std.specs.Prelude.{ℕ, List}
use Rattle.c_syntax.specs.declared.code.CType.{CType}

-- what a field is declared as: a number of a type, an array of so many, or a struct by its name
pub data WrittenKind : Type 0 where
  number_kind : (type : CType) → WrittenKind
  array_kind : (type : CType) (count : ℕ) → WrittenKind
  struct_kind : (name : List ℕ) → WrittenKind
