-- Fields of a struct.
use Rattle.std.specs.Prelude.{ℕ, Bool, List, ◌++◌, map, reverse, Result, Ok, Err}
use Rattle.c_syntax.specs.declared.fault.CFault.{CFault}
use Rattle.c_syntax.specs.declared.fault.CKind.{CKind}
use Rattle.c_syntax.specs.declared.program.FieldKind.{FieldKind}
use Rattle.c_syntax.specs.Tree.{FieldTree}
use Rattle.base_core.specs.Results.{◌>>=◌}
use Rattle.c_grammar.specs.Written.{WrittenField}
use Rattle.c_rules.specs.Resolve.{Known, resolve_fields}
use Rattle.c_resolver.specs.declared.numbers.Numbers.{Numbers}

-- the names of the number fields
abbrev pub names_in : Numbers → List (List ℕ)
names_in numbers = map (λ n. n.now) numbers.names.items

-- a field of this name and kind
abbrev pub named_kind : List ℕ → Result FieldKind CKind → Result FieldTree CKind
named_kind name (Ok kind) = Ok (record { name = name; kind = kind })
named_kind name (Err kind) = Err kind

-- fields of these names, in order, and after them what more fields stand for
abbrev pub fields_behind : Known → Bool → (numbers : List (List ℕ)) → List FieldTree →
    (names : List (List ℕ)) → List WrittenField → Result (List FieldTree) CFault
fields_behind known is_root numbers fields names written = do
  more ← resolve_fields known is_root numbers (reverse names) written
  Ok (fields ++ more)
