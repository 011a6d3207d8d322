-- What is known at a place, and the names in reach, as the rules see them.
use Rattle.std.specs.Prelude.{ℕ, List, [], map, Option, Some, None}
use Rattle.c_syntax.specs.Tree.{FieldTree, StructTree, struct_fields}
use Rattle.c_syntax.specs.Plain.{pure_tree, procedure_tree}
use Rattle.c_rules.specs.Resolve.{Known, Names}
use Rattle.c_resolver.specs.declared.known.Known.{Known as Defined}
use Rattle.c_resolver.specs.declared.known.Scope.{Scope}

-- the definitions before a place
abbrev pub known_of : Defined → Known
known_of d = record {
  pures = map pure_tree d.pures.items.items;
  structs = d.structs.items.items;
  procedures = map procedure_tree d.procedures.items.items;
  chains = d.chains.items;
}

-- the fields of the own struct; a pure function has none
abbrev pub own_fields : List StructTree → Option ℕ → List FieldTree
own_fields structs None = []
own_fields structs (Some k) = struct_fields structs k

-- the names in reach of a body
abbrev pub names_of : Scope → Names
names_of s =
    record {
      known = known_of s.known.now;
      of = s.of;
      fields = own_fields s.known.now.structs.items.items s.of;
      params = s.params.now;
    }
