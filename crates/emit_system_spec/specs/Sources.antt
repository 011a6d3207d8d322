-- Where the values of a system's wires are read: in the fields of its children, and in its own.
use Rattle.std.specs.Prelude.{ℕ, List, [], ◌∷◌, ◌++◌, map, flat_map, slice_get, Option, Some, None}
use Rattle.std.specs.Option.{option_map_or, option_and_then}
use Rattle.std.specs.List.{enumerate_from}
use Rattle.base_fixed_point.specs.declared.types.FixType.{FixType}
use Rattle.modules_profile.specs.declared.local.ChildUse.{ChildUse}
use Rattle.modules_profile.specs.declared.local.LocalRow.{LocalRow}
use Rattle.modules_profile.specs.LocalSystem.{LocalSystem}
use Rattle.c_syntax.specs.declared.code.Leaf.{Leaf}
use Rattle.c_syntax.specs.declared.code.Leaf.TheVariants.{Own, Child}
use Rattle.emit_system_spec.specs.declared.source.Source.{Source}
use Rattle.emit_system_spec.specs.Fields.{first_place, value_rows, value_field, child_field}

-- output o, from 0, of the child in field f, with its Outport row and its type
abbrev pub output_source : ℕ → ℕ × (ℕ × FixType) → Source
output_source f e = record { row = e.1.0; leaf = Child f e.0; number = e.1.1 }

-- the outputs of the child at a place
abbrev pub child_sources : LocalSystem → ℕ × ChildUse → List Source
child_sources local e =
    map (output_source (child_field local e.0)) (enumerate_from 0 e.1.header.outputs)

-- the value of an own row
abbrev pub value_source : LocalSystem → LocalRow → Source
value_source local r = record { row = r.row; leaf = Own (value_field local r.row); number = r.out }

-- what a wire can read: outputs of children, and own values
abbrev pub sources : LocalSystem → List Source
sources local = flat_map (child_sources local) (enumerate_from 0 local.children)
    ++ map (value_source local) (value_rows local)

-- the source of row c's value; a row of neither has none
abbrev pub source_of : LocalSystem → ℕ → Option Source
source_of local c =
    option_and_then (slice_get (sources local)) (first_place (map (λ s. s.row) (sources local)) c)

-- a wire's leaf; one without a source, which no lawful system has, reads the first field
abbrev pub wire_leaf : LocalSystem → ℕ → Leaf
wire_leaf local c = option_map_or (λ s. s.leaf) (source_of local c) (Own 0)

-- the types of wires, as far as they have sources
abbrev pub known_types : List (Option Source) → List FixType
known_types [] = []
known_types (None ∷ found) = []
known_types (Some s ∷ found) = s.number ∷ known_types found

abbrev pub wire_types : LocalSystem → List ℕ → List FixType
wire_types local wires = known_types (map (source_of local) wires)
