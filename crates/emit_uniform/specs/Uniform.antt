-- Programs in which subsystems that are the same have the same code, but for the names of rows.
use Rattle.std.specs.Prelude.{◌≡◌, ℕ, if◌then◌else◌, List, [], ◌∷◌, map, flat_map, zip, Contains, Some, bytes_eq}
use Rattle.diagram_meaning.specs.declared.table.Row.{Row}
use Rattle.diagram_meaning.specs.Diagram.{Diagram}
use Rattle.diagram_same.specs.Same.{AreSame, rows_inside, subsystem_rows}
use Rattle.modules_profile.specs.Systems.{system_name}
use Rattle.c_syntax.specs.Tree.{ProgramTree}
use Rattle.c_syntax.specs.Lawful.{without_lines}
use Rattle.emit_shape.specs.Names.{value_name, memory_name, place_name, taken_name, child_name}
use Rattle.emit_shape.specs.Programs.{struct_at, struct_place, procedures_of}
use Rattle.emit_uniform.specs.Turned.{Turn, turned_struct, turned_procedure}

-- the name that stands beside this one, or this one itself
abbrev pub renamed : List (List ℕ × List ℕ) → List ℕ → List ℕ
renamed [] name = name
renamed (pair ∷ pairs) name = if bytes_eq pair.0 name then pair.1 else renamed pairs name

-- the names of the fields of a row, and those of another
abbrev pub field_names : ℕ × ℕ → List (List ℕ × List ℕ)
field_names rows =
    (value_name rows.0, value_name rows.1) ∷ (memory_name rows.0, memory_name rows.1)
    ∷ (place_name rows.0, place_name rows.1) ∷ (taken_name rows.0, taken_name rows.1)
    ∷ (child_name rows.0, child_name rows.1) ∷ []

-- the names of systems
abbrev pub system_names : ℕ × ℕ → List ℕ × List ℕ
system_names rows = (system_name (Some rows.0), system_name (Some rows.1))

-- the rows inside subsystem e, each beside the one at its place inside f
abbrev pub rows_beside : List Row → (e f : ℕ) → List (ℕ × ℕ)
rows_beside rows e f = zip (rows_inside rows e) (rows_inside rows f)

-- from the names of the rows inside e, and of e, to those of f
abbrev pub turn_of : List Row → (e f : ℕ) → Turn
turn_of rows e f = record {
  field = renamed (flat_map field_names (rows_beside rows e f));
  system = renamed (map system_names ((e, f) ∷ rows_beside rows e f));
}

-- the struct and the procedures of f are those of e with other names
pub record AreTurned (p : ProgramTree) (t : Turn) (e f : ℕ) : Type 0 where
  pub struct : struct_at p (struct_place p (Some f))
      ≡ turned_struct p t (struct_at p (struct_place p (Some e)))
  pub procedures : procedures_of p (struct_place p (Some f))
      ≡ map (turned_procedure p t) (procedures_of p (struct_place p (Some e)))

-- lines aside, so it is for each two subsystems that are the same
abbrev pub IsUniform : ProgramTree → Diagram → Type 0
IsUniform p d =
    (e f : ℕ) → Contains (subsystem_rows d.rows) e → Contains (subsystem_rows d.rows) f →
    AreSame d e f → AreTurned (without_lines p) (turn_of d.rows e f) e f
