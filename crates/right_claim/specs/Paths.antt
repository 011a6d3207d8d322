-- The instances of a program's systems by their paths from the root.
use Rattle.std.specs.Prelude.{ℕ, ℤ, List, [], ◌∷◌, map, reverse, Option, None}
use Rattle.diagram_meaning.specs.declared.table.Row.{Row}
use Rattle.diagram_meaning.specs.Rows.{row_at, enclosing, around_inside}
use Rattle.modules_profile.specs.Systems.{system_name}
use Rattle.c_syntax.specs.Tree.{ProgramTree, struct_fields}
use Rattle.c_semantics.specs.Cells.{Cells, number_at, fields_at}
use Rattle.c_syntax.specs.RootFields.{field_position, root_fields}
use Rattle.emit_shape.specs.Names.{child_name}
use Rattle.emit_shape.specs.Programs.{struct_place}

-- the position of a field of this name in a system's struct
abbrev pub place_in : ProgramTree → Option ℕ → List ℕ → ℕ
place_in p s name = field_position (struct_fields p.structs (struct_place p s)) name

-- a field of an instance of the system s, by its name
abbrev pub number_in : ProgramTree → Option ℕ → Cells → List ℕ → ℤ
number_in p s cells name = number_at cells (place_in p s name)

-- the path of a system's instance from the root: `top`, and then a field for each subsystem down to
-- it
abbrev pub path_to : ProgramTree → List Row → Option ℕ → List ℕ
path_to p rows s =
    field_position (root_fields p) (system_name None)
    ∷ map (λ e. place_in p (row_at rows e).owner (child_name e)) (reverse (enclosing rows None s))

-- the path from an instance of the system s to that of a subsystem inside it
abbrev pub path_inside : ProgramTree → List Row → Option ℕ → ℕ → List ℕ
path_inside p rows s e =
    map (λ f. place_in p (row_at rows f).owner (child_name f))
    (reverse (e ∷ around_inside rows s e))
