-- The instances of systems, found from the root's field by field.
use Rattle.std.specs.Prelude.{◌≡◌, ℕ, ◌<◌, Bool, true, List, [], ◌∷◌, map, reverse, length, Contains, Option, Some, None, option_and_then}
use Rattle.diagram_meaning.specs.declared.table.Row.{Row}
use Rattle.diagram_meaning.specs.Rows.{row_at, enclosing}
use Rattle.diagram_blocks.specs.Kinds.{is_subsystem}
use Rattle.diagram_meaning.specs.Diagram.{Diagram}
use Rattle.diagram_meaning.specs.WellFormed.{IsNested}
use Rattle.modules_profile.specs.Systems.{system_name, systems}
use Rattle.c_syntax.specs.Lawful.{IsLawful}
use Rattle.c_syntax.specs.Tree.{ProgramTree}
use Rattle.c_interpreter.specs.Instances.{StructInstance, instance_at, child_named}
use Rattle.emit_shape.specs.Names.{child_name}
use Rattle.emit_shape.specs.Programs.{struct_place}
use Rattle.emit_shape.specs.ProgramShape.{HasShape}
use Rattle.right_claim.specs.Paths.{path_to}

-- the instance of a system: its path from the root's, and its struct
abbrev pub system_instance : ProgramTree → List Row → Option ℕ → StructInstance
system_instance p rows s = record { path = path_to p rows s; struct = struct_place p s }

-- the instance with this number is that of a system
abbrev pub IsInstanceOf : ProgramTree → List Row → Option ℕ → ℕ → Type 0
IsInstanceOf p rows s number = instance_at p number ≡ Some (system_instance p rows s)

-- what a machine answers where it is asked for the instance in a struct field of an instance: its
-- number, or none
abbrev pub IsChildAnswer : ProgramTree → (number : ℕ) (field : List ℕ) (child : Option ℕ) → Type 0
IsChildAnswer p number field child =
    option_and_then (instance_at p) child
    ≡ option_and_then (child_named p field) (instance_at p number)

-- there is an answer, and it is the number of a system's instance
pub record IsFound (p : ProgramTree) (rows : List Row) (s : Option ℕ)
    (child : Option ℕ) : Type 0 where
  pub number : ℕ
  pub there : child ≡ Some number
  pub of_system : IsInstanceOf p rows s number

-- the fields on the way from the root's instance to that of a system: `top`, and then one for each
-- subsystem down to it
abbrev pub way_to : List Row → Option ℕ → List (List ℕ)
way_to rows s = system_name None ∷ map child_name (reverse (enclosing rows None s))

-- the instance reached through these fields, one inside the other
abbrev pub instance_behind : ProgramTree → Option StructInstance → List (List ℕ) →
    Option StructInstance
instance_behind p from [] = from
instance_behind p from (field ∷ fields) =
    instance_behind p (option_and_then (child_named p field) from) fields

-- In code of a diagram's shape, the instance of the diagram's root is in the field `top` of
-- instance 0, and that of each subsystem in the field of its name, of the system around it; so the
-- way to a system leads to its instance.
pub record InstancesAreFound : Type 0 where
  pub top : (p : ProgramTree) (d : Diagram) (delays : List Bool) (hyper : ℕ) (child : Option ℕ) →
      IsLawful p → HasShape p d delays hyper →
      IsChildAnswer p 0 (system_name None) child → IsFound p d.rows None child
  pub inside : (p : ProgramTree) (d : Diagram) (delays : List Bool) (hyper : ℕ) (e number : ℕ)
      (child : Option ℕ) →
      IsLawful p → HasShape p d delays hyper → IsNested d.rows → e < length d.rows →
      is_subsystem (row_at d.rows e).kind ≡ true →
      IsInstanceOf p d.rows (row_at d.rows e).owner number →
      IsChildAnswer p number (child_name e) child → IsFound p d.rows (Some e) child
  pub behind : (p : ProgramTree) (d : Diagram) (delays : List Bool) (hyper : ℕ) (s : Option ℕ) →
      IsLawful p → HasShape p d delays hyper → IsNested d.rows → Contains (systems d.rows) s →
      instance_behind p (instance_at p 0) (way_to d.rows s) ≡ Some (system_instance p d.rows s)
