-- Where the structs, fields and procedures are of a program that is put together.
use Rattle.std.specs.Prelude.{◌≡◌, ℕ, ◌+◌, List, [], map, length, flat_map, slice_get, slice_index_or, Contains, Option, Some}
use Rattle.modules_profile.specs.declared.ChildUse.{ChildUse}
use Rattle.c_syntax.specs.Tree.{struct_fields}
use Rattle.c_syntax.specs.RootFields.{procedure_named, root_struct, root_fields}
use Rattle.c_semantics.specs.Cells.{no_cells, zero_instances}
use Rattle.emit_shape.specs.Names.{root_start_name, root_step_name}
use Rattle.emit_shape.specs.Programs.{struct_place, procedure_place}
use Rattle.emit_shape.specs.Slots.{Slot, slot_field}
use Rattle.emit_shape.specs.Assembled.{struct_position, first_procedure, moved_struct, root_structure}
use Rattle.emit_shape.specs.LocalShape.{own_position}
use Rattle.right_relation.specs.Forms.{HasForms, slot_forms}
use Rattle.right_claim.specs.Paths.{place_in}
use Rattle.right_claim.specs.Anew.{forms_at}
use Rattle.right_linking.specs.Parts.{Parts, program_of, all_systems, Views}

-- the struct of a system is at the position of its code, and each of its procedures after the
-- first of them
pub record StandsAt (a : Parts) (v : Views a) (place : ℕ) (s : Option ℕ) : Type 0 where
  pub struct : struct_place (program_of a) s ≡ struct_position a.codes place
  pub fields : struct_fields (program_of a).structs (struct_place (program_of a) s)
      ≡ (moved_struct a.codes (v.at s).code).fields
  pub procedure : (name : List ℕ) → Contains (map (λ q. q.name) (v.at s).code.procedures) name →
      procedure_place (program_of a) name ≡ first_procedure a.codes place
      + own_position (v.at s).code name

abbrev pub SystemsHavePlaces : Type 0
SystemsHavePlaces = (a : Parts) (v : Views a) (place : ℕ) (s : Option ℕ) →
    slice_get (all_systems a) place ≡ Some s → StandsAt a v place s

-- a field is found by the name of its slot
abbrev pub FieldsAreFound : Type 0
FieldsAreFound =
    (a : Parts) (v : Views a) (s : Option ℕ) (f : ℕ) (slot : Slot) → Contains (all_systems a) s →
    slice_get (v.at s).slots f ≡ Some slot → place_in (program_of a) s (slot_field slot).name ≡ f

-- the root's struct and procedures come last
pub record RootStandsLast (a : Parts) : Type 0 where
  pub struct : root_struct (program_of a) ≡ length a.codes
  pub fields : root_fields (program_of a) ≡ (root_structure a.codes a.root a.hyper).fields
  pub start : procedure_named (program_of a) root_start_name
      ≡ Some (length (flat_map (λ c. c.procedures) a.codes))
  pub step : procedure_named (program_of a) root_step_name
      ≡ Some (length (flat_map (λ c. c.procedures) a.codes) + 1)

abbrev pub RootHasPlaces : Type 0
RootHasPlaces = (a : Parts) → RootStandsLast a

-- an instance all of whose numbers are 0 has the fields of its struct
abbrev pub ZerosHaveForms : Parts → Type 0
ZerosHaveForms a =
    (k : ℕ) →
    HasForms (forms_at (program_of a) k)
    (slice_index_or (zero_instances [] (program_of a).structs) k no_cells)

-- the fields of a system's struct hold what its slots do, where those of its children hold what
-- theirs do
abbrev pub FormsAreOfSlots : Type 0
FormsAreOfSlots = (a : Parts) (v : Views a) (place : ℕ) (s : Option ℕ) →
    slice_get (all_systems a) place ≡ Some s →
    forms_at (program_of a) (struct_place (program_of a) s)
    ≡ slot_forms
    (map (λ (u : ChildUse). forms_at (program_of a) (struct_place (program_of a) u.header.row))
    (v.at s).local.children) (v.at s).slots
