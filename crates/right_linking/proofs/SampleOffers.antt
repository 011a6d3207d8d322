-- In a program of a root and its child the systems are where it is said, and offer what their codes do.
use Rattle.std.specs.Prelude.{◌≡◌, refl, ◌+◌, [], ◌∷◌, map, slice_index_or, Some, None}
use Rattle.std.specs.Fmt.{digits}
use Rattle.modules_profile.specs.LocalSystem.{LocalSystem}
use Rattle.modules_profile.specs.Locals.{local_of, own_header}
use Rattle.c_syntax.specs.Tree.{struct_fields}
use Rattle.c_syntax.specs.RootFields.{procedure_named, root_struct, root_fields}
use Rattle.c_semantics.specs.Cells.{no_cells, zero_instances}
use Rattle.emit_shape.specs.Names.{root_start_name, root_step_name, start_name}
use Rattle.emit_shape.specs.Programs.{struct_place, procedure_place}
use Rattle.emit_shape.specs.Assembled.{struct_position, first_procedure, moved_struct, root_structure}
use Rattle.emit_shape.specs.LocalShape.{own_position, slot_name}
use Rattle.right_relation.specs.Forms.{HasForms, slot_forms}
use Rattle.right_relation.specs.Relation.{own_offer}
use Rattle.right_claim.specs.Paths.{place_in}
use Rattle.right_claim.specs.Anew.{forms_at}
use Rattle.right_claim.specs.WholeSamples.{later_five, child_profile, top_profile, child_header, top_local, child_slots, child_code, top_slots, top_code, whole_program}
use Rattle.right_linking.specs.Offers.{program_offer}

abbrev child_local : LocalSystem
child_local = local_of later_five [] (Some 0) []

child_known : own_header child_local child_profile ≡ child_header
child_known = refl

-- ---- Offers

child_offer : program_offer whole_program child_header
    ≡ own_offer child_local child_profile [] child_slots [] child_code
    (λ i. first_procedure (top_code ∷ child_code ∷ []) 1 + i)
unfolding digits
child_offer = refl

top_offer : program_offer whole_program (own_header top_local top_profile)
    ≡ own_offer top_local top_profile [] top_slots (program_offer whole_program child_header ∷ []) top_code
    (λ i. first_procedure (top_code ∷ child_code ∷ []) 0 + i)
unfolding digits
top_offer = refl

-- ---- Places

structs : struct_place whole_program None ∷ struct_place whole_program (Some 0) ∷ root_struct whole_program ∷ [] ≡ 1 ∷ 0 ∷ 2 ∷ []
unfolding digits
structs = refl

positions : struct_position (top_code ∷ child_code ∷ []) 0 ∷ struct_position (top_code ∷ child_code ∷ []) 1 ∷ [] ≡ 1 ∷ 0 ∷ []
unfolding digits
positions = refl

top_fields : struct_fields whole_program.structs (struct_place whole_program None)
    ≡ (moved_struct (top_code ∷ child_code ∷ []) top_code).fields
unfolding digits
top_fields = refl

fields : map (λ slot. place_in whole_program (Some 0) (slot_name slot)) child_slots ≡ 0 ∷ 1 ∷ 2 ∷ 3 ∷ 4 ∷ []
unfolding digits
fields = refl

root : root_fields whole_program ≡ (root_structure (top_code ∷ child_code ∷ []) top_local 1).fields
unfolding digits
root = refl

procedures : procedure_named whole_program root_start_name ∷ procedure_named whole_program root_step_name ∷ [] ≡ Some 10 ∷ Some 11 ∷ []
unfolding digits
procedures = refl

start : procedure_place whole_program (start_name None) ≡ first_procedure (top_code ∷ child_code ∷ []) 0
    + own_position top_code (start_name None)
unfolding digits
start = refl

-- ---- Forms

child_forms : forms_at whole_program (struct_place whole_program (Some 0)) ≡ slot_forms [] child_slots
unfolding digits
child_forms = refl

top_forms : forms_at whole_program (struct_place whole_program None)
    ≡ slot_forms (forms_at whole_program (struct_place whole_program (Some 0)) ∷ []) top_slots
unfolding digits
top_forms = refl

zeros : HasForms (forms_at whole_program 1) (slice_index_or (zero_instances [] whole_program.structs) 1 no_cells)
unfolding digits
zeros = (refl, ((refl, (refl, (refl, (refl, (refl, tt))))), (refl, tt)))
