-- The fields of a system's struct hold what its slots do.
use Rattle.std.specs.Prelude.{◌≡◌, ℕ, ◌<◌, List, [], ◌∷◌, map, slice_get, slice_index_or, Contains, Option, Some, refl}
use Rattle.std.proofs.Common.{sym, ap, ap₂, subst, ◌∙◌}
use Rattle.std.proofs.lemmas.Option.{get_or_from_slice_get}
use Rattle.modules_profile.specs.declared.ChildUse.{ChildUse}
use Rattle.modules_profile.specs.Systems.{system_name}
use Rattle.modules_profile.proofs.lemmas.Members.{in-first, in-rest, at-map}
use Rattle.c_syntax.specs.Tree.{StructTree, struct_fields}
use Rattle.emit_shape.specs.Slots.{Slot, value, memory, ring_items, ring_place, ring_taken, trigger, counter, instance, filler, slot_field}
use Rattle.emit_shape.specs.SystemTree.{SystemTree}
use Rattle.emit_shape.specs.Programs.{struct_place}
use Rattle.emit_shape.specs.Assembled.{code_named, struct_position}
use Rattle.right_relation.specs.Forms.{Forms, no_forms, more_forms, holds_instance, forms_of, slot_form, field_form, struct_forms}
use Rattle.right_relation.proofs.lemmas.SlotMembers.{slot-is}
use Rattle.right_claim.specs.Anew.{forms_at}
use Rattle.right_linking.specs.Parts.{Parts, program_of, all_systems, IsCodedAs, Views}
use Rattle.right_linking.specs.Places.{SystemsHavePlaces, FormsAreOfSlots}
use Rattle.right_program_instances.proofs.ProgramFields.{moved_field}
use Rattle.right_program_instances.proofs.EarlierForms.{IsEarlierKind, AreEarlier, forms-at-place}
use Rattle.right_program_instances.proofs.ChildStructs.{earlier-child}

-- where a child is found by its name, a slot's field holds what the slot does
module _ (codes : List SystemTree) (earlier children : List Forms) where
  abbrev pub IsFound : ℕ → ChildUse → Type 0
  IsFound k u =
      slice_index_or earlier (struct_position codes (code_named codes (system_name u.header.row))) no_forms
      ≡ slice_index_or children k no_forms

  form-is : (slot : Slot) → ((k : ℕ) (u : ChildUse) → slot ≡ instance k u → IsFound k u) →
      field_form earlier (moved_field codes (slot_field slot)) ≡ slot_form children slot
  form-is (instance k u) found = ap holds_instance (found k u refl)
  form-is _ found = refl

  forms-are : (slots : List Slot) →
      ((x : Slot) → Contains slots x → field_form earlier (moved_field codes (slot_field x)) ≡ slot_form children x) →
      forms_of (map (field_form earlier) (map (moved_field codes) (map slot_field slots))) ≡ forms_of (map (slot_form children) slots)
  forms-are [] same = refl
  forms-are (x ∷ slots) same = ap₂ more_forms (same x (in-first x slots)) (forms-are slots (λ y has. same y (in-rest x y slots has)))

are-earlier : (codes : List SystemTree) (n : ℕ) (slots : List Slot) →
    ((x : Slot) → Contains slots x → IsEarlierKind n (moved_field codes (slot_field x)).kind) →
    AreEarlier n (map (moved_field codes) (map slot_field slots))
are-earlier codes n [] each = tt
are-earlier codes n (x ∷ slots) each = (each x (in-first x slots), are-earlier codes n slots (λ y has. each y (in-rest x y slots has)))

module _ (places : SystemsHavePlaces) (a : Parts) (v : Views a) (place : ℕ) (s : Option ℕ)
    (stands : slice_get (all_systems a) place ≡ Some s) where
  known : IsCodedAs a place s (v.at s)
  known = v.each place s stands

  abbrev slots : List Slot
  slots = (v.at s).slots

  abbrev inner_forms : ChildUse → Forms
  inner_forms u = forms_at (program_of a) (struct_place (program_of a) u.header.row)

  abbrev child_forms : List Forms
  child_forms = map inner_forms (v.at s).local.children

  abbrev all_forms : List Forms
  all_forms = struct_forms [] (program_of a).structs

  child-at : (k : ℕ) (u : ChildUse) → Contains slots (instance k u) → slice_get (v.at s).local.children k ≡ Some u
  child-at k u has = slot-is (v.at s).local slots known.shape.slots_right (instance k u) has

  found : (k : ℕ) (u : ChildUse) → Contains slots (instance k u) → IsFound a.codes all_forms child_forms k u
  found k u has =
      let there = child-at k u has in
      ap (λ n. slice_index_or all_forms n no_forms) (earlier-child places a v place s stands k u there).found
      ∙ sym (get_or_from_slice_get child_forms k (inner_forms u) no_forms (at-map inner_forms (v.at s).local.children k u there))

  earlier-slot : (x : Slot) → Contains slots x → IsEarlierKind (struct_place (program_of a) s) (moved_field a.codes (slot_field x)).kind
  earlier-slot (instance k u) has =
      let child = earlier-child places a v place s stands k u (child-at k u has) in
      subst (λ n. n < struct_place (program_of a) s) (sym child.found) child.before
  earlier-slot _ has = tt

  fields-are : struct_fields (program_of a).structs (struct_place (program_of a) s) ≡ map (moved_field a.codes) (map slot_field slots)
  fields-are = (places a v place s stands).fields ∙ ap (λ (st : StructTree). map (moved_field a.codes) st.fields) known.shape.structure

  each-form : (x : Slot) → Contains slots x → field_form all_forms (moved_field a.codes (slot_field x)) ≡ slot_form child_forms x
  each-form x has =
      form-is a.codes all_forms child_forms x (λ k u is. found k u (subst (Contains slots) is has))

  pub forms-of-slots : forms_at (program_of a) (struct_place (program_of a) s) ≡ forms_of (map (slot_form child_forms) slots)
  forms-of-slots =
      forms-at-place (program_of a).structs (struct_place (program_of a) s)
      (subst (AreEarlier (struct_place (program_of a) s)) (sym fields-are)
      (are-earlier a.codes (struct_place (program_of a) s) slots earlier-slot))
      ∙ ap (λ fields. forms_of (map (field_form all_forms) fields)) fields-are ∙ forms-are a.codes all_forms child_forms slots each-form

pub forms_are_of_slots : SystemsHavePlaces → FormsAreOfSlots
forms_are_of_slots places a v place s stands = forms-of-slots places a v place s stands
