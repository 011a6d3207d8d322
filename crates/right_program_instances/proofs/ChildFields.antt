-- In an instance of a system each child has one, in the field of its name.
use Rattle.std.specs.Prelude.{◌≡◌, ℕ, ◌+◌, ◌<◌, List, [], ◌∷◌, ◌++◌, map, flat_map, filter, slice_get, slice_index_or, if◌then◌else◌, Contains, Option, Some}
use Rattle.std.specs.List.{enumerate_from}
use Rattle.std.proofs.Common.{sym, ap, subst, ◌∙◌, arith}
use Rattle.std.proofs.lemmas.List.Elements.{Contains-append_left, Contains-append_right}
use Rattle.std.proofs.lemmas.List.Sorted.{Contains-permutation}
use Rattle.std.proofs.lemmas.Option.{get_or_from_slice_get}
use Rattle.diagram_blocks.specs.Meaning.{has_value}
use Rattle.diagram_meaning.specs.Rows.{is_triggered, subsystems_of}
use Rattle.modules_profile.specs.declared.ChildUse.{ChildUse}
use Rattle.modules_profile.specs.declared.LocalRow.{LocalRow}
use Rattle.modules_profile.specs.LocalSystem.{LocalSystem}
use Rattle.modules_profile.specs.SystemHeader.{SystemHeader}
use Rattle.modules_profile.specs.Locals.{child_use}
use Rattle.modules_profile.specs.Systems.{system_name}
use Rattle.modules_profile.proofs.lemmas.Members.{in-none, in-map, at-in, at-map, map-at, in-enumerate}
use Rattle.c_semantics.specs.Cells.{Cells, cell_at, fields_at}
use Rattle.c_semantics.specs.CellLaws.{cells_count}
use Rattle.emit_shape.specs.Delays.{is_single, is_line}
use Rattle.emit_shape.specs.Names.{child_name}
use Rattle.emit_shape.specs.Programs.{struct_place}
use Rattle.emit_shape.specs.Slots.{Slot, value, memory, trigger, counter, instance, ring_slots, own_slots, or_filler, CounterField, AreSlots}
use Rattle.right_relation.specs.Forms.{Forms, no_forms, HasForms, slot_form}
use Rattle.right_claim.specs.Paths.{place_in}
use Rattle.right_claim.specs.Anew.{forms_at}
use Rattle.right_linking.specs.Parts.{Parts, program_of, diagram, all_systems, Views}
use Rattle.right_linking.specs.Places.{FieldsAreFound, FormsAreOfSlots}
use Rattle.right_program_instances.proofs.FieldForms.{field-there, inner-fields}

-- ---- A child has a slot

in-filled : (xs : List Slot) (x : Slot) → Contains xs x → Contains (or_filler xs) x
in-filled [] x has = absurd (in-none x has)
in-filled (y ∷ ys) x has = has

instance-slot : (local : LocalSystem) (slots : List Slot) (are : AreSlots local slots) (k : ℕ) (u : ChildUse) →
    slice_get local.children k ≡ Some u → (f : ℕ) × (slice_get slots f ≡ Some (instance k u))
instance-slot local slots are k u there =
    let others : List Slot =
    map value (filter (λ (r : LocalRow). has_value r.kind) local.rows) ++ map memory (filter (λ (r : LocalRow). is_single r.op) local.rows)
    ++ flat_map ring_slots (filter (λ (r : LocalRow). is_line r.op) local.rows)
    ++ (if is_triggered local.control then trigger ∷ [] else []) in
    let instances : List Slot = map (λ (e : ℕ × ChildUse). instance e.0 e.1) (enumerate_from 0 local.children) in
    let counters : List Slot = map (λ (c : CounterField). counter c.name c.type) are.counters in
    let place : 0 + k ≡ k = omega arith in
    let listed : Contains (enumerate_from 0 local.children) (k, u) =
    subst (λ n. Contains (enumerate_from 0 local.children) (n, u)) place (in-enumerate 0 local.children k u there) in
    let own : Contains (own_slots local) (instance k u) =
    Contains-append_right others instances (instance k u)
    (in-map (λ (e : ℕ × ChildUse). instance e.0 e.1) (enumerate_from 0 local.children) (k, u) listed) in
    at-in slots (instance k u)
    (Contains-permutation (or_filler (own_slots local ++ counters)) slots (instance k u) are.all
    (in-filled (own_slots local ++ counters) (instance k u) (Contains-append_left (own_slots local) counters (instance k u) own)))

module _ (fields : FieldsAreFound) (of_slots : FormsAreOfSlots) (a : Parts) (v : Views a) where
  -- the child of subsystem e in the system s, and its slot
  record HasChild (s : Option ℕ) (e : ℕ) : Type 0 where
    pub place : ℕ
    pub child : ChildUse
    pub there : slice_get (v.at s).local.children place ≡ Some child
    pub row : child.header.row ≡ Some e
    pub field : ℕ
    pub slot : slice_get (v.at s).slots field ≡ Some (instance place child)

  has-child : (place : ℕ) (s : Option ℕ) (e : ℕ) → slice_get (all_systems a) place ≡ Some s →
      Contains (subsystems_of (diagram a).rows s) e → HasChild s e
  has-child place s e stands inner =
      let known = v.each place s stands in
      let row : SystemHeader → Option ℕ = λ (h : SystemHeader). h.row in
      let at = at-in (subsystems_of (diagram a).rows s) e inner in
      let h = map-at row known.local.headers at.0 (Some e)
      (ap (λ os. slice_get os at.0) known.local.are_headers.rows ∙ at-map Some (subsystems_of (diagram a).rows s) at.0 e at.1) in
      let there : slice_get (v.at s).local.children at.0 ≡ Some (child_use (diagram a) h.0) =
      ap (λ (l : LocalSystem). slice_get l.children at.0) known.local.is_local
      ∙ at-map (child_use (diagram a)) known.local.headers at.0 h.0 h.1 in
      let slot = instance-slot (v.at s).local (v.at s).slots known.shape.slots_right at.0 (child_use (diagram a) h.0) there in
      record { place = at.0; child = child_use (diagram a) h.0; there = there; row = h.2; field = slot.0; slot = slot.1 }

  -- the child's instance is in the field of its name, with its forms
  pub child-there : (s : Option ℕ) (e : ℕ) → Contains (all_systems a) s → Contains (subsystems_of (diagram a).rows s) e →
      (cells : Cells) → HasForms (forms_at (program_of a) (struct_place (program_of a) s)) cells →
      (place_in (program_of a) s (child_name e) < cells_count cells)
      × HasForms (forms_at (program_of a) (struct_place (program_of a) (Some e)))
      (fields_at cells (place_in (program_of a) s (child_name e)))
  child-there s e among inner cells has =
      let at = at-in (all_systems a) s among in
      let c = has-child at.0 s e at.1 inner in
      let inner_forms : ChildUse → Forms = λ (u : ChildUse). forms_at (program_of a) (struct_place (program_of a) u.header.row) in
      let child_forms : List Forms = map inner_forms (v.at s).local.children in
      let place : c.field ≡ place_in (program_of a) s (child_name e) =
      sym (fields a v s c.field (instance c.place c.child) among c.slot) ∙ ap (λ o. place_in (program_of a) s (system_name o)) c.row in
      let held = field-there (map (slot_form child_forms) (v.at s).slots) cells c.field (slot_form child_forms (instance c.place c.child))
      (subst (λ forms. HasForms forms cells) (of_slots a v at.0 s at.1) has)
      (at-map (slot_form child_forms) (v.at s).slots c.field (instance c.place c.child) c.slot) in
      let own : slice_index_or child_forms c.place no_forms ≡ forms_at (program_of a) (struct_place (program_of a) (Some e)) =
      get_or_from_slice_get child_forms c.place (inner_forms c.child) no_forms
      (at-map inner_forms (v.at s).local.children c.place c.child c.there)
      ∙ ap (λ o. forms_at (program_of a) (struct_place (program_of a) o)) c.row in (
        subst (λ f. f < cells_count cells) place held.0,
        subst (λ f. HasForms (forms_at (program_of a) (struct_place (program_of a) (Some e))) (fields_at cells f)) place
            (subst (λ forms. HasForms forms (fields_at cells c.field)) own
            (inner-fields (slice_index_or child_forms c.place no_forms) (cell_at cells c.field) held.1)),
      )
