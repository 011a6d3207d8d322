-- The outputs of children that a system reads are in the program where they are offered.
use Rattle.std.specs.Prelude.{◌≡◌, ℕ, ◌+◌, true, List, [], ◌∷◌, map, length, slice_get, slice_index, slice_index_or, Contains, Option, Some, refl}
use Rattle.std.specs.List.{AllZip}
use Rattle.std.specs.Option.{option_map_or}
use Rattle.std.proofs.Common.{sym, ap, ap₂, subst, ◌∙◌, arith, eq-eqb}
use Rattle.std.proofs.lemmas.Option.{get_or_from_slice_get}
use Rattle.base_fixed_point.specs.declared.FixType.{FixType}
use Rattle.modules_profile.specs.declared.ChildUse.{ChildUse}
use Rattle.modules_profile.specs.declared.LocalRow.{LocalRow}
use Rattle.modules_profile.specs.Locals.{outports}
use Rattle.modules_profile.specs.Systems.{system_name}
use Rattle.c_syntax.specs.declared.Leaf.TheVariants.{Child}
use Rattle.c_syntax.specs.Tree.{FieldTree, StructTree, no_struct, struct_fields, ProcedureTree}
use Rattle.emit_shape.specs.Names.{value_name}
use Rattle.emit_shape.specs.Reads.{stmts_leaves}
use Rattle.emit_shape.specs.Slots.{Slot, value, instance, slot_field}
use Rattle.emit_shape.specs.SystemTree.{SystemTree}
use Rattle.emit_shape.specs.Assembled.{is_child_kind, code_at, code_named, relocation_of}
use Rattle.right_relation.specs.Instances.{Offer, no_offer, offer_at}
use Rattle.right_relation.specs.Relation.{place_in_child, behind_offers}
use Rattle.right_claim.specs.Alone.{bare_struct}
use Rattle.right_claim.specs.Paths.{place_in}
use Rattle.modules_profile.proofs.lemmas.Members.{in-at, at-map, map-at, at-right}
use Rattle.right_linking.specs.Parts.{Parts, program_of, all_systems, IsCodedAs, Views}
use Rattle.right_linking.specs.Places.{FieldsAreFound}
use Rattle.right_linking.specs.Offers.{offer_of, child_offers}
use Rattle.right_linking.proofs.FirstPlaces.{mapped-length}
use Rattle.right_linking.proofs.SystemPlaces.{member, row-is, code-is}
use Rattle.right_linking.proofs.ChildSlots.{instance-of}
use Rattle.right_linking.proofs.LawfulBodies.{ReadsChild, stmts-children}
use Rattle.right_linking.proofs.CalledNames.{bare, structs, reach_behind, own-lawful}
use Rattle.right_linking.proofs.OfferedPlaces.{behind, child-found}

-- ---- Where a system's outputs are offered

module _ (fields : FieldsAreFound) (a : Parts) (v : Views a) (place : ℕ) (s : Option ℕ)
    (stands : slice_get (all_systems a) place ≡ Some s) where
  value-places : (rows : List LocalRow) (ks : List ℕ) → AllZip (λ (r : LocalRow) k. slice_get (v.at s).slots k ≡ Some (value r)) rows ks →
      map (λ (o : ℕ × FixType). place_in (program_of a) (v.at s).local.row (value_name o.0)) (map (λ (r : LocalRow). (r.row, r.out)) rows)
      ≡ ks
  value-places [] [] all = refl
  value-places [] (k ∷ ks) all = absurd all
  value-places (r ∷ rows) [] all = absurd all
  value-places (r ∷ rows) (k ∷ ks) all =
      ap₂ (λ n ns. n ∷ ns)
      (ap (λ o. place_in (program_of a) o (value_name r.row)) (row-is a place s (v.at s) (v.each place s stands))
      ∙ fields a v s k (value r) (in-at (all_systems a) place s stands) all.0)
      (value-places rows ks all.1)

  -- the offered places are the positions of the outputs' values
  pub places-are : (offer_of a v s).places ≡ (v.at s).code.outputs
  places-are = value-places (outports (v.at s).local) (v.at s).code.outputs (v.each place s stands).shape.places

-- ---- Where they are read

module _ (fields : FieldsAreFound) (a : Parts) (v : Views a) (place : ℕ) (s : Option ℕ)
    (stands : slice_get (all_systems a) place ≡ Some s) where
  known : IsCodedAs a place s (v.at s)
  known = v.each place s stands

  abbrev children : List ChildUse
  children = (v.at s).local.children

  abbrev slots : List Slot
  slots = (v.at s).slots

  -- the fields that bodies reach are those of the slots
  reached : struct_fields (structs a v place s stands) (length children) ≡ map slot_field slots
  reached =
      let last : length (map bare_struct children) + 0 ≡ length children = omega (arith, mapped-length bare_struct children) in
      ap (struct_fields (structs a v place s stands)) (sym last)
      ∙ ap (λ (st : StructTree). st.fields)
      (get_or_from_slice_get (structs a v place s stands) (length (map bare_struct children) + 0) (v.at s).code.structure no_struct
      (at-right (map bare_struct children) ((v.at s).code.structure ∷ []) 0 (v.at s).code.structure refl))
      ∙ ap (λ (st : StructTree). st.fields) known.shape.structure

  -- a field that is a struct is the instance of a child
  of-slot : (f k : ℕ) (slot : Slot) → slice_get slots f ≡ Some slot → is_child_kind k (slot_field slot).kind ≡ true →
      (u : ChildUse) × (slice_get slots f ≡ Some (instance k u)) × (slice_get children k ≡ Some u)
  of-slot f k slot at is =
      let found = instance-of (v.at s).local slots known.shape.slots_right slot k (in-at slots f slot at) is in by found.0 found.1 found.2
    where
      by : (u : ChildUse) → slot ≡ instance k u → slice_get children k ≡ Some u →
          (u : ChildUse) × (slice_get slots f ≡ Some (instance k u)) × (slice_get children k ≡ Some u)
      by u same child = (u, at ∙ ap Some same, child)

  read-child : (j : ℕ) (q : ProcedureTree) → slice_get (v.at s).code.procedures j ≡ Some q →
      (f o : ℕ) → Contains (stmts_leaves q.body) (Child f o) →
      (k : ℕ) × (u : ChildUse) × (slice_get slots f ≡ Some (instance k u)) × (slice_get children k ≡ Some u)
  read-child j q at f o has =
      let (before, long, lawful) = own-lawful a v place s stands j q at in
      let (k, (field, there, kind)) =
      member (ReadsChild (bare a v place s stands) (reach_behind a v place s stands before q)) (stmts_leaves q.body) (Child f o)
      (stmts-children (bare a v place s stands) (reach_behind a v place s stands before q) q.body lawful.body) has in
      let (slot, stands_at, is) =
      map-at slot_field slots f field (subst (λ (fs : List FieldTree). slice_get fs f ≡ Some field) reached there) in
      let (u, same, child) =
      of-slot f k slot stands_at
      (ap (λ (g : FieldTree). is_child_kind k g.kind) is ∙ ap (is_child_kind k) kind ∙ eq-eqb k k refl) in
      (k, u, same, child)

  pub outputs : (j : ℕ) (q : ProcedureTree) → slice_get (v.at s).code.procedures j ≡ Some q →
      (f o : ℕ) → Contains (stmts_leaves q.body) (Child f o) →
      (relocation_of a.codes place).output f o ≡ (behind_offers slots (child_offers a v s) (length (v.at s).code.procedures)).output f o
  outputs j q at f o has =
      let (k, u, slot, child) = read-child j q at f o has in
      let of_child = in-at children k u child in
      let inner = behind a v place s stands u of_child in
      let inside = v.each inner.inner_place u.header.row inner.stands in
      let name : slice_index_or (map (λ (g : FieldTree). g.name) (code_at a.codes place).structure.fields) f [] ≡ system_name u.header.row =
      ap (λ (z : SystemTree). slice_index_or (map (λ (g : FieldTree). g.name) z.structure.fields) f []) (code-is a place s (v.at s) known)
      ∙ ap (λ (st : StructTree). slice_index_or (map (λ (g : FieldTree). g.name) st.fields) f []) known.shape.structure
      ∙ get_or_from_slice_get (map (λ (g : FieldTree). g.name) (map slot_field slots)) f (system_name u.header.row) []
      (at-map (λ (g : FieldTree). g.name) (map slot_field slots) f (slot_field (instance k u))
      (at-map slot_field slots f (instance k u) slot)) in
      let code : code_at a.codes (code_named a.codes (system_name u.header.row)) ≡ (v.at u.header.row).code =
      ap (code_at a.codes) (child-found a v place s stands u of_child)
      ∙ code-is a inner.inner_place u.header.row (v.at u.header.row) inside in
      let offer : offer_at (child_offers a v s) k ≡ offer_of a v u.header.row =
      get_or_from_slice_get (child_offers a v s) k (offer_of a v u.header.row) no_offer
      (at-map (λ (w : ChildUse). offer_of a v w.header.row) children k u child) in
      ap (λ n. slice_index (code_at a.codes (code_named a.codes n)).outputs o) name ∙ ap (λ (z : SystemTree). slice_index z.outputs o) code
      ∙ ap (λ ks. slice_index ks o) (sym (places-are fields a v inner.inner_place u.header.row inner.stands))
      ∙ ap (λ (z : Offer). slice_index z.places o) (sym offer)
      ∙ ap (λ z. option_map_or (place_in_child (child_offers a v s) o) z 0) (sym slot)
