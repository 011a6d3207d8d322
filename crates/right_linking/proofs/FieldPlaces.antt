-- A field of a system's struct is where its slot is among the slots.
use Rattle.std.specs.Prelude.{◌≡◌, ℕ, ◌+◌, ◌<◌, List, [], ◌∷◌, ◌++◌, map, length, slice_get, Option, Some, unwrap_or, bytes_eq, refl}
use Rattle.std.specs.List.{position_from}
use Rattle.std.proofs.Common.{sym, ap, subst, ◌∙◌, arith}
use Rattle.std.proofs.lemmas.Option.{get_or_from_slice_get}
use Rattle.c_syntax.specs.Tree.{FieldTree, StructTree}
use Rattle.c_syntax.specs.Names.{name_at}
use Rattle.c_syntax.specs.RootFields.{field_position}
use Rattle.c_syntax.specs.Lawful.{AreDistinct, IsLawfulStruct, AreStructs}
use Rattle.c_syntax.proofs.lemmas.NamePlaces.{position_from-named}
use Rattle.emit_shape.specs.Slots.{Slot, slot_field}
use Rattle.emit_shape.specs.Assembled.{moved_kind, moved_struct}
use Rattle.emit_shape.specs.SystemTree.{SystemTree}
use Rattle.right_claim.specs.Alone.{bare_struct}
use Rattle.modules_profile.proofs.lemmas.Members.{at-in, at-map, at-below}
use Rattle.right_linking.specs.Parts.{Parts, all_systems, CodedSystem, IsCodedAs}
use Rattle.right_linking.specs.Places.{SystemsHavePlaces, FieldsAreFound}

pub last-struct : (n : ℕ) (xs : List StructTree) (s : StructTree) → AreStructs n (xs ++ s ∷ []) → (count : ℕ) × IsLawfulStruct count s
last-struct n [] s lawful = (n, lawful.0)
last-struct n (x ∷ xs) s lawful = last-struct (n + 1) xs s lawful.1

same-names : (codes : List SystemTree) (fields : List FieldTree) →
    map (λ (f : FieldTree). f.name)
    (map (λ (f : FieldTree). record { name = f.name; kind = moved_kind codes f.name f.kind }) fields)
    ≡ map (λ (f : FieldTree). f.name) fields
same-names codes [] = refl
same-names codes (f ∷ fields) = ap (λ names. f.name ∷ names) (same-names codes fields)

slot-names : (slots : List Slot) → map (λ (f : FieldTree). f.name) (map slot_field slots) ≡ map (λ slot. (slot_field slot).name) slots
slot-names [] = refl
slot-names (slot ∷ slots) = ap (λ names. (slot_field slot).name ∷ names) (slot-names slots)

-- where the names are these and differ, each is found at its place
named-at : (fields : List FieldTree) (names : List (List ℕ)) (k : ℕ) (name : List ℕ) →
    map (λ (f : FieldTree). f.name) fields ≡ names → AreDistinct names →
    slice_get names k ≡ Some name → field_position fields name ≡ k
named-at fields names k name are distinct at =
    let here : name_at (map (λ (f : FieldTree). f.name) fields) k ≡ name =
    ap (λ ns. name_at ns k) are ∙ get_or_from_slice_get names k name [] at in
    let below : k < length (map (λ (f : FieldTree). f.name) fields) = subst (λ ns. k < length ns) (sym are) (at-below names k name at) in
    let same : 0 + k ≡ k = omega arith in
    ap (λ n. unwrap_or (position_from (λ (f : FieldTree). bytes_eq f.name n) 0 fields) 0) (sym here)
    ∙ ap (λ o. unwrap_or o 0)
    (position_from-named (λ (f : FieldTree). f.name) fields 0 k (subst AreDistinct (sym are) distinct) below) ∙ same

module _ (a : Parts) (place : ℕ) (s : Option ℕ) (c : CodedSystem) (known : IsCodedAs a place s c) where
  names-are : map (λ (f : FieldTree). f.name) c.code.structure.fields ≡ map (λ slot. (slot_field slot).name) c.slots
  names-are = ap (λ (st : StructTree). map (λ (f : FieldTree). f.name) st.fields) known.shape.structure ∙ slot-names c.slots

  -- the names of a system's slots differ
  pub slots-differ : AreDistinct (map (λ slot. (slot_field slot).name) c.slots)
  slots-differ =
      subst AreDistinct names-are
      (last-struct 0 (map bare_struct c.local.children) c.code.structure known.lawful.structs).1.fields

  pub moved-names : map (λ (f : FieldTree). f.name) (moved_struct a.codes c.code).fields ≡ map (λ slot. (slot_field slot).name) c.slots
  moved-names = same-names a.codes c.code.structure.fields ∙ names-are

pub fields_have_places : SystemsHavePlaces → FieldsAreFound
fields_have_places places a v s f slot has at =
    let stands = at-in (all_systems a) s has in
    let known = v.each stands.0 s stands.1 in
    ap (λ fields. field_position fields (slot_field slot).name) (places a v stands.0 s stands.1).fields
    ∙ named-at (moved_struct a.codes (v.at s).code).fields (map (λ z. (slot_field z).name) (v.at s).slots) f (slot_field slot).name
    (moved-names a stands.0 s (v.at s) known) (slots-differ a stands.0 s (v.at s) known)
    (at-map (λ z. (slot_field z).name) (v.at s).slots f slot at)
