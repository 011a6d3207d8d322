-- Where the children of a system are: the field of each, its code and its struct.
use Rattle.std.specs.Prelude.{◌≡◌, ℕ, zero, suc, ◌+◌, ◌<◌, Bool, true, false, List, [], ◌∷◌, map, slice_get, Option, Some, unwrap_or, bytes_eq}
use Rattle.std.proofs.Common.{refl, sym, ap, subst, ◌∙◌, arith}
use Rattle.std.proofs.lemmas.Option.{get_or_from_slice_get, none-some}
use Rattle.modules_profile.specs.declared.ChildUse.{ChildUse}
use Rattle.modules_profile.specs.Systems.{system_name}
use Rattle.modules_profile.proofs.lemmas.Members.{in-at, map-at}
use Rattle.c_syntax.specs.declared.FieldKind.{FieldKind}
use Rattle.c_syntax.specs.declared.FieldKind.TheVariants.{Number, Array, Struct}
use Rattle.c_syntax.specs.declared.CType.TheVariants.{I8, I32}
use Rattle.c_syntax.specs.Tree.{FieldTree, StructTree}
use Rattle.diagram_blocks.specs.Meaning.{delay_length}
use Rattle.emit_shape.specs.Names.{container}
use Rattle.emit_shape.specs.Slots.{Slot, value, memory, ring_items, ring_place, ring_taken, trigger, counter, instance, filler, slot_field}
use Rattle.emit_shape.specs.SystemTree.{SystemTree}
use Rattle.emit_shape.specs.Assembled.{no_code, code_named, struct_position}
use Rattle.right_relation.proofs.lemmas.SlotMembers.{slot-is}
use Rattle.right_linking.specs.Parts.{Parts, diagram, all_systems, coded_header, IsCodedAs, IsChildBehind, Views}
use Rattle.right_linking.proofs.lemmas.AssembledNames.{bytes-same, bytes-apart, system-one, numbered, struct-name}
use Rattle.right_linking.proofs.lemmas.AssembledPlaces.{IsFirst, first-position, stands-once, member, system-of, below-codes}

pub first-at : {A : Type 0} (test : A → Bool) (xs : List A) (k : ℕ) (x : A) → slice_get xs k ≡ Some x → test x ≡ true →
    ((i : ℕ) (y : A) → i < k → slice_get xs i ≡ Some y → test y ≡ false) → IsFirst test xs k
first-at test [] k x at passes others = absurd (none-some x at)
first-at test (y ∷ ys) zero x at passes others = let same : y ≡ x = cc at in ap test same ∙ passes
first-at test (y ∷ ys) (suc k) x at passes others =
    (others 0 y (omega arith) refl, first-at test ys k x at passes (λ i z less stands. others (suc i) z (omega (arith, less)) stands))

module _ (a : Parts) (v : Views a) where
  -- the name of a code's struct is that of its system
  pub code-name : (i : ℕ) (t : Option ℕ) (c : SystemTree) → slice_get (all_systems a) i ≡ Some t → slice_get a.codes i ≡ Some c →
      c.structure.name ≡ system_name t
  code-name i t c stands at =
      ap (λ (z : SystemTree). z.structure.name) (sym (get_or_from_slice_get a.codes i c no_code at))
      ∙ struct-name a i t (v.at t) (v.each i t stands)

  -- other places have other systems
  pub other-system : (i j : ℕ) (s t : Option ℕ) → slice_get (all_systems a) i ≡ Some s → slice_get (all_systems a) j ≡ Some t → s ≡ t →
      i ≡ j
  other-system i j s t first second same = stands-once (diagram a).rows i j s first (second ∙ ap Some (sym same))

  -- a code is found by the name of its system
  pub code-named : (place : ℕ) (s : Option ℕ) → slice_get (all_systems a) place ≡ Some s → code_named a.codes (system_name s) ≡ place
  code-named place s stands =
      let known = v.each place s stands in
      let none_more : 0 + place ≡ place = omega arith in
      ap (λ o. unwrap_or o 0)
      (first-position (λ (c : SystemTree). bytes_eq c.structure.name (system_name s)) a.codes 0 place
      (first-at (λ (c : SystemTree). bytes_eq c.structure.name (system_name s)) a.codes place (v.at s).code known.stands
      (bytes-same (v.at s).code.structure.name (system_name s) (code-name place s (v.at s).code stands known.stands))
      (λ i c less at.
      let below = below-codes a v place s stands in
      let t = system-of a i (omega (arith, less, below)) in
      bytes-apart c.structure.name (system_name s)
      (λ same.
      let one = other-system i place t.0 s t.1 stands
      (system-one t.0 s (numbered a i t.0 t.1) (numbered a place s stands) (sym (code-name i t.0 c t.1 at) ∙ same)) in
      omega (arith, one, less)))))
      ∙ none_more

  module _ (place : ℕ) (s : Option ℕ) (stands : slice_get (all_systems a) place ≡ Some s) where
    known : IsCodedAs a place s (v.at s)
    known = v.each place s stands

    -- what is known of a child
    pub child-known : (k : ℕ) (u : ChildUse) → slice_get (v.at s).local.children k ≡ Some u → IsChildBehind a v.at place u
    child-known k u at = member (IsChildBehind a v.at place) (v.at s).local.children u (v.children place s stands)
        (in-at (v.at s).local.children k u at)

    pub fields-are : (v.at s).code.structure.fields ≡ map slot_field (v.at s).slots
    fields-are = ap (λ (st : StructTree). st.fields) known.shape.structure

    -- a field that is a struct is the instance of a child
    pub record IsInstance (f k : ℕ) (name : List ℕ) : Type 0 where
      pub child : ChildUse
      pub slot : slice_get (v.at s).slots f ≡ Some (instance k child)
      pub there : slice_get (v.at s).local.children k ≡ Some child
      pub named : name ≡ system_name child.header.row
      pub header : child.header ≡ coded_header (v.at child.header.row)
      pub inner_place : ℕ
      pub later : place < inner_place
      pub inner_stands : slice_get (all_systems a) inner_place ≡ Some child.header.row
      pub code : code_named a.codes name ≡ inner_place

    no-struct : {R : Type 0} (slot : Slot) (field : FieldTree) (kind : FieldKind) (k : ℕ) → slot_field slot ≡ field →
        (slot_field slot).kind ≡ kind →
        field.kind ≡ Struct k → (kind ≡ Struct k → ⊥) → R
    no-struct slot field kind k same is struct other = absurd (other (sym is ∙ ap (λ (z : FieldTree). z.kind) same ∙ struct))

    pub instance-at : (f k : ℕ) (field : FieldTree) → slice_get (v.at s).code.structure.fields f ≡ Some field → field.kind ≡ Struct k →
        IsInstance f k field.name
    instance-at f k field at struct =
        let made = map-at slot_field (v.at s).slots f field (subst (λ fields. slice_get fields f ≡ Some field) fields-are at) in
        by made.0 made.1 made.2
      where
        by : (slot : Slot) → slice_get (v.at s).slots f ≡ Some slot → slot_field slot ≡ field → IsInstance f k field.name
        by (value r) stands same = no-struct (value r) field (Number (container r.out)) k same refl struct
            (λ clash. let wrong : ⊥ = cc clash in wrong)
        by (memory r) stands same = no-struct (memory r) field (Number (container r.out)) k same refl struct
            (λ clash. let wrong : ⊥ = cc clash in wrong)
        by (ring_items r) stands same = no-struct (ring_items r) field (Array (container r.out) (delay_length r.op)) k same refl struct
            (λ clash. let wrong : ⊥ = cc clash in wrong)
        by (ring_place r) stands same =
            no-struct (ring_place r) field (Number I32) k same refl struct (λ clash. let wrong : ⊥ = cc clash in wrong)
        by (ring_taken r) stands same =
            no-struct (ring_taken r) field (Number I32) k same refl struct (λ clash. let wrong : ⊥ = cc clash in wrong)
        by trigger stands same = no-struct trigger field (Number I8) k same refl struct (λ clash. let wrong : ⊥ = cc clash in wrong)
        by (counter name type) stands same =
            no-struct (counter name type) field (Number type) k same refl struct (λ clash. let wrong : ⊥ = cc clash in wrong)
        by filler stands same = no-struct filler field (Number I8) k same refl struct (λ clash. let wrong : ⊥ = cc clash in wrong)
        by (instance j u) stands same =
            let kinds : Struct j ≡ Struct k = ap (λ (z : FieldTree). z.kind) same ∙ struct in
            let place : j ≡ k = cc kinds in
            let there = slot-is (v.at s).local (v.at s).slots known.shape.slots_right (instance j u)
            (in-at (v.at s).slots f (instance j u) stands) in
            let named : field.name ≡ system_name u.header.row = sym (ap (λ (z : FieldTree). z.name) same) in
            let behind = child-known j u there in
            record {
              child = u;
              slot = stands ∙ ap (λ i. Some (instance i u)) place;
              there = subst (λ i. slice_get (v.at s).local.children i ≡ Some u) place there;
              named = named;
              header = behind.header;
              inner_place = behind.inner_place;
              later = behind.later;
              inner_stands = behind.stands;
              code = ap (code_named a.codes) named ∙ code-named behind.inner_place u.header.row behind.stands;
            }

    -- its struct comes before that of the system
    pub struct-before : (inner : ℕ) (t : Option ℕ) → place < inner → slice_get (all_systems a) inner ≡ Some t →
        struct_position a.codes inner < struct_position a.codes place
    struct-before inner t later there = let below = below-codes a v inner t there in omega (arith, later, below)
