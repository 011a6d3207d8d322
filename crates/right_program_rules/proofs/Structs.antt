-- The structs of the systems are lawful: fields that are structs are those of systems whose codes come later.
use Rattle.std.specs.Prelude.{◌≡◌, ℕ, zero, suc, ◌+◌, ◌<◌, List, [], ◌∷◌, ◌++◌, map, length, slice_get, Contains, Option, Some, codes as text, bytes_eq}
use Rattle.std.specs.List.{AllByRecursion}
use Rattle.std.proofs.Common.{refl, sym, ap, subst, ◌∙◌, arith, inl, inr, true≢false}
use Rattle.std.proofs.lemmas.List.Elements.{Contains-append_cases}
use Rattle.modules_profile.specs.Systems.{system_name}
use Rattle.modules_profile.proofs.lemmas.Members.{in-none, in-cases, of-map, at-in}
use Rattle.c_syntax.specs.declared.FieldKind.{FieldKind}
use Rattle.c_syntax.specs.declared.FieldKind.TheVariants.{Number, Array, Struct}
use Rattle.c_syntax.specs.Tree.{FieldTree, StructTree}
use Rattle.c_syntax.specs.Names.{is_name}
use Rattle.c_syntax.specs.Lawful.{AreDistinct, IsLawfulKind, IsLawfulStruct, AreStructs}
use Rattle.emit_shape.specs.Assembled.{code_at, struct_position, moved_kind, moved_struct, root_structure}
use Rattle.right_claim.specs.Alone.{bare_struct}
use Rattle.right_linking.specs.Parts.{Parts, program_of, all_systems, IsCodedAs, Views}
use Rattle.right_linking.proofs.lemmas.AssembledNames.{IsNumbered, system-one, root-apart, bytes-same, numbered, struct-name, last-struct, slots-differ, moved-names}
use Rattle.right_linking.proofs.lemmas.AssembledPlaces.{down, in-down, mapped-length, member, all-made, code-is, system-of, structs-down}
use Rattle.right_program_rules.proofs.Lists.{none-has}
use Rattle.right_program_rules.proofs.Texts.{system-name}
use Rattle.right_program_rules.proofs.ChildPlaces.{other-system, instance-at, struct-before}

module _ (a : Parts) (v : Views a) where
  abbrev moved_at : ℕ → StructTree
  moved_at i = moved_struct a.codes (code_at a.codes i)

  abbrev root_tree : StructTree
  root_tree = root_structure a.codes a.root a.hyper

  module _ (place : ℕ) (s : Option ℕ) (stands : slice_get (all_systems a) place ≡ Some s) where
    known : IsCodedAs a place s (v.at s)
    known = v.each place s stands

    lawful : (count : ℕ) × IsLawfulStruct count (v.at s).code.structure
    lawful = last-struct 0 (map bare_struct (v.at s).local.children) (v.at s).code.structure known.lawful.structs

    moved : FieldTree → FieldTree
    moved f = record { name = f.name; kind = moved_kind a.codes f.name f.kind }

    kind-lawful : (f : ℕ) (field : FieldTree) (kind : FieldKind) → field.kind ≡ kind →
        slice_get (v.at s).code.structure.fields f ≡ Some field →
        IsLawfulKind lawful.0 kind → IsLawfulKind (struct_position a.codes place) (moved_kind a.codes field.name kind)
    kind-lawful f field (Number type) is at law = tt
    kind-lawful f field (Array type count) is at law = law
    kind-lawful f field (Struct k) is at law =
        let inner = instance-at a v place s stands f k field at is in
        subst (λ i. struct_position a.codes i < struct_position a.codes place) (sym inner.code)
        (struct-before a v place s stands inner.inner_place inner.child.header.row inner.later inner.inner_stands)

    kinds : AllByRecursion (λ (f : FieldTree). IsLawfulKind (struct_position a.codes place) f.kind)
        (moved_struct a.codes (v.at s).code).fields
    kinds = all-made (λ (f : FieldTree). IsLawfulKind (struct_position a.codes place) f.kind) (moved_struct a.codes (v.at s).code).fields
        (λ f has.
        let from = of-map (λ (g : FieldTree). record { name = g.name; kind = moved_kind a.codes g.name g.kind })
        (v.at s).code.structure.fields f has in
        let at = at-in (v.at s).code.structure.fields from.0 from.1 in
        subst (λ (g : FieldTree). IsLawfulKind (struct_position a.codes place) g.kind) from.2
        (kind-lawful at.0 from.0 from.0.kind refl at.1
        (member (λ (g : FieldTree). IsLawfulKind lawful.0 g.kind) (v.at s).code.structure.fields from.0 lawful.1.kinds from.1)))

    struct-lawful : IsLawfulStruct (struct_position a.codes place) (moved_struct a.codes (v.at s).code)
    struct-lawful = record {
      fields = subst AreDistinct (sym (moved-names a place s (v.at s) known)) (slots-differ a place s (v.at s) known);
      some = let long = mapped-length {B = FieldTree}
          (λ (g : FieldTree). record { name = g.name; kind = moved_kind a.codes g.name g.kind }) (v.at s).code.structure.fields in
          let many = lawful.1.some in omega (arith, long, many);
      kinds = kinds;
      outputs = λ root. absurd (true≢false (sym root
          ∙ ap (λ (st : StructTree). bytes_eq st.name (text "root")) known.shape.structure
          ∙ ap (λ n. bytes_eq (system_name n) (text "root")) (ap (λ l. l.row) known.local.is_local) ∙ root-apart s));
    }

    pub moved-lawful : IsLawfulStruct (struct_position a.codes place) (moved_at place)
    moved-lawful = subst (λ code. IsLawfulStruct (struct_position a.codes place) (moved_struct a.codes code))
        (sym (code-is a place s (v.at s) known)) struct-lawful

  -- ---- All of them

  structs-from : IsLawfulStruct (length a.codes) root_tree → (n count : ℕ) → count + n ≡ length a.codes →
      AreStructs count (map moved_at (down n) ++ root_tree ∷ [])
  structs-from root zero count sum =
      let same : length a.codes ≡ count = omega (arith, sum) in (subst (λ k. IsLawfulStruct k root_tree) same root, tt)
  structs-from root (suc m) count sum =
      let t = system-of a m (omega (arith, sum)) in
      let same : struct_position a.codes m ≡ count = omega (arith, sum) in (
        subst (λ k. IsLawfulStruct k (moved_at m)) same (moved-lawful m t.0 t.1),
        structs-from root m (count + 1) (omega (arith, sum)),
      )

  pub structs-lawful : IsLawfulStruct (length a.codes) root_tree → AreStructs 0 (program_of a).structs
  structs-lawful root = subst (AreStructs 0) (sym (structs-down a)) (structs-from root (length a.codes) 0 (omega arith))

  -- ---- Their names

  abbrev tree_name : StructTree → List ℕ
  tree_name st = st.name

  -- the name of one that is moved, or that of the root
  named : (m : ℕ) (name : List ℕ) → m < suc (length a.codes) → Contains (map tree_name (map moved_at (down m) ++ root_tree ∷ [])) name →
      (t : Option ℕ) → ((i : ℕ) → i < m → slice_get (all_systems a) i ≡ Some t → ⊥) → IsNumbered t → system_name t ≡ name → ⊥
  named m name few has t apart small same =
      let from = of-map tree_name (map moved_at (down m) ++ root_tree ∷ []) name has in
      elim (Contains-append_cases (map moved_at (down m)) (root_tree ∷ []) from.0 from.1) [
        | inl one ↦
            let part = of-map moved_at (down m) from.0 one in
            let below = in-down m part.0 part.1 in
            let u = system-of a part.0 (omega (arith, below, few)) in
            let is : system_name u.0 ≡ name = sym (struct-name a part.0 u.0 (v.at u.0) (v.each part.0 u.0 u.1)) ∙ ap tree_name part.2
            ∙ from.2 in
            apart part.0 below (u.1 ∙ ap Some (system-one u.0 t (numbered a part.0 u.0 u.1) small (is ∙ sym same)))
        | inr last ↦ elim (in-cases root_tree from.0 [] last) [
          | inl is ↦ true≢false (sym (bytes-same (system_name t) (text "root") (same ∙ sym (ap tree_name is ∙ from.2))) ∙ root-apart t)
          | inr none ↦ in-none from.0 none
        ]
      ]

  names-from : (n : ℕ) → n < suc (length a.codes) → AreDistinct (map tree_name (map moved_at (down n) ++ root_tree ∷ []))
  names-from zero few = (refl, refl, tt)
  names-from (suc m) few =
      let t = system-of a m (omega (arith, few)) in
      let is : tree_name (moved_at m) ≡ system_name t.0 = struct-name a m t.0 (v.at t.0) (v.each m t.0 t.1) in (
        ap is_name is ∙ system-name t.0 (numbered a m t.0 t.1),
        none-has (map tree_name (map moved_at (down m) ++ root_tree ∷ [])) (tree_name (moved_at m))
            (λ other has same. named m other (omega (arith, few)) has t.0
            (λ i less there. let one = other-system a v i m t.0 t.0 there t.1 refl in omega (arith, one, less))
            (numbered a m t.0 t.1) (sym is ∙ same)),
        names-from m (omega (arith, few)),
      )

  pub struct-names-differ : AreDistinct (map tree_name (program_of a).structs)
  struct-names-differ = subst (λ structs. AreDistinct (map tree_name structs)) (sym (structs-down a))
      (names-from (length a.codes) (omega arith))
