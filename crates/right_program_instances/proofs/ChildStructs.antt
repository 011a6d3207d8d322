-- The struct of a child is found by its name among the codes, and comes before that of the system around it.
use Rattle.std.specs.Prelude.{◌≡◌, ℕ, ◌+◌, ◌-◌, ◌<◌, false, length, slice_get, Option, Some, unwrap_or, bytes_eq}
use Rattle.std.proofs.Common.{sym, ap, ◌∙◌, arith}
use Rattle.std.proofs.lemmas.Option.{same_Some}
use Rattle.modules_profile.specs.declared.ChildUse.{ChildUse}
use Rattle.modules_profile.specs.Systems.{system_name}
use Rattle.modules_profile.proofs.lemmas.Members.{in-at, at-below, below-at}
use Rattle.c_syntax.specs.RootFields.{struct_named}
use Rattle.c_syntax.specs.Tree.{StructTree}
use Rattle.emit_shape.specs.SystemTree.{SystemTree}
use Rattle.emit_shape.specs.Programs.{struct_place}
use Rattle.emit_shape.specs.Assembled.{code_named, struct_position}
use Rattle.right_linking.specs.Parts.{Parts, program_of, all_systems, IsChildBehind, Views}
use Rattle.right_linking.specs.Places.{SystemsHavePlaces}
use Rattle.right_program_instances.proofs.Lists.{bytes-same, bytes-apart, member, position-at}

module _ (places : SystemsHavePlaces) (a : Parts) (v : Views a) where
  pub code-below : (place : ℕ) (s : Option ℕ) → slice_get (all_systems a) place ≡ Some s → place < length a.codes
  code-below place s stands = at-below a.codes place (v.at s).code (v.each place s stands).stands

  -- a code's struct has the name of its system
  struct-name : (place : ℕ) (s : Option ℕ) → slice_get (all_systems a) place ≡ Some s → (v.at s).code.structure.name ≡ system_name s
  struct-name place s stands =
      let known = v.each place s stands in
      ap (λ (st : StructTree). st.name) known.shape.structure ∙ ap (λ l. system_name l.row) known.local.is_local

  -- systems of one name are at one place
  one-place : (i k : ℕ) (s t : Option ℕ) → slice_get (all_systems a) i ≡ Some s → slice_get (all_systems a) k ≡ Some t →
      system_name s ≡ system_name t → i ≡ k
  one-place i k s t first second same =
      let positions : length a.codes - (i + 1) ≡ length a.codes - (k + 1) =
      sym (places a v i s first).struct ∙ ap (λ name. unwrap_or (struct_named (program_of a) name) 0) same
      ∙ (places a v k t second).struct in
      let one = code-below i s first in
      let two = code-below k t second in
      omega (arith, positions, one, two)

  -- so a code is found by the name of its system
  named-at : (k : ℕ) (t : Option ℕ) → slice_get (all_systems a) k ≡ Some t → code_named a.codes (system_name t) ≡ k
  named-at k t stands =
      let same : 0 + k ≡ k = omega arith in
      ap (λ o. unwrap_or o 0)
      (position-at (λ (c : SystemTree). bytes_eq c.structure.name (system_name t)) a.codes 0 k (v.at t).code (v.each k t stands).stands
      (bytes-same (v.at t).code.structure.name (system_name t) (struct-name k t stands)) others)
      ∙ same
    where
      others : (i : ℕ) (c : SystemTree) → i < k → slice_get a.codes i ≡ Some c → bytes_eq c.structure.name (system_name t) ≡ false
      others i c below there =
          let behind = at-below (all_systems a) k t stands in
          let s = below-at (all_systems a) i (omega (arith, below, behind)) in
          let is : c ≡ (v.at s.0).code = same_Some c (v.at s.0).code (sym there ∙ (v.each i s.0 s.1).stands) in
          bytes-apart c.structure.name (system_name t)
          (λ same.
          let named : c.structure.name ≡ system_name s.0 = ap (λ (z : SystemTree). z.structure.name) is ∙ struct-name i s.0 s.1 in
          let one = one-place i k s.0 t s.1 stands (sym named ∙ same) in
          let wrong : ⊥ = omega (arith, one, below) in wrong)

  -- the struct of a child is the one that its name finds, and an earlier one
  pub record IsEarlierChild (s : Option ℕ) (u : ChildUse) : Type 0 where
    pub found : struct_position a.codes (code_named a.codes (system_name u.header.row)) ≡ struct_place (program_of a) u.header.row
    pub before : struct_place (program_of a) u.header.row < struct_place (program_of a) s

  pub earlier-child : (place : ℕ) (s : Option ℕ) → slice_get (all_systems a) place ≡ Some s → (k : ℕ) (u : ChildUse) →
      slice_get (v.at s).local.children k ≡ Some u → IsEarlierChild s u
  earlier-child place s stands k u there =
      let behind = member (IsChildBehind a v.at place) (v.at s).local.children u
      (v.children place s stands) (in-at (v.at s).local.children k u there) in
      let inner = (places a v behind.inner_place u.header.row behind.stands).struct in
      let outer = (places a v place s stands).struct in
      let below = code-below behind.inner_place u.header.row behind.stands in
      let later = behind.later in
      record {
        found = ap (struct_position a.codes) (named-at behind.inner_place u.header.row behind.stands) ∙ sym inner;
        before = omega (arith, inner, outer, below, later);
      }
