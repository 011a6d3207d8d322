-- The forms of a struct's fields follow from those of the structs before it.
use Rattle.std.specs.Prelude.{◌≡◌, ℕ, zero, suc, ◌+◌, ◌<◌, ⊤, List, [], ◌∷◌, ◌++◌, map, length, slice_index_or, refl}
use Rattle.std.specs.List.{AllByRecursion}
use Rattle.std.proofs.Common.{sym, ap, ap₂, subst, ◌∙◌, arith}
use Rattle.std.proofs.Math.Seq.{get_or-append_seam}
use Rattle.std.proofs.lemmas.List.{get_or_append_left, get_or_past, length-append}
use Rattle.c_syntax.specs.declared.FieldKind.{FieldKind}
use Rattle.c_syntax.specs.declared.FieldKind.TheVariants.{Number, Array, Struct}
use Rattle.c_syntax.specs.Tree.{FieldTree, StructTree, struct_fields}
use Rattle.right_relation.specs.Forms.{Forms, no_forms, more_forms, holds_instance, forms_of, kind_form, field_form, struct_forms}

-- an instance is one of an earlier struct
abbrev pub IsEarlierKind : ℕ → FieldKind → Type 0
IsEarlierKind n (Number type) = ⊤
IsEarlierKind n (Array type count) = ⊤
IsEarlierKind n (Struct k) = k < n

abbrev pub AreEarlier : ℕ → List FieldTree → Type 0
AreEarlier n fields = AllByRecursion (λ f. IsEarlierKind n f.kind) fields

forms-before : (earlier : List Forms) (structs : List StructTree) (k : ℕ) → k < length earlier →
    slice_index_or (struct_forms earlier structs) k no_forms ≡ slice_index_or earlier k no_forms
forms-before earlier [] k below = refl
forms-before earlier (s ∷ structs) k below =
    let own : Forms = forms_of (map (field_form earlier) s.fields) in
    forms-before (earlier ++ own ∷ []) structs k (omega (arith, below, length-append earlier (own ∷ [])))
    ∙ get_or_append_left earlier (own ∷ []) no_forms k below

-- fields hold the same where the earlier structs do
module _ (one two : List Forms) (n : ℕ) (same : (k : ℕ) → k < n → slice_index_or one k no_forms ≡ slice_index_or two k no_forms) where
  kind-agrees : (kind : FieldKind) → IsEarlierKind n kind → kind_form one kind ≡ kind_form two kind
  kind-agrees (Number type) earlier = refl
  kind-agrees (Array type count) earlier = refl
  kind-agrees (Struct k) earlier = ap holds_instance (same k earlier)

  fields-agree : (fields : List FieldTree) → AreEarlier n fields →
      forms_of (map (field_form one) fields) ≡ forms_of (map (field_form two) fields)
  fields-agree [] earlier = refl
  fields-agree (f ∷ fields) earlier = ap₂ more_forms (kind-agrees f.kind earlier.0) (fields-agree fields earlier.1)

forms-behind : (earlier : List Forms) (structs : List StructTree) (j : ℕ) → AreEarlier (length earlier + j) (struct_fields structs j) →
    slice_index_or (struct_forms earlier structs) (length earlier + j) no_forms
    ≡ forms_of (map (field_form (struct_forms earlier structs)) (struct_fields structs j))
forms-behind earlier [] j are = get_or_past earlier (length earlier + j) no_forms (omega arith)
forms-behind earlier (s ∷ structs) zero are =
    let own : Forms = forms_of (map (field_form earlier) s.fields) in
    let none : length earlier + 0 ≡ length earlier = omega arith in
    ap (λ k. slice_index_or (struct_forms (earlier ++ own ∷ []) structs) k no_forms) none
    ∙ forms-before (earlier ++ own ∷ []) structs (length earlier) (omega (arith, length-append earlier (own ∷ [])))
    ∙ get_or-append_seam earlier own [] no_forms
    ∙ fields-agree earlier (struct_forms (earlier ++ own ∷ []) structs) (length earlier)
    (λ k below. sym (forms-before earlier (s ∷ structs) k below)) s.fields
    (subst (λ n. AreEarlier n s.fields) none are)
forms-behind earlier (s ∷ structs) (suc j) are =
    let own : Forms = forms_of (map (field_form earlier) s.fields) in
    let place : length earlier + suc j ≡ length (earlier ++ own ∷ []) + j = omega (arith, length-append earlier (own ∷ [])) in
    ap (λ k. slice_index_or (struct_forms (earlier ++ own ∷ []) structs) k no_forms) place
    ∙ forms-behind (earlier ++ own ∷ []) structs j (subst (λ n. AreEarlier n (struct_fields structs j)) place are)

-- the forms of the struct at a position are those of its fields
pub forms-at-place : (structs : List StructTree) (k : ℕ) → AreEarlier k (struct_fields structs k) →
    slice_index_or (struct_forms [] structs) k no_forms ≡ forms_of (map (field_form (struct_forms [] structs)) (struct_fields structs k))
forms-at-place structs k are =
    let same : k ≡ 0 + k = omega arith in
    ap (λ n. slice_index_or (struct_forms [] structs) n no_forms) same
    ∙ forms-behind [] structs k (subst (λ n. AreEarlier n (struct_fields structs k)) same are)
