-- An instance all of whose numbers are 0 has the forms of its struct.
use Rattle.std.specs.Prelude.{ℕ, zero, suc, List, [], ◌∷◌, ◌++◌, map, replicate, slice_index_or, IsTrue, pos, refl}
use Rattle.std.specs.List.{AllByRecursion, AllZip}
use Rattle.std.proofs.lemmas.List.{length-replicate}
use Rattle.c_syntax.specs.declared.CType.{CType}
use Rattle.c_syntax.specs.declared.CType.TheVariants.{I8}
use Rattle.c_syntax.specs.declared.FieldKind.{FieldKind}
use Rattle.c_syntax.specs.declared.FieldKind.TheVariants.{Number, Array, Struct}
use Rattle.c_syntax.specs.Tree.{FieldTree, StructTree}
use Rattle.c_semantics.specs.Cells.{Cells, no_cells, zero_cell, zero_cells, zero_instances}
use Rattle.c_semantics.specs.Values.{is_in_type}
use Rattle.right_relation.specs.Forms.{Forms, no_forms, HasForm, HasForms, forms_of, kind_form, field_form, struct_forms}
use Rattle.right_linking.specs.Parts.{Parts, program_of}
use Rattle.right_linking.specs.Places.{ZerosHaveForms}

zero-in : (type : CType) → IsTrue (is_in_type type (pos 0))
zero-in I8 = refl
zero-in _ = refl

zeros-in : (type : CType) (n : ℕ) → AllByRecursion (λ v. IsTrue (is_in_type type v)) (replicate n (pos 0))
zeros-in type zero = tt
zeros-in type (suc n) = (zero-in type, zeros-in type n)

alike-at : (forms : List Forms) (zeros : List Cells) → AllZip HasForms forms zeros → (k : ℕ) →
    HasForms (slice_index_or forms k no_forms) (slice_index_or zeros k no_cells)
alike-at [] [] alike k = tt
alike-at [] (c ∷ cs) alike k = absurd alike
alike-at (f ∷ fs) [] alike k = absurd alike
alike-at (f ∷ fs) (c ∷ cs) alike zero = alike.0
alike-at (f ∷ fs) (c ∷ cs) alike (suc k) = alike-at fs cs alike.1 k

alike-more : (forms : List Forms) (zeros : List Cells) (f : Forms) (c : Cells) → AllZip HasForms forms zeros → HasForms f c →
    AllZip HasForms (forms ++ f ∷ []) (zeros ++ c ∷ [])
alike-more [] [] f c alike has = (has, tt)
alike-more [] (y ∷ ys) f c alike has = absurd alike
alike-more (x ∷ xs) [] f c alike has = absurd alike
alike-more (x ∷ xs) (y ∷ ys) f c alike has = (alike.0, alike-more xs ys f c alike.1 has)

module _ (forms : List Forms) (zeros : List Cells) (alike : AllZip HasForms forms zeros) where
  zero-kind : (kind : FieldKind) → HasForm (kind_form forms kind) (zero_cell zeros kind)
  zero-kind (Number type) = zero-in type
  zero-kind (Array type count) = (length-replicate count (pos 0), zeros-in type count)
  zero-kind (Struct k) = alike-at forms zeros alike k

  zero-fields : (fields : List FieldTree) → HasForms (forms_of (map (field_form forms) fields)) (zero_cells zeros fields)
  zero-fields [] = tt
  zero-fields (f ∷ fields) = (zero-kind f.kind, zero-fields fields)

zero-structs : (forms : List Forms) (zeros : List Cells) (structs : List StructTree) → AllZip HasForms forms zeros →
    AllZip HasForms (struct_forms forms structs) (zero_instances zeros structs)
zero-structs forms zeros [] alike = alike
zero-structs forms zeros (s ∷ structs) alike =
    zero-structs (forms ++ forms_of (map (field_form forms) s.fields) ∷ []) (zeros ++ zero_cells zeros s.fields ∷ []) structs
    (alike-more forms zeros (forms_of (map (field_form forms) s.fields)) (zero_cells zeros s.fields) alike
    (zero-fields forms zeros alike s.fields))

pub zeros_have_forms : (a : Parts) → ZerosHaveForms a
zeros_have_forms a k =
    let structs = (program_of a).structs in
    alike-at (struct_forms [] structs) (zero_instances [] structs) (zero-structs [] [] structs tt) k
