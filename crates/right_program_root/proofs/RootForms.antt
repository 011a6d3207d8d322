-- The forms of the root's struct: those of its fields, that of `top` among them.
use Rattle.std.specs.Prelude.{◌≡◌, ℕ, zero, suc, ◌+◌, ◌≤◌, List, [], ◌∷◌, ◌++◌, map, length, reverse, slice_get, slice_index_or, true, Some, None, refl}
use Rattle.std.specs.List.{range_with_len}
use Rattle.std.proofs.Common.{ap, subst, ◌∙◌, arith}
use Rattle.std.proofs.lemmas.List.{length-append, reverse-append, get_or_append_left}
use Rattle.std.proofs.lemmas.List.FromFn.{length-range_with_len}
use Rattle.std.proofs.lemmas.Option.{get_or_from_slice_get, same_Some, none-some}
use Rattle.modules_profile.proofs.lemmas.Members.{at-right, at-below}
use Rattle.c_syntax.specs.declared.CType.{CType}
use Rattle.c_syntax.specs.RootFields.{root_struct}
use Rattle.c_syntax.specs.Tree.{StructTree}
use Rattle.c_semantics.specs.Cells.{Cell, number, items, object, Cells, no_cells, more_cells, cell_value, cell_at}
use Rattle.c_semantics.specs.CellLaws.{cells_count}
use Rattle.c_semantics.specs.Values.{is_in_type}
use Rattle.emit_shape.specs.Assembled.{code_at, from_last, struct_position, moved_struct, root_structure}
use Rattle.emit_shape.specs.Programs.{struct_place}
use Rattle.right_relation.specs.Forms.{Form, holds_number, holds_instance, Forms, no_forms, more_forms, HasForm, HasForms, forms_of, field_form, struct_forms}
use Rattle.right_claim.specs.Anew.{forms_at, form_fields, field_count}
use Rattle.right_linking.specs.Parts.{Parts, program_of, Views}
use Rattle.right_linking.specs.Places.{SystemsHavePlaces, RootHasPlaces}
use Rattle.right_program_root.proofs.PortedRows.{mapped-length}

-- ---- Forms by their places

abbrev pub form_at : Forms → ℕ → Form
form_at no_forms g = holds_instance no_forms
form_at (more_forms form forms) zero = form
form_at (more_forms form forms) (suc g) = form_at forms g

pub form-of : (xs : List Form) (g : ℕ) (x : Form) → slice_get xs g ≡ Some x → form_at (forms_of xs) g ≡ x
form-of [] g x at = cc at
form-of (y ∷ xs) zero x at = cc at
form-of (y ∷ xs) (suc g) x at = form-of xs g x at

-- a cell has the form of its place
pub has-form : (xs : List Form) (cells : Cells) (g : ℕ) (x : Form) → HasForms (forms_of xs) cells → slice_get xs g ≡ Some x →
    HasForm x (cell_at cells g)
has-form [] cells g x has at = absurd (none-some x at)
has-form (y ∷ xs) no_cells g x has at = absurd has
has-form (y ∷ xs) (more_cells c cells) zero x has at = subst (λ form. HasForm form c) (same_Some y x at) has.0
has-form (y ∷ xs) (more_cells c cells) (suc g) x has at = has-form xs cells g x has.1 at

-- a number fits its type
pub number-fits : (type : CType) (cell : Cell) → HasForm (holds_number type) cell → is_in_type type (cell_value cell) ≡ true
number-fits type (number z) has = has
number-fits type (items vs) has = absurd has
number-fits type (object cells) has = absurd has

pub count-forms : (xs : List Form) (cells : Cells) → HasForms (forms_of xs) cells → cells_count cells ≡ length xs
count-forms [] no_cells has = refl
count-forms [] (more_cells c cells) has = absurd has
count-forms (x ∷ xs) no_cells has = absurd has
count-forms (x ∷ xs) (more_cells c cells) has = ap suc (count-forms xs cells has.1)

-- with an instance among them there are its fields, and those up to it
pub fields-below : (xs : List Form) (g : ℕ) (inner : Forms) → slice_get xs g ≡ Some (holds_instance inner) →
    g + suc (field_count inner) ≤ field_count (forms_of xs)
fields-below [] g inner at = absurd (none-some (holds_instance inner) at)
fields-below (x ∷ xs) zero inner at =
    let same = ap form_fields (same_Some x (holds_instance inner) at) in
    omega (arith, same)
fields-below (x ∷ xs) (suc g) inner at = let rest = fields-below xs g inner at in omega (arith, rest)

-- where each cell keeps its form, all do
pub keep-forms : (forms : Forms) (before after : Cells) → HasForms forms before → cells_count after ≡ cells_count before →
    ((g : ℕ) → HasForm (form_at forms g) (cell_at before g) → HasForm (form_at forms g) (cell_at after g)) → HasForms forms after
keep-forms no_forms no_cells no_cells has same each = tt
keep-forms no_forms no_cells (more_cells c after) has same each = absurd (omega (arith, same))
keep-forms no_forms (more_cells b before) after has same each = absurd has
keep-forms (more_forms form forms) no_cells after has same each = absurd has
keep-forms (more_forms form forms) (more_cells b before) no_cells has same each = absurd (omega (arith, same))
keep-forms (more_forms form forms) (more_cells b before) (more_cells c after) has same each = (
  each 0 has.0,
  keep-forms forms before after has.1 (omega (arith, same)) (λ g. each (suc g)),
)

-- ---- Structs

forms-append : (earlier : List Forms) (xs ys : List StructTree) → struct_forms earlier (xs ++ ys) ≡ struct_forms
    (struct_forms earlier xs) ys
forms-append earlier [] ys = refl
forms-append earlier (x ∷ xs) ys = forms-append (earlier ++ forms_of (map (field_form earlier) x.fields) ∷ []) xs ys

forms-many : (earlier : List Forms) (xs : List StructTree) → length (struct_forms earlier xs) ≡ length earlier + length xs
forms-many earlier [] = omega arith
forms-many earlier (x ∷ xs) =
    let rest = forms-many (earlier ++ forms_of (map (field_form earlier) x.fields) ∷ []) xs in
    let one = length-append earlier (forms_of (map (field_form earlier) x.fields) ∷ []) in
    omega (arith, rest, one)

length-back : {A : Type 0} (xs : List A) → length (reverse xs) ≡ length xs
length-back [] = refl
length-back (x ∷ xs) = let long = length-append (reverse xs) (x ∷ []) in let rest = length-back xs in
    ap length (reverse-append (x ∷ []) xs) ∙ omega (arith, long, rest)

module _ (a : Parts) where
  -- the structs of the systems, and their forms
  abbrev systems : List StructTree
  systems = map (λ i. moved_struct a.codes (code_at a.codes i)) (from_last a.codes)

  abbrev pub earlier_forms : List Forms
  earlier_forms = struct_forms [] systems

  many : length earlier_forms ≡ length a.codes
  many =
      let all = forms-many [] systems in
      let made = mapped-length (λ i. moved_struct a.codes (code_at a.codes i)) (from_last a.codes) in
      let back = length-back (range_with_len 0 (length a.codes)) in
      let range = length-range_with_len 0 (length a.codes) in
      omega (arith, all, made, back, range)

  pub root-forms : RootHasPlaces → forms_at (program_of a) (root_struct (program_of a)) ≡ forms_of
      (map (field_form earlier_forms) (root_structure a.codes a.root a.hyper).fields)
  root-forms places =
      let last : length a.codes ≡ length earlier_forms + 0 = let same = many in omega (arith, same) in
      ap (λ fs. slice_index_or fs (root_struct (program_of a)) no_forms)
      (forms-append [] systems (root_structure a.codes a.root a.hyper ∷ []))
      ∙ ap (λ k. slice_index_or (earlier_forms ++ forms_of (map (field_form earlier_forms) (root_structure a.codes a.root a.hyper).fields)
      ∷ []) k no_forms) ((places a).struct ∙ last)
      ∙ get_or_from_slice_get (earlier_forms ++ forms_of (map (field_form earlier_forms) (root_structure a.codes a.root a.hyper).fields)
      ∷ []) (length earlier_forms + 0) (forms_of (map (field_form earlier_forms) (root_structure a.codes a.root a.hyper).fields)) no_forms
      (at-right earlier_forms (forms_of (map (field_form earlier_forms) (root_structure a.codes a.root a.hyper).fields) ∷ []) 0
      (forms_of (map (field_form earlier_forms) (root_structure a.codes a.root a.hyper).fields)) refl)

  -- the forms of `top` are among the earlier ones
  pub top-forms : (v : Views a) → SystemsHavePlaces → forms_at (program_of a) (struct_place (program_of a) None)
      ≡ slice_index_or earlier_forms (struct_position a.codes 0) no_forms
  top-forms v places =
      let some = at-below a.codes 0 (v.at None).code (v.each 0 None refl).stands in
      let same = many in
      ap (λ fs. slice_index_or fs (struct_place (program_of a) None) no_forms)
      (forms-append [] systems (root_structure a.codes a.root a.hyper ∷ []))
      ∙ ap (λ k. slice_index_or (earlier_forms ++ forms_of (map (field_form earlier_forms) (root_structure a.codes a.root a.hyper).fields)
      ∷ []) k no_forms) (places a v 0 None refl).struct
      ∙ get_or_append_left earlier_forms (forms_of (map (field_form earlier_forms) (root_structure a.codes a.root a.hyper).fields) ∷ [])
      no_forms (struct_position a.codes 0) (omega (arith, some, same))
