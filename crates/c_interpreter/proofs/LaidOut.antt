-- The tables of a lawful program.
use Rattle.std.proofs.Common.{◌≡◌, refl, sym, ◌∙◌, ap, ℕ, zero, suc, ◌+◌, ◌<◌, ◌≤◌, List, [], ◌∷◌, ◌++◌, length, arith, take, slice_get, Option, Some, None, get_or, slice_index_or, add-zero, zero-add, length-append, subst}
use Rattle.std.specs.Prelude.{⊤}
use Rattle.std.specs.List.{AllByRecursion}
use Rattle.std.proofs.lemmas.List.{get_or_append_left}
use Rattle.std.proofs.Math.Seq.{get_or-append_seam}
use Rattle.c_syntax.specs.declared.program.FieldKind.{FieldKind}
use Rattle.c_syntax.specs.declared.program.FieldKind.TheVariants as kind
use Rattle.c_syntax.specs.Lawful.{IsLawfulKind, AreStructs}
use Rattle.c_interpreter.specs.declared.slots.Slot.TheVariants.{Instance}
use Rattle.c_interpreter.proofs.Places.{end_is}
use native.Mathlib.Numerals.{unary_clauses}
use Rattle.c_syntax.specs.declared.program.Field.{Field}
use Rattle.c_syntax.specs.PlainField.{field_tree, field_trees}
use Rattle.c_syntax.specs.Tree.{FieldTree, StructTree, struct_fields, no_struct}
use Rattle.c_semantics.specs.Cells.{Cells, object, no_cells, more_cells, zero_cell, zero_cells, zero_instances}
use Rattle.c_interpreter.specs.States.{numbers_of}
use Rattle.c_interpreter.specs.Slots.{StructLayout, layout_at, no_layout}
use Rattle.c_interpreter.specs.Layouts.{kind_size, slot_of, slots_from, end_of, layout_of, layouts_of, AreLaidOut}

-- ---- one more in a list
pub take_one : {A : Type 0} (xs : List A) (k : ℕ) (x : A) → k < length xs → x ≡ get_or xs k x → take (k + 1) xs ≡ take k xs ++ x ∷ []
take_one [] k x h there = absurd (omega arith)
take_one (y ∷ ys) zero x h there = ap (λ z. z ∷ []) (sym there)
take_one (y ∷ ys) (suc k) x h there = simp unary_clauses (ap (λ zs. y ∷ zs) (simp unary_clauses at (take_one ys k x (omega arith) there)))

slots-append : (layouts : List StructLayout) (at : ℕ) (fs : List FieldTree) (f : FieldTree) →
    slots_from layouts at (fs ++ f ∷ []) ≡ slots_from layouts at fs ++ slot_of layouts (end_of layouts at fs) f.kind
    ∷ []
slots-append layouts at [] f = refl
slots-append layouts at (g ∷ fs) f = ap (λ ss. slot_of layouts at g.kind ∷ ss) (slots-append layouts (at + kind_size layouts g.kind) fs f)

end-append : (layouts : List StructLayout) (at : ℕ) (fs : List FieldTree) (f : FieldTree) →
    end_of layouts at (fs ++ f ∷ []) ≡ end_of layouts at fs + kind_size layouts f.kind
end-append layouts at [] f = refl
end-append layouts at (g ∷ fs) f = end-append layouts (at + kind_size layouts g.kind) fs f

pub map-one : (fs : List Field) (f : Field) → field_trees (fs ++ f ∷ []) ≡ field_trees fs ++ field_tree f ∷ []
map-one [] f = refl
map-one (g ∷ fs) f = ap (λ ys. field_tree g ∷ ys) (map-one fs f)

pub slots_more : (layouts : List StructLayout) (fs : List Field) (k : ℕ) (f : Field) → k < length fs →
    f ≡ get_or fs k f →
    slots_from layouts 0 (field_trees (take (k + 1) fs)) ≡ slots_from layouts 0 (field_trees (take k fs))
    ++ slot_of layouts (end_of layouts 0 (field_trees (take k fs))) f.kind ∷ []
slots_more layouts fs k f h there = ap (λ gs. slots_from layouts 0 (field_trees gs)) (take_one fs k f h there)
    ∙ ap (slots_from layouts 0) (map-one (take k fs) f)
    ∙ slots-append layouts 0 (field_trees (take k fs)) (field_tree f)

pub end_more : (layouts : List StructLayout) (fs : List Field) (k : ℕ) (f : Field) → k < length fs → f ≡ get_or fs k f →
    end_of layouts 0 (field_trees (take (k + 1) fs)) ≡ end_of layouts 0 (field_trees (take k fs))
    + kind_size layouts f.kind
end_more layouts fs k f h there = ap (λ gs. end_of layouts 0 (field_trees gs)) (take_one fs k f h there)
    ∙ ap (end_of layouts 0) (map-one (take k fs) f) ∙ end-append layouts 0 (field_trees (take k fs)) (field_tree f)

layouts-append : (earlier : List StructLayout) (ss : List StructTree) (s : StructTree) →
    layouts_of earlier (ss ++ s ∷ []) ≡ layouts_of earlier ss ++ layout_of (layouts_of earlier ss) s.fields ∷ []
layouts-append earlier [] s = refl
layouts-append earlier (t ∷ ss) s = layouts-append (earlier ++ layout_of earlier t.fields ∷ []) ss s

pub layouts_more : (ss : List StructTree) (k : ℕ) (s : StructTree) → k < length ss → s ≡ get_or ss k s →
    layouts_of [] (take (k + 1) ss) ≡ layouts_of [] (take k ss) ++ layout_of (layouts_of [] (take k ss)) s.fields ∷ []
layouts_more ss k s h there = ap (layouts_of []) (take_one ss k s h there) ∙ layouts-append [] (take k ss) s

-- ---- what is at a position of a growing list
zeros-before : (earlier : List Cells) (ss : List StructTree) (k : ℕ) → k < length earlier →
    slice_index_or (zero_instances earlier ss) k no_cells ≡ slice_index_or earlier k no_cells
zeros-before earlier [] k h = refl
zeros-before earlier (s ∷ ss) k h =
    zeros-before (earlier ++ zero_cells earlier s.fields ∷ []) ss k
    (omega (arith, length-append earlier (zero_cells earlier s.fields ∷ [])))
    ∙ get_or_append_left earlier (zero_cells earlier s.fields ∷ []) no_cells k h

layouts-before : (earlier : List StructLayout) (ss : List StructTree) (k : ℕ) → k < length earlier →
    layout_at (layouts_of earlier ss) k ≡ layout_at earlier k
layouts-before earlier [] k h = refl
layouts-before earlier (s ∷ ss) k h =
    layouts-before (earlier ++ layout_of earlier s.fields ∷ []) ss k
    (omega (arith, length-append earlier (layout_of earlier s.fields ∷ [])))
    ∙ get_or_append_left earlier (layout_of earlier s.fields ∷ []) no_layout k h

zero_cells-agree : (a b : List Cells) (n : ℕ) (fields : List FieldTree) →
    ((k : ℕ) → k < n → slice_index_or a k no_cells ≡ slice_index_or b k no_cells) →
    AllByRecursion (λ f. IsLawfulKind n f.kind) fields → zero_cells a fields ≡ zero_cells b fields
zero_cells-agree a b n [] same lawful = refl
zero_cells-agree a b n (f ∷ fs) same lawful = λ i. more_cells (here f.kind lawful.0 i) (zero_cells-agree a b n fs same lawful.1 i)
  where
    here : (k : FieldKind) → IsLawfulKind n k → zero_cell a k ≡ zero_cell b k
    here (kind.Number type) h = refl
    here (kind.Array type count) h = refl
    here (kind.Struct k) h = ap object (same k h)

slot-agree : (a b : List StructLayout) (n at : ℕ) (k : FieldKind) → ((j : ℕ) → j < n → layout_at a j ≡ layout_at b j) →
    IsLawfulKind n k → slot_of a at k ≡ slot_of b at k
slot-agree a b n at (kind.Number type) same h = refl
slot-agree a b n at (kind.Array type count) same h = refl
slot-agree a b n at (kind.Struct k) same h = λ i. Instance at (same k h i).size k

size-agree : (a b : List StructLayout) (n : ℕ) (k : FieldKind) → ((j : ℕ) → j < n → layout_at a j ≡ layout_at b j) →
    IsLawfulKind n k → kind_size a k ≡ kind_size b k
size-agree a b n (kind.Number type) same h = refl
size-agree a b n (kind.Array type count) same h = refl
size-agree a b n (kind.Struct k) same h = λ i. (same k h i).size

slots-agree : (a b : List StructLayout) (n at : ℕ) (fields : List FieldTree) →
    ((k : ℕ) → k < n → layout_at a k ≡ layout_at b k) → AllByRecursion (λ f. IsLawfulKind n f.kind) fields →
    slots_from a at fields ≡ slots_from b at fields
slots-agree a b n at [] same lawful = refl
slots-agree a b n at (f ∷ fs) same lawful =
    λ i. slot-agree a b n at f.kind same lawful.0 i
    ∷ (ap (λ m. slots_from a (at + m) fs) (size-agree a b n f.kind same lawful.0)
    ∙ slots-agree a b n (at + kind_size b f.kind) fs same lawful.1) i

zeros-at : (earlier : List Cells) (ss : List StructTree) (j : ℕ) (s : StructTree) → AreStructs (length earlier) ss →
    slice_get ss j ≡ Some s → slice_index_or (zero_instances earlier ss) (length earlier + j) no_cells ≡ zero_cells
    (zero_instances earlier ss) s.fields
zeros-at earlier [] j s lawful there = absurd (cc)
zeros-at earlier (t ∷ ss) zero s lawful there =
    let z : Cells = zero_cells earlier t.fields in
    let e : t ≡ s = cc in
    let whole : List Cells = zero_instances (earlier ++ z ∷ []) ss in
    let first : slice_index_or whole (length earlier) no_cells ≡ z =
    zeros-before (earlier ++ z ∷ []) ss (length earlier) (omega (arith, length-append earlier (z ∷ [])))
    ∙ get_or-append_seam earlier z [] no_cells in
    let same : zero_cells earlier t.fields ≡ zero_cells whole t.fields =
    zero_cells-agree earlier whole (length earlier) t.fields (λ k h. sym (zeros-before earlier (t ∷ ss) k h))
    lawful.0.kinds in
    rw add-zero (first ∙ same ∙ (λ i. zero_cells whole (e i).fields))
zeros-at earlier (t ∷ ss) (suc j) s lawful there =
    let z : Cells = zero_cells earlier t.fields in
    let n : length (earlier ++ z ∷ []) ≡ length earlier + 1 = length-append earlier (z ∷ []) in
    let e : length (earlier ++ z ∷ []) + j ≡ length earlier + suc j = omega arith in
    subst (λ m. slice_index_or (zero_instances (earlier ++ z ∷ []) ss) m no_cells
    ≡ zero_cells (zero_instances (earlier ++ z ∷ []) ss) s.fields) e
    (zeros-at (earlier ++ z ∷ []) ss j s (subst (λ m. AreStructs m ss) (sym n) lawful.1) there)

layouts-at : (earlier : List StructLayout) (ss : List StructTree) (j : ℕ) (s : StructTree) →
    AreStructs (length earlier) ss → slice_get ss j ≡ Some s →
    (layout_at (layouts_of earlier ss) (length earlier + j)).slots ≡ slots_from (layouts_of earlier ss) 0 s.fields
layouts-at earlier [] j s lawful there = absurd (cc)
layouts-at earlier (t ∷ ss) zero s lawful there =
    let z : StructLayout = layout_of earlier t.fields in
    let e : t ≡ s = cc in
    let whole : List StructLayout = layouts_of (earlier ++ z ∷ []) ss in
    let first : layout_at whole (length earlier) ≡ z =
    layouts-before (earlier ++ z ∷ []) ss (length earlier) (omega (arith, length-append earlier (z ∷ [])))
    ∙ get_or-append_seam earlier z [] no_layout in
    let same : slots_from earlier 0 t.fields ≡ slots_from whole 0 t.fields =
    slots-agree earlier whole (length earlier) 0 t.fields (λ k h. sym (layouts-before earlier (t ∷ ss) k h))
    lawful.0.kinds in
    rw add-zero ((λ i. (first i).slots) ∙ same ∙ (λ i. slots_from whole 0 (e i).fields))
layouts-at earlier (t ∷ ss) (suc j) s lawful there =
    let z : StructLayout = layout_of earlier t.fields in
    let n : length (earlier ++ z ∷ []) ≡ length earlier + 1 = length-append earlier (z ∷ []) in
    let e : length (earlier ++ z ∷ []) + j ≡ length earlier + suc j = omega arith in
    subst (λ m. (layout_at (layouts_of (earlier ++ z ∷ []) ss) m).slots
    ≡ slots_from (layouts_of (earlier ++ z ∷ []) ss) 0 s.fields) e
    (layouts-at (earlier ++ z ∷ []) ss j s (subst (λ m. AreStructs m ss) (sym n) lawful.1) there)

-- nothing is past the end
zeros-length : (earlier : List Cells) (ss : List StructTree) → length (zero_instances earlier ss) ≡ length earlier + length ss
zeros-length earlier [] = omega arith
zeros-length earlier (s ∷ ss) =
    omega (
      arith,
      zeros-length (earlier ++ zero_cells earlier s.fields ∷ []) ss,
      length-append earlier (zero_cells earlier s.fields ∷ []),
    )

layouts-length : (earlier : List StructLayout) (ss : List StructTree) → length (layouts_of earlier ss) ≡ length earlier + length ss
layouts-length earlier [] = omega arith
layouts-length earlier (s ∷ ss) =
    omega (
      arith,
      layouts-length (earlier ++ layout_of earlier s.fields ∷ []) ss,
      length-append earlier (layout_of earlier s.fields ∷ []),
    )

pub past_end : {A : Type 0} (xs : List A) (k : ℕ) (d : A) → length xs ≤ k → slice_index_or xs k d ≡ d
past_end [] k d h = refl
past_end (x ∷ xs) zero d h = absurd (omega arith)
past_end (x ∷ xs) (suc k) d h = past_end xs k d (omega arith)

-- ---- sizes
abbrev AreSized : List StructLayout → List Cells → Type 0
AreSized [] [] = ⊤
AreSized [] (z ∷ zs) = ⊥
AreSized (l ∷ ls) [] = ⊥
AreSized (l ∷ ls) (z ∷ zs) = (l.size ≡ length (numbers_of z)) × AreSized ls zs

sized-at : (ls : List StructLayout) (zs : List Cells) → AreSized ls zs → (k : ℕ) →
    (layout_at ls k).size ≡ length (numbers_of (slice_index_or zs k no_cells))
sized-at [] [] sized k = refl
sized-at [] (z ∷ zs) sized k = absurd sized
sized-at (l ∷ ls) [] sized k = absurd sized
sized-at (l ∷ ls) (z ∷ zs) sized zero = sized.0
sized-at (l ∷ ls) (z ∷ zs) sized (suc k) = sized-at ls zs sized.1 k

sized-more : (ls : List StructLayout) (zs : List Cells) (l : StructLayout) (z : Cells) → AreSized ls zs →
    l.size ≡ length (numbers_of z) → AreSized (ls ++ l ∷ []) (zs ++ z ∷ [])
sized-more [] [] l z sized h = (h, tt)
sized-more [] (y ∷ zs) l z sized h = absurd sized
sized-more (m ∷ ls) [] l z sized h = absurd sized
sized-more (m ∷ ls) (y ∷ zs) l z sized h = (sized.0, sized-more ls zs l z sized.1 h)

sized-all : (ls : List StructLayout) (zs : List Cells) (ss : List StructTree) → AreSized ls zs →
    AreSized (layouts_of ls ss) (zero_instances zs ss)
sized-all ls zs [] sized = sized
sized-all ls zs (s ∷ ss) sized =
    sized-all (ls ++ layout_of ls s.fields ∷ []) (zs ++ zero_cells zs s.fields ∷ []) ss
    (sized-more ls zs (layout_of ls s.fields) (zero_cells zs s.fields) sized
    (end_is ls zs (sized-at ls zs sized) 0 s.fields ∙ zero-add _))

-- the tables of lawful structs
pub laid_out : (ss : List StructTree) → AreStructs 0 ss → AreLaidOut ss (layouts_of [] ss) (zero_instances [] ss)
laid_out ss lawful =
    record {
      sized = sized-at (layouts_of [] ss) (zero_instances [] ss) (sized-all [] [] ss tt);
      zero_is = λ k. zero_by k (slice_get ss k) refl;
      slots_are = λ k. slots_by k (slice_get ss k) refl;
    }
  where
    fields_some : (xs : List StructTree) (k : ℕ) (s : StructTree) → slice_get xs k ≡ Some s → struct_fields xs k ≡ s.fields
    fields_some [] k s there = absurd (cc)
    fields_some (x ∷ xs) zero s there = let e : x ≡ s = cc in λ i. (e i).fields
    fields_some (x ∷ xs) (suc k) s there = fields_some xs k s there

    beyond : (xs : List StructTree) (k : ℕ) → slice_get xs k ≡ None → length xs ≤ k
    beyond [] k there = omega arith
    beyond (x ∷ xs) zero there = absurd (cc)
    beyond (x ∷ xs) (suc k) there = omega (arith, beyond xs k there)

    zero_by : (k : ℕ) (o : Option StructTree) → slice_get ss k ≡ o →
        slice_index_or (zero_instances [] ss) k no_cells ≡ zero_cells (zero_instances [] ss) (struct_fields ss k)
    zero_by k (Some s) there = (rw zero-add at (zeros-at [] ss k s lawful there))
        ∙ ap (zero_cells (zero_instances [] ss)) (sym (fields_some ss k s there))
    zero_by k None there =
        let h : length ss ≤ k = beyond ss k there in
        past_end (zero_instances [] ss) k no_cells (omega (arith, zeros-length [] ss))
        ∙ (λ i. zero_cells (zero_instances [] ss) (sym (past_end ss k no_struct h) i).fields)

    slots_by : (k : ℕ) (o : Option StructTree) → slice_get ss k ≡ o →
        (layout_at (layouts_of [] ss) k).slots ≡ slots_from (layouts_of [] ss) 0 (struct_fields ss k)
    slots_by k (Some s) there = (rw zero-add at (layouts-at [] ss k s lawful there))
        ∙ ap (slots_from (layouts_of [] ss) 0) (sym (fields_some ss k s there))
    slots_by k None there =
        let h : length ss ≤ k = beyond ss k there in
        (λ i. (past_end (layouts_of [] ss) k no_layout (omega (arith, layouts-length [] ss)) i).slots)
        ∙ (λ i. slots_from (layouts_of [] ss) 0 (sym (past_end ss k no_struct h) i).fields)
