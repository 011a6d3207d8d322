-- The numbers of an instance, and where its fields are in them.
use Rattle.std.proofs.Common.{◌≡◌, refl, sym, ◌∙◌, ap, ℕ, zero, suc, ◌+◌, ◌-◌, ◌<◌, ◌≤◌, ℤ, pos, Bool, List, [], ◌∷◌, ◌++◌, length, arith, take, drop, replicate, slice_get, slice_index_or, Option, Some, None, append_assoc, length-append, subst, zero-add, add-zero}
use Rattle.std.proofs.Math.ListN.{set}
use Rattle.std.proofs.lemmas.List.{length-replicate}
use native.Mathlib.Numerals.{unary_clauses}
use Rattle.c_syntax.specs.declared.code.CType.{CType}
use Rattle.c_syntax.specs.declared.program.FieldKind.{FieldKind}
use Rattle.c_syntax.specs.declared.program.FieldKind.TheVariants as kind
use Rattle.c_syntax.specs.Tree.{ProgramTree, FieldTree, StructTree, struct_fields, field_types, type_at, kind_type}
use Rattle.c_semantics.specs.Cells.{Cell, number, items, object, Cells, no_cells, more_cells, cell_value, cell_fields, cell_items, set_cell, set_item, number_at, fields_at, items_at, zero_cell, zero_cells}
use Rattle.base_core.specs.Numbers.{int_at}
use Rattle.c_interpreter.specs.States.{numbers_in, numbers_of, with_first, filled_cell, filled}
use Rattle.c_interpreter.specs.declared.slots.Slot.{Slot}
use Rattle.c_interpreter.specs.declared.slots.Slot.TheVariants.{Number, Array, Instance}
use Rattle.c_interpreter.specs.Slots.{StructLayout, layout_at, number_in, number_under, items_in}
use Rattle.c_interpreter.specs.Sound.{IsReady, IsNumberField, IsArrayField, IsInstanceField, zeros_of}
use Rattle.c_interpreter.specs.Layouts.{kind_size, slot_of, slots_from, end_of, AreLaidOut}
use Rattle.c_interpreter.proofs.Items.{items_take, items_part, items_whole, set_length, set_inside}

-- ---- lists
pub drop_more : (at n : ℕ) (s : List ℤ) → drop n (drop at s) ≡ drop (at + n) s
drop_more zero n s = ap (λ k. drop k s) (sym (zero-add n))
drop_more (suc at) zero [] = simp unary_clauses
drop_more (suc at) (suc n) [] = simp unary_clauses
drop_more (suc at) n (x ∷ s) = drop_more at n s ∙ ap (λ k. drop k (x ∷ s)) (suc_plus at n)
  where
    suc_plus : (a b : ℕ) → suc (a + b) ≡ suc a + b
    suc_plus a b = omega arith

pub take_more : (n m : ℕ) (s : List ℤ) → take n s ++ take m (drop n s) ≡ take (n + m) s
take_more zero m s = ap (λ k. take k s) (sym (zero-add m))
take_more (suc n) zero [] = simp unary_clauses
take_more (suc n) (suc m) [] = simp unary_clauses
take_more (suc n) m (x ∷ s) = ap (λ r. x ∷ r) (take_more n m s) ∙ ap (λ k. take k (x ∷ s)) (suc_plus n m)
  where
    suc_plus : (a b : ℕ) → suc (a + b) ≡ suc a + b
    suc_plus a b = omega arith

pub take_front : (n : ℕ) (t r : List ℤ) → length t ≡ n → take n (t ++ r) ≡ t
take_front n t r h = subst (λ k. take k (t ++ r) ≡ t) h (front t)
  where
    front : (u : List ℤ) → take (length u) (u ++ r) ≡ u
    front [] = refl
    front (x ∷ u) = ap (λ v. x ∷ v) (front u)

pub drop_front : (n : ℕ) (t r : List ℤ) → length t ≡ n → drop n (t ++ r) ≡ r
drop_front n t r h = subst (λ k. drop k (t ++ r) ≡ r) h (front t)
  where
    front : (u : List ℤ) → drop (length u) (u ++ r) ≡ r
    front [] = refl
    front (x ∷ u) = front u

pub length_taken : (n : ℕ) (s : List ℤ) → n ≤ length s → length (take n s) ≡ n
length_taken zero s h = refl
length_taken (suc n) [] h = absurd (omega arith)
length_taken (suc n) (x ∷ s) h = omega (arith, length_taken n s (omega arith))

pub length_dropped : (n : ℕ) (s : List ℤ) → n ≤ length s → length (drop n s) + n ≡ length s
length_dropped zero s h = omega arith
length_dropped (suc n) [] h = absurd (omega arith)
length_dropped (suc n) (x ∷ s) h = omega (arith, length_dropped n s (omega arith))

pub set_is : (s : List ℤ) (k : ℕ) (v : ℤ) → k < length s → take k s ++ (v ∷ [] ++ drop (k + 1) s) ≡ set s k v
set_is [] k v h = absurd (omega arith)
set_is (x ∷ s) zero v h = refl
set_is (x ∷ s) (suc k) v h = simp unary_clauses (ap (λ r. x ∷ r) (simp unary_clauses at (set_is s k v (omega arith))))

first_is : (s : List ℤ) (at : ℕ) → cell_value (with_first (number (pos 0)) (take 1 (drop at s))) ≡ int_at s at
first_is [] zero = refl
first_is [] (suc at) = refl
first_is (x ∷ s) zero = refl
first_is (x ∷ s) (suc at) = first_is s at

pub take_of_more : (n m : ℕ) (vs : List ℤ) → take n (take (n + m) vs) ≡ take n vs
take_of_more zero m vs = refl
take_of_more (suc n) zero [] = simp unary_clauses
take_of_more (suc n) (suc m) [] = simp unary_clauses
take_of_more (suc n) m (v ∷ vs) = let e : suc n + m ≡ suc (n + m) = omega arith in rw e (ap (λ r. v ∷ r) (take_of_more n m vs))

pub drop_of_more : (n m : ℕ) (vs : List ℤ) → drop n (take (n + m) vs) ≡ take m (drop n vs)
drop_of_more zero m vs = rw zero-add refl
drop_of_more (suc n) zero [] = simp unary_clauses
drop_of_more (suc n) (suc m) [] = simp unary_clauses
drop_of_more (suc n) m (v ∷ vs) = let e : suc n + m ≡ suc (n + m) = omega arith in rw e (drop_of_more n m vs)

-- ---- what is past an instance's numbers
mutual
  pub filled_cell-take : (c : Cell) (vs : List ℤ) → filled_cell c (take (length (numbers_in c)) vs) ≡ filled_cell c vs
  filled_cell-take (number old) [] = refl
  filled_cell-take (number old) (v ∷ vs) = refl
  filled_cell-take (items olds) vs = ap items (items_take olds vs)
  filled_cell-take (object fields) vs = ap object (filled-take fields vs)

  pub filled-take : (cs : Cells) (vs : List ℤ) → filled cs (take (length (numbers_of cs)) vs) ≡ filled cs vs
  filled-take no_cells vs = refl
  filled-take (more_cells c cs) vs =
      let n : ℕ = length (numbers_in c) in
      let m : ℕ = length (numbers_of cs) in
      let both : length (numbers_in c ++ numbers_of cs) ≡ n + m = length-append (numbers_in c) (numbers_of cs) in
      rw both (λ i. more_cells (filled_cell c (take_of_more n m vs i))
      ((ap (filled cs) (drop_of_more n m vs) ∙ filled-take cs (drop n vs)) i))

-- ---- the fields of one struct
module _ (layouts : List StructLayout) (zeros : List Cells) (sized : (k : ℕ) →
    (layout_at layouts k).size ≡ length (numbers_of (slice_index_or zeros k no_cells))) where
  size_is : (k : FieldKind) → kind_size layouts k ≡ length (numbers_in (zero_cell zeros k))
  size_is (kind.Number type) = refl
  size_is (kind.Array type count) = sym (length-replicate count (pos 0))
  size_is (kind.Struct k) = sized k

  pub read_own : (at : ℕ) (s : List ℤ) (fields : List FieldTree) (f : ℕ) →
      number_at (filled (zero_cells zeros fields) (drop at s)) f
      ≡ number_in s (slice_get (slots_from layouts at fields) f)
  read_own at s [] f = refl
  read_own at s (x ∷ fields) zero = here x.kind
    where
      here : (k : FieldKind) →
          cell_value (filled_cell (zero_cell zeros k) (take (length (numbers_in (zero_cell zeros k))) (drop at s)))
          ≡ number_in s (Some (slot_of layouts at k))
      here (kind.Number type) = first_is s at
      here (kind.Array type count) = refl
      here (kind.Struct k) = refl
  read_own at s (x ∷ fields) (suc f) =
      ap (λ b. number_at (filled (zero_cells zeros fields) b) f) (ap (λ n. drop n (drop at s)) (sym (size_is x.kind))
      ∙ drop_more at (kind_size layouts x.kind) s) ∙ read_own (at + kind_size layouts x.kind) s fields f

  -- the fields of the instance at a place
  abbrev pub child_cells : List ℤ → Option Slot → Cells
  child_cells s None = no_cells
  child_cells s (Some (Number at type)) = no_cells
  child_cells s (Some (Array at count type)) = no_cells
  child_cells s (Some (Instance at size of)) = filled (slice_index_or zeros of no_cells) (take (layout_at layouts of).size (drop at s))

  read_child : (at : ℕ) (s : List ℤ) (fields : List FieldTree) (f : ℕ) →
      fields_at (filled (zero_cells zeros fields) (drop at s)) f
      ≡ child_cells s (slice_get (slots_from layouts at fields) f)
  read_child at s [] f = refl
  read_child at s (x ∷ fields) zero = here x.kind
    where
      here : (k : FieldKind) →
          cell_fields (filled_cell (zero_cell zeros k) (take (length (numbers_in (zero_cell zeros k))) (drop at s)))
          ≡ child_cells s (Some (slot_of layouts at k))
      here (kind.Number type) = at_number (take 1 (drop at s))
        where
          at_number : (vs : List ℤ) → cell_fields (with_first (number (pos 0)) vs) ≡ no_cells
          at_number [] = refl
          at_number (v ∷ vs) = refl
      here (kind.Array type count) = refl
      here (kind.Struct k) = ap (λ n. filled (slice_index_or zeros k no_cells) (take n (drop at s))) (sym (sized k))
  read_child at s (x ∷ fields) (suc f) =
      ap (λ b. fields_at (filled (zero_cells zeros fields) b) f) (ap (λ n. drop n (drop at s)) (sym (size_is x.kind))
      ∙ drop_more at (kind_size layouts x.kind) s) ∙ read_child (at + kind_size layouts x.kind) s fields f

  -- the items of the array at a place
  read_array : (at : ℕ) (s : List ℤ) (fields : List FieldTree) (f : ℕ) →
      items_at (filled (zero_cells zeros fields) (drop at s)) f
      ≡ items_in s (slice_get (slots_from layouts at fields) f)
  read_array at s [] f = refl
  read_array at s (x ∷ fields) zero = here x.kind
    where
      here : (k : FieldKind) →
          cell_items (filled_cell (zero_cell zeros k) (take (length (numbers_in (zero_cell zeros k))) (drop at s)))
          ≡ items_in s (Some (slot_of layouts at k))
      here (kind.Number type) = at_number (take 1 (drop at s))
        where
          at_number : (vs : List ℤ) → cell_items (with_first (number (pos 0)) vs) ≡ []
          at_number [] = refl
          at_number (v ∷ vs) = refl
      here (kind.Array type count) = items_take (replicate count (pos 0)) (drop at s)
      here (kind.Struct k) = refl
  read_array at s (x ∷ fields) (suc f) =
      ap (λ b. items_at (filled (zero_cells zeros fields) b) f) (ap (λ n. drop n (drop at s)) (sym (size_is x.kind))
      ∙ drop_more at (kind_size layouts x.kind) s) ∙ read_array (at + kind_size layouts x.kind) s fields f

  -- where a field begins
  abbrev pub offset : List FieldTree → ℕ → ℕ
  offset [] f = 0
  offset (x ∷ fields) zero = 0
  offset (x ∷ fields) (suc f) = kind_size layouts x.kind + offset fields f

  pub slot_at : (at : ℕ) (fields : List FieldTree) (f : ℕ) (x : FieldTree) → slice_get fields f ≡ Some x →
      slice_get (slots_from layouts at fields) f ≡ Some (slot_of layouts (at + offset fields f) x.kind)
  slot_at at [] f x there = absurd (cc)
  slot_at at (y ∷ fields) zero x there = let e : y ≡ x = cc in λ i. Some (slot_of layouts (sym (add-zero at) i) (e i).kind)
  slot_at at (y ∷ fields) (suc f) x there = slot_at (at + kind_size layouts y.kind) fields f x there
      ∙ ap (λ n. Some (slot_of layouts n x.kind)) (plus at (kind_size layouts y.kind) (offset fields f))
    where
      plus : (a b c : ℕ) → a + b + c ≡ a + (b + c)
      plus a b c = omega arith

  pub end_above : (at : ℕ) (fields : List FieldTree) → at ≤ end_of layouts at fields
  end_above at [] = omega arith
  end_above at (y ∷ fields) = omega (arith, end_above (at + kind_size layouts y.kind) fields)

  pub inside : (at : ℕ) (fields : List FieldTree) (f : ℕ) (x : FieldTree) → slice_get fields f ≡ Some x →
      at + (offset fields f + kind_size layouts x.kind) ≤ end_of layouts at fields
  inside at [] f x there = absurd (cc)
  inside at (y ∷ fields) zero x there = let e : y ≡ x = cc in let d : kind_size layouts y.kind
      ≡ kind_size layouts x.kind = λ i. kind_size layouts (e i).kind in
      omega (arith, end_above (at + kind_size layouts y.kind) fields)
  inside at (y ∷ fields) (suc f) x there = omega (arith, inside (at + kind_size layouts y.kind) fields f x there)

  -- the fields end where their numbers do
  pub end_is : (at : ℕ) (fields : List FieldTree) → end_of layouts at fields ≡ at + length (numbers_of (zero_cells zeros fields))
  end_is at [] = omega arith
  end_is at (y ∷ fields) =
      omega (
        arith,
        end_is (at + kind_size layouts y.kind) fields,
        size_is y.kind,
        length-append (numbers_in (zero_cell zeros y.kind)) (numbers_of (zero_cells zeros fields)),
      )

  -- a field's numbers are replaced
  pub put_field : (fields : List FieldTree) (f : ℕ) (x : FieldTree) (b t : List ℤ) → slice_get fields f ≡ Some x →
      length t ≡ kind_size layouts x.kind → length (numbers_of (zero_cells zeros fields)) ≤ length b →
      set_cell (filled (zero_cells zeros fields) b) f (filled_cell (zero_cell zeros x.kind) t)
      ≡ filled (zero_cells zeros fields)
      (take (offset fields f) b ++ (t ++ drop (offset fields f + kind_size layouts x.kind) b))
  put_field [] f x b t there size room = absurd (cc)
  put_field (y ∷ fields) zero x b t there size room =
      let e : y ≡ x = cc in
      let d : zero_cell zeros y.kind ≡ zero_cell zeros x.kind = λ i. zero_cell zeros (e i).kind in
      let n : ℕ = length (numbers_in (zero_cell zeros y.kind)) in
      let k : n ≡ kind_size layouts x.kind = sym (size_is y.kind) ∙ (λ i. kind_size layouts (e i).kind) in
      let h : length t ≡ n = size ∙ sym k in
      let r : List ℤ = drop (0 + kind_size layouts x.kind) b in
      let to_r : drop n b ≡ r = ap (λ m. drop m b) (k ∙ sym (zero-add (kind_size layouts x.kind))) in
      λ i. more_cells (filled_cell (sym d i) (sym (take_front n t r h) i))
      (filled (zero_cells zeros fields) ((to_r ∙ sym (drop_front n t r h)) i))
  put_field (y ∷ fields) (suc f) x b t there size room =
      let zs : Cells = zero_cells zeros fields in
      let c : Cell = zero_cell zeros y.kind in
      let n : ℕ = length (numbers_in c) in
      let o : ℕ = offset fields f in
      let m : ℕ = kind_size layouts x.kind in
      let k : kind_size layouts y.kind ≡ n = size_is y.kind in
      let fits : n + length (numbers_of zs) ≤ length b = omega (arith, room, length-append (numbers_in c) (numbers_of zs)) in
      let left : length (drop n b) + n ≡ length b = length_dropped n b (omega arith) in
      let r : List ℤ = take o (drop n b) ++ (t ++ drop (o + m) (drop n b)) in
      let h : length (take n b) ≡ n = length_taken n b (omega arith) in
      let before : take (kind_size layouts y.kind + o) b ≡ take n b ++ take o (drop n b) =
      ap (λ j. take (j + o) b) k ∙ sym (take_more n o b) in
      let plus : kind_size layouts y.kind + o + m ≡ n + (o + m) = omega arith in
      let after : drop (kind_size layouts y.kind + o + m) b ≡ drop (o + m) (drop n b) =
      ap (λ j. drop j b) plus ∙ sym (drop_more n (o + m) b) in
      let all : take (kind_size layouts y.kind + o) b ++ (t ++ drop (kind_size layouts y.kind + o + m) b)
      ≡ take n b ++ r = (λ i. before i ++ (t ++ after i))
      ∙ append_assoc (take n b) (take o (drop n b)) (t ++ drop (o + m) (drop n b)) in
      ap (more_cells (filled_cell c (take n b))) (put_field fields f x (drop n b) t there size (omega arith))
      ∙ (λ i. more_cells (filled_cell c (sym (take_front n (take n b) r h) i))
      (filled zs (sym (drop_front n (take n b) r h) i))) ∙ ap (filled (more_cells c zs)) (sym all)

-- ---- the structs of a program
module _ (structs : List StructTree) (layouts : List StructLayout) (zeros : List Cells) (laid : AreLaidOut structs layouts zeros) where
  -- what a leaf reads
  pub own_is : (of : ℕ) (s : List ℤ) (f : ℕ) →
      number_at (filled (slice_index_or zeros of no_cells) s) f ≡ number_in s (slice_get (layout_at layouts of).slots f)
  own_is of s f =
      ap (λ z. number_at (filled z s) f) (laid.zero_is of)
      ∙ read_own layouts zeros laid.sized 0 s (struct_fields structs of) f
      ∙ ap (λ t. number_in s (slice_get t f)) (sym (laid.slots_are of))

  whole : (k : ℕ) (b : List ℤ) → filled (slice_index_or zeros k no_cells) (take (layout_at layouts k).size b) ≡ filled
      (slice_index_or zeros k no_cells) b
  whole k b = ap (λ n. filled (slice_index_or zeros k no_cells) (take n b)) (laid.sized k) ∙ filled-take (slice_index_or zeros k no_cells) b

  pub under_is : (of : ℕ) (s : List ℤ) (f g : ℕ) →
      number_at (fields_at (filled (slice_index_or zeros of no_cells) s) f) g
      ≡ number_under layouts s (slice_get (layout_at layouts of).slots f) g
  under_is of s f g =
      ap (λ z. number_at (fields_at (filled z s) f) g) (laid.zero_is of)
      ∙ ap (λ z. number_at z g) (read_child layouts zeros laid.sized 0 s (struct_fields structs of) f
      ∙ ap (λ t. child_cells layouts zeros laid.sized s (slice_get t f)) (sym (laid.slots_are of)))
      ∙ at_slot (slice_get (layout_at layouts of).slots f)
    where
      at_slot : (slot : Option Slot) → number_at (child_cells layouts zeros laid.sized s slot) g ≡ number_under layouts s slot g
      at_slot None = refl
      at_slot (Some (Number at type)) = refl
      at_slot (Some (Array at count type)) = refl
      at_slot (Some (Instance at size k)) = ap (λ z. number_at z g) (whole k (drop at s)) ∙ own_is k (drop at s) g

  -- what an array holds
  pub array_is : (of : ℕ) (s : List ℤ) (f : ℕ) →
      items_at (filled (slice_index_or zeros of no_cells) s) f ≡ items_in s (slice_get (layout_at layouts of).slots f)
  array_is of s f =
      ap (λ z. items_at (filled z s) f) (laid.zero_is of)
      ∙ read_array layouts zeros laid.sized 0 s (struct_fields structs of) f
      ∙ ap (λ t. items_in s (slice_get t f)) (sym (laid.slots_are of))

  -- the fields of the instance in a field
  pub child_is : (of : ℕ) (s : List ℤ) (f from size inner : ℕ) →
      slice_get (layout_at layouts of).slots f ≡ Some (Instance from size inner) →
      fields_at (filled (slice_index_or zeros of no_cells) s) f
      ≡ filled (slice_index_or zeros inner no_cells) (drop from s)
  child_is of s f from size inner found =
      ap (λ z. fields_at (filled z s) f) (laid.zero_is of)
      ∙ read_child layouts zeros laid.sized 0 s (struct_fields structs of) f
      ∙ ap (λ t. child_cells layouts zeros laid.sized s (slice_get t f)) (sym (laid.slots_are of))
      ∙ ap (child_cells layouts zeros laid.sized s) found ∙ whole inner (drop from s)

  count_is : (of : ℕ) → (layout_at layouts of).size ≡ length (numbers_of (zero_cells zeros (struct_fields structs of)))
  count_is of = laid.sized of ∙ ap (λ z. length (numbers_of z)) (laid.zero_is of)

  ends : (of : ℕ) → end_of layouts 0 (struct_fields structs of) ≡ (layout_at layouts of).size
  ends of = end_is layouts zeros laid.sized 0 (struct_fields structs of) ∙ zero-add _ ∙ sym (count_is of)

  pub slot_there : (of f : ℕ) (x : FieldTree) → slice_get (struct_fields structs of) f ≡ Some x →
      slice_get (layout_at layouts of).slots f
      ≡ Some (slot_of layouts (0 + offset layouts zeros laid.sized (struct_fields structs of) f) x.kind)
  slot_there of f x there = ap (λ t. slice_get t f) (laid.slots_are of)
      ∙ slot_at layouts zeros laid.sized 0 (struct_fields structs of) f x there

  -- numbers written into a field
  put_there : (of f : ℕ) (x : FieldTree) (s t : List ℤ) → slice_get (struct_fields structs of) f ≡ Some x →
      length t ≡ kind_size layouts x.kind → length s ≡ (layout_at layouts of).size →
      set_cell (filled (slice_index_or zeros of no_cells) s) f (filled_cell (zero_cell zeros x.kind) t)
      ≡ filled (slice_index_or zeros of no_cells) (take (offset layouts zeros laid.sized (struct_fields structs of) f) s
      ++ (t ++ drop (offset layouts zeros laid.sized (struct_fields structs of) f + kind_size layouts x.kind) s))
  put_there of f x s t there size room =
      subst (λ (z : Cells). set_cell (filled z s) f (filled_cell (zero_cell zeros x.kind) t)
      ≡ filled z (take (offset layouts zeros laid.sized (struct_fields structs of) f) s
      ++ (t ++ drop (offset layouts zeros laid.sized (struct_fields structs of) f + kind_size layouts x.kind) s)))
      (sym (laid.zero_is of)) (put_field layouts zeros laid.sized (struct_fields structs of) f x s t there size
      (let c = count_is of in omega arith))

  -- a number field, and what a store in it does
  pub record StoresAt (of f : ℕ) (s : List ℤ) (at : ℕ) (type : CType) : Type 0 where
    pub within : at < length s
    pub typed : type_at (field_types (struct_fields structs of)) f ≡ type
    pub stored : (v : ℤ) →
        set_cell (filled (slice_index_or zeros of no_cells) s) f (number v)
        ≡ filled (slice_index_or zeros of no_cells) (set s at v)

  types_at : (fields : List FieldTree) (f : ℕ) (x : FieldTree) → slice_get fields f ≡ Some x →
      type_at (field_types fields) f ≡ kind_type x.kind
  types_at [] f x there = absurd (cc)
  types_at (y ∷ fields) zero x there = let e : y ≡ x = cc in λ i. kind_type (e i).kind
  types_at (y ∷ fields) (suc f) x there = types_at fields f x there

  pub store_at : (of f : ℕ) (x : FieldTree) (k : CType) (s : List ℤ) (at : ℕ) (type : CType) →
      slice_get (struct_fields structs of) f ≡ Some x → x.kind ≡ kind.Number k →
      length s ≡ (layout_at layouts of).size → slice_get (layout_at layouts of).slots f ≡ Some (Number at type) →
      StoresAt of f s at type
  store_at of f x k s at type there is room found =
      let o : ℕ = offset layouts zeros laid.sized (struct_fields structs of) f in
      let both : Some (slot_of layouts (0 + o) (kind.Number k)) ≡ Some (Number at type) =
      (λ i. Some (slot_of layouts (0 + o) (sym is i))) ∙ sym (slot_there of f x there) ∙ found in
      let same : 0 + o ≡ at = cc in
      let alike : k ≡ type = cc in
      let one : kind_size layouts x.kind ≡ 1 = λ i. kind_size layouts (is i) in
      let e = ends of in
      let far = inside layouts zeros laid.sized 0 (struct_fields structs of) f x there in
      let at_is : o ≡ at = sym (zero-add o) ∙ same in
      let within : at < length s = omega arith in
      let put : (v : ℤ) →
      set_cell (filled (slice_index_or zeros of no_cells) s) f (filled_cell (zero_cell zeros x.kind) (v ∷ []))
      ≡ filled (slice_index_or zeros of no_cells) (take o s ++ (v ∷ [] ++ drop (o + kind_size layouts x.kind) s)) =
      λ v. put_there of f x s (v ∷ []) there (sym one) room in
      record {
        within = within;
        typed = types_at (struct_fields structs of) f x there ∙ (λ i. kind_type (is i)) ∙ alike;
        stored =
            λ v. (λ i. set_cell (filled (slice_index_or zeros of no_cells) s) f
            (filled_cell (zero_cell zeros (sym is i)) (v ∷ []))) ∙ put v
            ∙ (λ i. filled (slice_index_or zeros of no_cells)
            (take (at_is i) s ++ (v ∷ [] ++ drop (at_is i + one i) s)))
            ∙ ap (filled (slice_index_or zeros of no_cells)) (set_is s at v within);
      }

  -- an array, and what a store in an item does
  pub record StoresItem (of f : ℕ) (s : List ℤ) (at count : ℕ) (type : CType) : Type 0 where
    pub within : at + count ≤ length s
    pub typed : type_at (field_types (struct_fields structs of)) f ≡ type
    pub counted : length (items_at (filled (slice_index_or zeros of no_cells) s) f) ≡ count
    pub stored : (i : ℕ) (v : ℤ) → i < count →
        set_cell (filled (slice_index_or zeros of no_cells) s) f
        (items (set_item (items_at (filled (slice_index_or zeros of no_cells) s) f) i v))
        ≡ filled (slice_index_or zeros of no_cells) (set s (at + i) v)

  pub item_at : (of f : ℕ) (x : FieldTree) (k : CType) (many : ℕ) (s : List ℤ) (at count : ℕ) (type : CType) →
      slice_get (struct_fields structs of) f ≡ Some x → x.kind ≡ kind.Array k many →
      length s ≡ (layout_at layouts of).size → slice_get (layout_at layouts of).slots f ≡ Some (Array at count type) →
      StoresItem of f s at count type
  item_at of f x k many s at count type there is room found =
      let o : ℕ = offset layouts zeros laid.sized (struct_fields structs of) f in
      let z : Cells = slice_index_or zeros of no_cells in
      let both : Some (slot_of layouts (0 + o) (kind.Array k many)) ≡ Some (Array at count type) =
      (λ i. Some (slot_of layouts (0 + o) (sym is i))) ∙ sym (slot_there of f x there) ∙ found in
      let same : 0 + o ≡ at = cc in
      let count_is : many ≡ count = cc in
      let alike : k ≡ type = cc in
      let size_here : kind_size layouts x.kind ≡ count = (λ i. kind_size layouts (is i)) ∙ count_is in
      let e = ends of in
      let far = inside layouts zeros laid.sized 0 (struct_fields structs of) f x there in
      let at_is : o ≡ at = sym (zero-add o) ∙ same in
      let within : at + count ≤ length s = omega arith in
      let zs : List ℤ = replicate count (pos 0) in
      let zs_long : length zs ≡ count = length-replicate count (pos 0) in
      let left : length (drop at s) + at ≡ length s = length_dropped at s (omega arith) in
      let zero_is : zero_cell zeros x.kind ≡ items zs = (λ i. zero_cell zeros (is i)) ∙ (λ i. items (replicate (count_is i) (pos 0))) in
      let held : items_at (filled z s) f ≡ take count (drop at s) = array_is of s f ∙ ap (items_in s) found
      ∙ items_part zs (drop at s) (omega arith) ∙ ap (λ n. take n (drop at s)) zs_long in
      record {
        within = within;
        typed = types_at (struct_fields structs of) f x there ∙ (λ i. kind_type (is i)) ∙ alike;
        counted = ap length held ∙ length_taken count (drop at s) (omega arith);
        stored = λ i v h.
            let t : List ℤ = set_item (take count (drop at s)) i v in
            let long : length t ≡ count = set_length (take count (drop at s)) i v ∙ length_taken count (drop at s) (omega arith) in
            (λ j. set_cell (filled z s) f (items (set_item (held j) i v)))
            ∙ (λ j. set_cell (filled z s) f (items (sym (items_whole zs t (long ∙ sym zs_long)) j)))
            ∙ (λ j. set_cell (filled z s) f (filled_cell (sym zero_is j) t))
            ∙ put_there of f x s t there (long ∙ sym size_here) room
            ∙ (λ j. filled z (take (at_is j) s ++ (t ++ drop (at_is j + size_here j) s)))
            ∙ ap (filled z) (set_inside at count i s v within h);
      }

  -- a field that holds an instance, and what a run in it does
  pub record HoldsAt (of f k : ℕ) (s : List ℤ) (at size struct : ℕ) : Type 0 where
    pub struct_is : struct ≡ k
    pub size_is : size ≡ (layout_at layouts k).size
    pub within : at + size ≤ length s
    pub fields_are : fields_at (filled (slice_index_or zeros of no_cells) s) f
        ≡ filled (slice_index_or zeros k no_cells) (take size (drop at s))
    pub left : (t : List ℤ) → length t ≡ size →
        set_cell (filled (slice_index_or zeros of no_cells) s) f (object (filled (slice_index_or zeros k no_cells) t))
        ≡ filled (slice_index_or zeros of no_cells) (take at s ++ (t ++ drop (at + size) s))

  pub hold_at : (of f k : ℕ) (x : FieldTree) (s : List ℤ) (at size struct : ℕ) →
      slice_get (struct_fields structs of) f ≡ Some x → x.kind ≡ kind.Struct k →
      length s ≡ (layout_at layouts of).size →
      slice_get (layout_at layouts of).slots f ≡ Some (Instance at size struct) → HoldsAt of f k s at size struct
  hold_at of f k x s at size struct there is room found =
      let o : ℕ = offset layouts zeros laid.sized (struct_fields structs of) f in
      let both : Some (slot_of layouts (0 + o) (kind.Struct k)) ≡ Some (Instance at size struct) =
      (λ i. Some (slot_of layouts (0 + o) (sym is i))) ∙ sym (slot_there of f x there) ∙ found in
      let same : 0 + o ≡ at = cc in
      let alike : (layout_at layouts k).size ≡ size = cc in
      let struct_is : k ≡ struct = cc in
      let many : kind_size layouts x.kind ≡ size = (λ i. kind_size layouts (is i)) ∙ alike in
      let e = ends of in
      let far = inside layouts zeros laid.sized 0 (struct_fields structs of) f x there in
      let at_is : o ≡ at = sym (zero-add o) ∙ same in
      let holds : fields_at (filled (slice_index_or zeros of no_cells) s) f
      ≡ child_cells layouts zeros laid.sized s (Some (Instance at size struct)) =
      ap (λ z. fields_at (filled z s) f) (laid.zero_is of)
      ∙ read_child layouts zeros laid.sized 0 s (struct_fields structs of) f
      ∙ ap (λ t. child_cells layouts zeros laid.sized s (slice_get t f)) (sym (laid.slots_are of))
      ∙ ap (child_cells layouts zeros laid.sized s) found in
      record {
        struct_is = sym struct_is;
        size_is = sym alike;
        within = omega arith;
        fields_are =
            holds ∙ (λ i. filled (slice_index_or zeros (sym struct_is i) no_cells)
            (take ((ap (λ j. (layout_at layouts j).size) (sym struct_is) ∙ alike) i) (drop at s)));
        left = λ t h.
            (λ i. set_cell (filled (slice_index_or zeros of no_cells) s) f (filled_cell (zero_cell zeros (sym is i)) t))
            ∙ put_there of f x s t there (h ∙ sym many) room
            ∙ (λ i. filled (slice_index_or zeros of no_cells) (take (at_is i) s ++ (t ++ drop (at_is i + many i) s)));
      }

pub number_there : (p : ProgramTree) (layouts : List StructLayout) (logged : List Bool) (of f : ℕ) →
    IsReady p layouts logged → IsNumberField p of f →
    (at : ℕ) × (type : CType) × (slice_get (layout_at layouts of).slots f ≡ Some (Number at type))
number_there p layouts logged of f ready h = (
  _,
  h.type,
  slot_there p.structs layouts (zeros_of p) ready.laid of f h.field h.there
      ∙ (λ i. Some (slot_of layouts (0 + offset layouts (zeros_of p) ready.laid.sized (struct_fields p.structs of) f)
      (h.kind_is i))),
)

pub array_there : (p : ProgramTree) (layouts : List StructLayout) (logged : List Bool) (of f : ℕ) →
    IsReady p layouts logged → IsArrayField p of f →
    (at count : ℕ) × (type : CType) × (slice_get (layout_at layouts of).slots f ≡ Some (Array at count type))
array_there p layouts logged of f ready h = (
  _,
  h.count,
  h.type,
  slot_there p.structs layouts (zeros_of p) ready.laid of f h.field h.there
      ∙ (λ i. Some (slot_of layouts (0 + offset layouts (zeros_of p) ready.laid.sized (struct_fields p.structs of) f)
      (h.kind_is i))),
)

pub instance_there : (p : ProgramTree) (layouts : List StructLayout) (logged : List Bool) (of f : ℕ) →
    IsReady p layouts logged → IsInstanceField p of f →
    (at size k : ℕ) × (slice_get (layout_at layouts of).slots f ≡ Some (Instance at size k))
instance_there p layouts logged of f ready h = (
  _,
  _,
  _,
  slot_there p.structs layouts (zeros_of p) ready.laid of f h.field h.there
      ∙ (λ i. Some (slot_of layouts (0 + offset layouts (zeros_of p) ready.laid.sized (struct_fields p.structs of) f)
      (h.kind_is i))),
)

-- what a store does
pub stores : (p : ProgramTree) (layouts : List StructLayout) (logged : List Bool) (of f : ℕ) (s : List ℤ) (at : ℕ)
    (type : CType) (ready : IsReady p layouts logged) → IsNumberField p of f → length s ≡ (layout_at layouts of).size →
    slice_get (layout_at layouts of).slots f ≡ Some (Number at type) →
    StoresAt p.structs layouts (zeros_of p) ready.laid of f s at type
stores p layouts logged of f s at type ready h room found =
    store_at p.structs layouts (zeros_of p) ready.laid of f h.field h.type s at type h.there h.kind_is room found

-- what a store in an item does
pub stores_item : (p : ProgramTree) (layouts : List StructLayout) (logged : List Bool) (of f : ℕ) (s : List ℤ)
    (at count : ℕ) (type : CType) (ready : IsReady p layouts logged) → IsArrayField p of f →
    length s ≡ (layout_at layouts of).size → slice_get (layout_at layouts of).slots f ≡ Some (Array at count type) →
    StoresItem p.structs layouts (zeros_of p) ready.laid of f s at count type
stores_item p layouts logged of f s at count type ready h room found =
    item_at p.structs layouts (zeros_of p) ready.laid of f h.field h.type h.count s at count type h.there h.kind_is room
    found

-- what a call in a field does
pub holds : (p : ProgramTree) (layouts : List StructLayout) (logged : List Bool) (of f : ℕ) (s : List ℤ)
    (at size struct : ℕ) (ready : IsReady p layouts logged) (h : IsInstanceField p of f) →
    length s ≡ (layout_at layouts of).size → slice_get (layout_at layouts of).slots f ≡ Some (Instance at size struct) →
    HoldsAt p.structs layouts (zeros_of p) ready.laid of f h.struct s at size struct
holds p layouts logged of f s at size struct ready h room found =
    hold_at p.structs layouts (zeros_of p) ready.laid of f h.struct h.field s at size struct h.there h.kind_is room
    found

pub part_length : (s : List ℤ) (at size : ℕ) → at + size ≤ length s → length (take (at + size - at) (drop at s)) ≡ size
part_length s at size within =
    let n : at + size - at ≡ size = omega arith in
    let left : length (drop at s) + at ≡ length s = length_dropped at s (omega arith) in
    rw n (length_taken size (drop at s) (omega arith))

-- a slice written back into its vector
pub whole_again : (old new : List ℤ) (count : ℕ) → length new ≡ length old → count ≡ length old →
    take count (new ++ drop (length new) old) ≡ new
whole_again old new count same all = take_front count new (drop (length new) old) (same ∙ sym all)
