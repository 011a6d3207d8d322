-- Instances all of whose numbers are 0.
use Rattle.std.proofs.Common.{◌≡◌, refl, sym, ◌∙◌, ap, ℕ, zero, suc, ℤ, pos, List, [], ◌∷◌, ◌++◌, length, take, drop, replicate, slice_index_or}
use Rattle.std.specs.List.{AllByRecursion}
use Rattle.c_syntax.specs.declared.program.FieldKind.{FieldKind}
use Rattle.c_syntax.specs.declared.program.FieldKind.TheVariants as kind
use Rattle.c_syntax.specs.Tree.{FieldTree, StructTree}
use Rattle.c_semantics.specs.Cells.{Cell, number, items, object, Cells, no_cells, more_cells, zero_cell, zero_cells, zero_instances}
use Rattle.c_interpreter.specs.States.{numbers_in, filled_items, filled_cell, filled}

abbrev AllZero : List ℤ → Type 0
AllZero vs = AllByRecursion (λ v. v ≡ pos 0) vs

abbrev mutual
  IsZeroCell : Cell → Type 0
  IsZeroCell (number value) = value ≡ pos 0
  IsZeroCell (items values) = AllZero values
  IsZeroCell (object fields) = AreZero fields

  AreZero : Cells → Type 0
  AreZero no_cells = Unit {0}
  AreZero (more_cells c cs) = IsZeroCell c × AreZero cs

taken : (n : ℕ) (vs : List ℤ) → AllZero vs → AllZero (take n vs)
taken zero vs all = tt
taken (suc n) [] all = tt
taken (suc n) (v ∷ vs) all = (all.0, taken n vs all.1)

dropped : (n : ℕ) (vs : List ℤ) → AllZero vs → AllZero (drop n vs)
dropped zero vs all = all
dropped (suc n) [] all = tt
dropped (suc n) (v ∷ vs) all = dropped n vs all.1

filled_items-zero : (xs vs : List ℤ) → AllZero xs → AllZero vs → filled_items xs vs ≡ xs
filled_items-zero [] vs h all = refl
filled_items-zero (x ∷ xs) [] h all = refl
filled_items-zero (x ∷ xs) (v ∷ vs) h all = λ i. (all.0 ∙ sym h.0) i ∷ filled_items-zero xs vs h.1 all.1 i

mutual
  filled_cell-zero : (c : Cell) (vs : List ℤ) → IsZeroCell c → AllZero vs → filled_cell c vs ≡ c
  filled_cell-zero (number value) [] h all = refl
  filled_cell-zero (number value) (v ∷ vs) h all = ap number (all.0 ∙ sym h)
  filled_cell-zero (items values) vs h all = ap items (filled_items-zero values vs h all)
  filled_cell-zero (object fields) vs h all = ap object (filled-zero fields vs h all)

  filled-zero : (cs : Cells) (vs : List ℤ) → AreZero cs → AllZero vs → filled cs vs ≡ cs
  filled-zero no_cells vs h all = refl
  filled-zero (more_cells c cs) vs h all =
      λ i. more_cells
      (filled_cell-zero c (take (length (numbers_in c)) vs) h.0 (taken (length (numbers_in c)) vs all) i)
      (filled-zero cs (drop (length (numbers_in c)) vs) h.1 (dropped (length (numbers_in c)) vs all) i)

zeros : (n : ℕ) → AllZero (replicate n (pos 0))
zeros zero = tt
zeros (suc n) = (refl, zeros n)

zero-at : (zs : List Cells) (k : ℕ) → AllByRecursion AreZero zs → AreZero (slice_index_or zs k no_cells)
zero-at [] k all = tt
zero-at (z ∷ zs) zero all = all.0
zero-at (z ∷ zs) (suc k) all = zero-at zs k all.1

zero_cells-zero : (zs : List Cells) (fields : List FieldTree) → AllByRecursion AreZero zs → AreZero (zero_cells zs fields)
zero_cells-zero zs [] all = tt
zero_cells-zero zs (f ∷ fs) all = (here f.kind, zero_cells-zero zs fs all)
  where
    here : (k : FieldKind) → IsZeroCell (zero_cell zs k)
    here (kind.Number type) = refl
    here (kind.Array type count) = zeros count
    here (kind.Struct k) = zero-at zs k all

zero-more : (zs : List Cells) (z : Cells) → AllByRecursion AreZero zs → AreZero z → AllByRecursion AreZero (zs ++ z ∷ [])
zero-more [] z all h = (h, tt)
zero-more (y ∷ zs) z all h = (all.0, zero-more zs z all.1 h)

zero-all : (zs : List Cells) (ss : List StructTree) → AllByRecursion AreZero zs → AllByRecursion AreZero (zero_instances zs ss)
zero-all zs [] all = all
zero-all zs (s ∷ ss) all =
    zero-all (zs ++ zero_cells zs s.fields ∷ []) ss
    (zero-more zs (zero_cells zs s.fields) all (zero_cells-zero zs s.fields all))

-- numbers that are all 0 are those of an instance of zeros
pub filled_zeros : (ss : List StructTree) (of n : ℕ) →
    filled (slice_index_or (zero_instances [] ss) of no_cells) (replicate n (pos 0))
    ≡ slice_index_or (zero_instances [] ss) of no_cells
filled_zeros ss of n =
    filled-zero (slice_index_or (zero_instances [] ss) of no_cells) (replicate n (pos 0))
    (zero-at (zero_instances [] ss) of (zero-all [] ss tt)) (zeros n)
