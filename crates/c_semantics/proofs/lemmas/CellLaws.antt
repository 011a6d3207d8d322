-- What is in fields, and in an array, of which one is set.
use Rattle.std.proofs.Common.{◌≡◌, ◌≢◌, refl, sym, ap, ℕ, zero, suc, ◌<◌, List, [], ◌∷◌, length, ℤ, arith}
use Rattle.c_semantics.specs.Cells.{Cell, Cells, no_cells, more_cells, cell_at, set_cell, set_item}
use Rattle.base_core.specs.Numbers.{int_at}
use Rattle.c_semantics.specs.CellLaws.{cells_count, FieldsAreSet, ItemsAreSet}
use Rattle.c_semantics.proofs.lemmas.Runs.{cell_at-set_cell-same, cell_at-set_cell-other}

set_count : (cells : Cells) (f : ℕ) (c : Cell) → cells_count (set_cell cells f c) ≡ cells_count cells
set_count no_cells f c = refl
set_count (more_cells b cs) zero c = refl
set_count (more_cells b cs) (suc f) c = ap suc (set_count cs f c)

set_same : (cells : Cells) (f : ℕ) (c : Cell) → cell_at cells f ≡ c → set_cell cells f c ≡ cells
set_same no_cells f c is = refl
set_same (more_cells b cs) zero c is = ap (λ d. more_cells d cs) (sym is)
set_same (more_cells b cs) (suc f) c is = ap (more_cells b) (set_same cs f c is)

set_again : (cells : Cells) (f : ℕ) (c d : Cell) → set_cell (set_cell cells f c) f d ≡ set_cell cells f d
set_again no_cells f c d = refl
set_again (more_cells b cs) zero c d = refl
set_again (more_cells b cs) (suc f) c d = ap (more_cells b) (set_again cs f c d)

set_apart : (cells : Cells) (f g : ℕ) (c d : Cell) → f ≢ g → set_cell (set_cell cells f c) g d ≡ set_cell (set_cell cells g d) f c
set_apart no_cells f g c d apart = refl
set_apart (more_cells b cs) zero zero c d apart = absurd (apart refl)
set_apart (more_cells b cs) zero (suc g) c d apart = refl
set_apart (more_cells b cs) (suc f) zero c d apart = refl
set_apart (more_cells b cs) (suc f) (suc g) c d apart = ap (more_cells b) (set_apart cs f g c d (λ e. apart (ap suc e)))

pub fields_are_set : FieldsAreSet
fields_are_set cells f c = record {
  here = cell_at-set_cell-same cells f c;
  others = λ g. cell_at-set_cell-other cells f g c;
  count = set_count cells f c;
  nothing_new = set_same cells f c;
  again = set_again cells f c;
  in_any_order = λ g. set_apart cells f g c;
}

-- ---- Arrays

item_here : (values : List ℤ) (i : ℕ) (v : ℤ) → i < length values → int_at (set_item values i v) i ≡ v
item_here [] i v within = absurd (omega (arith, within))
item_here (x ∷ xs) zero v within = refl
item_here (x ∷ xs) (suc i) v within = item_here xs i v (omega (arith, within))

item_others : (values : List ℤ) (i : ℕ) (v : ℤ) (j : ℕ) → i ≢ j → int_at (set_item values i v) j ≡ int_at values j
item_others [] i v j apart = refl
item_others (x ∷ xs) zero v zero apart = absurd (apart refl)
item_others (x ∷ xs) zero v (suc j) apart = refl
item_others (x ∷ xs) (suc i) v zero apart = refl
item_others (x ∷ xs) (suc i) v (suc j) apart = item_others xs i v j (λ e. apart (ap suc e))

item_count : (values : List ℤ) (i : ℕ) (v : ℤ) → length (set_item values i v) ≡ length values
item_count [] i v = refl
item_count (x ∷ xs) zero v = refl
item_count (x ∷ xs) (suc i) v = ap suc (item_count xs i v)

item_same : (values : List ℤ) (i : ℕ) (v : ℤ) → int_at values i ≡ v → set_item values i v ≡ values
item_same [] i v is = refl
item_same (x ∷ xs) zero v is = ap (λ y. y ∷ xs) (sym is)
item_same (x ∷ xs) (suc i) v is = ap (λ rest. x ∷ rest) (item_same xs i v is)

pub items_are_set : ItemsAreSet
items_are_set values i v = record {
  here = item_here values i v;
  others = item_others values i v;
  count = item_count values i v;
  nothing_new = item_same values i v;
}
