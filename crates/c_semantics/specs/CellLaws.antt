-- What is in fields, and in an array, of which one is set.
use Rattle.std.specs.Prelude.{◌≡◌, ◌≢◌, ℕ, suc, ◌<◌, List, length, ℤ}
use Rattle.c_semantics.specs.Cells.{Cell, Cells, no_cells, more_cells, cell_at, set_cell, set_item}
use Rattle.base_core.specs.Numbers.{int_at}

-- how many fields there are
abbrev pub cells_count : Cells → ℕ
cells_count no_cells = 0
cells_count (more_cells c cs) = suc (cells_count cs)

-- A field that is set, where there is one, holds what was written there, and each other holds what it
-- held. Setting what is there changes nothing, setting again replaces, and the order in which two
-- fields are set is free.
pub record IsFieldSet (cells : Cells) (f : ℕ) (c : Cell) : Type 0 where
  pub here : f < cells_count cells → cell_at (set_cell cells f c) f ≡ c
  pub others : (g : ℕ) → f ≢ g → cell_at (set_cell cells f c) g ≡ cell_at cells g
  pub count : cells_count (set_cell cells f c) ≡ cells_count cells
  pub nothing_new : cell_at cells f ≡ c → set_cell cells f c ≡ cells
  pub again : (d : Cell) → set_cell (set_cell cells f c) f d ≡ set_cell cells f d
  pub in_any_order : (g : ℕ) (d : Cell) → f ≢ g →
      set_cell (set_cell cells f c) g d ≡ set_cell (set_cell cells g d) f c

abbrev pub FieldsAreSet : Type 0
FieldsAreSet = (cells : Cells) (f : ℕ) (c : Cell) → IsFieldSet cells f c

-- The same of an array: an item that is set is what was written there, and each other is what it was.
pub record IsItemSet (values : List ℤ) (i : ℕ) (v : ℤ) : Type 0 where
  pub here : i < length values → int_at (set_item values i v) i ≡ v
  pub others : (j : ℕ) → i ≢ j → int_at (set_item values i v) j ≡ int_at values j
  pub count : length (set_item values i v) ≡ length values
  pub nothing_new : int_at values i ≡ v → set_item values i v ≡ values

abbrev pub ItemsAreSet : Type 0
ItemsAreSet = (values : List ℤ) (i : ℕ) (v : ℤ) → IsItemSet values i v
