-- The tree of number fields and arrays that the machine works on.
use Rattle.std.specs.Prelude.{ℕ, zero, suc, ℤ, pos, List, [], ◌∷◌, ◌++◌, replicate, slice_index_or}
use Rattle.c_syntax.specs.declared.program.FieldKind.{FieldKind}
use Rattle.c_syntax.specs.declared.program.FieldKind.TheVariants.{Number, Array, Struct}
use Rattle.c_syntax.specs.Tree.{FieldTree, StructTree}

-- a field is a number, an array of numbers, or an instance of a struct with fields of its own
mutual
  -- a field
  pub data Cell : Type 0 where
    number : (value : ℤ) → Cell
    items : (values : List ℤ) → Cell
    object : (fields : Cells) → Cell

  -- the fields of an instance
  pub data Cells : Type 0 where
    no_cells : Cells
    more_cells : (first : Cell) (rest : Cells) → Cells

-- the number that a field holds, and 0 where it holds none
abbrev pub cell_value : Cell → ℤ
cell_value (number value) = value
cell_value (items values) = pos 0
cell_value (object fields) = pos 0

-- the fields of the instance that a field holds, and none where it holds no instance
abbrev pub cell_fields : Cell → Cells
cell_fields (number value) = no_cells
cell_fields (items values) = no_cells
cell_fields (object fields) = fields

-- the numbers of the array that a field holds, and none where it holds none
abbrev pub cell_items : Cell → List ℤ
cell_items (number value) = []
cell_items (items values) = values
cell_items (object fields) = []

-- the field at a position, and the number 0 past the end
abbrev pub cell_at : Cells → ℕ → Cell
cell_at no_cells i = number (pos 0)
cell_at (more_cells c cs) zero = c
cell_at (more_cells c cs) (suc i) = cell_at cs i

-- these fields with the one at a position replaced
abbrev pub set_cell : Cells → ℕ → Cell → Cells
set_cell no_cells i c = no_cells
set_cell (more_cells b cs) zero c = more_cells c cs
set_cell (more_cells b cs) (suc i) c = more_cells b (set_cell cs i c)

-- the number of the field at a position
abbrev pub number_at : Cells → ℕ → ℤ
number_at cells i = cell_value (cell_at cells i)

-- the fields of the instance at a position
abbrev pub fields_at : Cells → ℕ → Cells
fields_at cells i = cell_fields (cell_at cells i)

-- the fields of the instance at a path
abbrev pub cells_at : List ℕ → Cells → Cells
cells_at [] cells = cells
cells_at (f ∷ path) cells = cells_at path (fields_at cells f)

-- the numbers of the array at a position
abbrev pub items_at : Cells → ℕ → List ℤ
items_at cells i = cell_items (cell_at cells i)

-- these numbers with the one at a position replaced
abbrev pub set_item : List ℤ → ℕ → ℤ → List ℤ
set_item [] i v = []
set_item (x ∷ xs) zero v = v ∷ xs
set_item (x ∷ xs) (suc i) v = x ∷ set_item xs i v

-- a field all of whose numbers are 0; `earlier` has such an instance of each struct that it may
-- name
abbrev pub zero_cell : List Cells → FieldKind → Cell
zero_cell earlier (Number type) = number (pos 0)
zero_cell earlier (Array type count) = items (replicate count (pos 0))
zero_cell earlier (Struct k) = object (slice_index_or earlier k no_cells)

-- the fields of a struct, all of whose numbers are 0
abbrev pub zero_cells : List Cells → List FieldTree → Cells
zero_cells earlier [] = no_cells
zero_cells earlier (f ∷ fs) = more_cells (zero_cell earlier f.kind) (zero_cells earlier fs)

-- an instance of each struct all of whose numbers are 0; a struct holds only earlier ones
abbrev pub zero_instances : List Cells → List StructTree → List Cells
zero_instances earlier [] = earlier
zero_instances earlier (s ∷ ss) = zero_instances (earlier ++ zero_cells earlier s.fields ∷ []) ss
