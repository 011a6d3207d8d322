-- A machine: its program, and the numbers of all its fields, in the order in which they are.
use Rattle.std.specs.Prelude.{List, [], ◌∷◌, ◌++◌, ℤ, take, drop, length}
use Rattle.c_semantics.specs.Cells.{Cell, number, items, object, Cells, no_cells, more_cells}
use Rattle.c_syntax.specs.Plain.{program_tree}
use Rattle.c_semantics.specs.Rows.{zero_root}
use Rattle.c_syntax.specs.Tree.{ProgramTree}
use Rattle.c_checked.specs.Checked.{CheckedProgram}

abbrev mutual
  -- the numbers of a field, and of the fields inside it
  pub numbers_in : Cell → List ℤ
  numbers_in (number value) = value ∷ []
  numbers_in (items values) = values
  numbers_in (object fields) = numbers_of fields

  -- the numbers of fields, in order
  pub numbers_of : Cells → List ℤ
  numbers_of no_cells = []
  numbers_of (more_cells c cs) = numbers_in c ++ numbers_of cs

-- the first of some numbers, in place of a field's own
abbrev pub with_first : Cell → List ℤ → Cell
with_first field [] = field
with_first field (value ∷ values) = number value

-- an array with these numbers in place of its own, in order, as far as they go
abbrev pub filled_items : List ℤ → List ℤ → List ℤ
filled_items [] values = []
filled_items (old ∷ olds) [] = old ∷ olds
filled_items (old ∷ olds) (value ∷ values) = value ∷ filled_items olds values

abbrev mutual
  -- a field with these numbers in place of its own, in order
  pub filled_cell : Cell → List ℤ → Cell
  filled_cell (number old) values = with_first (number old) values
  filled_cell (items olds) values = items (filled_items olds values)
  filled_cell (object fields) values = object (filled fields values)

  -- fields with these numbers in place of their own, in order
  pub filled : Cells → List ℤ → Cells
  filled no_cells values = no_cells
  filled (more_cells c cs) values =
      more_cells (filled_cell c (take (length (numbers_in c)) values))
      (filled cs (drop (length (numbers_in c)) values))

-- the program, and the numbers of the instance of `struct root`
pub record MachineState : Type 0 where
  pub program : CheckedProgram
  pub numbers : List ℤ

-- the plain tree of the program
abbrev pub tree_of : MachineState → ProgramTree
tree_of m = program_tree m.program.program

-- the fields of the instance of `struct root`
abbrev pub fields_of : MachineState → Cells
fields_of m = filled (zero_root (tree_of m)) m.numbers
