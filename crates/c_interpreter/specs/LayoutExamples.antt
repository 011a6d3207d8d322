-- The layouts of two structs, the second of which holds the first between two numbers, and of one
-- with an array.
use Rattle.std.specs.Prelude.{◌≡◌, refl, ℤ, pos, List, [], ◌∷◌, Some, codes}
use Rattle.c_syntax.specs.declared.code.CType.TheVariants.{I8, I32}
use Rattle.c_syntax.specs.declared.program.FieldKind.TheVariants as kind
use Rattle.c_syntax.specs.Tree.{StructTree}
use Rattle.c_semantics.specs.Cells.{Cells, number, items, object, no_cells, more_cells}
use Rattle.c_interpreter.specs.declared.slots.Slot.TheVariants.{Number, Array, Instance}
use Rattle.c_interpreter.specs.Layouts.{layouts_of}
use Rattle.c_interpreter.specs.Slots.{StructLayout, number_in, number_under, items_in}
use Rattle.c_interpreter.specs.States.{filled, numbers_of}

abbrev pub pair : StructTree
pair = record {
  name = codes "pair";
  fields = record { name = codes "a"; kind = kind.Number I8 }
      ∷ record { name = codes "b"; kind = kind.Number I32 } ∷ [];
}

abbrev pub root : StructTree
root = record {
  name = codes "root";
  fields = record { name = codes "x"; kind = kind.Number I32 }
      ∷ record { name = codes "p"; kind = kind.Struct 0 }
      ∷ record { name = codes "y1"; kind = kind.Number I8 } ∷ [];
}

abbrev pub two : List StructLayout
two = layouts_of [] (pair ∷ root ∷ [])

-- four numbers: x, p.a, p.b, y1
pub two-are : two ≡ record { size = 2; slots = Number 0 I8 ∷ Number 1 I32 ∷ [] }
    ∷ record { size = 4; slots = Number 0 I32 ∷ Instance 1 2 0 ∷ Number 3 I8 ∷ [] } ∷ []
two-are = refl

abbrev pub four : List ℤ
four = pos 10 ∷ pos 20 ∷ pos 30 ∷ pos 40 ∷ []

pub y-reads : number_in four (Some (Number 3 I8)) ≡ pos 40
y-reads = refl

pub p-b-reads : number_under two four (Some (Instance 1 2 0)) 1 ≡ pos 30
p-b-reads = refl

abbrev pub zeros : Cells
zeros = more_cells (number (pos 0))
    (more_cells (object (more_cells (number (pos 0)) (more_cells (number (pos 0)) no_cells)))
    (more_cells (number (pos 0)) no_cells))

-- the fields with these numbers, and their numbers again
pub filled-four : filled zeros four
    ≡ more_cells (number (pos 10))
    (more_cells (object (more_cells (number (pos 20)) (more_cells (number (pos 30)) no_cells)))
    (more_cells (number (pos 40)) no_cells))
filled-four = refl

pub numbers-again : numbers_of (filled zeros four) ≡ four
numbers-again = refl

-- `struct ring { int32_t x; int8_t a[3]; int32_t y1; };`: an item has a place of its own
abbrev pub ring : StructTree
ring = record {
  name = codes "ring";
  fields = record { name = codes "x"; kind = kind.Number I32 }
      ∷ record { name = codes "a"; kind = kind.Array I8 3 }
      ∷ record { name = codes "y1"; kind = kind.Number I32 } ∷ [];
}

pub ring-is : layouts_of [] (ring ∷ [])
    ≡ record { size = 5; slots = Number 0 I32 ∷ Array 1 3 I8 ∷ Number 4 I32 ∷ [] } ∷ []
ring-is = refl

abbrev pub five : List ℤ
five = pos 10 ∷ pos 20 ∷ pos 30 ∷ pos 40 ∷ pos 50 ∷ []

pub a-reads : items_in five (Some (Array 1 3 I8)) ≡ pos 20 ∷ pos 30 ∷ pos 40 ∷ []
a-reads = refl

abbrev pub ring_zeros : Cells
ring_zeros =
    more_cells (number (pos 0))
    (more_cells (items (pos 0 ∷ pos 0 ∷ pos 0 ∷ [])) (more_cells (number (pos 0)) no_cells))

pub filled-five : filled ring_zeros five
    ≡ more_cells (number (pos 10))
    (more_cells (items (pos 20 ∷ pos 30 ∷ pos 40 ∷ [])) (more_cells (number (pos 50)) no_cells))
filled-five = refl

pub numbers-of-five : numbers_of (filled ring_zeros five) ≡ five
numbers-of-five = refl
