-- Where the numbers of an instance are, in the order of its fields.
use Rattle.std.specs.Prelude.{ℕ, ℤ, pos, List, [], drop, replicate, Option, Some, None, slice_get, slice_index_or}
use Rattle.base_core.specs.Numbers.{int_at}
use Rattle.c_interpreter.specs.declared.slots.Slot.{Slot}
use Rattle.c_interpreter.specs.declared.slots.Slot.TheVariants.{Number, Array, Instance}
use Rattle.c_interpreter.specs.States.{filled_items}

-- a struct: how many numbers an instance has, and where each field is in it
pub record StructLayout : Type 0 where
  pub size : ℕ
  pub slots : List Slot

-- what is past the end of a list
abbrev pub no_layout : StructLayout
no_layout = record { size = 0; slots = [] }

-- the struct at a position
abbrev pub layout_at : List StructLayout → ℕ → StructLayout
layout_at layouts k = slice_index_or layouts k no_layout

-- the number that a field holds, and 0 where it holds none
abbrev pub number_in : List ℤ → Option Slot → ℤ
number_in numbers None = pos 0
number_in numbers (Some (Number at type)) = int_at numbers at
number_in numbers (Some (Array at count type)) = pos 0
number_in numbers (Some (Instance at size of)) = pos 0

-- the number that a field of a field holds
abbrev pub number_under : List StructLayout → List ℤ → Option Slot → ℕ → ℤ
number_under layouts numbers None g = pos 0
number_under layouts numbers (Some (Number at type)) g = pos 0
number_under layouts numbers (Some (Array at count type)) g = pos 0
number_under layouts numbers (Some (Instance at size of)) g =
    number_in (drop at numbers) (slice_get (layout_at layouts of).slots g)

-- the items of the array that a field is, and none where it is no array
abbrev pub items_in : List ℤ → Option Slot → List ℤ
items_in numbers None = []
items_in numbers (Some (Number at type)) = []
items_in numbers (Some (Array at count type)) =
    filled_items (replicate count (pos 0)) (drop at numbers)
items_in numbers (Some (Instance at size of)) = []
