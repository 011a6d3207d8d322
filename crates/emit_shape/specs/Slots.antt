-- What the fields of a system's struct are for.
use Rattle.std.specs.Prelude.{◌≡◌, ℕ, if◌then◌else◌, List, [], ◌∷◌, ◌++◌, map, flat_map, filter, slice_get, IsPermutation, Some}
use Rattle.std.specs.List.{AllZip, AllByRecursion, enumerate_from}
use Rattle.std.specs.Prelude.{IsTrue}
use Rattle.diagram_blocks.specs.Meaning.{has_value, delay_length}
use Rattle.diagram_meaning.specs.Rows.{is_triggered}
use Rattle.modules_profile.specs.declared.ChildUse.{ChildUse}
use Rattle.modules_profile.specs.declared.LocalRow.{LocalRow}
use Rattle.modules_profile.specs.LocalSystem.{LocalSystem}
use Rattle.modules_profile.specs.Systems.{system_name}
use Rattle.modules_profile.specs.Locals.{outports}
use Rattle.c_syntax.specs.declared.CType.{CType}
use Rattle.c_syntax.specs.declared.CType.TheVariants.{I8, I32}
use Rattle.c_syntax.specs.declared.FieldKind.TheVariants.{Number, Array, Struct}
use Rattle.c_syntax.specs.Tree.{FieldTree, StructTree}
use Rattle.emit_shape.specs.Names.{container, value_name, memory_name, place_name, taken_name, trigger_name, filler_name, is_counter_name}
use Rattle.emit_shape.specs.Delays.{is_single, is_line}

-- A field: the value of a row, the memory of a delay of one sample, the array, the place and the
-- count of a delay of several, what the trigger remembers, a counter, a child at its position, or
-- the field of a struct that would be empty.
pub data Slot : Type 0 where
  value : (row : LocalRow) → Slot
  memory : (row : LocalRow) → Slot
  ring_items : (row : LocalRow) → Slot
  ring_place : (row : LocalRow) → Slot
  ring_taken : (row : LocalRow) → Slot
  trigger : Slot
  counter : (name : List ℕ) (type : CType) → Slot
  instance : (position : ℕ) (child : ChildUse) → Slot
  filler : Slot

-- the field that a slot is
abbrev pub slot_field : Slot → FieldTree
slot_field (value r) = record { name = value_name r.row; kind = Number (container r.out) }
slot_field (memory r) = record { name = memory_name r.row; kind = Number (container r.out) }
slot_field (ring_items r) =
    record { name = memory_name r.row; kind = Array (container r.out) (delay_length r.op) }
slot_field (ring_place r) = record { name = place_name r.row; kind = Number I32 }
slot_field (ring_taken r) = record { name = taken_name r.row; kind = Number I32 }
slot_field trigger = record { name = trigger_name; kind = Number I8 }
slot_field (counter name type) = record { name = name; kind = Number type }
slot_field (instance k u) = record { name = system_name u.header.row; kind = Struct k }
slot_field filler = record { name = filler_name; kind = Number I8 }

-- the names of the counters among slots
abbrev pub counters_in : List Slot → List (List ℕ)
counters_in [] = []
counters_in (counter name type ∷ slots) = name ∷ counters_in slots
counters_in (value r ∷ slots) = counters_in slots
counters_in (memory r ∷ slots) = counters_in slots
counters_in (ring_items r ∷ slots) = counters_in slots
counters_in (ring_place r ∷ slots) = counters_in slots
counters_in (ring_taken r ∷ slots) = counters_in slots
counters_in (trigger ∷ slots) = counters_in slots
counters_in (instance k u ∷ slots) = counters_in slots
counters_in (filler ∷ slots) = counters_in slots

-- the three slots of a delay of several samples
abbrev pub ring_slots : LocalRow → List Slot
ring_slots r = ring_items r ∷ ring_place r ∷ ring_taken r ∷ []

-- the slots of a system, except for counters and the filler
abbrev pub own_slots : LocalSystem → List Slot
own_slots local =
    map value (filter (λ r. has_value r.kind) local.rows)
    ++ map memory (filter (λ r. is_single r.op) local.rows)
    ++ flat_map ring_slots (filter (λ r. is_line r.op) local.rows)
    ++ (if is_triggered local.control then trigger ∷ [] else [])
    ++ map (λ e. instance e.0 e.1) (enumerate_from 0 local.children)

-- where there is no other field there is the filler
abbrev pub or_filler : List Slot → List Slot
or_filler [] = filler ∷ []
or_filler (s ∷ slots) = s ∷ slots

-- a counter of its name
pub record CounterField : Type 0 where
  pub name : List ℕ
  pub type : CType

-- the slots of a system's struct are, in some order, its own and counters, or the filler
pub record AreSlots (local : LocalSystem) (slots : List Slot) : Type 0 where
  pub counters : List CounterField
  pub named : AllByRecursion (λ c. IsTrue (is_counter_name c.name)) counters
  pub all : IsPermutation (or_filler (own_slots local ++ map (λ c. counter c.name c.type) counters))
      slots

-- the struct has these slots as its fields
abbrev pub IsStructOf : LocalSystem → List Slot → StructTree → Type 0
IsStructOf local slots struct =
    struct ≡ record { name = system_name local.row; fields = map slot_field slots }

-- these are, by port, the positions of the outputs' values
abbrev pub AreOutputPlaces : LocalSystem → List Slot → List ℕ → Type 0
AreOutputPlaces local slots places =
    AllZip (λ o k. slice_get slots k ≡ Some (value o)) (outports local) places
