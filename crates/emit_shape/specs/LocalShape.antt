-- The shape of a system's code by itself.
use Rattle.std.specs.Prelude.{◌≡◌, ℕ, not, true, List, [], ◌++◌, map, filter, flat_map, slice_get, slice_index_or, IsPermutation, length, unwrap_or, bytes_eq}
use Rattle.std.specs.Option.{option_map_or}
use Rattle.std.specs.List.{AllByRecursion, position_from, range_with_len}
use Rattle.modules_profile.specs.LocalSystem.{LocalSystem}
use Rattle.modules_profile.specs.SystemProfile.{SystemProfile}
use Rattle.modules_profile.specs.Systems.{system_name}
use Rattle.modules_profile.specs.Headers.{given_rows}
use Rattle.modules_profile.specs.Locals.{own_header, outports}
use Rattle.emit_shape.specs.Names.{value_name, out_name}
use Rattle.emit_shape.specs.Heads.{Head, head_of, public_heads}
use Rattle.emit_shape.specs.SystemTree.{SystemTree}
use Rattle.emit_shape.specs.CodeNames.{CodeNames}
use Rattle.emit_shape.specs.Rules.{KeepsRules}
use Rattle.emit_shape.specs.Once.{StatesOnce}
use Rattle.emit_shape.specs.Stored.{stored_names, has_stored}
use Rattle.emit_shape.specs.Used.{AreUsed}
use Rattle.emit_shape.specs.Slots.{Slot, value, memory, ring_items, ring_place, ring_taken, trigger, counter, instance, filler, slot_field, counters_in, AreSlots, IsStructOf, AreOutputPlaces}

abbrev pub no_head : Head
no_head = record { name = []; private = true; params = [] }

-- the heads that a system's code can call: its own, and then those of each child in order
abbrev pub callable : LocalSystem → SystemTree → List Head
callable local code =
    map head_of code.procedures ++ flat_map (λ u. public_heads u.header) local.children

-- the name of the field of a slot
abbrev pub slot_name : Slot → List ℕ
slot_name s = (slot_field s).name

-- the name of an output's field in the child of a slot; no other slot has fields
abbrev pub output_in : ℕ → Slot → List ℕ
output_in o (instance k u) = option_map_or (λ e. value_name e.0) (slice_get u.header.outputs o) []
output_in o _ = []

-- what positions stand for in a system's code by itself
abbrev pub local_names : LocalSystem → List Slot → SystemTree → CodeNames
local_names local slots code = record {
  own = λ f. option_map_or slot_name (slice_get slots f) [];
  inner = λ f o. option_map_or (output_in o) (slice_get slots f) [];
  struct = λ k. option_map_or (λ u. system_name u.header.row) (slice_get local.children k) [];
  callee = λ k. slice_index_or (callable local code) k no_head;
}

-- the own fields that each procedure stores, itself or through private ones
abbrev pub local_stored : LocalSystem → List Slot → SystemTree → List (List (List ℕ))
local_stored local slots code =
    stored_names (λ k. (slice_index_or (callable local code) k no_head).private)
    (λ q f. (local_names local slots code).own f) [] code.procedures

-- the position of the own procedure with a name
abbrev pub own_position : SystemTree → List ℕ → ℕ
own_position code name = unwrap_or (position_from (λ q. bytes_eq q.name name) 0 code.procedures) 0

-- the Outports whose values the procedure at a position stores
abbrev pub outputs_stored : LocalSystem → List Slot → SystemTree → ℕ → List ℕ
outputs_stored local slots code k =
    map (λ o. o.row) (filter (λ o. has_stored (local_stored local slots code) k (value_name o.row))
    (outports local))

-- The shape of a system's code: its struct, its public procedures with what each gives, what all
-- procedures touch, and that none of its own is idle.
pub record HasLocalShape (local : LocalSystem) (profile : SystemProfile) (slots : List Slot)
    (code : SystemTree) : Type 0 where
  pub slots_right : AreSlots local slots
  pub structure : IsStructOf local slots code.structure
  pub places : AreOutputPlaces local slots code.outputs
  pub heads : IsPermutation (public_heads (own_header local profile))
      (filter (λ h. not h.private) (map head_of code.procedures))
  pub gives : AllByRecursion
      (λ j. outputs_stored local slots code (own_position code (out_name local.row j))
      ≡ given_rows (own_header local profile) j) (range_with_len 1 (length profile.functions))
  pub rules : AllByRecursion (KeepsRules (local_names local slots code) local (counters_in slots))
      code.procedures
  pub once : StatesOnce (local_names local slots code) local code.procedures
  pub used : AreUsed (local_names local slots code) (counters_in slots) code.procedures
