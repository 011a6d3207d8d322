-- The slots of a system's code are its own, and counters, or the filler.
use Rattle.std.specs.Prelude.{◌≡◌, refl, ℕ, suc, List, [], ◌∷◌, ◌++◌, map, IsTrue}
use Rattle.std.specs.List.{AllByRecursion}
use Rattle.std.proofs.Common.{ap}
use Rattle.c_syntax.specs.declared.code.CType.TheVariants.{U8}
use Rattle.emit_shape.specs.Names.{counter_name, is_counter_name}
use Rattle.emit_shape.specs.Slots.{Slot, counter, CounterField, own_slots, or_filler}
use Rattle.emit_system_spec.specs.Fields.{shared_groups, counter_slot}
use Rattle.right_system_shape.specs.Formed.{SlotsAreRight, StructHasItsSlots}

abbrev counter_of : ℕ → CounterField
counter_of g = record { name = counter_name (suc g); type = U8 }

all-named : (groups : List ℕ) → AllByRecursion (λ c. IsTrue (is_counter_name c.name)) (map counter_of groups)
all-named [] = tt
all-named (g ∷ groups) = (refl, all-named groups)

same-counters : (groups : List ℕ) → map counter_slot groups ≡ map (λ (c : CounterField). counter c.name c.type) (map counter_of groups)
same-counters [] = refl
same-counters (g ∷ groups) = ap (λ (xs : List Slot). counter_slot g ∷ xs) (same-counters groups)

pub slots_are_right : SlotsAreRight
slots_are_right local schedule = record {
  counters = map counter_of (shared_groups schedule);
  named = all-named (shared_groups schedule);
  all = record {
    moves = [];
    below = tt;
    is = ap (λ (xs : List Slot). or_filler (own_slots local ++ xs))
        (same-counters (shared_groups schedule));
  };
}

pub struct_has_its_slots : StructHasItsSlots
struct_has_its_slots local profile schedule = refl
