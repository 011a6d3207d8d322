-- What the fields of a system's struct are for.
use Rattle.std.specs.Prelude.{◌≡◌, ℕ, suc, List, [], ◌∷◌, ◌++◌, map, Contains, IsTrue, refl}
use Rattle.std.specs.List.{AllByRecursion}
use Rattle.std.proofs.Common.{ap}
use Rattle.modules_profile.specs.LocalSystem.{LocalSystem}
use Rattle.modules_schedule.specs.SystemSchedule.{SystemSchedule}
use Rattle.c_syntax.specs.declared.CType.TheVariants.{U8}
use Rattle.emit_shape.specs.Names.{counter_name, is_counter_name}
use Rattle.emit_shape.specs.Slots.{Slot, counter, CounterField, own_slots, or_filler, AreSlots}
use Rattle.right_relation.proofs.lemmas.SlotMembers.{SlotIs, slot-is}
use Rattle.emit_system_spec.specs.Fields.{shared_groups, counter_slot, code_slots}

abbrev counter_of : ℕ → CounterField
counter_of g = record { name = counter_name (suc g); type = U8 }

all-named : (gs : List ℕ) → AllByRecursion (λ c. IsTrue (is_counter_name c.name)) (map counter_of gs)
all-named [] = tt
all-named (g ∷ gs) = (refl, all-named gs)

same-counters : (gs : List ℕ) → map counter_slot gs ≡ map (λ (c : CounterField). counter c.name c.type) (map counter_of gs)
same-counters [] = refl
same-counters (g ∷ gs) = ap (λ (slots : List Slot). counter_slot g ∷ slots) (same-counters gs)

are-slots : (local : LocalSystem) (schedule : SystemSchedule) → AreSlots local (code_slots local schedule)
are-slots local schedule = record {
  counters = map counter_of (shared_groups schedule);
  named = all-named (shared_groups schedule);
  all = record {
    moves = [];
    below = tt;
    is = ap (λ (slots : List Slot). or_filler (own_slots local ++ slots))
        (same-counters (shared_groups schedule));
  };
}

pub own-slot-is : (local : LocalSystem) (schedule : SystemSchedule) (s : Slot) → Contains (code_slots local schedule) s → SlotIs local s
own-slot-is local schedule s h = slot-is local (code_slots local schedule) (are-slots local schedule) s h
