-- Where the fields of a system's code are.
use Rattle.std.specs.Prelude.{◌≡◌, ℕ, zero, suc, ◌+◌, ◌<◌, ◌^◌, Bool, true, false, cond, IsTrue, nat_lt, List, [], ◌∷◌, ◌++◌, map, filter, length, slice_get, Contains, Some, bytes_eq, codes, decimal, refl, ⊤}
use Rattle.std.specs.List.{AllByRecursion, range_with_len}
use Rattle.std.proofs.Common.{sym, ap, ◌∙◌, arith}
use Rattle.std.proofs.lemmas.Fmt.{decimal_injective}
use Rattle.std.proofs.lemmas.List.{append_cancel_left}
use Rattle.std.proofs.lemmas.Option.{same_Some, none-some}
use Rattle.std.proofs.lemmas.Slice.Eq.{bytes_eq-Decides}
use Rattle.modules_profile.specs.LocalSystem.{LocalSystem}
use Rattle.modules_profile.specs.LawfulLocals.{IsLocal}
use Rattle.modules_profile.proofs.lemmas.Members.{in-at, of-filter, of-range}
use Rattle.modules_schedule.specs.SystemSchedule.{SystemSchedule}
use Rattle.c_syntax.specs.declared.code.CType.TheVariants.{U8}
use Rattle.emit_shape.specs.Names.{counter_name, is_counter_name}
use Rattle.emit_shape.specs.Slots.{Slot, value, memory, ring_items, ring_place, ring_taken, trigger, counter, instance, filler, CounterField, own_slots, or_filler, AreSlots}
use Rattle.right_relation.specs.SoundLocals.{LocalsAreSound}
use Rattle.emit_system_spec.specs.Emitted.{EmittedIsEmittable}
use Rattle.emit_system_spec.specs.Fields.{shared_groups, call_count, counter_slot, code_slots}
use Rattle.right_system_ticks.specs.PlaceLaws.{IsSlotAt, FieldsHavePlaces}
use Rattle.right_system_nodes.proofs.lemmas.SlotPlaces.{Stands, stands, value-at, memory-at, ring_items-at, ring_place-at, ring_taken-at, trigger-at, instance-at, counter-at}

-- ---- The slots are the system's

abbrev counter_of : ℕ → CounterField
counter_of g = record { name = counter_name (suc g); type = U8 }

all-named : (gs : List ℕ) → AllByRecursion (λ c. IsTrue (is_counter_name c.name)) (map counter_of gs)
all-named [] = tt
all-named (g ∷ gs) = (refl, all-named gs)

same-counters : (gs : List ℕ) → map counter_slot gs ≡ map (λ (c : CounterField). counter c.name c.type) (map counter_of gs)
same-counters [] = refl
same-counters (g ∷ gs) = ap (λ (slots : List Slot). counter_slot g ∷ slots) (same-counters gs)

are-slots : (local : LocalSystem) (schedule : SystemSchedule) → AreSlots local (code_slots local schedule)
are-slots local schedule = record {
  counters = map counter_of (shared_groups schedule);
  named = all-named (shared_groups schedule);
  all = record {
    moves = [];
    below = tt;
    is = ap (λ (slots : List Slot). or_filler (own_slots local ++ slots)) (same-counters (shared_groups schedule));
  };
}

-- ---- Members of rising lists occur once

-- each is less than those after it
abbrev Rises : List ℕ → Type 0
Rises [] = ⊤
Rises (x ∷ xs) = ((y : ℕ) → Contains xs y → x < y) × Rises xs

rises-range : (a n : ℕ) → Rises (range_with_len a n)
rises-range a zero = tt
rises-range a (suc n) = ((λ y h. let low = (of-range (a + 1) n y h).0 in omega (arith, low)), rises-range (a + 1) n)

rises-kept : (test : ℕ → Bool) (xs : List ℕ) → Rises xs → Rises (filter test xs)
rises-kept test [] rises = tt
rises-kept test (x ∷ xs) rises = by (test x) (rises-kept test xs rises.1)
  where
    by : (t : Bool) → Rises (filter test xs) → Rises (cond t (x ∷ filter test xs) (filter test xs))
    by true rest = ((λ y h. rises.0 y (of-filter test xs y h).0), rest)
    by false rest = rest

once-at : (xs : List ℕ) (i k x : ℕ) → Rises xs → slice_get xs i ≡ Some x → slice_get xs k ≡ Some x → i ≡ k
once-at [] i k x rises a b = absurd (none-some x a)
once-at (y ∷ xs) zero zero x rises a b = refl
once-at (y ∷ xs) zero (suc k) x rises a b =
    let same = same_Some y x a in let above = rises.0 x (in-at xs k x b) in absurd (omega (arith, same, above))
once-at (y ∷ xs) (suc i) zero x rises a b =
    let same = same_Some y x b in let above = rises.0 x (in-at xs i x a) in absurd (omega (arith, same, above))
once-at (y ∷ xs) (suc i) (suc k) x rises a b = ap suc (once-at xs i k x rises.1 a b)

-- ---- The law

module _ (local : LocalSystem) (schedule : SystemSchedule) (lawful : IsLocal local) (few : length schedule.groups < 2 ^ 32) where
  rising : Rises (shared_groups schedule)
  rising = rises-kept (λ g. nat_lt 1 (call_count schedule g)) (range_with_len 0 (length schedule.groups))
      (rises-range 0 (length schedule.groups))

  group-few : (k g : ℕ) → slice_get (shared_groups schedule) k ≡ Some g → suc g < 2 ^ 64
  group-few k g at =
      let h = of-filter (λ i. nat_lt 1 (call_count schedule i)) (range_with_len 0 (length schedule.groups)) g
      (in-at (shared_groups schedule) k g at) in
      let high = (of-range 0 (length schedule.groups) g h.0).1 in
      omega (arith, high, few)

  differ-counters : (i k g h : ℕ) → slice_get (shared_groups schedule) i ≡ Some g → slice_get (shared_groups schedule) k ≡ Some h →
      bytes_eq (counter_name (suc g)) (counter_name (suc h)) ≡ true → i ≡ k
  differ-counters i k g h a b same =
      let texts = (bytes_eq-Decides (counter_name (suc g)) (counter_name (suc h))).0 same in
      let one : suc g ≡ suc h = decimal_injective (suc g) (suc h) (group-few i g a) (group-few k h b)
      (append_cancel_left (codes "k") (decimal (suc g)) (decimal (suc h)) texts) in
      let g-is : h ≡ g = omega (arith, one) in
      once-at (shared_groups schedule) i k g rising a (b ∙ ap Some g-is)

  each : (f : ℕ) (x : Slot) → Stands local schedule f x → IsSlotAt local schedule f x
  each f (value r) (mine, has, at) = (mine, has)
  each f (memory r) (mine, single, at) = (mine, single)
  each f (ring_items r) (mine, line, at) = (mine, line)
  each f (ring_place r) (mine, line, at) = (mine, line)
  each f (ring_taken r) (mine, line, at) = (mine, line)
  each f trigger (is, at) = is
  each f (counter name type) is = is
  each f (instance k u) (is, at) = is
  each f filler is = tt

  differ : (f g : ℕ) (x : Slot) → Stands local schedule f x → Stands local schedule g x → f ≡ g
  differ f g (value r) (a, b, c) (d, e, h) = sym c ∙ h
  differ f g (memory r) (a, b, c) (d, e, h) = sym c ∙ h
  differ f g (ring_items r) (a, b, c) (d, e, h) = sym c ∙ h
  differ f g (ring_place r) (a, b, c) (d, e, h) = sym c ∙ h
  differ f g (ring_taken r) (a, b, c) (d, e, h) = sym c ∙ h
  differ f g trigger (a, c) (d, h) = sym c ∙ h
  differ f g (counter name type) (i, a, there, is, named) (k, b, other, same, called) =
      let e : i ≡ k = differ-counters i k a b there other ((bytes_eq-Decides (counter_name (suc a)) (counter_name (suc b))).1
      (sym named ∙ called)) in
      omega (arith, is, same, e)
  differ f g (instance k u) (a, c) (d, h) = sym c ∙ h
  differ f g filler a b = a ∙ sym b

pub fields_have_places : LocalsAreSound → EmittedIsEmittable → FieldsHavePlaces
fields_have_places sound emittable local profile schedule emitted =
    let lawful = (sound emitted.resolved local.row local emitted.is_resolved emitted.is_local).lawful in
    let few = (emittable local profile schedule emitted).groups in
    record {
      are_slots = are-slots local schedule;
      values = value-at local schedule lawful;
      memories = memory-at local schedule lawful;
      items = ring_items-at local schedule lawful;
      places = ring_place-at local schedule lawful;
      counts = ring_taken-at local schedule lawful;
      trigger = trigger-at local schedule lawful;
      children = instance-at local schedule lawful;
      counters = counter-at local schedule lawful;
      each = λ f x at. each local schedule lawful few f x (stands local schedule lawful f x at);
      differ = λ f g x a b. differ local schedule lawful few f g x (stands local schedule lawful f x a)
          (stands local schedule lawful g x b);
      counters_differ = λ i k g h a b same. differ-counters local schedule lawful few i k g h a b same;
    }
