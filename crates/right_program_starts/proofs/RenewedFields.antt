-- What becomes of a system's slots is what should become of its fields, by their names.
use Rattle.std.specs.Prelude.{◌≡◌, ◌⊎◌, ℕ, List, slice_get, Contains, Option, Some, ℤ, pos}
use Rattle.std.proofs.Common.{sym, ap, ◌∙◌, inl, inr}
use Rattle.diagram_meaning.specs.Diagram.{Diagram}
use Rattle.diagram_meaning.specs.Run.{start_of}
use Rattle.modules_profile.specs.declared.LocalRow.{LocalRow}
use Rattle.modules_profile.specs.LocalSystem.{LocalSystem}
use Rattle.modules_profile.specs.Locals.{local_row}
use Rattle.c_semantics.specs.Cells.{Cell, number, cell_value, Cells, cell_at, number_at}
use Rattle.emit_shape.specs.Names.{value_name, memory_name, place_name, taken_name}
use Rattle.emit_shape.specs.RowStarts.{row_start}
use Rattle.emit_shape.specs.Slots.{Slot, value, memory, ring_place, ring_taken, trigger, counter, slot_field}
use Rattle.right_relation.specs.Renewals.{Renewal, IsStarted, IsReset, AllSlots}
use Rattle.right_claim.specs.Paths.{number_in}
use Rattle.right_claim.specs.Held.{valued_rows, single_rows, line_rows, counter_fields}
use Rattle.right_claim.specs.Anew.{AreForgotten, AreStarted, AreReset}
use Rattle.right_linking.specs.Parts.{Parts, program_of, diagram, all_systems, Views}
use Rattle.right_linking.specs.Places.{SystemsHavePlaces, FieldsAreFound}
use Rattle.right_linking.proofs.lemmas.NamedFields.{IsAt, slot-at, value-slot, value-start, memory-slot, memory-start, place-slot, taken-slot, trigger-slot, counter-slot}
use Rattle.right_linking.proofs.lemmas.OwnSlots.{slots-at}
use Rattle.right_program_starts.proofs.Everywhere.{all-made}

module _ (fields : FieldsAreFound) (a : Parts) (v : Views a) (place : ℕ) (s : Option ℕ)
    (stands : slice_get (all_systems a) place ≡ Some s) where
  abbrev local : LocalSystem
  local = (v.at s).local

  abbrev slots : List Slot
  slots = (v.at s).slots

  abbrev d : Diagram
  d = diagram a

  abbrev row : ℕ → LocalRow
  row b = local_row d a.model.times.delays b

  at : (x : Slot) → Contains slots x → IsAt a v place s stands x
  at = slot-at a v place s stands fields

  module _ (P : Slot → Cell → Cell → Type 0) (before after : Cells) (all : AllSlots P slots before after) where
    abbrev cell_before : (x : Slot) → Contains slots x → Cell
    cell_before x has = cell_at before (at x has).position

    abbrev cell_after : (x : Slot) → Contains slots x → Cell
    cell_after x has = cell_at after (at x has).position

    becomes : (x : Slot) (has : Contains slots x) → P x (cell_before x has) (cell_after x has)
    becomes x has = slots-at P slots before after (at x has).position x all (at x has).there

    number-of : (x : Slot) (has : Contains slots x) (z : ℤ) → cell_after x has ≡ number z →
        number_in (program_of a) s after (slot_field x).name ≡ z
    number-of x has z is = ap (number_at after) (at x has).named ∙ ap cell_value is

    -- a field that stays keeps its number
    stays : (x : Slot) (has : Contains slots x) → cell_after x has ≡ cell_before x has →
        number_in (program_of a) s after (slot_field x).name ≡ number_in (program_of a) s before (slot_field x).name
    stays x has is = ap (number_at after) (at x has).named ∙ ap cell_value is ∙ ap (number_at before) (sym (at x has).named)

    forgotten : ((r : LocalRow) (b c : Cell) → P (memory r) b c → c ≡ number (row_start local r)) →
        ((r : LocalRow) (b c : Cell) → P (ring_place r) b c → c ≡ number (pos 0)) →
        ((r : LocalRow) (b c : Cell) → P (ring_taken r) b c → c ≡ number (pos 0)) →
        ((b c : Cell) → P trigger b c → c ≡ number (pos 0)) → AreForgotten (program_of a) d s after
    forgotten memories places takens triggers = record {
      memories = all-made (λ b. number_in (program_of a) s after (memory_name b) ≡ start_of d b) (single_rows d s) (λ b has.
          let there = memory-slot a v place s stands b has in
          number-of (memory (row b)) there (row_start local (row b))
          (memories (row b) (cell_before (memory (row b)) there) (cell_after (memory (row b)) there) (becomes (memory (row b)) there))
          ∙ memory-start a v place s stands b has);
      places = all-made (λ b. number_in (program_of a) s after (place_name b) ≡ pos 0) (line_rows d s) (λ b has.
          let there = place-slot a v place s stands b has in
          number-of (ring_place (row b)) there (pos 0)
          (places (row b) (cell_before (ring_place (row b)) there) (cell_after (ring_place (row b)) there)
          (becomes (ring_place (row b)) there)));
      taken = all-made (λ b. number_in (program_of a) s after (taken_name b) ≡ pos 0) (line_rows d s) (λ b has.
          let there = taken-slot a v place s stands b has in
          number-of (ring_taken (row b)) there (pos 0)
          (takens (row b) (cell_before (ring_taken (row b)) there) (cell_after (ring_taken (row b)) there)
          (becomes (ring_taken (row b)) there)));
      trigger = λ triggered.
          let there = trigger-slot a v place s stands triggered in
          number-of trigger there (pos 0) (triggers (cell_before trigger there) (cell_after trigger there) (becomes trigger there));
    }

  -- ---- A start

  module _ (places : SystemsHavePlaces) (children : List Renewal) (before after : Cells)
      (all : AllSlots (IsStarted local children) slots before after) where
    abbrev Starts : Slot → Cell → Cell → Type 0
    Starts = IsStarted local children

    pub are-started : AreStarted (program_of a) d s after
    are-started = record {
      forgotten = forgotten Starts before after all (λ r b c is. is) (λ r b c is. is) (λ r b c is. is) (λ b c is. is);
      values = all-made (λ b. number_in (program_of a) s after (value_name b) ≡ start_of d b) (valued_rows d s) (λ b has.
          let there = value-slot a v place s stands b has in
          number-of Starts before after all (value (row b)) there (row_start local (row b))
          (becomes Starts before after all (value (row b)) there) ∙ value-start a v place s stands b has);
      counters = all-made (λ f. number_in (program_of a) s after f.name ≡ pos 0) (counter_fields (program_of a) s) (λ f has.
          let (type, there) = counter-slot a v place s stands places f has in
          number-of Starts before after all (counter f.name type) there (pos 0)
          (becomes Starts before after all (counter f.name type) there));
    }

  -- ---- A reset

  module _ (places : SystemsHavePlaces) (children : List Renewal) (before after : Cells)
      (all : AllSlots (IsReset local children) slots before after) where
    abbrev Resets : Slot → Cell → Cell → Type 0
    Resets = IsReset local children

    pub are-reset : AreReset (program_of a) d s before after
    are-reset = record {
      forgotten = forgotten Resets before after all (λ r b c is. is) (λ r b c is. is) (λ r b c is. is) (λ b c is. is);
      values = all-made (λ b. number_in (program_of a) s after (value_name b) ≡ number_in (program_of a) s before (value_name b))
          (valued_rows d s) (λ b has.
          let there = value-slot a v place s stands b has in
          stays Resets before after all (value (row b)) there (becomes Resets before after all (value (row b)) there));
      counters = all-made (λ f. (number_in (program_of a) s after f.name ≡ pos 0)
          ⊎ (number_in (program_of a) s after f.name ≡ number_in (program_of a) s before f.name))
          (counter_fields (program_of a) s) (λ f has.
          let (type, there) = counter-slot a v place s stands places f has in
          elim (becomes Resets before after all (counter f.name type) there) [
            | inl same ↦ inr (stays Resets before after all (counter f.name type) there same)
            | inr none ↦ inl (number-of Resets before after all (counter f.name type) there (pos 0) none)
          ]);
    }
