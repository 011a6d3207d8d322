-- What an instance leaves after a tick holds what the run has, in its own fields and in those of each system inside.
use Rattle.std.specs.Prelude.{◌≡◌, ℕ, zero, suc, ◌||◌, Bool, true, false, if◌then◌else◌, List, [], ◌∷◌, map, filter, replicate, slice_get, slice_index_or, Contains, Option, Some, ℤ, pos}
use Rattle.std.proofs.Common.{sym, ap, subst, ◌∙◌}
use Rattle.std.proofs.lemmas.Option.{same_Some, none-some}
use Rattle.diagram_blocks.specs.Meaning.{delay_length}
use Rattle.diagram_blocks.specs.Value.{input}
use Rattle.diagram_meaning.specs.Diagram.{Diagram, op_at}
use Rattle.diagram_meaning.specs.Laws.{Run}
use Rattle.diagram_meaning.specs.Run.{moved_on, value_at, memory_at, first_of}
use Rattle.diagram_blocks.specs.Kinds.{is_delay}
use Rattle.modules_profile.specs.declared.ChildUse.{ChildUse}
use Rattle.modules_profile.specs.declared.LocalRow.{LocalRow}
use Rattle.modules_profile.specs.LocalSystem.{LocalSystem}
use Rattle.modules_profile.specs.Locals.{local_row}
use Rattle.modules_profile.specs.Systems.{systems_inside, system_name}
use Rattle.modules_profile.proofs.lemmas.Members.{in-filter}
use Rattle.c_semantics.specs.Cells.{Cell, cell_value, cell_items, cell_fields, Cells, cell_at, fields_at, cells_at}
use Rattle.emit_shape.specs.Delays.{is_line}
use Rattle.emit_shape.specs.Names.{value_name, memory_name, child_name}
use Rattle.emit_shape.specs.RowStarts.{row_start}
use Rattle.emit_shape.specs.Slots.{Slot, value, memory, ring_items, ring_place, ring_taken, trigger, counter, instance, slot_field}
use Rattle.right_relation.specs.Instances.{InstanceTick, instance_at}
use Rattle.right_relation.specs.LocalTicks.{LocalTick, IsLocalTick, is_off, row_runs, row_inputs, memory_of, ring_of}
use Rattle.right_relation.specs.Rings.{Ring, IsRing, emptied_ring, moved_ring}
use Rattle.right_relation.specs.RunTicks.{Untouched, tick_at}
use Rattle.right_relation.specs.Standing.{cells_of, after_cell, after_cells}
use Rattle.right_relation.proofs.lemmas.LocalTickLaws.{line-is_delay}
use Rattle.right_relation.proofs.lemmas.RingLaws.{emptied_is_ring, moved_is_ring}
use Rattle.right_claim.specs.Held.{valued_rows, single_rows, line_rows, counter_fields, HoldsRing, HoldsTick, HoldsRun}
use Rattle.right_claim.specs.Paths.{place_in, number_in, path_inside}
use Rattle.right_linking.specs.Parts.{Parts, program_of, diagram, all_systems, Views}
use Rattle.right_linking.specs.Places.{SystemsHavePlaces, FieldsAreFound}
use Rattle.right_linking.proofs.lemmas.AssembledChildren.{has-child}
use Rattle.right_linking.proofs.lemmas.AssembledPlaces.{member, all-made}
use Rattle.right_linking.proofs.lemmas.ChildRows.{child-of-row, each-inside}
use Rattle.right_linking.proofs.lemmas.NamedFields.{slot-at, value-slot, memory-slot, line-row, line-start, items-slot, place-slot, taken-slot, trigger-slot, counter-slot}
use Rattle.right_linking.proofs.lemmas.SystemsUnder.{IsChildRow}

-- the field of a slot among those of all
cell-stands : (P : Slot → Cell) (xs : List Slot) (f : ℕ) (x : Slot) → slice_get xs f ≡ Some x → cell_at (cells_of (map P xs)) f ≡ P x
cell-stands P [] f x at = absurd (none-some x at)
cell-stands P (y ∷ xs) zero x at = ap P (same_Some y x at)
cell-stands P (y ∷ xs) (suc f) x at = cell-stands P xs f x at

-- ---- Rings

-- a ring that is emptied, moves or stays holds the memory that is emptied, moves or stays
ring-moves : (n : ℕ) (start v : ℤ) (ring : Ring) (remembered : List ℤ) (off runs : Bool) → IsRing n start ring remembered →
    IsRing n start (if off then emptied_ring ring else (if runs then moved_ring n ring v else ring))
    (if off then replicate n start else (if runs then moved_on remembered v else remembered))
ring-moves n start v ring remembered true runs is = emptied_is_ring n start ring remembered is
ring-moves n start v ring remembered false true is = moved_is_ring n start v ring remembered is
ring-moves n start v ring remembered false false is = is

module _ (local : LocalSystem) (m : LocalTick) (tick : IsLocalTick local m) (r : LocalRow) (own : Contains local.rows r)
    (line : is_line r.op ≡ true) where
  -- after the tick the ring of a delay holds what the delay remembers
  pub ring-after : IsRing (delay_length r.op) (row_start local r) (m.ring_after r.row) (m.tick.memory_after r.row)
  ring-after =
      let among = in-filter (λ (q : LocalRow). is_line q.op) local.rows r own line in
      let holds = member (λ (q : LocalRow). IsRing (delay_length q.op) (row_start local q) (m.ring q.row) (m.tick.memory q.row))
      (filter (λ (q : LocalRow). is_line q.op) local.rows) r tick.ring_holds among in
      let ring = member (λ (q : LocalRow). m.ring_after q.row ≡ ring_of local m q)
      (filter (λ (q : LocalRow). is_line q.op) local.rows) r tick.rings among in
      let remembered = member (λ (q : LocalRow). m.tick.memory_after q.row ≡ memory_of local m q)
      (filter (λ (q : LocalRow). is_delay q.op) local.rows) r tick.memories
      (in-filter (λ (q : LocalRow). is_delay q.op) local.rows r own (line-is_delay r.op line)) in
      subst (λ after. IsRing (delay_length r.op) (row_start local r) after (m.tick.memory_after r.row)) (sym ring)
      (subst (IsRing (delay_length r.op) (row_start local r) (ring_of local m r)) (sym remembered)
      (ring-moves (delay_length r.op) (row_start local r) (input (row_inputs local m r) 0) (m.ring r.row) (m.tick.memory r.row)
      (m.tick.is_off_around || is_off local m) (row_runs local m r) holds))

-- ---- Fields

module _ (structs : SystemsHavePlaces) (fields : FieldsAreFound) (a : Parts) (v : Views a) (place : ℕ) (n : Option ℕ)
    (stands : slice_get (all_systems a) place ≡ Some n) (s : Option ℕ) (xs : List (List ℤ)) (run : Run) (untouched : Untouched) (t : ℕ)
    (tick : IsLocalTick (v.at n).local (tick_at (diagram a) s xs run n untouched t)) (children : List InstanceTick) where
  abbrev local : LocalSystem
  local = (v.at n).local

  abbrev slots : List Slot
  slots = (v.at n).slots

  abbrev d : Diagram
  d = diagram a

  abbrev m : LocalTick
  m = tick_at d s xs run n untouched t

  abbrev row : ℕ → LocalRow
  row b = local_row d a.model.times.delays b

  -- what the instance leaves
  abbrev pub left : Cells
  left = after_cells local m children slots

  field-is : (x : Slot) → Contains slots x → cell_at left (place_in (program_of a) n (slot_field x).name) ≡ after_cell local m children x
  field-is x has =
      let at = slot-at a v place n stands fields x has in
      ap (cell_at left) at.named ∙ cell-stands (after_cell local m children) slots at.position x at.there

  ring-held : (b : ℕ) → Contains (line_rows d n) b →
      HoldsRing (program_of a) d n left (memory_at (slice_index_or run.memories (suc t) []) b) b
  ring-held b has =
      let own = line-row a v place n stands b has in
      record {
        ring = m.ring_after b;
        items = ap cell_items (field-is (ring_items (row b)) (items-slot a v place n stands b has));
        place = ap cell_value (field-is (ring_place (row b)) (place-slot a v place n stands b has));
        taken = ap cell_value (field-is (ring_taken (row b)) (taken-slot a v place n stands b has));
        holds = subst (λ start. IsRing (delay_length (op_at d b)) start (m.ring_after b) (m.tick.memory_after b))
            (line-start a v place n stands b has) (ring-after local m tick (row b) own.0 own.1);
      }

  -- its own fields hold the tick
  pub holds-tick : HoldsTick (program_of a) d (slice_index_or run.values t []) (slice_index_or run.memories (suc t) [])
      (slice_index_or run.triggers (suc t) []) n left
  holds-tick = record {
    values = all-made (λ b. number_in (program_of a) n left (value_name b) ≡ value_at (slice_index_or run.values t []) b)
        (valued_rows d n) (λ b has. ap cell_value (field-is (value (row b)) (value-slot a v place n stands b has)));
    memories = all-made
        (λ b. number_in (program_of a) n left (memory_name b) ≡ first_of (memory_at (slice_index_or run.memories (suc t) []) b))
        (single_rows d n) (λ b has. ap cell_value (field-is (memory (row b)) (memory-slot a v place n stands b has)));
    rings = all-made (λ b. HoldsRing (program_of a) d n left (memory_at (slice_index_or run.memories (suc t) []) b) b)
        (line_rows d n) ring-held;
    trigger = λ triggered. ap cell_value (field-is trigger (trigger-slot a v place n stands triggered));
    counters = all-made (λ f. number_in (program_of a) n left f.name ≡ pos 0) (counter_fields (program_of a) n)
        (λ f has.
        let (type, there) = counter-slot a v place n stands structs f has in
        ap cell_value (field-is (counter f.name type) there));
  }

  -- ---- Systems inside

  -- an instance of the system o holds the tick
  abbrev pub Held : Option ℕ → Cells → Type 0
  Held = HoldsTick (program_of a) d (slice_index_or run.values t []) (slice_index_or run.memories (suc t) [])
      (slice_index_or run.triggers (suc t) [])

  -- where each child's instance holds the tick, so does this one
  module _ (each : (k : ℕ) (u : ChildUse) → slice_get local.children k ≡ Some u →
      HoldsRun (program_of a) d u.header.row run t (instance_at children k).after) where
    child-holds : (e : ℕ) → IsChildRow d.rows n e →
        HoldsRun (program_of a) d (Some e) run t (fields_at left (place_in (program_of a) n (child_name e)))
    child-holds e child =
        let (k, u, at, row) = child-of-row a v place n stands e child in
        let there = has-child local slots (v.each place n stands).shape.slots_right k u at in
        subst (λ o. HoldsRun (program_of a) d o run t (fields_at left (place_in (program_of a) n (system_name o)))) row
        (subst (HoldsRun (program_of a) d u.header.row run t) (sym (ap cell_fields (field-is (instance k u) there))) (each k u at))

    pub holds-run : HoldsRun (program_of a) d n run t left
    holds-run = record {
      here = holds-tick;
      inside = all-made (λ e. Held (Some e) (cells_at (path_inside (program_of a) d.rows n e) left)) (systems_inside d.rows n)
          (each-inside a v place n stands (λ e path. Held (Some e) (cells_at path left))
          (λ e child. (child-holds e child).here)
          (λ e x child has.
          member (λ y. Held (Some y) (cells_at (path_inside (program_of a) d.rows (Some e) y)
          (fields_at left (place_in (program_of a) n (child_name e)))))
          (systems_inside d.rows (Some e)) x (child-holds e child).inside has));
    }
