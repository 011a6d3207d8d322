-- The code of a memory, of a ring and of what a trigger remembers makes them those of the next tick.
use Rattle.std.specs.Prelude.{◌≡◌, ℕ, ◌+◌, ◌-◌, ◌%◌, ◌<◌, ◌≤◌, nat_lt, Bool, true, false, ◌&&◌, ◌||◌, if◌then◌else◌, List, [], ◌∷◌, ◌++◌, map, length, replicate, get_or, slice_get, Contains, Option, Some, None, ℤ, pos, refl}
use Rattle.std.specs.List.{AllByRecursion}
use Rattle.std.proofs.Common.{sym, ap, subst, ◌∙◌, arith, true≢false}
use Rattle.diagram_activity.specs.declared.memory.TrigMem.TheVariants.{NotYet}
use Rattle.diagram_activity.specs.Activity.{next_memory, memory_number}
use Rattle.base_fixed_point.specs.Conversion.{InType}
use Rattle.diagram_blocks.specs.declared.op.Op.{Op}
use Rattle.diagram_blocks.specs.declared.op.Op.TheVariants.{Delay}
use Rattle.diagram_blocks.specs.Meaning.{delay_length}
use Rattle.diagram_blocks.specs.Value.{input}
use Rattle.diagram_meaning.specs.SampleTimes.{hit}
use Rattle.diagram_meaning.specs.ControlValues.{trigger_in}
use Rattle.base_core.specs.Numbers.{int_at}
use Rattle.diagram_meaning.specs.Rows.{is_triggered}
use Rattle.diagram_blocks.specs.Kinds.{port_of, is_delay}
use Rattle.diagram_meaning.specs.Run.{first_of, moved_on}
use Rattle.modules_profile.specs.declared.local.LocalRow.{LocalRow}
use Rattle.modules_profile.specs.LocalSystem.{LocalSystem}
use Rattle.modules_profile.specs.LawfulLocals.{IsLocal}
use Rattle.modules_profile.proofs.lemmas.Members.{in-first}
use Rattle.modules_schedule.specs.SystemSchedule.{SystemSchedule}
use Rattle.c_syntax.specs.declared.code.CType.TheVariants.{I32}
use Rattle.c_syntax.specs.declared.code.Leaf.TheVariants.{Own}
use Rattle.c_syntax.specs.Tree.{CondTree, ParamTree, PureTree, field_types}
use Rattle.c_semantics.specs.Cells.{Cells, number, items, set_cell, set_item, number_at, cell_at}
use Rattle.c_semantics.specs.Values.{is_in_type, Function, functions_of, Reads, reads, step_limit}
use Rattle.c_semantics.specs.Machine.{Routine, Scope, run_stmts}
use Rattle.emit_shape.specs.Delays.{is_single, is_line}
use Rattle.emit_shape.specs.Names.{container, input_name}
use Rattle.emit_shape.specs.Relocation.{Relocation, moved_leaf, moved_stmts}
use Rattle.emit_shape.specs.RowStarts.{row_start}
use Rattle.emit_shape.specs.Slots.{Slot, memory, ring_items, ring_place, ring_taken, trigger, slot_field}
use Rattle.emit_row_code.specs.declared.leaves.RingFields.{RingFields}
use Rattle.emit_row_code.specs.StatementCode.{memory_statements, ring_statements}
use Rattle.emit_row_code.specs.StatementLaws.{leaves, test_steps, TestsTo, Takes, AreRingFields, taken_in_cells, emptied_cells, MemoriesAreStored, RingsAreStored, TriggersAreStored}
use Rattle.emit_row_code.specs.TestLaws.{ActivityIsTested, HitsAreTested, BothAreTested}
use Rattle.right_relation.specs.Rings.{Ring, emptied_ring, moved_ring}
use Rattle.right_relation.specs.LocalTicks.{LocalTick, IsLocalTick, IsTypedTick, is_active, is_off, row_runs, row_inputs, memory_of, ring_of}
use Rattle.right_relation.specs.Instances.{InstanceTick, Offer, OnDone, Leaves}
use Rattle.right_relation.specs.NodeCode.{memory_steps, ring_steps, trigger_steps}
use Rattle.right_relation.specs.NodeStatements.{HoldsWire, IsReady, HoldsMemory, Gives, GivesMemory, GivesRing, GivesTrigger, ring_cells, stored_once, stored_each}
use Rattle.right_relation.specs.Relation.{children_routines, behind_offers, IsCycleOf}
use Rattle.right_relation.proofs.lemmas.Containers.{container-has}
use Rattle.emit_system_spec.specs.Fields.{memory_field, ring_field, trigger_field, code_slots}
use Rattle.emit_system_spec.specs.Groups.{own_count}
use Rattle.emit_system_spec.specs.NodeCode.{ring_fields, control_leaves, runs_test, off_test, first_input, memory_code, trigger_code}
use Rattle.emit_system_spec.specs.Places.{param_leaf}
use Rattle.emit_system_spec.specs.Sources.{wire_leaf}
use Rattle.right_system_nodes.specs.PieceLaws.{HasParams}
use Rattle.right_system_nodes.proofs.Arguments.{trigger-reads}
use Rattle.right_system_nodes.proofs.Facts.{IsSettled, IsSourced}
use Rattle.right_system_nodes.proofs.lemmas.SlotLists.{each-kept}
use Rattle.right_system_nodes.proofs.Moved.{moved_test, test-moved, memory-moved, ring-moved}
use Rattle.right_system_nodes.proofs.lemmas.SlotPlaces.{stands, memory-at, ring_items-at, ring_place-at, ring_taken-at, trigger-at}
use Rattle.right_system_nodes.proofs.Sources.{wire-reads}
use Rattle.right_system_nodes.proofs.Stores.{set-same, set-apart, slot-has, is-number, is-array, slot-type, stores-nothing, stores-once, stores-each, three-turned, two-of-three, leaves-done}
use Rattle.right_system_nodes.proofs.Tests.{number-is, off-rests}
use Rattle.right_system_nodes.proofs.Ticks.{given, tests, runs-is, holds-ring}

-- ---- Kinds of delays

pub single-is : (op : Op) → is_single op ≡ true → (is_delay op ≡ true) × (is_line op ≡ false) × (delay_length op ≡ 1)
single-is (Delay initial) h = (refl, refl, refl)
single-is _ h = absurd (true≢false (sym h))

pub line-is : (op : Op) → is_line op ≡ true → is_delay op ≡ true
line-is (Delay initial) h = refl
line-is _ h = h

-- ---- One sample

one-moved : (mem : List ℤ) (v : ℤ) → length mem ≡ 1 → moved_on mem v ≡ v ∷ []
one-moved [] v one = absurd (omega (arith, one))
one-moved (x ∷ []) v one = refl
one-moved (x ∷ y ∷ mem) v one = absurd (omega (arith, one))

last-in : (P : ℤ → Type 0) (xs : List ℤ) (v : ℤ) → AllByRecursion P (xs ++ v ∷ []) → P v
last-in P [] v all = all.0
last-in P (x ∷ xs) v all = last-in P xs v all.1

-- ---- What a tick says

-- a row that runs stays off
no-off : (around off active runs : Bool) → around ≡ false → (off ≡ true → active ≡ false) → (active && runs) ≡ true →
    (around || off) ≡ false
no-off true off active runs calm rests does = absurd (true≢false calm)
no-off false true active runs calm rests does = absurd (true≢false (sym does ∙ ap (λ a. a && runs) (rests refl)))
no-off false false active runs calm rests does = refl

-- the laws of tests
pub record TickLaws : Type 0 where
  pub activity : ActivityIsTested
  pub hits : HitsAreTested
  pub both : BothAreTested

module _ (local : LocalSystem) (schedule : SystemSchedule) (params : List ParamTree) (settled : IsSettled local)
    (has : HasParams local params)
    (ps : List PureTree) (cycle : ℕ) (is_cycle : IsCycleOf local cycle) (offers : List Offer) (m : LocalTick)
    (tick : IsLocalTick local m)
    (typed : IsTypedTick local m) (children : List InstanceTick) (own_routines : List Routine) where
  abbrev slots : List Slot
  slots = code_slots local schedule

  abbrev away : Relocation
  away = behind_offers slots offers (own_count schedule)

  abbrev functions : List Function
  functions = functions_of [] ps

  abbrev scope : List ℤ → Scope
  scope values = record {
    functions = functions;
    routines = children_routines offers ++ own_routines;
    types =
        field_types (map slot_field slots);
    values = values;
  }

  lawful : IsLocal local
  lawful = settled.sound.lawful

  -- nothing around an active system is off
  calm : m.tick.parent ≡ true → m.tick.is_off_around ≡ false
  calm callable = by m.tick.is_off_around refl
    where
      by : (t : Bool) → m.tick.is_off_around ≡ t → t ≡ false
      by true is = absurd (true≢false (sym callable ∙ tick.at_rest is))
      by false is = refl

  few : (test : Option CondTree) → test_steps test ≤ 1
  few None = omega arith
  few (Some test) = omega arith

  module _ (laws : TickLaws) (r : LocalRow) (own : Contains local.rows r) (delay : is_delay r.op ≡ true) (values : List ℤ)
      (cells : Cells)
      (ready : IsReady local slots offers children cycle m params scope values cells r.inputs) where
    abbrev there : Reads
    there = given local schedule params settled has functions cycle is_cycle offers m typed children scope values cells ready.arguments

    remembers : is_triggered local.control ≡ true → number_at cells (trigger_field local) ≡ memory_number m.tick.trigger
    remembers is = ready.remembers (trigger_field local) (trigger-at local schedule lawful is)

    abbrev start : ℤ
    start = row_start local r

    abbrev v : ℤ
    v = input (row_inputs local m r) 0

    runs-test : TestsTo (scope values) cells true (moved_test away (runs_test local params r)) (row_runs local m r)
    runs-test =
        test-moved away functions (reads values cells) 0 true (runs_test local params r) (row_runs local m r)
        (runs-is local schedule params settled has functions cycle is_cycle offers m typed
        children scope values cells ready.arguments ready.callable remembers
        laws.activity laws.hits laws.both r own)

    off-test : TestsTo (scope values) cells false (moved_test away (off_test local params)) (is_off local m)
    off-test =
        test-moved away functions (reads values cells) 0 false (off_test local params) (is_off local m)
        (tests local schedule params settled has functions cycle is_cycle offers m typed
        children scope values cells ready.arguments ready.callable remembers
        laws.activity).off

    active-where : row_runs local m r ≡ true → is_active local m ≡ true
    active-where = first-of (is_active local m) (hit r.time m.tick.t)
      where
        first-of : (a b : Bool) → (a && b) ≡ true → a ≡ true
        first-of true b is = refl
        first-of false b is = absurd (true≢false (sym is))

    not-off : row_runs local m r ≡ true → (m.tick.is_off_around || is_off local m) ≡ false
    not-off = no-off m.tick.is_off_around (is_off local m) (is_active local m) (hit r.time m.tick.t) (calm ready.callable)
        (off-rests m.tick.parent local.control m.tick.trigger m.tick.controls)

    -- what its input reads
    input-is : row_runs local m r ≡ true → there.leaf (first_input local params r) ≡ v
    input-is runs =
        let d = settled.delays r own delay in
        ap (λ t. there.leaf (get_or (if t then param_leaf params (input_name (port_of r.kind)) ∷ []
        else map (wire_leaf local) r.inputs) 0 (Own 0))) d.0
        ∙ first r.inputs d.2 (λ c h. settled.wired r c own h) (ready.needed (active-where runs))
        ∙ sym (ap (λ t. input (if t then int_at m.tick.inputs (port_of r.kind - 1) ∷ [] else map m.tick.value r.inputs) 0) d.0)
      where
        first : (wires : List ℕ) → 0 < length wires → ((c : ℕ) → Contains wires c → IsSourced local c) →
            AllByRecursion (HoldsWire local slots offers children cycle m params scope cells) wires →
            there.leaf (get_or (map (wire_leaf local) wires) 0 (Own 0)) ≡ input (map m.tick.value wires) 0
        first [] some sourced hold = absurd (omega (arith, some))
        first (c ∷ wires) some sourced hold =
            wire-reads local schedule lawful offers children cycle m params scope values cells c
            (sourced c (in-first c wires)) hold.0

    after-is : m.tick.memory_after r.row ≡ memory_of local m r
    after-is = each-kept (λ (r : LocalRow). m.tick.memory_after r.row ≡ memory_of local m r)
        (λ (r : LocalRow). is_delay r.op) local.rows r tick.memories own delay

    after-typed : AllByRecursion (InType r.out) (m.tick.memory_after r.row)
    after-typed =
        (each-kept (λ (r : LocalRow). AllByRecursion (InType r.out) (m.tick.memory r.row)
        × AllByRecursion (InType r.out) (m.tick.memory_after r.row))
        (λ (r : LocalRow). is_delay r.op) local.rows r typed.memories own delay).1

    moved-after : row_runs local m r ≡ true → m.tick.memory_after r.row ≡ moved_on (m.tick.memory r.row) v
    moved-after runs = after-is ∙ (λ i. if not-off runs i then replicate (delay_length r.op) start
        else (if runs i then moved_on (m.tick.memory r.row) v else m.tick.memory r.row))

    started-after : is_off local m ≡ true → m.tick.memory_after r.row ≡ replicate (delay_length r.op) start
    started-after off =
        after-is ∙ (λ i. if calm ready.callable i || off i then replicate (delay_length r.op) start
        else (if row_runs local m r then moved_on (m.tick.memory r.row) v else m.tick.memory r.row))

    kept-after : is_off local m ≡ false → row_runs local m r ≡ false → m.tick.memory_after r.row ≡ m.tick.memory r.row
    kept-after on rests =
        after-is ∙ (λ i. if calm ready.callable i || on i then replicate (delay_length r.op) start
        else (if rests i then moved_on (m.tick.memory r.row) v else m.tick.memory r.row))

    abbrev runs_steps : ℕ
    runs_steps = test_steps (moved_test away (runs_test local params r))

    abbrev off_steps : ℕ
    off_steps = test_steps (moved_test away (off_test local params))

    -- ---- One sample

    module _ (law : MemoriesAreStored) (single : is_single r.op ≡ true)
        (holds : HoldsMemory local slots offers children cycle m params scope cells r) where
      abbrev f : ℕ
      f = memory_field local r.row

      at : slice_get slots f ≡ Some (memory r)
      at = memory-at local schedule lawful r own single

      one : length (m.tick.memory r.row) ≡ 1
      one = each-kept (λ (r : LocalRow). length (m.tick.memory r.row) ≡ delay_length r.op)
          (λ (r : LocalRow). is_delay r.op) local.rows r tick.lengths own delay
          ∙ (single-is r.op single).2

      -- a memory of one sample takes it
      takes : (w : ℤ) → m.tick.memory_after r.row ≡ w ∷ [] → Takes (scope values) f w
      takes w is =
          ap (λ t. is_in_type t w) (slot-type slots f (memory r) at)
          ∙ container-has r.out w (subst (AllByRecursion (InType r.out)) is after-typed).0

      run-after : row_runs local m r ≡ true → m.tick.memory_after r.row ≡ v ∷ []
      run-after runs = moved-after runs ∙ one-moved (m.tick.memory r.row) v one

      start-after : is_off local m ≡ true → m.tick.memory_after r.row ≡ start ∷ []
      start-after off = started-after off ∙ ap (λ n. replicate n start) (single-is r.op single).2

      stored : (steps : ℕ) → steps + 3 ≤ step_limit →
          run_stmts (scope values) (moved_stmts away (memory_code local params r)) cells steps
          ≡ (if row_runs local m r then leaves (set_cell cells f (number (there.leaf (first_input local params r))))
          (steps + runs_steps + 1) (f ∷ [])
          else if is_off local m then leaves (set_cell cells f (number start)) (steps + runs_steps + off_steps + 1) (f ∷ [])
          else leaves cells (steps + runs_steps + off_steps) [])
      stored steps room =
          ap (λ t. run_stmts (scope values) (moved_stmts away
          (if t then ring_statements (ring_fields local r.row) (delay_length r.op) (runs_test local params r)
          (first_input local params r) (off_test local params)
          else memory_statements f (runs_test local params r) (first_input local params r)
          (off_test local params) start)) cells steps) (single-is r.op single).1
          ∙ ap (λ code. run_stmts (scope values) code cells steps)
          (memory-moved away f (runs_test local params r) (first_input local params r) (off_test local params) start)
          ∙ law (scope values) cells f (moved_test away (runs_test local params r)) (moved_test away (off_test local params))
          (row_runs local m r) (is_off local m)
          (moved_leaf away (first_input local params r)) start steps runs-test off-test
          (λ runs. subst (Takes (scope values) f) (sym (input-is runs)) (takes v (run-after runs)))
          (λ off. takes start (start-after off)) (settled.starts r own) room

      abbrev Done : ℕ → Type 0
      Done steps = OnDone (run_stmts (scope values) (moved_stmts away (memory_code local params r)) cells steps)
          (Leaves (set_cell cells f (number (first_of (m.tick.memory_after r.row)))) (steps + memory_steps) [] (stored_once f))

      memory-done : (steps : ℕ) → steps + memory_steps ≤ step_limit → Done steps
      memory-done steps room = by (row_runs local m r) (is_off local m) refl refl
        where
          first_steps : runs_steps ≤ 1
          first_steps = few (moved_test away (runs_test local params r))

          second_steps : off_steps ≤ 1
          second_steps = few (moved_test away (off_test local params))

          result : (b o : Bool) → row_runs local m r ≡ b → is_off local m ≡ o →
              run_stmts (scope values) (moved_stmts away (memory_code local params r)) cells steps
              ≡ (if b then leaves (set_cell cells f (number (there.leaf (first_input local params r)))) (steps + runs_steps + 1)
              (f ∷ [])
              else if o then leaves (set_cell cells f (number start)) (steps + runs_steps + off_steps + 1) (f ∷ [])
              else leaves cells (steps + runs_steps + off_steps) [])
          result b o is stays = stored steps room
              ∙ (λ i. if is i then leaves (set_cell cells f (number (there.leaf (first_input local params r))))
              (steps + runs_steps + 1) (f ∷ [])
              else if stays i then leaves (set_cell cells f (number start)) (steps + runs_steps + off_steps + 1) (f ∷ [])
              else leaves cells (steps + runs_steps + off_steps) [])

          by : (b o : Bool) → row_runs local m r ≡ b → is_off local m ≡ o → Done steps
          by true o runs is = leaves-done _ (set_cell cells f (number (there.leaf (first_input local params r)))) _
              (steps + runs_steps + 1) (steps + memory_steps) (f ∷ []) (stored_once f)
              (result true o runs is) (ap (λ w. set_cell cells f (number w)) (input-is runs ∙ sym (ap first_of (run-after runs))))
              (omega (arith, first_steps)) (stores-once f)
          by false true rests off = leaves-done _ (set_cell cells f (number start)) _ (steps + runs_steps + off_steps + 1)
              (steps + memory_steps) (f ∷ []) (stored_once f)
              (result false true rests off) (ap (λ w. set_cell cells f (number w)) (sym (ap first_of (start-after off))))
              (omega (arith, first_steps, second_steps)) (stores-once f)
          by false false rests on = leaves-done _ cells _ (steps + runs_steps + off_steps) (steps + memory_steps) [] (stored_once f)
              (result false false rests on)
              (sym (set-same cells f (number (first_of (m.tick.memory_after r.row)))
              (is-number (container r.out) (cell_at cells f) (slot-has slots cells f (memory r) ready.shape at)
              ∙ ap number (holds.single f at ∙ sym (ap first_of (kept-after on rests))))))
              (omega (arith, first_steps, second_steps)) (stores-nothing (stored_once f))

    -- ---- Several samples

    module _ (law : RingsAreStored) (line : is_line r.op ≡ true)
        (holds : HoldsMemory local slots offers children cycle m params scope cells r) where
      abbrev ring_at : RingFields
      ring_at = ring_fields local r.row

      abbrev n : ℕ
      n = delay_length r.op

      abbrev ring : Ring
      ring = m.ring r.row

      items_at_field : slice_get slots ring_at.items ≡ Some (ring_items r)
      items_at_field = ring_items-at local schedule lawful r own line

      place_at_field : slice_get slots ring_at.place ≡ Some (ring_place r)
      place_at_field = ring_place-at local schedule lawful r own line

      taken_at_field : slice_get slots ring_at.taken ≡ Some (ring_taken r)
      taken_at_field = ring_taken-at local schedule lawful r own line

      are-fields : AreRingFields (scope values) ring_at
      are-fields = record {
        place_type = slot-type slots ring_at.place (ring_place r) place_at_field;
        taken_type = slot-type slots ring_at.taken (ring_taken r) taken_at_field;
        items_and_place = λ same. omega (arith, same);
        items_and_taken = λ same. omega (arith, same);
        taken_and_place = λ same. omega (arith, same);
      }

      item-fits : row_runs local m r ≡ true → Takes (scope values) ring_at.items (there.leaf (first_input local params r))
      item-fits runs = subst (Takes (scope values) ring_at.items) (sym (input-is runs))
          (ap (λ t. is_in_type t v) (slot-type slots ring_at.items (ring_items r) items_at_field)
          ∙ container-has r.out v (last-in (InType r.out) _ v
          (subst (AllByRecursion (InType r.out)) (moved-after runs) after-typed)))

      ring-after : m.ring_after r.row ≡ ring_of local m r
      ring-after = each-kept (λ (r : LocalRow). m.ring_after r.row ≡ ring_of local m r)
          (λ (r : LocalRow). is_line r.op) local.rows r tick.rings own line

      rings-stored : (steps : ℕ) → steps + 4 ≤ step_limit →
          run_stmts (scope values) (moved_stmts away (memory_code local params r)) cells steps
          ≡ (if row_runs local m r then leaves (taken_in_cells ring_at n ring.place ring.taken
          (there.leaf (first_input local params r)) cells) (steps + runs_steps + 3)
          (ring_at.items ∷ ring_at.taken ∷ ring_at.place ∷ [])
          else if is_off local m then leaves (emptied_cells ring_at cells) (steps + runs_steps + off_steps + 2)
          (ring_at.place ∷ ring_at.taken ∷ [])
          else leaves cells (steps + runs_steps + off_steps) [])
      rings-stored steps room =
          ap (λ t. run_stmts (scope values) (moved_stmts away
          (if t then ring_statements ring_at n (runs_test local params r) (first_input local params r) (off_test local params)
          else memory_statements (memory_field local r.row) (runs_test local params r) (first_input local params r)
          (off_test local params) start)) cells steps) line
          ∙ ap (λ code. run_stmts (scope values) code cells steps)
          (ring-moved away ring_at n (runs_test local params r) (first_input local params r) (off_test local params))
          ∙ law (scope values) cells ring_at n ring.place ring.taken (moved_test away (runs_test local params r))
          (moved_test away (off_test local params))
          (row_runs local m r) (is_off local m) (moved_leaf away (first_input local params r)) steps
          (holds-ring local schedule params settled has functions cycle is_cycle offers m typed
          children scope values cells ready.arguments tick r own holds line)
          are-fields runs-test off-test item-fits room

      abbrev after_cells : Cells
      after_cells = ring_cells ring_at.items ring_at.place ring_at.taken (m.ring_after r.row) cells

      abbrev each_stored : List ℕ → ℕ → ℕ
      each_stored = stored_each (ring_at.items ∷ ring_at.place ∷ ring_at.taken ∷ [])

      abbrev RingDone : ℕ → Type 0
      RingDone steps = OnDone (run_stmts (scope values) (moved_stmts away (memory_code local params r)) cells steps)
          (Leaves after_cells (steps + ring_steps) [] each_stored)

      -- what is in its three fields
      items-is : cell_at cells ring_at.items ≡ items ring.items
      items-is = (is-array n (cell_at cells ring_at.items)
          (slot-has slots cells ring_at.items (ring_items r) ready.shape items_at_field)).0
          ∙ ap items (holds.array ring_at.items items_at_field)

      place-is : cell_at cells ring_at.place ≡ number (pos ring.place)
      place-is = is-number I32 (cell_at cells ring_at.place)
          (slot-has slots cells ring_at.place (ring_place r) ready.shape place_at_field)
          ∙ ap number (holds.place ring_at.place place_at_field)

      taken-is : cell_at cells ring_at.taken ≡ number (pos ring.taken)
      taken-is = is-number I32 (cell_at cells ring_at.taken)
          (slot-has slots cells ring_at.taken (ring_taken r) ready.shape taken_at_field)
          ∙ ap number (holds.taken ring_at.taken taken_at_field)

      ring-done : (steps : ℕ) → steps + ring_steps ≤ step_limit → RingDone steps
      ring-done steps room = by (row_runs local m r) (is_off local m) refl refl
        where
          first_steps : runs_steps ≤ 1
          first_steps = few (moved_test away (runs_test local params r))

          second_steps : off_steps ≤ 1
          second_steps = few (moved_test away (off_test local params))

          result : (b o : Bool) → row_runs local m r ≡ b → is_off local m ≡ o →
              run_stmts (scope values) (moved_stmts away (memory_code local params r)) cells steps
              ≡ (if b then leaves (taken_in_cells ring_at n ring.place ring.taken (there.leaf (first_input local params r)) cells)
              (steps + runs_steps + 3)
              (ring_at.items ∷ ring_at.taken ∷ ring_at.place ∷ [])
              else if o then leaves (emptied_cells ring_at cells) (steps + runs_steps + off_steps + 2)
              (ring_at.place ∷ ring_at.taken ∷ [])
              else leaves cells (steps + runs_steps + off_steps) [])
          result b o is stays = rings-stored steps room
              ∙ (λ i. if is i then leaves (taken_in_cells ring_at n ring.place ring.taken
              (there.leaf (first_input local params r)) cells) (steps + runs_steps + 3)
              (ring_at.items ∷ ring_at.taken ∷ ring_at.place ∷ [])
              else if stays i then leaves (emptied_cells ring_at cells) (steps + runs_steps + off_steps + 2)
              (ring_at.place ∷ ring_at.taken ∷ [])
              else leaves cells (steps + runs_steps + off_steps) [])

          with_items : Cells
          with_items = set_cell cells ring_at.items (items (set_item ring.items ring.place v))

          by : (b o : Bool) → row_runs local m r ≡ b → is_off local m ≡ o → RingDone steps
          by true o runs is =
              let moved : m.ring_after r.row ≡ moved_ring n ring v =
              ring-after ∙ (λ i. if not-off runs i then emptied_ring ring else (if runs i then moved_ring n ring v else ring)) in
              leaves-done _ (taken_in_cells ring_at n ring.place ring.taken
              (there.leaf (first_input local params r)) cells) after_cells (steps + runs_steps + 3) (steps + ring_steps)
              (ring_at.items ∷ ring_at.taken ∷ ring_at.place ∷ []) each_stored
              (result true o runs is)
              (ap (λ w. taken_in_cells ring_at n ring.place ring.taken w cells) (input-is runs)
              ∙ ap (λ vs. set_cell (set_cell (set_cell cells ring_at.items (items (set_item vs ring.place v))) ring_at.taken
              (number (pos (if nat_lt ring.taken n then ring.taken + 1 else ring.taken)))) ring_at.place
              (number (pos ((ring.place + 1) % n)))) (holds.array ring_at.items items_at_field)
              ∙ set-apart with_items ring_at.taken ring_at.place
              (number (pos (if nat_lt ring.taken n then ring.taken + 1 else ring.taken))) (number (pos ((ring.place + 1) % n)))
              (λ same. omega (arith, same))
              ∙ ap (λ q. ring_cells ring_at.items ring_at.place ring_at.taken q cells) (sym moved))
              (omega (arith, first_steps))
              (stores-each (ring_at.items ∷ ring_at.place ∷ ring_at.taken ∷ []) (ring_at.items ∷ ring_at.taken ∷ ring_at.place ∷ [])
              (three-turned ring_at.items ring_at.place ring_at.taken))
          by false true rests off =
              let emptied : m.ring_after r.row ≡ emptied_ring ring =
              ring-after ∙ (λ i. if calm ready.callable i || off i then emptied_ring ring
              else (if row_runs local m r then moved_ring n ring v else ring)) in
              leaves-done _ (emptied_cells ring_at cells) after_cells (steps + runs_steps + off_steps + 2) (steps + ring_steps)
              (ring_at.place ∷ ring_at.taken ∷ []) each_stored
              (result false true rests off)
              (ap (λ c. set_cell (set_cell c ring_at.place (number (pos 0))) ring_at.taken (number (pos 0)))
              (sym (set-same cells ring_at.items (items ring.items) items-is))
              ∙ ap (λ q. ring_cells ring_at.items ring_at.place ring_at.taken q cells) (sym emptied))
              (omega (arith, first_steps, second_steps))
              (stores-each (ring_at.items ∷ ring_at.place ∷ ring_at.taken ∷ []) (ring_at.place ∷ ring_at.taken ∷ [])
              (two-of-three ring_at.items ring_at.place ring_at.taken))
          by false false rests on =
              let kept : m.ring_after r.row ≡ ring =
              ring-after ∙ (λ i. if calm ready.callable i || on i then emptied_ring ring
              else (if rests i then moved_ring n ring v else ring)) in
              leaves-done _ cells after_cells (steps + runs_steps + off_steps) (steps + ring_steps) [] each_stored
              (result false false rests on)
              (sym (ap (λ q. ring_cells ring_at.items ring_at.place ring_at.taken q cells) kept
              ∙ ap (λ c. set_cell (set_cell c ring_at.place (number (pos ring.place))) ring_at.taken (number (pos ring.taken)))
              (set-same cells ring_at.items (items ring.items) items-is)
              ∙ ap (λ c. set_cell c ring_at.taken (number (pos ring.taken)))
              (set-same cells ring_at.place (number (pos ring.place)) place-is)
              ∙ set-same cells ring_at.taken (number (pos ring.taken)) taken-is))
              (omega (arith, first_steps, second_steps))
              (stores-nothing each_stored)

  -- ---- As it is said of the code

  pub memory-given : TickLaws → MemoriesAreStored → (r : LocalRow) → Contains local.rows r → is_single r.op ≡ true →
      GivesMemory local slots offers children cycle m params scope (moved_stmts away (memory_code local params r)) memory_steps r
  memory-given laws law r own single values cells g there_at ready holds =
      subst (λ k. Gives local slots offers children cycle m params scope
      (moved_stmts away (memory_code local params r)) values cells
      (set_cell cells k (number (first_of (m.tick.memory_after r.row)))) memory_steps [] (stored_once k))
      (stands local schedule lawful g (memory r) there_at).2
      (memory-done laws r own (single-is r.op single).0 values cells ready law single holds)

  pub ring-given : TickLaws → RingsAreStored → (r : LocalRow) → Contains local.rows r → is_line r.op ≡ true →
      GivesRing local slots offers children cycle m params scope (moved_stmts away (memory_code local params r)) ring_steps r
  ring-given laws law r own line values cells f g h f_at g_at h_at ready holds =
      let code = moved_stmts away (memory_code local params r) in
      let P : ℕ → ℕ → ℕ → Type 0 = λ f g h. Gives local slots offers children cycle m params scope code values cells
      (ring_cells f g h (m.ring_after r.row) cells) ring_steps [] (stored_each (f ∷ g ∷ h ∷ [])) in
      let b = ring_field local r.row in
      subst (λ x. P x g h) (stands local schedule lawful f (ring_items r) f_at).2
      (subst (λ x. P b x h) (stands local schedule lawful g (ring_place r) g_at).2
      (subst (λ x. P b (b + 1) x) (stands local schedule lawful h (ring_taken r) h_at).2
      (ring-done laws r own (line-is r.op line) values cells ready law line holds)))

  pub trigger-given : TriggersAreStored → is_triggered local.control ≡ true →
      GivesTrigger local slots offers children cycle m params scope (moved_stmts away (trigger_code local params)) trigger_steps
  trigger-given law triggered values cells g there_at ready =
      subst (λ k. Gives local slots offers children cycle m params scope (moved_stmts away (trigger_code local params)) values cells
      (set_cell cells k (number (memory_number m.tick.trigger_after))) trigger_steps [] (stored_once k))
      (stands local schedule lawful g trigger there_at).1 done
    where
      f : ℕ
      f = trigger_field local

      level : ℤ
      level = trigger_in local.control m.tick.controls

      after : m.tick.trigger_after ≡ next_memory true m.tick.trigger level
      after = tick.trigger triggered ∙ (λ i. if calm ready.callable i then NotYet
          else next_memory (ready.callable i) m.tick.trigger level)

      done : (steps : ℕ) → steps + trigger_steps ≤ step_limit →
          OnDone (run_stmts (scope values) (moved_stmts away (trigger_code local params)) cells steps)
          (Leaves (set_cell cells f (number (memory_number m.tick.trigger_after))) (steps + trigger_steps) [] (stored_once f))
      done steps room =
          let read = trigger-reads local slots offers children cycle m params scope typed values cells ready.arguments triggered
          (has.trigger triggered) in
          leaves-done _ _ _ (steps + 1) (steps + trigger_steps) (f ∷ []) (stored_once f)
          (law (scope values) cells f (control_leaves local params).trigger m.tick.trigger steps
          (slot-type slots f trigger (trigger-at local schedule lawful triggered)) (omega (arith, room)))
          (ap (λ w. set_cell cells f (number w))
          (ap (λ x. memory_number (next_memory true m.tick.trigger x)) read
          ∙ sym (number-is (next_memory true m.tick.trigger level)) ∙ ap memory_number (sym after)))
          (omega arith) (stores-once f)
