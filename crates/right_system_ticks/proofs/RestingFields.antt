-- Without an act nothing changes, and outputs hold where their functions were called.
use Rattle.std.specs.Prelude.{◌≡◌, ℕ, ◌<◌, Bool, true, false, not, ◌&&◌, ◌||◌, ◌==◌, if◌then◌else◌, List, [], ◌∷◌, map, filter, find, length, replicate, slice_get, slice_index, Contains, Some, ℤ, pos, refl}
use Rattle.std.specs.List.{AllByRecursion, list_any, range_with_len}
use Rattle.std.proofs.Common.{sym, ap, subst, ◌∙◌, arith, inl, inr}
use Rattle.std.proofs.lemmas.List.{length-map}
use Rattle.std.proofs.lemmas.Option.{get_or_from_slice_get}
use Rattle.base_core.specs.declared.Control.{Control}
use Rattle.base_core.specs.declared.Control.TheVariants.{Plain, Enabled, Triggered, Both}
use Rattle.diagram_activity.specs.declared.TrigMem.{TrigMem}
use Rattle.diagram_activity.specs.declared.TrigMem.TheVariants.{NotYet}
use Rattle.base_fixed_point.specs.declared.FixType.{FixType}
use Rattle.diagram_blocks.specs.declared.Kind.{Kind}
use Rattle.diagram_blocks.specs.declared.Kind.TheVariants as block
use Rattle.diagram_blocks.specs.declared.Op.{Op}
use Rattle.diagram_blocks.specs.declared.Op.TheVariants as op
use Rattle.diagram_blocks.specs.Meaning.{has_value, delay_length}
use Rattle.diagram_blocks.specs.Value.{rhs, input}
use Rattle.diagram_meaning.specs.Rows.{is_triggered}
use Rattle.diagram_blocks.specs.Kinds.{is_outport, port_of, is_delay, is_reset_outport}
use Rattle.diagram_meaning.specs.SampleTimes.{hit}
use Rattle.diagram_meaning.specs.Run.{first_of, moved_on}
use Rattle.diagram_meaning.specs.ControlValues.{is_active_by, is_off_by, is_disabled_by, remembered_by}
use Rattle.base_core.specs.Numbers.{int_at}
use Rattle.modules_profile.specs.declared.local.ChildUse.{ChildUse}
use Rattle.modules_profile.specs.declared.local.LocalRow.{LocalRow}
use Rattle.modules_profile.specs.declared.nodes.Node.{Node}
use Rattle.modules_profile.specs.declared.nodes.Node.TheVariants.{Row}
use Rattle.modules_profile.specs.LocalSystem.{LocalSystem}
use Rattle.modules_profile.specs.SystemHeader.{SystemHeader}
use Rattle.modules_profile.specs.SystemProfile.{SystemProfile}
use Rattle.modules_profile.specs.Headers.{header_functions, header_function}
use Rattle.base_core.specs.Ports.{has_bit}
use Rattle.modules_profile.specs.Locals.{own_header, outports}
use Rattle.modules_profile.proofs.lemmas.Members.{in-none, in-cases, in-filter, of-filter, of-filter_map, found-in, of-range, in-at, at-map, below-at}
use Rattle.modules_schedule.specs.SystemSchedule.{SystemSchedule}
use Rattle.c_semantics.specs.Cells.{Cell, number, items, object, number_at, cell_value}
use Rattle.emit_shape.specs.Delays.{is_single, is_line}
use Rattle.emit_shape.specs.RowStarts.{row_start}
use Rattle.c_syntax.specs.Tree.{PureTree}
use Rattle.emit_shape.specs.Slots.{Slot, value, memory, ring_items, ring_place, ring_taken, trigger, counter, instance, filler}
use Rattle.right_relation.specs.Instances.{InstanceTick, instance_at, none_called, Offer}
use Rattle.right_relation.specs.LocalTicks.{LocalTick, row_inputs, is_active, is_off, is_disabled, row_runs, value_of, memory_of, ring_of}
use Rattle.right_relation.specs.Rings.{Ring, emptied_ring, moved_ring}
use Rattle.right_relation.specs.Serving.{is_given}
use Rattle.right_relation.specs.SoundLocals.{IsSoundLocal, LocalsAreSound}
use Rattle.right_relation.specs.Standing.{executed_by, called_in, cells_of, standing_cell, after_cell, outer_tick_of}
use Rattle.diagram_activity.specs.Activity.{memory_number}
use Rattle.right_relation.specs.StandingLaws.{OutportIsHeldAlone}
use Rattle.emit_system_spec.specs.Fields.{code_slots, value_field}
use Rattle.right_system_ticks.specs.ActLaws.{IsTickOf, emitted_offer, emitted_instance, StandsByOutputs, CalledGroupsAreHeld, EmittedOutputsStand, EmittedFieldsRest}
use Rattle.right_system_ticks.specs.Holding.{held, counted}
use Rattle.right_system_ticks.specs.PlaceLaws.{IsSlotAt, HasFieldPlaces, FieldsHavePlaces}
use Rattle.right_system_ticks.proofs.Tests.{same-test, any-same}
use Rattle.right_system_ticks.proofs.NoneCalled.{nothing-counted}
use Rattle.right_system_ticks.proofs.UpdateStates.{serves-at}
use Rattle.right_system_ticks.proofs.CellLists.{cell-stands, cells-same}

-- ---- A system that is not active, off or disabled

still-inactive : (control : Control) (memory : TrigMem) (values : List ℤ) → is_active_by false control memory values ≡ false
still-inactive Plain before values = refl
still-inactive (Enabled reset) before values = refl
still-inactive (Triggered edge) before values = refl
still-inactive (Both reset edge) before values = refl

never : (b : Bool) → (b && false) ≡ false
never true = refl
never false = refl

still-on : (control : Control) (values : List ℤ) → is_off_by false control values ≡ false
still-on Plain values = refl
still-on (Enabled reset) values = never reset
still-on (Triggered edge) values = refl
still-on (Both reset edge) values = never reset

still-enabled : (control : Control) (values : List ℤ) → is_disabled_by false control values ≡ false
still-enabled Plain values = refl
still-enabled (Enabled reset) values = refl
still-enabled (Triggered edge) values = refl
still-enabled (Both reset edge) values = refl

-- ---- Tests that no member passes

none-pass : {A : Type 0} (test : A → Bool) (xs : List A) → ((x : A) → test x ≡ false) → list_any test xs ≡ false
none-pass test [] fails = refl
none-pass test (x ∷ xs) fails = ap (λ t. t || list_any test xs) (fails x) ∙ none-pass test xs fails

-- where no function was called no node was executed
pub nothing-executed : (local : LocalSystem) (h : SystemHeader) (schedule : SystemSchedule) (x : Node) →
    executed_by h (held local schedule) none_called x ≡ false
nothing-executed local h schedule x = none-pass (λ j. false && held local schedule j x) (range_with_len 1 (length (header_functions h)))
    (λ j. refl)

-- ---- Kinds and operations

outport-value : (k : Kind) → is_outport k ≡ true → has_value k ≡ true
outport-value (block.SubSystem control) h = h
outport-value block.Terminator h = h
outport-value block.EnablePort h = h
outport-value block.TriggerPort h = h
outport-value _ h = refl

-- ---- Equations of a tick

each-of : {A : Type 0} (P : A → Type 0) (xs : List A) (x : A) → AllByRecursion P xs → Contains xs x → P x
each-of P [] x all h = absurd (in-none x h)
each-of P (y ∷ ys) x all h = elim (in-cases y x ys h) [ inl same ↦ subst P same all.0 | inr more ↦ each-of P ys x all.1 more ]

single-delays : (o : Op) → is_single o ≡ true → is_delay o ≡ true
single-delays (op.Delay initial) h = refl
single-delays (op.Line samples start) h = refl
single-delays _ h = h

module _ {A : Type 0} where
  resting-value : (has reset disabled runs : Bool) (a b c d : A) → has ≡ true → disabled ≡ false → runs ≡ false →
      (if not has then a else (if reset && disabled then b else (if runs then c else d))) ≡ d
  resting-value true true true runs a b c d h e f = absurd (let wrong : ⊥ = cc e in wrong)
  resting-value true true false true a b c d h e f = absurd (let wrong : ⊥ = cc f in wrong)
  resting-value true true false false a b c d h e f = refl
  resting-value true false disabled true a b c d h e f = absurd (let wrong : ⊥ = cc f in wrong)
  resting-value true false disabled false a b c d h e f = refl
  resting-value false reset disabled runs a b c d h e f = absurd (let wrong : ⊥ = cc h in wrong)

  resting-memory : (around off runs : Bool) (a b c : A) → around ≡ false → off ≡ false → runs ≡ false →
      (if around || off then a else (if runs then b else c)) ≡ c
  resting-memory true off runs a b c h e f = absurd (let wrong : ⊥ = cc h in wrong)
  resting-memory false true runs a b c h e f = absurd (let wrong : ⊥ = cc e in wrong)
  resting-memory false false true a b c h e f = absurd (let wrong : ⊥ = cc f in wrong)
  resting-memory false false false a b c h e f = refl

module _ (fields_have_places : FieldsHavePlaces) (local : LocalSystem) (profile : SystemProfile) (schedule : SystemSchedule) (cycle : ℕ)
    (offers : List Offer) (m : LocalTick) (children : List InstanceTick) (is : IsTickOf local profile schedule cycle offers m children)
  where
    places : HasFieldPlaces local schedule
    places = fields_have_places local profile schedule is.emitted

    abbrev slots : List Slot
    slots = code_slots local schedule

    module _ (idle : m.tick.parent ≡ false) (not_off : m.tick.is_off_around ≡ false) where
      inactive : is_active local m ≡ false
      inactive = ap (λ p. is_active_by p local.control m.tick.trigger m.tick.controls) idle
          ∙ still-inactive local.control m.tick.trigger m.tick.controls

      on : is_off local m ≡ false
      on = ap (λ p. is_off_by p local.control m.tick.controls) idle ∙ still-on local.control m.tick.controls

      enabled : is_disabled local m ≡ false
      enabled = ap (λ p. is_disabled_by p local.control m.tick.controls) idle ∙ still-enabled local.control m.tick.controls

      stopped : (r : LocalRow) → row_runs local m r ≡ false
      stopped r = ap (λ a. a && hit r.time m.tick.t) inactive

      abbrev after : Slot → Cell
      after x = after_cell local m children x

      abbrev standing : Slot → Cell
      standing x = standing_cell local m children (executed_by (own_header local profile) (held local schedule) none_called)
          (counted schedule none_called) x

      abbrev delays : List LocalRow
      delays = filter (λ r. is_delay r.op) local.rows

      same-value : (r : LocalRow) → Contains local.rows r → has_value r.kind ≡ true → m.tick.value r.row ≡ m.tick.before r.row
      same-value r h has =
          each-of (λ r. m.tick.value r.row ≡ value_of local m r) local.rows r is.is_tick.values h
          ∙ resting-value (has_value r.kind) (is_reset_outport r.kind) (is_disabled local m) (row_runs local m r) (pos 0)
          (row_start local r)
          (rhs r.op (row_inputs local m r) (first_of (m.tick.memory r.row))) (m.tick.before r.row) has enabled (stopped r)

      same-memory : (r : LocalRow) → Contains local.rows r → is_single r.op ≡ true → m.tick.memory_after r.row ≡ m.tick.memory r.row
      same-memory r h single =
          each-of (λ r. m.tick.memory_after r.row ≡ memory_of local m r) delays r is.is_tick.memories
          (in-filter (λ r. is_delay r.op) local.rows r h (single-delays r.op single))
          ∙ resting-memory m.tick.is_off_around (is_off local m) (row_runs local m r) (replicate (delay_length r.op) (row_start local r))
          (moved_on (m.tick.memory r.row) (input (row_inputs local m r) 0)) (m.tick.memory r.row) not_off on (stopped r)

      same-ring : (r : LocalRow) → Contains local.rows r → is_line r.op ≡ true → m.ring_after r.row ≡ m.ring r.row
      same-ring r h line =
          each-of (λ r. m.ring_after r.row ≡ ring_of local m r) (filter (λ r. is_line r.op) local.rows) r is.is_tick.rings
          (in-filter (λ r. is_line r.op) local.rows r h line)
          ∙ resting-memory m.tick.is_off_around (is_off local m) (row_runs local m r) (emptied_ring (m.ring r.row))
          (moved_ring (delay_length r.op) (m.ring r.row) (input (row_inputs local m r) 0)) (m.ring r.row) not_off on (stopped r)

      same-trigger : is_triggered local.control ≡ true → m.tick.trigger_after ≡ m.tick.trigger
      same-trigger is_one =
          is.is_tick.trigger is_one
          ∙ ap (λ t. if t then NotYet else remembered_by m.tick.parent local.control m.tick.trigger m.tick.controls) not_off
          ∙ ap (λ p. remembered_by p local.control m.tick.trigger m.tick.controls) idle

      same-child : (k : ℕ) (u : ChildUse) → slice_get local.children k ≡ Some u →
          (instance_at children k).after
          ≡ (instance_at children k).standing (called_in (is_active local m)
          (executed_by (own_header local profile) (held local schedule) none_called) u)
      same-child k u at =
          (serves-at local m cycle local.children offers children k u is.serve at).rests inactive
          (ap (λ t. t || is_off local m) not_off ∙ on)
          ∙ ap (λ a. (instance_at children k).standing (called_in a
          (executed_by (own_header local profile) (held local schedule) none_called) u)) (sym inactive)

      same : (f : ℕ) (x : Slot) → slice_get slots f ≡ Some x → IsSlotAt local schedule f x → after x ≡ standing x
      same f (value r) at (own, has) =
          ap number (same-value r own has
          ∙ ap (λ t. if t then m.tick.value r.row else m.tick.before r.row)
          (sym (nothing-executed local (own_header local profile) schedule (Row r.row))))
      same f (memory r) at (own, single) = ap (λ ms. number (first_of ms)) (same-memory r own single)
      same f (ring_items r) at (own, line) = ap (λ (q : Ring). items q.items) (same-ring r own line)
      same f (ring_place r) at (own, line) = ap (λ (q : Ring). number (pos q.place)) (same-ring r own line)
      same f (ring_taken r) at (own, line) = ap (λ (q : Ring). number (pos q.taken)) (same-ring r own line)
      same f trigger at is_one = ap (λ t. number (memory_number t)) (same-trigger is_one)
      same f (counter name type) at known = ap number (sym (nothing-counted schedule name))
      same f (instance k u) at there = ap object (same-child k u there)
      same f filler at known = refl

      rests : cells_of (map after slots) ≡ cells_of (map standing slots)
      rests = cells-same standing after slots (λ f x at. same f x at (places.each f x at))

    -- ---- Outputs

    module _ (outport_is_held_alone : OutportIsHeldAlone) (called_groups_are_held : CalledGroupsAreHeld) (sound : IsSoundLocal local) where
      abbrev h : SystemHeader
      h = own_header local profile

      outport-is : (o : LocalRow) → Contains (outports local) o → Contains local.rows o × (has_value o.kind ≡ true)
      outport-is o out =
          let rows : List LocalRow = filter (λ (r : LocalRow). is_outport r.kind) local.rows in
          let f = of-filter_map (λ k. find (λ (r : LocalRow). port_of r.kind == k) rows) (range_with_len 1 (length rows)) o out in
          let m = of-filter (λ (r : LocalRow). is_outport r.kind) local.rows o
          (found-in (λ (r : LocalRow). port_of r.kind == f.0) rows o f.2).0 in
          (m.0, outport-value o.kind m.1)

      output-slot : (k : ℕ) (o : LocalRow) → slice_get (outports local) k ≡ Some o →
          slice_get slots (value_field local o.row) ≡ Some (value o)
      output-slot k o at = let its = outport-is o (in-at (outports local) k o at) in places.values o its.0 its.1

      output-place : (k : ℕ) (o : LocalRow) → slice_get (outports local) k ≡ Some o →
          slice_index (map (λ o. value_field local o.row) (outports local)) k ≡ value_field local o.row
      output-place k o at =
          get_or_from_slice_get (map (λ o. value_field local o.row) (outports local)) k (value_field local o.row) 0
          (at-map (λ (o : LocalRow). value_field local o.row) (outports local) k o at)

      number-of : (f : LocalRow → ℤ) (k : ℕ) (o : LocalRow) → slice_get (outports local) k ≡ Some o →
          int_at (map f (outports local)) k ≡ f o
      number-of f k o at = get_or_from_slice_get (map f (outports local)) k (f o) (pos 0) (at-map f (outports local) k o at)

      outport-at : (k : ℕ) → k < length h.outputs → (o : LocalRow) × (slice_get (outports local) k ≡ Some o)
      outport-at k below =
          let long = length-map {B = ℕ × FixType} (outports local) (λ (r : LocalRow). (r.row, r.out)) in
          below-at (outports local) k (omega (arith, below, long))

      given-executed : (called : ℕ → Bool) (k : ℕ) (o : LocalRow) → slice_get (outports local) k ≡ Some o →
          executed_by h (held local schedule) called (Row o.row) ≡ is_given h called k
      given-executed called k o at =
          any-same (λ j. called j && held local schedule j (Row o.row)) (λ j. called j && has_bit (header_function h j).outputs k)
          (range_with_len 1 (length profile.functions)) (λ j among.
          let range = of-range 1 (length profile.functions) j among in
          ap (λ t. called j && t)
          (same-test (held local schedule j (Row o.row)) (has_bit (header_function h j).outputs k)
          (outport_is_held_alone local profile (held local schedule) j k o sound
          (called_groups_are_held local profile schedule is.emitted) (let low = range.0 in omega (arith, low))
          (let high = range.1 in omega (arith, high)) at).0
          (outport_is_held_alone local profile (held local schedule) j k o sound
          (called_groups_are_held local profile schedule is.emitted) (let low = range.0 in omega (arith, low))
          (let high = range.1 in omega (arith, high)) at).1))

      stands : (pures : List PureTree) (numbers : ℕ → ℕ) →
          StandsByOutputs h (emitted_offer local profile schedule offers pures numbers).places
          (outer_tick_of local m).before (outer_tick_of local m).outputs
          (emitted_instance local profile schedule offers pures numbers m children)
      stands pures numbers = record {
        outputs = λ called k below.
            let o = outport-at k below in
            let cells = standing_cell local m children (executed_by h (held local schedule) called) (counted schedule called) in
            ap (number_at (cells_of (map cells slots))) (output-place k o.0 o.1)
            ∙ ap cell_value (cell-stands cells slots (value_field local o.0.row) (value o.0) (output-slot k o.0 o.1))
            ∙ ap (λ t. if t then m.tick.value o.0.row else m.tick.before o.0.row) (given-executed called k o.0 o.1)
            ∙ choose (is_given h called k) k o.0 o.1;
        stay = λ k below.
            let o = outport-at k below in
            ap (number_at (cells_of (map (after_cell local m children) slots))) (output-place k o.0 o.1)
            ∙ ap cell_value (cell-stands (after_cell local m children) slots (value_field local o.0.row) (value o.0)
            (output-slot k o.0 o.1))
            ∙ sym (number-of (λ o. m.tick.value o.row) k o.0 o.1);
      }
        where
          choose : (t : Bool) (k : ℕ) (o : LocalRow) → slice_get (outports local) k ≡ Some o →
              (if t then m.tick.value o.row else m.tick.before o.row)
              ≡ int_at (if t then map (λ o. m.tick.value o.row) (outports local) else map (λ o. m.tick.before o.row) (outports local)) k
          choose true k o at = sym (number-of (λ o. m.tick.value o.row) k o at)
          choose false k o at = sym (number-of (λ o. m.tick.before o.row) k o at)

-- ---- The laws

module _ (fields_have_places : FieldsHavePlaces) where
  pub emitted_fields_rest : EmittedFieldsRest
  emitted_fields_rest local profile schedule cycle offers m children is pures numbers idle not_off =
      rests fields_have_places local profile schedule cycle offers m children is idle not_off

  pub emitted_outputs_stand : OutportIsHeldAlone → CalledGroupsAreHeld → LocalsAreSound → EmittedOutputsStand
  emitted_outputs_stand alone are_held sound local profile schedule cycle offers m children is pures numbers =
      stands fields_have_places local profile schedule cycle offers m children is alone are_held
      (sound is.emitted.resolved local.row local is.emitted.is_resolved is.emitted.is_local) pures numbers
