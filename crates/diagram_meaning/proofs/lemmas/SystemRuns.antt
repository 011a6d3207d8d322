-- A run is for each system within it a run of that system.
use Rattle.std.specs.Prelude.{◌≡◌, ℕ, zero, suc, ◌+◌, ◌-◌, ◌<◌, Bool, true, false, not, ◌&&◌, ◌||◌, if◌then◌else◌, List, [], ◌∷◌, map, length, slice_get, slice_index_or, Option, Some, None, ℤ, pos}
use Rattle.std.specs.List.{range_with_len}
use Rattle.std.proofs.Common.{refl, sym, ◌∙◌, ap, subst, arith, true≢false, true-eqb, eq-eqb}
use Rattle.std.proofs.lemmas.List.{get_or_past}
use Rattle.std.proofs.lemmas.List.FromFn.{get_or-map-range_with_len}
use native.Mathlib.Decide.{dec_lt}
use Rattle.base_core.specs.declared.Control.{Control}
use Rattle.base_core.specs.declared.Control.TheVariants.{Plain, Enabled, Triggered, Both}
use Rattle.base_core.specs.declared.Port.TheVariants.{Number, Enable, Trigger}
use Rattle.diagram_activity.specs.declared.TrigMem.{TrigMem}
use Rattle.diagram_activity.specs.declared.TrigMem.TheVariants.{NotYet}
use Rattle.diagram_activity.specs.Activity.{active, off, is_high, next_memory}
use Rattle.diagram_blocks.specs.declared.Kind.{Kind}
use Rattle.diagram_blocks.specs.Value.{rhs, input}
use Rattle.diagram_blocks.specs.Meaning.{has_value, delay_length}
use Rattle.diagram_meaning.specs.SampleTimes.{hit}
use Rattle.diagram_meaning.specs.declared.table.Row.{Row}
use Rattle.diagram_meaning.specs.Rows.{row_at, no_row, control_at, is_enabled, is_triggered, is_inside, is_system, same_system, system_control, inports_of, around, column, enable_among, trigger_among, enable_wire, trigger_wire}
use Rattle.diagram_blocks.specs.Kinds.{control_of, is_inport, port_of, is_delay, is_reset_outport}
use Rattle.diagram_meaning.specs.Inputs.{entering_wires}
use Rattle.base_core.specs.Ports.{control_ports}
use Rattle.diagram_meaning.specs.ControlValues.{enable_in, trigger_in, is_active_by, is_off_by, is_disabled_by}
use Rattle.base_core.specs.Numbers.{int_at}
use Rattle.diagram_meaning.specs.Diagram.{Diagram, op_at, time_at}
use Rattle.diagram_meaning.specs.ResolvedTree.{ResolvedTree, IsResolvedTree, diagram_of}
use Rattle.diagram_meaning.specs.Run.{value_at, memory_at, trigger_at, first_of, moved_on, start_of, initial_memory, wire_value, enable_value, trigger_value, active_in, any_off, is_disabled, runs, input_values, has_memory, has_trigger, triggers_by, IsRun}
use Rattle.diagram_meaning.specs.Laws.{Run, IsRunOver}
use Rattle.diagram_meaning.specs.RunLaws.{values_before, IsSystemWithin, around_rows_of, IsOwnRow, HasRowEquations}
use Rattle.diagram_meaning.specs.SystemRuns.{SystemTick, IsRowOf, IsSystemTick, IsFirstTick, RunsAreOfSystems, ChildrenMeetParents, around_system, system_trigger, inputs_at, controls_at, system_tick, own_inputs, own_runs, own_value, own_memory, own_trigger, system_is_active, system_is_off, system_is_disabled}
use Rattle.diagram_meaning.proofs.lemmas.ByRow.{by_row-at}
use Rattle.diagram_meaning.proofs.lemmas.RestsOnNeeds.{same_system-equal, is_inport-equal}
use Rattle.diagram_meaning.proofs.lemmas.Traces.{inport-at}
use Rattle.diagram_meaning.proofs.lemmas.EnteringWires.{entering-at}
use Rattle.diagram_meaning.proofs.lemmas.TickLaws.{runs_have_ticks, ticks_have_rows, own_rows_stand_in, off_is_not_active}
use Rattle.diagram_meaning.proofs.lemmas.FullMemories.{memories_are_full, first-memories}

-- ---- The controls of a system by its list of them

-- the value of a wire among some is that at its place
wire-at : (d : Diagram) (s : Option ℕ) (x v : List ℤ) (g : List TrigMem) (wires : List ℕ) (k : ℕ) →
    wire_value d s x v g (slice_get wires k) ≡ int_at (map (value_at v) wires) k
wire-at d s x v g [] k = refl
wire-at d s x v g (c ∷ wires) zero = refl
wire-at d s x v g (c ∷ wires) (suc k) = wire-at d s x v g wires k

module _ (d : Diagram) (s : Option ℕ) (x v : List ℤ) (g : List TrigMem) (e : ℕ) where
  abbrev by_wires : List ℤ
  by_wires = map (value_at v) (row_at d.rows e).inputs

  enable-by-wires : (c : Control) → is_enabled c ≡ true →
      wire_value d s x v g (enable_among c (row_at d.rows e).inputs) ≡ enable_in c by_wires
  enable-by-wires Plain h = absurd (true≢false (sym h))
  enable-by-wires (Enabled reset) h = wire-at d s x v g (row_at d.rows e).inputs 0
  enable-by-wires (Triggered edge) h = absurd (true≢false (sym h))
  enable-by-wires (Both reset edge) h = wire-at d s x v g (row_at d.rows e).inputs 0

  trigger-by-wires : (c : Control) → is_triggered c ≡ true →
      wire_value d s x v g (trigger_among c (row_at d.rows e).inputs) ≡ trigger_in c by_wires
  trigger-by-wires Plain h = absurd (true≢false (sym h))
  trigger-by-wires (Enabled reset) h = absurd (true≢false (sym h))
  trigger-by-wires (Triggered edge) h = wire-at d s x v g (row_at d.rows e).inputs 0
  trigger-by-wires (Both reset edge) h = wire-at d s x v g (row_at d.rows e).inputs 1

  abbrev by_trace : Control → List ℤ
  by_trace c = map (λ p. value_at x (column d.rows (Some e) p)) (control_ports c)

  enable-by-trace : (c : Control) → is_enabled c ≡ true → value_at x (column d.rows (Some e) Enable) ≡ enable_in c (by_trace c)
  enable-by-trace Plain h = absurd (true≢false (sym h))
  enable-by-trace (Enabled reset) h = refl
  enable-by-trace (Triggered edge) h = absurd (true≢false (sym h))
  enable-by-trace (Both reset edge) h = refl

  trigger-by-trace : (c : Control) → is_triggered c ≡ true → value_at x (column d.rows (Some e) Trigger) ≡ trigger_in c (by_trace c)
  trigger-by-trace Plain h = absurd (true≢false (sym h))
  trigger-by-trace (Enabled reset) h = absurd (true≢false (sym h))
  trigger-by-trace (Triggered edge) h = refl
  trigger-by-trace (Both reset edge) h = refl

-- ---- Activity by controls that agree where they are there

module _ (outside : Bool) (memory : TrigMem) (enable trigger : ℤ) (controls : List ℤ) where
  active-by : (c : Control) → (is_enabled c ≡ true → enable ≡ enable_in c controls) →
      (is_triggered c ≡ true → trigger ≡ trigger_in c controls) →
      active outside c memory enable trigger ≡ is_active_by outside c memory controls
  active-by Plain en tr = refl
  active-by (Enabled reset) en tr = ap (λ z. active outside (Enabled reset) memory z trigger) (en refl)
  active-by (Triggered edge) en tr = ap (active outside (Triggered edge) memory enable) (tr refl)
  active-by (Both reset edge) en tr = λ i. active outside (Both reset edge) memory (en refl i) (tr refl i)

  off-by : (c : Control) → (is_enabled c ≡ true → enable ≡ enable_in c controls) → off outside c enable ≡ is_off_by outside c controls
  off-by Plain en = refl
  off-by (Enabled reset) en = ap (off outside (Enabled reset)) (en refl)
  off-by (Triggered edge) en = refl
  off-by (Both reset edge) en = ap (off outside (Both reset edge)) (en refl)

  disabled-by : (c : Control) → (is_enabled c ≡ true → enable ≡ enable_in c controls) →
      (is_enabled c && (outside && not (is_high enable))) ≡ is_disabled_by outside c controls
  disabled-by Plain en = refl
  disabled-by (Enabled reset) en = ap (λ z. outside && not (is_high z)) (en refl)
  disabled-by (Triggered edge) en = refl
  disabled-by (Both reset edge) en = ap (λ z. outside && not (is_high z)) (en refl)

or-turned : (a b : Bool) → (a || b) ≡ (b || a)
or-turned true true = refl
or-turned true false = refl
or-turned false true = refl
or-turned false false = refl

-- whether a subsystem is s, said from either side
is-same : (s : Option ℕ) (e : ℕ) (here : Bool) → same_system s (Some e) ≡ here → is_system s e ≡ here
is-same None e here h = h
is-same (Some k) e true h = eq-eqb k e (sym (true-eqb e k (sym h)))
is-same (Some k) e false h = by (is_system (Some k) e) refl
  where
    by : (r : Bool) → is_system (Some k) e ≡ r → is_system (Some k) e ≡ false
    by true q = absurd (true≢false (sym (eq-eqb e k (sym (true-eqb k e (sym q)))) ∙ h))
    by false q = q

-- a row that is controlled is in the table
controlled-inside : (rows : List Row) (e : ℕ) → is_triggered (control_at rows e) ≡ true → e < length rows
controlled-inside rows e h = elim (dec_lt e (length rows)) [
  | yes inside ↦ inside
  | no past ↦ absurd (true≢false (sym h ∙ ap (λ (row : Row). is_triggered (control_of row.kind)) (get_or_past rows e no_row (omega arith))))
]

number-map : (f : ℕ → ℤ) (is : List ℕ) (k b : ℕ) → slice_get is k ≡ Some b → int_at (map f is) k ≡ f b
number-map f [] k b e = absurd (let wrong : ⊥ = cc e in wrong)
number-map f (i ∷ is) zero b e = let same : i ≡ b = cc e in ap f same
number-map f (i ∷ is) (suc k) b e = number-map f is k b e

and-true : (a : Bool) → a ≡ true → (c : Bool) → c ≡ true → (a && c) ≡ true
and-true a h c k = λ i. h i && k i

-- ---- One tick of a run

module _ (r : ResolvedTree) (resolved : IsResolvedTree r) (s : Option ℕ) (xs : List (List ℤ)) (run : Run)
    (is : IsRunOver (diagram_of r) s xs run) where
  abbrev d : Diagram
  d = diagram_of r

  abbrev rows : List Row
  rows = r.tree.table.rows

  module _ (n : Option ℕ) (within : IsSystemWithin rows s n) (t : ℕ) where
    abbrev x : List ℤ
    x = slice_index_or xs t []

    abbrev v : List ℤ
    v = slice_index_or run.values t []

    abbrev g : List TrigMem
    g = slice_index_or run.triggers t []

    abbrev m : List (List ℤ)
    m = slice_index_or run.memories t []

    abbrev tick : SystemTick
    tick = system_tick d s xs run n t

    own-row : (b : ℕ) → IsRowOf rows n b → IsOwnRow rows s n b
    own-row b row = record { in_table = row.in_table; own = row.own; within = within }

    -- ---- Controls

    -- those of subsystem e, which is n
    module _ (e : ℕ) (is_e : n ≡ Some e) where
      controls-are : (here : Bool) → same_system s n ≡ here →
          controls_at d s xs run n t ≡ (if here then by_trace d s x v g e (control_at rows e) else by_wires d s x v g e)
      controls-are here h =
          ap (λ (o : Option ℕ). controls_at d s xs run o t) is_e
          ∙ ap (λ q. if q then by_trace d s x v g e (control_at rows e) else by_wires d s x v g e) (ap (same_system s) (sym is_e) ∙ h)

      enable-is : is_enabled (control_at rows e) ≡ true →
          enable_value d s x v g e ≡ enable_in (control_at rows e) (controls_at d s xs run n t)
      enable-is en = by (same_system s n) refl
        where
          by : (here : Bool) → same_system s n ≡ here →
              enable_value d s x v g e ≡ enable_in (control_at rows e) (controls_at d s xs run n t)
          by true h =
              let same : s ≡ Some e = same_system-equal s n h ∙ is_e in
              ap (λ q. if q then value_at x (column rows s Enable) else wire_value d s x v g (enable_wire rows e))
              (is-same s e true (ap (same_system s) (sym is_e) ∙ h))
              ∙ ap (λ o. value_at x (column rows o Enable)) same ∙ enable-by-trace d s x v g e (control_at rows e) en
              ∙ ap (enable_in (control_at rows e)) (sym (controls-are true h))
          by false h =
              ap (λ q. if q then value_at x (column rows s Enable) else wire_value d s x v g (enable_wire rows e))
              (is-same s e false (ap (same_system s) (sym is_e) ∙ h))
              ∙ enable-by-wires d s x v g e (control_at rows e) en ∙ ap (enable_in (control_at rows e)) (sym (controls-are false h))

      trigger-is : is_triggered (control_at rows e) ≡ true →
          trigger_value d s x v g e ≡ trigger_in (control_at rows e) (controls_at d s xs run n t)
      trigger-is tr = by (same_system s n) refl
        where
          by : (here : Bool) → same_system s n ≡ here →
              trigger_value d s x v g e ≡ trigger_in (control_at rows e) (controls_at d s xs run n t)
          by true h =
              let same : s ≡ Some e = same_system-equal s n h ∙ is_e in
              ap (λ q. if q then value_at x (column rows s Trigger) else wire_value d s x v g (trigger_wire rows e))
              (is-same s e true (ap (same_system s) (sym is_e) ∙ h))
              ∙ ap (λ o. value_at x (column rows o Trigger)) same ∙ trigger-by-trace d s x v g e (control_at rows e) tr
              ∙ ap (trigger_in (control_at rows e)) (sym (controls-are true h))
          by false h =
              ap (λ q. if q then value_at x (column rows s Trigger) else wire_value d s x v g (trigger_wire rows e))
              (is-same s e false (ap (same_system s) (sym is_e) ∙ h))
              ∙ trigger-by-wires d s x v g e (control_at rows e) tr ∙ ap (trigger_in (control_at rows e)) (sym (controls-are false h))

    -- ---- Activity around the own rows

    abbrev IsActivity : Option ℕ → Type 0
    IsActivity o =
        (active_in d s x v g (around_rows_of rows s o) ≡ system_is_active d o (system_tick d s xs run o t))
        × (any_off d s x v g (around_rows_of rows s o)
        ≡ ((system_tick d s xs run o t).is_off_around || system_is_off d o (system_tick d s xs run o t)))
        × (is_disabled d s x v g (around_rows_of rows s o) ≡ system_is_disabled d o (system_tick d s xs run o t))

    activity : IsActivity n
    activity = by n refl
      where
        by : (o : Option ℕ) → n ≡ o → IsActivity o
        by None e = (refl, refl, refl)
        by (Some e) is_e =
            let c = control_at rows e in
            let outer = around rows s e in
            let controls = controls_at d s xs run (Some e) t in
            let same : controls_at d s xs run n t ≡ controls = ap (λ (o : Option ℕ). controls_at d s xs run o t) is_e in
            let en : (is_enabled c ≡ true → enable_value d s x v g e ≡ enable_in c controls) =
            λ h. enable-is e is_e h ∙ ap (enable_in c) same in
            let tr : (is_triggered c ≡ true → trigger_value d s x v g e ≡ trigger_in c controls) =
            λ h. trigger-is e is_e h ∙ ap (trigger_in c) same in
            let parent = active_in d s x v g outer in (
              active-by parent (trigger_at g e) (enable_value d s x v g e) (trigger_value d s x v g e) controls c en tr,
              ap (λ q. q || any_off d s x v g outer)
                  (off-by parent (trigger_at g e) (enable_value d s x v g e) (trigger_value d s x v g e) controls c en)
                  ∙ or-turned (is_off_by parent c controls) (any_off d s x v g outer),
              disabled-by parent (trigger_at g e) (enable_value d s x v g e) (trigger_value d s x v g e) controls c en,
            )

    -- ---- Inputs of the own rows

    module _ (b : ℕ) (row : IsRowOf rows n b) where
      abbrev kind : Kind
      kind = (row_at rows b).kind

      abbrev wires : List ℤ
      wires = map (value_at v) (row_at rows b).inputs

      pub inputs-are : input_values d s x v g b ≡ own_inputs d n tick b
      inputs-are = by (is_inport kind) refl
        where
          port-is : is_inport kind ≡ true →
              (0 < port_of kind) × (port_of kind - 1 < length (inports_of rows n))
              × (slice_get (inports_of rows n) (port_of kind - 1) ≡ Some b)
          port-is inport = inport-at d n (resolved.tree.table.inports n) (port_of kind) b
              (record { in_table = row.in_table; is_inport = is_inport-equal kind inport; is_own = row.own })

          by_system : Bool → List ℤ
          by_system q =
              if q then map (λ k. value_at x (column rows n (Number k))) (range_with_len 1 (length (inports_of rows n)))
              else map (value_at v) (entering_wires rows n)

          from-wires : is_inport kind ≡ true → same_system s n ≡ false → (o : Option ℕ) → n ≡ o →
              wires ≡ int_at (inputs_at d s xs run n t) (port_of kind - 1) ∷ []
          from-wires inport h None e =
              absurd (true≢false
              (sym (ap (same_system s) e ∙ ap (λ q. same_system q None) (subst (IsSystemWithin rows s) e within)) ∙ h))
          from-wires inport h (Some e) q =
              let place : slice_get (inports_of rows (Some e)) (port_of kind - 1) ≡ Some b =
              ap (λ o. slice_get (inports_of rows o) (port_of kind - 1)) (sym q) ∙ (port-is inport).2 in
              let wire = entering-at rows resolved.tree.table.wired e (resolved.tree.table.inports (Some e)) (port_of kind - 1) b place in
              ap (map (value_at v)) wire.1
              ∙ ap (λ z. z ∷ []) (sym
              (ap (λ q. int_at (by_system q) (port_of kind - 1)) h
              ∙ ap (λ o. int_at (map (value_at v) (entering_wires rows o)) (port_of kind - 1)) q
              ∙ number-map (value_at v) (entering_wires rows (Some e)) (port_of kind - 1) wire.0 wire.2))

          from-system : is_inport kind ≡ true → (here : Bool) → same_system s n ≡ here →
              (if (true && here) then value_at x (column rows s (Number (port_of kind))) ∷ [] else wires)
              ≡ int_at (inputs_at d s xs run n t) (port_of kind - 1) ∷ []
          from-system inport true h =
              let at = port-is inport in
              let low = at.0 in
              let number : 1 + (port_of kind - 1) ≡ port_of kind = omega (arith, low) in
              ap (λ z. z ∷ []) (sym
              (ap (λ q. int_at (by_system q) (port_of kind - 1)) h
              ∙ get_or-map-range_with_len (λ k. value_at x (column rows n (Number k))) 1 (length (inports_of rows n))
              (port_of kind - 1) (port_of kind) (pos 0) at.1 number))
          from-system inport false h = from-wires inport h n refl

          turned : (o : Option ℕ) (here : Bool) → same_system s o ≡ here → same_system o s ≡ here
          turned None here h = by_system s h
            where
              by_system : (o : Option ℕ) → same_system o None ≡ here → same_system None o ≡ here
              by_system None q = q
              by_system (Some k) q = q
          turned (Some e) here h = is-same s e here h

          by : (inport : Bool) → is_inport kind ≡ inport → input_values d s x v g b ≡ own_inputs d n tick b
          by true h =
              ap (λ q. if (q && same_system (row_at rows b).owner s)
              then value_at x (column rows s (Number (port_of kind))) ∷ [] else wires) h
              ∙ ap (λ o. if (true && same_system o s) then value_at x (column rows s (Number (port_of kind))) ∷ [] else wires) row.own
              ∙ ap (λ q. if (true && q) then value_at x (column rows s (Number (port_of kind))) ∷ [] else wires)
              (turned n (same_system s n) refl)
              ∙ from-system h (same_system s n) refl
              ∙ ap (λ q. if q then int_at (inputs_at d s xs run n t) (port_of kind - 1) ∷ [] else wires) (sym h)
          by false h =
              ap (λ q. if (q && same_system (row_at rows b).owner s)
              then value_at x (column rows s (Number (port_of kind))) ∷ [] else wires) h
              ∙ ap (λ q. if q then int_at (inputs_at d s xs run n t) (port_of kind - 1) ∷ [] else wires) (sym h)

    -- ---- The equations

    module _ (below : t < length xs) where
      equations : HasRowEquations d s t x (values_before d s run t) m g v (slice_index_or run.memories (suc t) [])
          (slice_index_or run.triggers (suc t) [])
      equations = ticks_have_rows d s t x (values_before d s run t) m g v _ _ (runs_have_ticks d s xs run t is below)

      values-are : (b : ℕ) → IsRowOf rows n b → value_at v b ≡ own_value d n tick b
      values-are b row =
          let stands = own_rows_stand_in rows s n b resolved.tree.table.nested (own-row b row) in
          let kind = (row_at rows b).kind in
          let running : runs d s x v g t b ≡ own_runs d n tick b =
          ap (λ es. active_in d s x v g es && hit (time_at d b) t) stands.around ∙ ap (λ a. a && hit (time_at d b) t) activity.0 in
          let disabled : is_disabled d s x v g (around rows s b) ≡ system_is_disabled d n tick =
          ap (is_disabled d s x v g) stands.around ∙ activity.2 in
          let read = inputs-are b row in
          equations.values b row.in_table stands.is_inside
          ∙ λ i. if not (has_value kind) then pos 0
          else (if is_reset_outport kind && disabled i then start_of d b
          else (if running i then rhs (op_at d b) (read i) (first_of (memory_at m b))
          else value_at (values_before d s run t) b))

      memories-are : (b : ℕ) → IsRowOf rows n b → is_delay (op_at d b) ≡ true →
          memory_at (slice_index_or run.memories (suc t) []) b ≡ own_memory d n tick b
      memories-are b row delay =
          let stands = own_rows_stand_in rows s n b resolved.tree.table.nested (own-row b row) in
          let running : runs d s x v g t b ≡ own_runs d n tick b =
          ap (λ es. active_in d s x v g es && hit (time_at d b) t) stands.around ∙ ap (λ a. a && hit (time_at d b) t) activity.0 in
          let offs : any_off d s x v g (around rows s b) ≡ (tick.is_off_around || system_is_off d n tick) =
          ap (any_off d s x v g) stands.around ∙ activity.1 in
          let read = inputs-are b row in
          equations.memories b row.in_table (and-true (is_inside rows s b) stands.is_inside (is_delay (op_at d b)) delay)
          ∙ λ i. if offs i then initial_memory d b
          else (if running i then moved_on (memory_at m b) (input (read i) 0)
          else memory_at m b)

      lengths-are : (b : ℕ) → IsRowOf rows n b → is_delay (op_at d b) ≡ true → length (memory_at m b) ≡ delay_length (op_at d b)
      lengths-are b row delay =
          let stands = own_rows_stand_in rows s n b resolved.tree.table.nested (own-row b row) in
          memories_are_full r s xs run t b resolved is (omega arith) row.in_table
          (and-true (is_inside rows s b) stands.is_inside (is_delay (op_at d b)) delay)

      trigger-after-is : is_triggered (system_control rows n) ≡ true → tick.trigger_after ≡ own_trigger d n tick
      trigger-after-is = by n refl
        where
          by : (o : Option ℕ) → n ≡ o → is_triggered (system_control rows o) ≡ true →
              (system_tick d s xs run o t).trigger_after ≡ own_trigger d o (system_tick d s xs run o t)
          by None e h = absurd (true≢false (sym h))
          by (Some e) is_e h =
              let inside = controlled-inside rows e h in
              let here : (is_system s e || is_inside rows s e) ≡ true = subst (IsSystemWithin rows s) is_e within in
              let has : has_trigger d s e ≡ true =
              and-true (is_inside rows s e || is_system s e) (or-turned (is_inside rows s e) (is_system s e) ∙ here)
              (is_triggered (control_at rows e)) h in
              let controls = controls_at d s xs run (Some e) t in
              let read : trigger_value d s x v g e ≡ trigger_in (control_at rows e) controls =
              trigger-is e is_e h ∙ ap (λ (o : Option ℕ). trigger_in (control_at rows e) (controls_at d s xs run o t)) is_e in
              equations.triggers e inside has
              ∙ ap (λ z. if any_off d s x v g (around rows s e) then NotYet
              else next_memory (active_in d s x v g (around rows s e)) (trigger_at g e) z) read

      pub tick-is : IsSystemTick d n tick
      tick-is = record {
        values = values-are;
        memories = memories-are;
        lengths = lengths-are;
        trigger = trigger-after-is;
        at_rest = λ h. off_is_not_active d s x v g (around_system rows s n) h;
      }

  -- ---- The first tick

  pub first-triggers : (vs : List (List ℤ)) (ms : List (List (List ℤ))) (gs : List (List TrigMem)) → IsRun d s xs vs ms gs →
      slice_index_or gs 0 [] ≡ triggers_by d s (λ e. NotYet)
  first-triggers vs [] gs h = absurd h
  first-triggers vs (m ∷ ms) [] h = absurd h
  first-triggers vs (m ∷ ms) (g ∷ gs) h = h.1

  module _ (n : Option ℕ) (within : IsSystemWithin rows s n) where
    first-is : IsFirstTick d n (system_tick d s xs run n 0)
    first-is = record {
      at_zero = refl;
      starts = λ b row.
          let stands =
          own_rows_stand_in rows s n b resolved.tree.table.nested
          (record { in_table = row.in_table; own = row.own; within = within }) in
          by_row-at rows (λ c. if is_inside rows s c then start_of d c else pos 0) b (pos 0) row.in_table
          ∙ ap (λ q. if q then start_of d b else pos 0) stands.is_inside;
      memories = λ b row delay.
          let stands =
          own_rows_stand_in rows s n b resolved.tree.table.nested
          (record { in_table = row.in_table; own = row.own; within = within }) in
          ap (λ l. memory_at l b) (first-memories d s xs run.values run.memories run.triggers is)
          ∙ by_row-at rows (λ c. if has_memory d s c then initial_memory d c else []) b [] row.in_table
          ∙ ap (λ q. if q then initial_memory d b else []) (and-true (is_inside rows s b) stands.is_inside (is_delay (op_at d b)) delay);
      trigger = by n;
    }
      where
        by : (o : Option ℕ) → is_triggered (system_control rows o) ≡ true → system_trigger (slice_index_or run.triggers 0 []) o ≡ NotYet
        by None h = refl
        by (Some e) h =
            ap (λ l. trigger_at l e) (first-triggers run.values run.memories run.triggers is)
            ∙ by_row-at rows (λ c. if has_trigger d s c then NotYet else NotYet) e NotYet (controlled-inside rows e h)
            ∙ either (has_trigger d s e)
          where
            either : (q : Bool) → (if q then NotYet else NotYet) ≡ NotYet
            either true = refl
            either false = refl

pub runs_are_of_systems : RunsAreOfSystems
runs_are_of_systems r s n xs run resolved within is = record {
  first = first-is r resolved s xs run is n within;
  each = λ t below. tick-is r resolved s xs run is n within t below;
  in_order = λ t. record { one_later = refl; values = refl; memories = refl; trigger = refl };
}

-- ---- Children

-- a system that e is not
other-system : (s : Option ℕ) (e : ℕ) → is_system s e ≡ false → same_system s (Some e) ≡ false
other-system s e h = by (same_system s (Some e)) refl
  where
    by : (here : Bool) → same_system s (Some e) ≡ here → here ≡ false
    by true q = absurd (true≢false (sym (is-same s e true q) ∙ h))
    by false q = refl

pub children_meet_parents : ChildrenMeetParents
children_meet_parents r s n xs run t e resolved within is row =
    let d = diagram_of r in
    let rows = r.tree.table.rows in
    let x = slice_index_or xs t [] in
    let v = slice_index_or run.values t [] in
    let g = slice_index_or run.triggers t [] in
    let stands =
    own_rows_stand_in rows s n e resolved.tree.table.nested
    (record { in_table = row.in_table; own = row.own; within = within }) in
    let apart = other-system s e stands.is_other in
    let around_is = activity r resolved s xs run is n within t in record {
      parent = ap (active_in d s x v g) stands.around ∙ around_is.0;
      is_off_around = ap (any_off d s x v g) stands.around ∙ around_is.1;
      inputs = ap (λ q. if q
          then map (λ k. value_at x (column rows (Some e) (Number k))) (range_with_len 1 (length (inports_of rows (Some e))))
          else map (value_at v) (entering_wires rows (Some e))) apart;
      controls = ap (λ q. if q
          then map (λ p. value_at x (column rows (Some e) p)) (control_ports (control_at rows e))
          else map (value_at v) (row_at rows e).inputs) apart;
    }
