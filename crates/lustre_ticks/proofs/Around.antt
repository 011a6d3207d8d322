-- The activity of a system is known where the wires that control it and the systems around it are.
use Rattle.std.proofs.Common.{◌≡◌, refl, sym, ap, ◌∙◌, subst, ℕ, suc, ◌+◌, ◌<◌, true, List, [], ◌∷◌, map, length, slice_get, slice_index_or, Contains, Option, None, Some, ℤ, pos, ◌%◌, arith}
use Rattle.std.proofs.lemmas.List.{get_or-take}
use Rattle.std.proofs.lemmas.Option.{slice_get_within}
use Rattle.base_core.specs.Numbers.{int_at}
use Rattle.base_core.specs.Ports.{control_ports}
use Rattle.base_core.specs.declared.Control.{Control}
use Rattle.base_core.specs.declared.Control.TheVariants.{Plain, Enabled, Triggered, Both}
use Rattle.base_core.specs.declared.Port.{Port}
use Rattle.base_core.specs.declared.Port.TheVariants.{Enable, Trigger}
use Rattle.diagram_blocks.specs.Kinds.{is_subsystem}
use Rattle.diagram_meaning.specs.Rows.{row_at, system_control, is_triggered, is_enabled, enable_count, enable_among, trigger_among, inports_of}
use Rattle.diagram_meaning.specs.SystemRuns.{SystemTick, IsRowOf}
use Rattle.diagram_meaning.specs.WellFormed.{IsWireIn, reading_system}
use Rattle.diagram_typed_runs.specs.TypedRuns.{IsSystem}
use Rattle.modules_profile.specs.Systems.{entering_wire}
use Rattle.c_syntax.specs.declared.Leaf.TheVariants.{Param}
use Rattle.emit_shape.specs.Names.{value_name, now_name, trigger_name, control_name, second_control_name, trigger_param}
use Rattle.lustre_flows.specs.Values.{value_at, number_of}
use Rattle.lustre_flows.specs.Instances.{values_in}
use Rattle.lustre_system.specs.Functions.{int_name}
use Rattle.lustre_system.specs.Names.{around_active, around_off, active_name, reset_name, leaf_name, port_names}
use Rattle.lustre_system.specs.SystemNodes.{active_value, reset_value, trigger_memory, has_trigger, system_inputs}
use Rattle.lustre_syntax.specs.Tree.{set}
use Rattle.lustre_rows.specs.NamesOfTick.{ControlsHave}
use Rattle.lustre_rows.proofs.lemmas.ParamNames.{enable-named, trigger-named}
use Rattle.lustre_right.specs.Reads.{KnownControls, KnownAround}
use Rattle.lustre_right.specs.Systems.{root_place}
use Rattle.modules_profile.proofs.lemmas.Members.{below-at, in-at}
use Rattle.lustre_rows.proofs.lemmas.Lists.{all-member}
use Rattle.lustre_rows.proofs.lemmas.Wires.{child-reading, controls-wanted}
use Rattle.lustre_ticks.proofs.Lists.{number-at}
use Rattle.lustre_ticks.proofs.Setting.{Setting, d, rows, hyper, tick_of, solved, place, IsKnown, names, known-value, known-by}
use Rattle.lustre_ticks.proofs.Agreement.{in-order}
use Rattle.lustre_ticks.proofs.Held.{trigger-holds, trigger-gives, active-holds, active-gives, meets}
use Rattle.lustre_ticks.proofs.Count.{root-holds, counts}
use Rattle.lustre_ticks.proofs.Inputs.{first-below, second-below, third-below, now-place, on-place, off-place, control-port, port-total, param-place, first-input, second-input, third-input, wire-input}

-- ---- What is known of a system's activity

pub record KnowsActivity (g : Setting) (s : Option ℕ) : Type 0 where
  pub around : KnownAround (IsKnown g s) (d g) s
  pub active : IsKnown g s active_name
  pub reset : IsKnown g s reset_name

-- it is known by what is around it and its controls
pub activity-from : (g : Setting) (s : Option ℕ) → IsSystem (rows g) s → KnownAround (IsKnown g s) (d g) s → KnowsActivity g s
activity-from g s system around =
    let done = in-order g s (IsKnown g s) (λ text known. known)
    (set 0 active_name (active_value (d g) s) ∷ set 0 reset_name (reset_value (d g) s) ∷ []) (active-holds g s system)
    (active-gives g s system)
    (g.laws.activity_order g.r s (IsKnown g s) g.tick.resolved system around) in
    record { around = around; active = done.0.0.0; reset = done.1.0.0.0 }

pub trigger-known : (g : Setting) (s : Option ℕ) → IsSystem (rows g) s → has_trigger (d g) s ≡ true → IsKnown g s trigger_name
trigger-known g s system is =
    (in-order g s (IsKnown g s) (λ text known. known) (set 0 trigger_name (trigger_memory (d g) s) ∷ [])
    (trigger-holds g s system is) (trigger-gives g s system is)
    (g.laws.trigger_order g.r s (IsKnown g s))).0.0.0

-- ---- The root

module _ (g : Setting) where
  pub root-input : (k : ℕ) → k < length (system_inputs (d g) None) →
      value_at (solved g None) k
      ≡ value_at (value_at (values_in g.left) (root_place (d g) (hyper g) now_name) ∷ Some (pos 1) ∷ Some (pos 0)
      ∷ map Some (slice_index_or g.xs g.t [])) k
  root-input k below =
      sym (get_or-take (length (system_inputs (d g) None)) (solved g None) k None below)
      ∙ ap (λ (vs : List (Option ℤ)). value_at vs k) (root-holds g).inputs

  pub root-activity : KnowsActivity g None
  root-activity =
      let later = length (map int_name (port_names (rows g) None)) in
      let here = names g None tt in
      activity-from g None tt (record {
        now = known-by g None now_name 0 (pos (g.t % hyper g)) (now-place g None tt) (root-input 0 (first-below later) ∙ counts g) here.now;
        on = known-by g None around_active 1 (pos 1) (on-place g None tt) (root-input 1 (second-below later)) here.on;
        off = known-by g None around_off 2 (pos 0) (off-place g None tt) (root-input 2 (third-below later)) here.off;
        controls = tt;
      })

-- ---- A child

module _ (g : Setting) (o : Option ℕ) (system : IsSystem (rows g) o) (e : ℕ) (row : IsRowOf (rows g) o e)
    (is : is_subsystem (row_at (rows g) e).kind ≡ true) (outer : KnowsActivity g o)
    (wires : (c : ℕ) → Contains (row_at (rows g) e).inputs c → IsKnown g o (value_name c)) where
  abbrev own_wires : List ℕ
  own_wires = (row_at (rows g) e).inputs

  abbrev control : Control
  control = system_control (rows g) (Some e)

  abbrev many : ℕ
  many = length (inports_of (rows g) (Some e))

  abbrev inner : SystemTick
  inner = tick_of g (Some e)

  as-many : length own_wires ≡ length (control_ports control)
  as-many =
      g.tick.resolved.tree.table.wired.counts e row.in_table
      ∙ controls-wanted (row_at (rows g) e).kind (row_at (rows g) e).owner is

  control-wired : (c : ℕ) → Contains own_wires c → IsWireIn (rows g) o c
  control-wired c m =
      subst (λ (s : Option ℕ). IsWireIn (rows g) s c) (child-reading (rows g) (row_at (rows g) e).kind (row_at (rows g) e).owner is ∙ row.own)
      (all-member (IsWireIn (rows g) (reading_system (rows g) (row_at (rows g) e).kind (row_at (rows g) e).owner)) own_wires
      (g.tick.resolved.tree.table.wired.wires e row.in_table) c m)

  -- a control has the value of its wire
  control-known : (j i : ℕ) (p : Port) (text : List ℕ) → i ≡ many + j → slice_get (control_ports control) j ≡ Some p →
      leaf_name (rows g) (Some e) (Param i) ≡ text → entering_wire (rows g) e p ≡ slice_get own_wires j →
      value_at (g.expected (Some e)) (place g (Some e) text) ≡ Some (int_at inner.controls j) → IsKnown g (Some e) text
  control-known j i p text at port named enters has =
      let within : j < length (control_ports control) = slice_get_within (control_ports control) j p port in
      let (c, there) = below-at own_wires j (omega (arith, within, as-many)) in
      let m = in-at own_wires j c there in
      let here = known-value g o (place g o (value_name c)) (inner.value c) (wires c m) ((names g o system).wires c (control-wired c m)) in
      let total = port-total (rows g) (Some e) in
      known-by g (Some e) text (suc (suc (suc i))) (inner.value c)
      (ap (place g (Some e)) (sym named) ∙ param-place g (Some e) is i (omega (arith, at, within, total)))
      (wire-input g o system e row is i c p (inner.value c) (control-port 1 many j i (control_ports control) at ∙ port) (enters ∙ there)
      here)
      (has ∙ ap Some (number-at inner.value own_wires j c there))

  enable-known : (c : Control) → control ≡ c → is_enabled c ≡ true → slice_get (control_ports c) 0 ≡ Some Enable →
      enable_among c own_wires ≡ slice_get own_wires 0 →
      value_at (g.expected (Some e)) (place g (Some e) control_name) ≡ Some (int_at inner.controls 0) → IsKnown g (Some e) control_name
  enable-known c q enabled port enters has =
      control-known 0 many Enable control_name (omega arith) (ap (λ k. slice_get (control_ports k) 0) q ∙ port)
      (enable-named control many (ap is_enabled q ∙ enabled)) (ap (λ k. enable_among k own_wires) q ∙ enters) has

  edge-known : (c : Control) (j : ℕ) (text : List ℕ) → control ≡ c → is_triggered c ≡ true → slice_get (control_ports c) j ≡ Some Trigger →
      trigger_among c own_wires ≡ slice_get own_wires j → enable_count c ≡ j → trigger_param c ≡ text →
      value_at (g.expected (Some e)) (place g (Some e) text) ≡ Some (int_at inner.controls j) → IsKnown g (Some e) text
  edge-known c j text q triggered port enters count named has =
      let enables : enable_count control ≡ j = ap enable_count q ∙ count in
      control-known j (many + enable_count control) Trigger text (omega (arith, enables)) (ap (λ k. slice_get (control_ports k) j) q ∙ port)
      (trigger-named control many (ap is_triggered q ∙ triggered) ∙ ap trigger_param q ∙ named)
      (ap (λ k. trigger_among k own_wires) q ∙ enters)
      has

  controls-known : (c : Control) → control ≡ c →
      ControlsHave (d g) (hyper g) (Some e) inner (g.expected (Some e)) (place g (Some e)) c → KnownControls (IsKnown g (Some e)) c
  controls-known Plain q has = tt
  controls-known (Enabled reset) q has = enable-known (Enabled reset) q refl refl refl has
  controls-known (Triggered edge) q has = (
    edge-known (Triggered edge) 0 control_name q refl refl refl refl refl has.0,
    trigger-known g (Some e) is (ap is_triggered q),
  )
  controls-known (Both reset edge) q has = (
    enable-known (Both reset edge) q refl refl refl has.0,
    edge-known (Both reset edge) 1 second_control_name q refl refl refl refl refl has.1,
    trigger-known g (Some e) is (ap is_triggered q),
  )

  pub child-activity : KnowsActivity g (Some e)
  child-activity =
      let own = names g o system in
      let here = names g (Some e) is in
      let meeting = meets g o system e row in
      let now = pos (g.t % hyper g) in
      activity-from g (Some e) is (record {
        now = known-by g (Some e) now_name 0 now (now-place g (Some e) is)
            (first-input g o system e row is now (known-value g o (place g o now_name) now outer.around.now own.now)) here.now;
        on = known-by g (Some e) around_active 1 (number_of inner.parent) (on-place g (Some e) is)
            (second-input g o system e row is (number_of inner.parent)
            (known-value g o (place g o active_name) (number_of inner.parent) outer.active
            (own.active ∙ ap (λ b. Some (number_of b)) (sym meeting.parent)))) here.on;
        off = known-by g (Some e) around_off 2 (number_of inner.is_off_around) (off-place g (Some e) is)
            (third-input g o system e row is (number_of inner.is_off_around)
            (known-value g o (place g o reset_name) (number_of inner.is_off_around) outer.reset
            (own.reset ∙ ap (λ b. Some (number_of b)) (sym meeting.is_off_around)))) here.off;
        controls = controls-known control refl here.controls;
      })
