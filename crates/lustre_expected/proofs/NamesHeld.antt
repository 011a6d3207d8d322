-- Where each name has the number that stands with it, the names of a system have what its tick has.
use Rattle.std.proofs.Common.{◌≡◌, refl, sym, ap, ◌∙◌, subst, ℕ, zero, suc, ◌+◌, ◌-◌, ◌%◌, ◌<◌, Bool, true, false, not, ◌&&◌, ◌||◌, if◌then◌else◌, List, [], ◌∷◌, ◌++◌, map, length, slice_index_or, Option, Some, ℤ, pos, arith, inl, inr}
use Rattle.std.specs.Prelude.{Contains}
use Rattle.std.specs.List.{AllByRecursion, range_with_len}
use Rattle.std.proofs.lemmas.List.Elements.{Contains-append_left, Contains-append_right}
use Rattle.base_core.specs.Numbers.{int_at}
use Rattle.base_core.specs.Ports.{control_ports}
use Rattle.base_core.specs.declared.Control.{Control}
use Rattle.base_core.specs.declared.Control.TheVariants.{Plain, Enabled, Triggered, Both}
use Rattle.base_core.specs.declared.Port.{Port}
use Rattle.base_core.specs.declared.Port.TheVariants.{Number, Enable, Trigger}
use Rattle.diagram_activity.specs.Activity.{memory_number}
use Rattle.diagram_blocks.specs.declared.Kind.{Kind}
use Rattle.diagram_blocks.specs.Kinds.{is_inport, is_outport, is_delay, port_of}
use Rattle.diagram_blocks.specs.Meaning.{has_value, delay_length}
use Rattle.diagram_blocks.specs.Value.{input}
use Rattle.diagram_meaning.specs.declared.table.Row.{Row}
use Rattle.diagram_meaning.specs.Rows.{row_at, outports_of, inports_of, system_control, same_system, is_triggered}
use Rattle.diagram_meaning.specs.Inputs.{input_ports}
use Rattle.diagram_meaning.specs.Diagram.{Diagram, type_at, op_at}
use Rattle.diagram_meaning.specs.ResolvedTree.{ResolvedTree, IsResolvedTree, diagram_of}
use Rattle.diagram_meaning.specs.SystemRuns.{SystemTick, IsRowOf, own_runs, own_inputs, system_is_active, system_is_off}
use Rattle.diagram_meaning.specs.WellFormed.{IsOwner, IsWireIn}
use Rattle.diagram_meaning.proofs.lemmas.EnteringWires.{single}
use Rattle.diagram_meaning.proofs.lemmas.Ports.{has-port}
use Rattle.diagram_meaning.proofs.lemmas.Tests.{and-left}
use Rattle.diagram_typed_runs.proofs.lemmas.Evaluable.{op-is}
use Rattle.modules_profile.proofs.lemmas.Members.{in-map, in-first, in-rest, in-range}
use Rattle.modules_profile.proofs.lemmas.PortRows.{same-self}
use Rattle.c_syntax.specs.declared.Leaf.{Leaf}
use Rattle.c_syntax.specs.declared.Leaf.TheVariants.{Param, Own}
use Rattle.c_refinement.proofs.lemmas.Programs.{functions-steady}
use Rattle.emit_prelude.specs.Bodies.{function_trees}
use Rattle.emit_shape.specs.Names.{value_name, now_name, trigger_name, input_name, port_name}
use Rattle.lustre_flows.specs.Values.{value_at, number_of}
use Rattle.lustre_system.specs.FromC.{call_count}
use Rattle.lustre_system.specs.Names.{around_active, around_off, active_name, reset_name, takes_name, sample_name, part_name, leaf_name, leaves_of}
use Rattle.lustre_system.specs.RowEquations.{only_if, row_code, delayed_name}
use Rattle.lustre_system.specs.SystemNodes.{has_trigger}
use Rattle.lustre_rows.proofs.lemmas.Lists.{in-only}
use Rattle.lustre_rows.proofs.lemmas.Wires.{own-reading, delay-wires}
use Rattle.lustre_rows.specs.CallNames.{CallsHave}
use Rattle.lustre_rows.specs.NamesOfTick.{leaf_value, tick_reads, c_functions, ControlsHave, NamesHave}
use Rattle.lustre_expected.proofs.Outports.{outport-in}
use Rattle.lustre_expected.proofs.HeldNames.{Held, has}
use Rattle.lustre_expected.proofs.PartNumbers.{part_numbers, all-calls-have}
use Rattle.lustre_expected.proofs.SystemNames.{port_number, held_value, held_sample, held_part, held_port, held}
use Rattle.lustre_expected.proofs.InSystem.{in-inputs, in-outputs, in-others, in-trigger, in-memory, in-own, in-child}

-- ---- The names of inputs by their places

input-at : (c : Control) (rest : List Port) (more : List (List ℕ)) (n a k : ℕ) → k < n →
    slice_index_or (map (port_name c) (map Number (range_with_len a n) ++ rest) ++ more) k [] ≡ input_name (a + k)
input-at c rest more zero a k below = absurd (omega (arith, below))
input-at c rest more (suc n) a zero below = ap input_name (let e : a ≡ a + 0 = omega arith in e)
input-at c rest more (suc n) a (suc k) below =
    input-at c rest more n (a + 1) k (omega (arith, below)) ∙ ap input_name (let e : a + 1 + k ≡ a + suc k = omega arith in e)

-- ---- A tick of a system, whose names have these values

module _ (r : ResolvedTree) (resolved : IsResolvedTree r) (hyper : ℕ) (s : Option ℕ) (m : SystemTick) (values : List (Option ℤ))
    (place : List ℕ → ℕ)
    (named : (h : Held) → Contains (held (diagram_of r) hyper s m) h → value_at values (place h.text) ≡ Some h.number) where
  abbrev d : Diagram
  d = diagram_of r

  abbrev rows : List Row
  rows = r.tree.table.rows

  abbrev Named : List ℕ → ℤ → Type 0
  Named text v = value_at values (place text) ≡ Some v

  -- ---- Inputs and controls

  port-had : (p : Port) → Contains (input_ports rows s) p →
      Named (port_name (system_control rows s) p) (port_number m (system_control rows s) p)
  port-had p here =
      let h = held_port d hyper s m p in
      let (k, below, is) = in-map (held_port d hyper s m) (input_ports rows s) p here in
      named h (in-inputs d hyper s m h (suc (suc (suc k)), omega (arith, below), is))

  trigger-had : is_triggered (system_control rows s) ≡ true → Named trigger_name (memory_number m.trigger)
  trigger-had is =
      let h = has trigger_name (memory_number m.trigger) in
      named h (in-trigger d hyper s m h (in-only (has_trigger d s) (h ∷ []) h is (in-first h [])))

  controls-from : (c : Control) → (is_triggered c ≡ true → Named trigger_name (memory_number m.trigger)) →
      ((p : Port) → Contains (control_ports c) p → Named (port_name c p) (port_number m c p)) → ControlsHave d hyper s m values place c
  controls-from Plain trigger ports = tt
  controls-from (Enabled reset) trigger ports = ports Enable (in-first Enable [])
  controls-from (Triggered edge) trigger ports = (ports Trigger (in-first Trigger []), trigger refl)
  controls-from (Both reset edge) trigger ports =
      let later = in-rest Enable Trigger (Trigger ∷ []) (in-first Trigger []) in
      (ports Enable (in-first Enable (Trigger ∷ [])), ports Trigger later, trigger refl)

  controls-had : ControlsHave d hyper s m values place (system_control rows s)
  controls-had =
      let control = system_control rows s in
      controls-from control trigger-had
      (λ p here. port-had p
      (Contains-append_right (map Number (range_with_len 1 (length (inports_of rows s)))) (control_ports control) p here))

  -- ---- Values

  value-had : (b : ℕ) → IsRowOf rows s b → has_value (row_at rows b).kind ≡ true → Named (value_name b) (m.value b)
  value-had b row valued = by (is_outport (row_at rows b).kind) refl
    where
      by : (o : Bool) → is_outport (row_at rows b).kind ≡ o → Named (value_name b) (m.value b)
      by true is =
          let h = held_value d hyper s m b in
          named h (in-outputs d hyper s m h
          (in-map (held_value d hyper s m) (outports_of rows s) b (outport-in rows s b (resolved.tree.table.outports s) row is)))
      by false is =
          let h = held_value d hyper s m b in
          let inner = not (is_outport (row_at rows b).kind) in
          named h (in-own d hyper s m h b row valued
          (Contains-append_right (map (held_part d hyper s m b) (range_with_len 1 (call_count (row_code d s b)))) (only_if inner (h ∷ [])) h
          (in-only inner (h ∷ []) h (ap not is) (in-first h []))))

  wire-had : (c : ℕ) → IsWireIn rows s c → Named (value_name c) (m.value c)
  wire-had c (below, inl own) =
      value-had c (record { in_table = below; own = own.0 })
      (and-left (has_value (row_at rows c).kind) (not (is_outport (row_at rows c).kind)) own.1)
  wire-had c (below, inr (outport, (e, inside, parent))) =
      let owner : IsOwner rows c (Some e) = subst (λ (o : Option ℕ). IsOwner rows c o) inside (resolved.tree.table.nested.owned c below) in
      let before = owner.0 in
      let row : IsRowOf rows s e = record { in_table = omega (arith, before, below); own = parent } in
      let h = held_value d hyper s m c in
      named h (in-child d hyper s m h e row owner.1
      (in-map (held_value d hyper s m) (outports_of rows (Some e)) c
      (outport-in rows (Some e) c (resolved.tree.table.outports (Some e)) (record { in_table = below; own = inside }) outport)))

  -- ---- Rows

  module _ (b : ℕ) (row : IsRowOf rows s b) where
    abbrev kind : Kind
    kind = (row_at rows b).kind

    abbrev wires : List ℕ
    wires = (row_at rows b).inputs

    wires-own : is_inport kind ≡ false → AllByRecursion (IsWireIn rows s) wires
    wires-own is =
        subst (λ (o : Option ℕ). AllByRecursion (IsWireIn rows o) wires) (own-reading rows kind (row_at rows b).owner is ∙ row.own)
        (resolved.tree.table.wired.wires b row.in_table)

    taking-had : is_delay (op_at d b) ≡ true → Named (takes_name b) (number_of (own_runs d s m b))
    taking-had delay =
        let h = has (takes_name b) (number_of (own_runs d s m b)) in named h (in-memory d hyper s m h b row delay (0, omega arith, refl))

    sample-had : (k : ℕ) → is_delay (op_at d b) ≡ true → k < delay_length (op_at d b) → Named (sample_name b k) (int_at (m.memory b) k)
    sample-had k delay below =
        let count = delay_length (op_at d b) in
        let h = held_sample d hyper s m b k in
        let (j, low, is) = in-map (held_sample d hyper s m b) (range_with_len 0 count) k
        (in-range 0 count k (omega arith) (omega (arith, below))) in
        named h (in-memory d hyper s m h b row delay (suc j, omega (arith, low), is))

    delayed-had : is_delay (op_at d b) ≡ true → Named (delayed_name d s b) (input (own_inputs d s m b) 0)
    delayed-had delay =
        let is_op = op-is r resolved b row.in_table in
        let kinds = delay-wires kind (row_at rows b).owner (map (type_at d.types) wires) (type_at r.types b)
        (slice_index_or r.times.delays b false) (ap is_delay (sym is_op) ∙ delay) in
        let (c, is) = single wires (resolved.tree.table.wired.counts b row.in_table ∙ kinds.1) in
        let one : AllByRecursion (IsWireIn rows s) (c ∷ []) =
        subst (λ (ws : List ℕ). AllByRecursion (IsWireIn rows s) ws) is (wires-own kinds.0) in
        let number : input (own_inputs d s m b) 0 ≡ m.value c =
        ap (λ i. input (if i then int_at m.inputs (port_of kind - 1) ∷ [] else map m.value wires) 0) kinds.0
        ∙ ap (λ (ws : List ℕ). input (map m.value ws) 0) is in
        ap (λ (ws : List ℕ). value_at values (place (value_name (slice_index_or ws 0 0)))) is ∙ wire-had c one.0
        ∙ ap Some (sym number)

    -- what it reads
    abbrev leaf_name_at : ℕ → List ℕ
    leaf_name_at k = leaf_name rows s (Param k)

    input-had : is_inport kind ≡ true → Named (leaf_name_at (port_of kind - 1)) (int_at m.inputs (port_of kind - 1))
    input-had is =
        let control = system_control rows s in
        let count = length (inports_of rows s) in
        let port = port_of kind in
        let (low, high) = has-port rows is_inport s (resolved.tree.table.inports s) b
        (record { in_table = row.in_table; is_own = row.own; passing = is }) in
        let here = Contains-append_left (map Number (range_with_len 1 count)) (control_ports control) (Number port)
        (in-map Number (range_with_len 1 count) port (in-range 1 count port (omega (arith, low)) (omega (arith, high)))) in
        let name : leaf_name_at (port - 1) ≡ input_name port =
        input-at control (control_ports control) (trigger_name ∷ now_name ∷ []) count 1 (port - 1) (omega (arith, low, high))
        ∙ ap input_name (let e : 1 + (port - 1) ≡ port = omega (arith, low) in e) in
        subst (λ (text : List ℕ). Named text (int_at m.inputs (port - 1))) (sym name) (port-had (Number port) here)

    abbrev All : List Leaf → Type 0
    All ls = AllByRecursion (λ l. Named (leaf_name rows s l) (leaf_value m l)) ls

    leaves-had : All (leaves_of rows s b)
    leaves-had = by (is_inport kind) refl
      where
        wires-read : (cs : List ℕ) → AllByRecursion (IsWireIn rows s) cs → All (map Own cs)
        wires-read [] all = tt
        wires-read (c ∷ cs) all = (wire-had c all.0, wires-read cs all.1)

        by : (i : Bool) → is_inport kind ≡ i →
            All (if i && same_system (row_at rows b).owner s then Param (port_of kind - 1) ∷ [] else map Own wires)
        by true is =
            let same : same_system (row_at rows b).owner s ≡ true = ap (λ (o : Option ℕ). same_system o s) row.own ∙ same-self s in
            subst (λ q. All (if q then Param (port_of kind - 1) ∷ [] else map Own wires)) (sym same) (input-had is, tt)
        by false is = wires-read wires (wires-own is)

    parts-had : has_value kind ≡ true → CallsHave c_functions (tick_reads m) 0 values (part_name b) place 0 (row_code d s b)
    parts-had valued =
        let count = call_count (row_code d s b) in
        let parts = map (held_part d hyper s m b) (range_with_len 1 count) in
        let inner = not (is_outport kind) in
        all-calls-have c_functions (functions-steady function_trees) (tick_reads m) values (part_name b) place (row_code d s b)
        (λ j below. named (held_part d hyper s m b (j + 1)) (in-own d hyper s m (held_part d hyper s m b (j + 1)) b row valued
        (Contains-append_left parts (only_if inner (held_value d hyper s m b ∷ [])) (held_part d hyper s m b (j + 1))
        (in-map (held_part d hyper s m b) (range_with_len 1 count) (j + 1)
        (in-range 1 count (j + 1) (omega arith) (omega (arith, below))))))
        ∙ ap (λ k. Some (int_at (part_numbers c_functions (tick_reads m) (row_code d s b)) k))
        (let e : j + 1 - 1 ≡ j = omega arith in e))

  pub names-held : NamesHave d hyper s m values place
  names-held = record {
    now = let h = has now_name (pos (m.t % hyper)) in named h (in-inputs d hyper s m h (0, omega arith, refl));
    on = let h = has around_active (number_of m.parent) in named h (in-inputs d hyper s m h (1, omega arith, refl));
    off = let h = has around_off (number_of m.is_off_around) in named h (in-inputs d hyper s m h (2, omega arith, refl));
    controls = controls-had;
    active =
        let h = has active_name (number_of (system_is_active d s m)) in named h (in-others d hyper s m h (0, omega arith, refl));
    reset =
        let h = has reset_name (number_of (m.is_off_around || system_is_off d s m)) in
        named h (in-others d hyper s m h (1, omega arith, refl));
    rows = value-had;
    wires = wire-had;
    takes = taking-had;
    samples = λ b k row delay below. sample-had b row k delay below;
    delayed = delayed-had;
    leaves = leaves-had;
    parts = parts-had;
  }
