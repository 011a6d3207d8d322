-- What holds of a system whose code is made: its rows, its wires, its children, and what its functions call.
use Rattle.std.specs.Prelude.{◌≡◌, ℕ, ◌^◌, ◌%◌, ◌<◌, ◌≤◌, Bool, true, false, if◌then◌else◌, List, [], filter, length, slice_get, Contains, Option, Some, None}
use Rattle.std.specs.List.{range_with_len}
use Rattle.std.proofs.Common.{refl, sym, ap, subst, ◌∙◌, arith, inl, inr, true≢false, mod-eq_of_lt}
use Rattle.std.proofs.lemmas.Bool.{cases_lt}
use Rattle.std.proofs.lemmas.Fmt.{decimal_injective}
use Rattle.std.proofs.lemmas.List.{length-map}
use Rattle.std.proofs.lemmas.List.FromFn.{length-range_with_len}
use Rattle.base_fixed_point.specs.declared.types.FixType.{FixType}
use Rattle.diagram_blocks.specs.declared.Kind.{Kind}
use Rattle.diagram_blocks.specs.declared.Kind.TheVariants.{UnitDelay, Delay, RateTransition}
use Rattle.diagram_blocks.specs.Meaning.{op_of, delay_length}
use Rattle.diagram_meaning.specs.Diagram.{Diagram, type_at}
use Rattle.diagram_meaning.specs.Inputs.{control_wires_of}
use Rattle.diagram_meaning.specs.ResolvedTree.{ResolvedTree, IsResolvedTree, diagram_of}
use Rattle.diagram_meaning.specs.ResolvedLaws.{ResolvedRowsAreNarrow}
use Rattle.diagram_meaning.specs.Rows.{no_row, row_at, rows_of, subsystems_of, outports_of}
use Rattle.diagram_blocks.specs.Kinds.{is_inport, is_outport, port_of, is_delay}
use Rattle.diagram_meaning.specs.WellFormed.{IsKind, IsRow, IsOwner, wires_wanted}
use Rattle.diagram_meaning.proofs.lemmas.Resolving.{all-at}
use Rattle.modules_profile.specs.declared.local.ChildUse.{ChildUse}
use Rattle.modules_profile.specs.declared.local.LocalRow.{LocalRow}
use Rattle.modules_profile.specs.LocalSystem.{LocalSystem}
use Rattle.modules_profile.specs.SystemHeader.{SystemHeader}
use Rattle.modules_profile.specs.SystemProfile.{SystemProfile}
use Rattle.modules_profile.specs.LawfulLocals.{IsLocal}
use Rattle.modules_profile.specs.Locals.{local_row, child_use, local_of, entering}
use Rattle.modules_profile.specs.NodeFacts.{AreHeaders, LocalsAreLawful}
use Rattle.modules_profile.specs.Systems.{system_name}
use Rattle.modules_profile.proofs.lemmas.Members.{in-map, of-map, at-map}
use Rattle.modules_profile.proofs.lemmas.OwnRows.{outs-are, of-rows, of-ports}
use Rattle.modules_profile.proofs.lemmas.PortRows.{of-subsystems}
use Rattle.modules_profile.proofs.lemmas.LawfulSteps.{apart-at, apart-found}
use Rattle.modules_schedule.specs.SystemSchedule.{SystemSchedule}
use Rattle.emit_row_code.specs.Resolved.{RowOpsAreWritable}
use Rattle.right_relation.specs.Relation.{IsCycleOf}
use Rattle.right_relation.specs.RunTickLaws.{CycleIsOfLocals}
use Rattle.emit_system_spec.specs.Emittable.{IsEmittable}
use Rattle.emit_system_spec.specs.Emitted.{IsEmitted}
use Rattle.emit_system_spec.specs.Groups.{code_groups}
use Rattle.right_system_rules.proofs.NameTexts.{first_byte, later_bytes}
use Rattle.right_system_rules.proofs.Lists.{Apart, apart-places, of-each}
use Rattle.right_system_rules.proofs.Wires.{source_rows, row-sources, child-wires}
use Rattle.emit_system_spec.proofs.lemmas.Emittable.{op-is, few-functions, emitted_is_emittable}
use Rattle.right_system_rules.proofs.GroupPlaces.{called_groups}

-- a child of a system
pub record ChildFacts (local : LocalSystem) (u : ChildUse) : Type 0 where
  pub row : ℕ
  pub is_row : u.header.row ≡ Some row
  pub small : row < 20000
  pub not_own : system_name u.header.row ≡ system_name local.row → ⊥
  pub controls : length u.header.controls ≡ length u.controls
  pub outputs : (o : ℕ × FixType) → Contains u.header.outputs o → o.0 < 20000
  pub outputs_apart : Apart (λ (o : ℕ × FixType). o.0) u.header.outputs
  pub wires : (c : ℕ) → Contains (entering u) c → Contains (source_rows local) c

-- a row of a system
pub record RowFacts (local : LocalSystem) (r : LocalRow) : Type 0 where
  pub small : r.row < 20000
  pub samples : is_delay r.op ≡ true → (0 < delay_length r.op) × (delay_length r.op < 2 ^ 16)
  pub input : is_delay r.op ≡ true → is_inport r.kind ≡ false → 0 < length r.inputs
  pub period : r.time.period < 2 ^ 63
  pub wires : (c : ℕ) → Contains r.inputs c → Contains (source_rows local) c

pub record SystemFacts (local : LocalSystem) (profile : SystemProfile) (schedule : SystemSchedule) : Type 0 where
  pub emittable : IsEmittable local schedule
  pub lawful : IsLocal local
  pub rows : (r : LocalRow) → Contains local.rows r → RowFacts local r
  pub children : (u : ChildUse) → Contains local.children u → ChildFacts local u
  pub few_functions : length profile.functions ≤ 32
  pub functions : length schedule.functions ≡ length profile.functions
  pub called : (gs : List ℕ) (g : ℕ) → Contains schedule.functions gs → Contains gs g → slice_get (code_groups schedule) g ≡ Some g

-- ---- Names of systems

-- those of small rows say which they are
pub systems-apart : (e f : ℕ) → e < 20000 → f < 20000 → system_name (Some e) ≡ system_name (Some f) → e ≡ f
systems-apart e f low high same = decimal_injective e f (omega arith) (omega arith) (ap later_bytes same)

not-around : (s : Option ℕ) (e : ℕ) → e < 20000 → ((f : ℕ) → s ≡ Some f → f < e) → system_name (Some e) ≡ system_name s → ⊥
not-around None e small before same = let wrong = ap first_byte same in omega (arith, wrong)
not-around (Some f) e small before same =
    let low = before f refl in let equal = systems-apart e f small (omega (arith, small, low)) same in omega (arith, low, equal)

-- ---- Rows

-- a delay has an input
delay-wired : (kind : Kind) (ts : List FixType) (out : FixType) (delays : Bool) (o : Option ℕ) →
    is_delay (op_of kind ts out delays) ≡ true → 0 < wires_wanted kind o
delay-wired (UnitDelay initial) ts out delays o h = omega arith
delay-wired (Delay samples initial) ts out delays o h = omega arith
delay-wired (RateTransition initial time) ts out true o h = omega arith
delay-wired (RateTransition initial time) ts out false o h = absurd (true≢false (sym h))
delay-wired _ ts out delays o h = absurd (true≢false (sym h))

-- and from 1 to 65,535 samples
delay-samples : (kind : Kind) (ts : List FixType) (out : FixType) (delays : Bool) → IsKind kind →
    is_delay (op_of kind ts out delays) ≡ true →
    (0 < delay_length (op_of kind ts out delays)) × (delay_length (op_of kind ts out delays) < 2 ^ 16)
delay-samples (UnitDelay initial) ts out delays k h = (omega arith, omega arith)
delay-samples (Delay samples initial) ts out delays k h = (k.0, let short = k.1 in omega arith)
delay-samples (RateTransition initial time) ts out true k h = (omega arith, omega arith)
delay-samples (RateTransition initial time) ts out false k h = absurd (true≢false (sym h))
delay-samples _ ts out delays k h = absurd (true≢false (sym h))

below-cycle : (cycle period : ℕ) → 0 < cycle → cycle ≤ 2 ^ 30 → cycle % period ≡ 0 → period < 2 ^ 63
below-cycle cycle period some short divides = elim (cases_lt cycle period) [
  | inl more ↦ absurd (let whole = mod-eq_of_lt more in omega (arith, some, divides, whole))
  | inr most ↦ omega (arith, most, short)
]

module _ (r : ResolvedTree) (resolved : IsResolvedTree r) (s : Option ℕ) (headers : List SystemHeader)
    (are : AreHeaders (diagram_of r) s headers) where
  abbrev d : Diagram
  d = diagram_of r

  abbrev own : LocalSystem
  own = local_of d r.times.delays s headers

  row-facts : IsCycleOf own r.times.hyper → (q : LocalRow) → Contains own.rows q → RowFacts own q
  row-facts cycle q h =
      let table = resolved.tree.table in
      let m = of-map (local_row d r.times.delays) (rows_of d.rows s) q h in
      let at = of-rows d.rows s m.0 m.1 in
      let most = table.nested.at_most in
      let below = at.0 in
      subst (RowFacts own) m.2 (record {
        small = omega (arith, below, most);
        samples = λ delay. subst (λ op. (0 < delay_length op) × (delay_length op < 2 ^ 16)) (sym (op-is r resolved m.0 at.0))
            (delay-samples (row_at d.rows m.0).kind _ _ _ (all-at IsRow d.rows m.0 no_row table.each at.0).kind
            (ap is_delay (sym (op-is r resolved m.0 at.0)) ∙ delay));
        input = λ delay out. subst (λ t. 0 < length (if t then [] else (row_at d.rows m.0).inputs)) (sym out)
            (subst (λ n. 0 < n) (sym (table.wired.counts m.0 at.0))
            (delay-wired (row_at d.rows m.0).kind _ _ _ (row_at d.rows m.0).owner (ap is_delay (sym (op-is r resolved m.0 at.0)) ∙ delay)));
        period = subst (λ (x : LocalRow). x.time.period < 2 ^ 63) (sym m.2)
            (below-cycle r.times.hyper q.time.period cycle.some cycle.short
            (of-each (λ (x : LocalRow). r.times.hyper % x.time.period ≡ 0) own.rows q cycle.repeats h));
        wires =
            λ c reads. row-sources d r.times.delays s headers are table.nested table.wired table.outports (local_row d r.times.delays m.0) c
            (subst (Contains own.rows) (sym m.2) h) reads;
      })

  child-facts : (u : ChildUse) → Contains own.children u → ChildFacts own u
  child-facts u h =
      let table = resolved.tree.table in
      let m = of-map (child_use d) headers u h in
      let n =
      of-map Some (subsystems_of d.rows s) m.0.row
      (subst (λ rows. Contains rows m.0.row) are.rows (in-map (λ (g : SystemHeader). g.row) headers m.0 m.1)) in
      let at = of-subsystems d.rows s n.0 n.1 in
      let most = table.nested.at_most in
      let below = at.0 in
      let small : n.0 < 20000 = omega (arith, below, most) in
      let header = (are.each m.0 m.1).0 in
      let outs = outs-are d m.0 header (are.each m.0 m.1).1 in
      let numbers = λ (o : ℕ × FixType). o.0 in
      subst (ChildFacts own) m.2 (record {
        row = n.0;
        is_row = sym n.2;
        small = small;
        not_own = λ same. not-around s n.0 small
            (λ f around. (subst (IsOwner d.rows n.0) (at.1 ∙ around) (table.nested.owned n.0 at.0)).0) (ap system_name n.2 ∙ same);
        controls = ap (λ (g : SystemHeader). length g.controls) header ∙ length-map (control_wires_of d.rows m.0.row) (type_at d.types);
        outputs = λ o k.
            let port = of-ports d.rows m.0.row is_outport o.0 (subst (λ os. Contains os o.0) outs (in-map numbers m.0.outputs o k)) in
            let inside = port.0 in omega (arith, inside, most);
        outputs_apart = apart-places numbers m.0.outputs (λ i j x y a b same.
            apart-at (outports_of d.rows m.0.row) i j y.0
            (apart-found (λ b. port_of (row_at d.rows b).kind)
            (filter (λ b. is_outport (row_at d.rows b).kind) (rows_of d.rows m.0.row)) 1
            (length (filter (λ b. is_outport (row_at d.rows b).kind) (rows_of d.rows m.0.row))))
            (subst (λ os. slice_get os i ≡ Some y.0) outs (at-map numbers m.0.outputs i x a ∙ ap Some same))
            (subst (λ os. slice_get os j ≡ Some y.0) outs (at-map numbers m.0.outputs j y b)));
        wires = λ c reads. child-wires d r.times.delays s headers are table.nested table.wired table.outports (child_use d m.0) c
            (in-map (child_use d) headers m.0 m.1) reads;
      })

pub system_facts : LocalsAreLawful → ResolvedRowsAreNarrow → RowOpsAreWritable → CycleIsOfLocals →
    (local : LocalSystem) (profile : SystemProfile) (schedule : SystemSchedule) →
    IsEmitted local profile schedule → SystemFacts local profile schedule
system_facts lawful narrow writable cycles local profile schedule is =
    let r = is.resolved in
    let headers = is.is_local.headers in
    let own = local_of (diagram_of r) r.times.delays local.row headers in
    let same : own ≡ local = sym is.is_local.is_local in
    let cycle =
    subst (λ (l : LocalSystem). IsCycleOf l r.times.hyper) (sym same) (cycles r local.row local is.is_resolved is.is_local) in record {
      emittable = emitted_is_emittable lawful narrow writable local profile schedule is;
      lawful = lawful r local.row local is.is_resolved is.is_local;
      rows = subst (λ (l : LocalSystem). (q : LocalRow) → Contains l.rows q → RowFacts l q) same
          (row-facts r is.is_resolved local.row headers is.is_local.are_headers cycle);
      children = subst (λ (l : LocalSystem). (u : ChildUse) → Contains l.children u → ChildFacts l u) same
          (child-facts r is.is_resolved local.row headers is.is_local.are_headers);
      few_functions = few-functions r is.is_resolved local.row headers is.is_local.are_headers profile is.is_profile;
      functions = ap (λ (t : SystemSchedule). length t.functions) is.is_schedule.is_schedule
          ∙ length-map (range_with_len 0 (length profile.functions)) _ ∙ length-range_with_len 0 (length profile.functions);
      called = called_groups local profile schedule is.is_schedule;
    }
