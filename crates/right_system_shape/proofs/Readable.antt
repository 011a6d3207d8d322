-- What the code of a system reads is there: each wire has a source, each Inport a port, each delay an input, and each control a
-- type.
use Rattle.std.specs.Prelude.{◌≡◌, refl, ℕ, zero, suc, ◌-◌, ◌<◌, ◌≤◌, Bool, true, false, not, ◌==◌, ◌||◌, if◌then◌else◌, List, [], ◌∷◌, ◌++◌, map, length, slice_index_or, Contains, Option, Some, None, ◌⊎◌}
use Rattle.std.specs.List.{list_any}
use Rattle.std.proofs.Common.{sym, ap, subst, ◌∙◌, arith, inl, inr, true≢false}
use Rattle.std.proofs.lemmas.Bool.{eq-eqb, and_parts, cases_lt}
use Rattle.std.proofs.lemmas.List.{length-map}
use Rattle.std.proofs.lemmas.List.Elements.{All-from_recursion, Contains-append_cases}
use Rattle.std.proofs.lemmas.Option.{none-some}
use Rattle.base_core.specs.declared.base.Control.TheVariants.{Plain, Enabled, Triggered, Both}
use Rattle.base_fixed_point.specs.declared.types.FixType.{FixType}
use Rattle.diagram_blocks.specs.declared.kind.Kind.{Kind}
use Rattle.diagram_blocks.specs.declared.kind.Kind.TheVariants.{Inport, Outport, SubSystem, UnitDelay, Delay, RateTransition}
use Rattle.diagram_blocks.specs.declared.op.Op.{Op}
use Rattle.diagram_blocks.specs.declared.op.Op.TheVariants.{Nothing}
use Rattle.diagram_blocks.specs.Meaning.{has_value, op_of}
use Rattle.diagram_meaning.specs.declared.table.Row.{Row as TableRow}
use Rattle.diagram_meaning.specs.Diagram.{Diagram, type_at, op_at, op_in}
use Rattle.diagram_meaning.specs.Inputs.{entering_wires, control_wires_of}
use Rattle.base_core.specs.Ports.{control_ports}
use Rattle.diagram_meaning.specs.ResolvedTree.{ResolvedTree, IsResolvedTree, diagram_of}
use Rattle.diagram_meaning.specs.Rows.{row_at, no_row, subsystems_of, system_control, rows_of, inports_of, outports_of}
use Rattle.diagram_blocks.specs.Kinds.{control_of, is_inport, is_outport, is_subsystem, port_of, is_delay}
use Rattle.diagram_meaning.specs.WellFormed.{IsNested, IsOwner, IsWired, IsWireIn, HasPorts, reading_system, wires_wanted}
use Rattle.diagram_meaning.proofs.lemmas.ByRow.{by_row-at}
use Rattle.modules_profile.specs.declared.local.ChildUse.{ChildUse}
use Rattle.modules_profile.specs.declared.local.LocalRow.{LocalRow}
use Rattle.modules_profile.specs.LocalSystem.{LocalSystem}
use Rattle.modules_profile.specs.SystemProfile.{SystemProfile}
use Rattle.modules_profile.specs.LawfulLocals.{IsLocal}
use Rattle.modules_profile.specs.SystemHeader.{SystemHeader}
use Rattle.modules_profile.specs.Headers.{header_of}
use Rattle.modules_profile.specs.Locals.{local_row, child_use, local_of, inports, outports, entering}
use Rattle.modules_profile.specs.NodeFacts.{AreHeaders, IsLocalOf, LocalsAreLawful}
use Rattle.modules_profile.proofs.lemmas.Members.{in-none, in-cases, finds, in-map, of-map, in-filter, in-at, number-of}
use Rattle.modules_profile.proofs.lemmas.OwnRows.{of-flat_map, by_port_mapped, of-rows, of-ports}
use Rattle.modules_profile.proofs.lemmas.PortRows.{in-rows, of-subsystems, in-subsystems, port-place, port-range}
use Rattle.modules_schedule.specs.SystemSchedule.{SystemSchedule}
use Rattle.emit_shape.specs.Rules.{has_output}
use Rattle.emit_system_spec.specs.Emitted.{IsEmitted}
use Rattle.right_system_shape.proofs.FieldNames.{IsSourced}

-- ---- Kinds

no-inport : (kind : Kind) → is_subsystem kind ≡ true → is_inport kind ≡ false
no-inport (Inport port) h = absurd (true≢false (sym h))
no-inport _ h = refl

reads-own : (rows : List TableRow) (kind : Kind) (o : Option ℕ) → is_inport kind ≡ false → reading_system rows kind o ≡ o
reads-own rows (Inport port) o h = absurd (true≢false h)
reads-own rows _ o h = refl

reads-around : (rows : List TableRow) (kind : Kind) (e : ℕ) → is_inport kind ≡ true →
    reading_system rows kind (Some e) ≡ (row_at rows e).owner
reads-around rows (Inport port) e h = refl
reads-around rows _ e h = absurd (true≢false (sym h))

-- a delay is no Inport, and has one wire
delay-kind : (kind : Kind) (ts : List FixType) (out : FixType) (delays : Bool) (o : Option ℕ) → is_delay (op_of kind ts out delays) ≡ true →
    (is_inport kind ≡ false) × (wires_wanted kind o ≡ 1)
delay-kind (UnitDelay initial) ts out delays o h = (refl, refl)
delay-kind (Delay samples initial) ts out delays o h = (refl, refl)
delay-kind (RateTransition initial out_time) ts out true o h = (refl, refl)
delay-kind (RateTransition initial out_time) ts out false o h = absurd (true≢false (sym h))
delay-kind _ ts out delays o h = absurd (true≢false (sym h))

-- a subsystem has a wire for each of its controls
control-wires : (kind : Kind) (o : Option ℕ) → length (control_ports (control_of kind)) ≤ wires_wanted kind o
control-wires (SubSystem Plain) o = omega arith
control-wires (SubSystem (Enabled reset)) o = omega arith
control-wires (SubSystem (Triggered edge)) o = omega arith
control-wires (SubSystem (Both reset edge)) o = omega arith
control-wires _ o = omega arith

some-wire : {A : Type 0} (xs : List A) → length xs ≡ 1 → (x : A) × (rest : List A) × (xs ≡ x ∷ rest)
some-wire [] h = absurd (omega arith)
some-wire (x ∷ xs) h = (x, xs, refl)

past-end : {A : Type 0} (xs : List A) (k : ℕ) (d : A) → length xs ≤ k → slice_index_or xs k d ≡ d
past-end [] k d h = refl
past-end (x ∷ xs) zero d h = absurd (omega arith)
past-end (x ∷ xs) (suc k) d h = past-end xs k d (omega arith)

-- ---- The facts

-- a child is that of a row, and the system around it that of an earlier one
pub record IsNestedIn (around own : Option ℕ) : Type 0 where
  pub row : ℕ
  pub is : own ≡ Some row
  pub few : row < 20000
  pub later : (a : ℕ) → around ≡ Some a → a < row

pub record IsReadable (local : LocalSystem) : Type 0 where
  pub lawful : IsLocal local
  pub wires : (r : LocalRow) (c : ℕ) → Contains local.rows r → Contains r.inputs c → IsSourced local c
  pub entering_wires : (u : ChildUse) (c : ℕ) → Contains local.children u → Contains (entering u) c → IsSourced local c
  pub delay_input : (r : LocalRow) → Contains local.rows r → is_delay r.op ≡ true → (is_inport r.kind ≡ false) ×
      ((c : ℕ) × (cs : List ℕ) × (r.inputs ≡ c ∷ cs))
  pub inport_port : (r : LocalRow) → Contains local.rows r → is_inport r.kind ≡ true → (0 < port_of r.kind) ×
      (port_of r.kind ≤ length (inports local))
  pub child_controls : (u : ChildUse) → Contains local.children u → length u.header.controls ≡ length u.controls
  pub controls : length (control_ports local.control) ≤ length local.controls
  pub child_rows : (u : ChildUse) → Contains local.children u → IsNestedIn local.row u.header.row
  pub unread_rows : (o r : LocalRow) → Contains (outports local) o → Contains local.rows r → Contains r.inputs o.row → ⊥
  pub unread_children : (o : LocalRow) (u : ChildUse) → Contains (outports local) o → Contains local.children u →
      Contains (entering u) o.row → ⊥
  pub few_rows : (r : LocalRow) → Contains local.rows r → r.row < 20000

module _ (d : Diagram) (delays : List Bool) (s : Option ℕ) (headers : List SystemHeader) (are : AreHeaders d s headers)
    (nested : IsNested d.rows)
    (wired : IsWired d.rows)
    (in_ports : (o : Option ℕ) → HasPorts d.rows is_inport o) (out_ports : (o : Option ℕ) → HasPorts d.rows is_outport o) where
  abbrev local : LocalSystem
  local = local_of d delays s headers

  read : (b c : ℕ) → b < length d.rows → Contains (row_at d.rows b).inputs c →
      IsWireIn d.rows (reading_system d.rows (row_at d.rows b).kind (row_at d.rows b).owner) c
  read b c below (k, low, is) =
      subst (IsWireIn d.rows (reading_system d.rows (row_at d.rows b).kind (row_at d.rows b).owner)) is
      (All-from_recursion (IsWireIn d.rows (reading_system d.rows (row_at d.rows b).kind (row_at d.rows b).owner))
      (row_at d.rows b).inputs (wired.wires b below) k c low)

  -- the header of a child by its row
  header-at : (e : ℕ) → Contains (subsystems_of d.rows s) e → (h : SystemHeader) × Contains headers h × (h.row ≡ Some e)
  header-at e h =
      let there = subst (λ xs. Contains xs (Some e)) (sym are.rows) (in-map Some (subsystems_of d.rows s) e h) in
      of-map (λ (h : SystemHeader). h.row) headers (Some e) there

  listed : (c : ℕ) (os : List (ℕ × FixType)) (o : ℕ × FixType) → Contains os o → o.0 ≡ c → list_any (λ (o : ℕ × FixType). o.0 == c) os
      ≡ true
  listed c [] o h same = absurd (in-none o h)
  listed c (p ∷ os) o h same = by (in-cases p o os h) (λ more. listed c os o more same)
    where
      any-true : (a b : Bool) → b ≡ true → (a || b) ≡ true
      any-true true b e = refl
      any-true false b e = e

      first-true : (a b : Bool) → a ≡ true → (a || b) ≡ true
      first-true true b e = refl
      first-true false b e = absurd (true≢false (sym e))

      by : (p ≡ o) ⊎ Contains os o → (Contains os o → list_any (λ (o : ℕ × FixType). o.0 == c) os ≡ true) →
          ((p.0 == c) || list_any (λ (o : ℕ × FixType). o.0 == c) os) ≡ true
      by (inl first) later = first-true (p.0 == c) (list_any (λ (o : ℕ × FixType). o.0 == c) os)
          (eq-eqb p.0 c (ap (λ (o : ℕ × FixType). o.0) first ∙ same))
      by (inr more) later = any-true (p.0 == c) (list_any (λ (o : ℕ × FixType). o.0 == c) os) (later more)

  sourced : (c : ℕ) → IsWireIn d.rows s c → IsSourced local c
  sourced c (below, inl (owned, out)) none =
      let own : Contains local.rows (local_row d delays c) = in-map (local_row d delays) (rows_of d.rows s) c
      (in-rows d.rows s c below owned) in
      let valued : has_value (row_at d.rows c).kind ≡ true =
      (and_parts (has_value (row_at d.rows c).kind) (not (is_outport (row_at d.rows c).kind)) out).0 in
      (local_row d delays c, in-filter (λ (r : LocalRow). has_value r.kind) local.rows (local_row d delays c) own valued, refl)
  sourced c (below, inr (out, (e, inside, outside))) none =
      let owner = subst (IsOwner d.rows c) inside (nested.owned c below) in
      let before = owner.0 in
      let sub = in-subsystems d.rows s e (omega (arith, before, below)) outside owner.1 in
      let h = header-at e sub in
      let here : Contains (outports_of d.rows (Some e)) c = in-at (outports_of d.rows (Some e)) (port_of (row_at d.rows c).kind - 1) c
      (port-place d.rows (Some e) is_outport (out_ports (Some e)) c below inside out) in
      let is : h.0 ≡ header_of d h.0.row h.0.profile = (are.each h.0 h.1).0 in
      let output : ℕ → ℕ × FixType = λ o. (o, type_at d.types o) in
      let outputs : Contains h.0.outputs (output c) =
      subst (λ (g : SystemHeader). Contains g.outputs (output c)) (sym is)
      (subst (λ (r : Option ℕ). Contains (map output (outports_of d.rows r)) (output c)) (sym h.2)
      (in-map output (outports_of d.rows (Some e)) c here)) in
      let u : ChildUse = child_use d h.0 in
      let child : Contains local.children u = in-map (child_use d) headers h.0 h.1 in
      let found = finds (has_output c) local.children u child (listed c h.0.outputs (output c) outputs refl) in
      absurd (none-some found.0 (sym none ∙ found.1))

  row-at : (r : LocalRow) → Contains local.rows r → (b : ℕ) × (b < length d.rows) × ((row_at d.rows b).owner ≡ s) ×
      (local_row d delays b ≡ r)
  row-at r own =
      let m = of-map (local_row d delays) (rows_of d.rows s) r own in
      let at = of-rows d.rows s m.0 m.1 in
      (m.0, at.0, at.1, m.2)

  row-wire : (r : LocalRow) (c : ℕ) → Contains local.rows r → Contains r.inputs c → IsWireIn d.rows s c
  row-wire r c own h =
      let m = row-at r own in
      by m.0 m.1 m.2 (is_inport (row_at d.rows m.0).kind) refl (subst (λ (q : LocalRow). Contains q.inputs c) (sym m.3) h)
    where
      by : (b : ℕ) → b < length d.rows → (row_at d.rows b).owner ≡ s → (t : Bool) → is_inport (row_at d.rows b).kind ≡ t →
          Contains (if t then [] else (row_at d.rows b).inputs) c → IsWireIn d.rows s c
      by b below owned true e h = absurd (in-none c h)
      by b below owned false e h =
          subst (λ n. IsWireIn d.rows n c) (reads-own d.rows (row_at d.rows b).kind (row_at d.rows b).owner e ∙ owned) (read b c below h)

  readable-wires : (r : LocalRow) (c : ℕ) → Contains local.rows r → Contains r.inputs c → IsSourced local c
  readable-wires r c own h = sourced c (row-wire r c own h)

  -- an own Outport is no wire of the system
  no-wire : (o : LocalRow) → Contains (outports local) o → IsWireIn d.rows s o.row → ⊥
  no-wire o out wire =
      let m = of-map (local_row d delays) (outports_of d.rows s) o
      (subst (λ rows. Contains rows o) (by_port_mapped d delays s headers is_outport) out) in
      let at = of-ports d.rows s is_outport m.0 m.1 in
      by m.0 at.1 at.2 (subst (IsWireIn d.rows s) (ap (λ (r : LocalRow). r.row) (sym m.2)) wire)
    where
      by : (b : ℕ) → (row_at d.rows b).owner ≡ s → is_outport (row_at d.rows b).kind ≡ true → IsWireIn d.rows s b → ⊥
      by b own is (below, inl (here, output)) =
          true≢false (sym (and_parts (has_value (row_at d.rows b).kind) (not (is_outport (row_at d.rows b).kind)) output).1 ∙ ap not is)
      by b own is (below, inr (out, (e, inside, outside))) =
          let before = (subst (IsOwner d.rows b) inside (nested.owned b below)).0 in
          let itself = (subst (IsOwner d.rows e) (outside ∙ sym own ∙ inside) (nested.owned e (omega (arith, before, below)))).0 in
          omega (arith, itself)

  child-at : (u : ChildUse) → Contains local.children u → (h : SystemHeader) × Contains headers h × (child_use d h ≡ u)
  child-at u h = of-map (child_use d) headers u h

  entering-wire : (u : ChildUse) (c : ℕ) → Contains local.children u → Contains (entering u) c → IsWireIn d.rows s c
  entering-wire u c child h =
      let m = child-at u child in
      let e = number-of (λ (h : SystemHeader). h.row) headers (subsystems_of d.rows s) m.0 are.rows m.1 in
      let at = of-subsystems d.rows s e.0 e.1 in
      by e.0 at.0 at.1 at.2
      (subst (λ n. Contains (entering_wires d.rows n ++ control_wires_of d.rows n) c) e.2
      (subst (λ (v : ChildUse). Contains (entering v) c) (sym m.2) h))
    where
      by : (e : ℕ) → e < length d.rows → (row_at d.rows e).owner ≡ s → is_subsystem (row_at d.rows e).kind ≡ true →
          Contains (entering_wires d.rows (Some e) ++ (row_at d.rows e).inputs) c → IsWireIn d.rows s c
      by e below owned subsystem h = elim (Contains-append_cases (entering_wires d.rows (Some e)) (row_at d.rows e).inputs c h) [
        | inl enters ↦
            let i = of-flat_map (λ b. (row_at d.rows b).inputs) (inports_of d.rows (Some e)) c enters in
            let at = of-ports d.rows (Some e) is_inport i.0 i.1 in
            subst (λ n. IsWireIn d.rows n c)
            (ap (reading_system d.rows (row_at d.rows i.0).kind) at.1 ∙ reads-around d.rows (row_at d.rows i.0).kind e at.2 ∙ owned)
            (read i.0 c at.0 i.2)
        | inr controls ↦
            subst (λ n. IsWireIn d.rows n c)
            (reads-own d.rows (row_at d.rows e).kind (row_at d.rows e).owner (no-inport (row_at d.rows e).kind subsystem) ∙ owned)
            (read e c below controls)
      ]

  readable-entering : (u : ChildUse) (c : ℕ) → Contains local.children u → Contains (entering u) c → IsSourced local c
  readable-entering u c child h = sourced c (entering-wire u c child h)

  readable-controls : length (control_ports local.control) ≤ length local.controls
  readable-controls = by s
    where
      within : (e : ℕ) → e < length d.rows → length (control_ports (control_of (row_at d.rows e).kind)) ≤ length
          (map (type_at d.types) (row_at d.rows e).inputs)
      within e below =
          let many = wired.counts e below in
          let least = control-wires (row_at d.rows e).kind (row_at d.rows e).owner in
          let long = length-map (row_at d.rows e).inputs (type_at d.types) in
          omega (arith, many, least, long)

      by : (s : Option ℕ) → length (control_ports (system_control d.rows s)) ≤ length (map (type_at d.types) (control_wires_of d.rows s))
      by None = omega arith
      by (Some e) = elim (cases_lt e (length d.rows)) [
        | inl below ↦ within e below
        | inr past ↦
            let none : row_at d.rows e ≡ no_row = past-end d.rows e no_row past in
            subst (λ (row : TableRow). length (control_ports (control_of row.kind)) ≤ length (map (type_at d.types) row.inputs))
            (sym none) (omega arith)
      ]

  readable-ports : (r : LocalRow) → Contains local.rows r → is_inport r.kind ≡ true → (0 < port_of r.kind) ×
      (port_of r.kind ≤ length (inports local))
  readable-ports r own is =
      let m = row-at r own in
      let passes : is_inport (row_at d.rows m.0).kind ≡ true = ap (λ (q : LocalRow). is_inport q.kind) m.3 ∙ is in
      let range = port-range d.rows s is_inport (in_ports s) m.0 m.1 m.2 passes in
      let long : length (inports local) ≡ length (inports_of d.rows s) = ap length (by_port_mapped d delays s headers is_inport)
      ∙ length-map (inports_of d.rows s) (local_row d delays) in
      subst (λ (q : LocalRow). (0 < port_of q.kind) × (port_of q.kind ≤ length (inports local))) m.3
      (range.0, subst (λ n. port_of (row_at d.rows m.0).kind ≤ n) (sym long) range.1)

  readable-children : (u : ChildUse) → Contains local.children u → length u.header.controls ≡ length u.controls
  readable-children u child =
      let m = child-at u child in
      subst (λ (v : ChildUse). length v.header.controls ≡ length v.controls) m.2
      (ap (λ (h : SystemHeader). length h.controls) (are.each m.0 m.1).0 ∙ length-map (control_wires_of d.rows m.0.row) (type_at d.types))

  nested-child : (u : ChildUse) → Contains local.children u → IsNestedIn s u.header.row
  nested-child u child =
      let m = child-at u child in
      let e = number-of (λ (h : SystemHeader). h.row) headers (subsystems_of d.rows s) m.0 are.rows m.1 in
      let at = of-subsystems d.rows s e.0 e.1 in
      let below = at.0 in
      let most = nested.at_most in
      record {
        row = e.0;
        is = ap (λ (v : ChildUse). v.header.row) (sym m.2) ∙ e.2;
        few = omega (arith, below, most);
        later = λ a is. (subst (IsOwner d.rows e.0) (at.1 ∙ is) (nested.owned e.0 at.0)).0;
      }

  few : (r : LocalRow) → Contains local.rows r → r.row < 20000
  few r own =
      let m = row-at r own in
      let below = m.1 in
      let most = nested.at_most in
      subst (λ (q : LocalRow). q.row < 20000) m.3 (omega (arith, below, most))

  module _ (ops : (b : ℕ) → b < length d.rows → (ts : List FixType) × (delay : Bool) ×
      (op_at d b ≡ op_of (row_at d.rows b).kind ts (type_at d.types b) delay)) where
    readable-delay : (r : LocalRow) → Contains local.rows r → is_delay r.op ≡ true → (is_inport r.kind ≡ false) ×
        ((c : ℕ) × (cs : List ℕ) × (r.inputs ≡ c ∷ cs))
    readable-delay r own delay =
        let m = row-at r own in
        let op = ops m.0 m.1 in
        let kind = delay-kind (row_at d.rows m.0).kind op.0 (type_at d.types m.0) op.1 (row_at d.rows m.0).owner
        (ap is_delay (sym op.2) ∙ ap (λ (q : LocalRow). is_delay q.op) m.3 ∙ delay) in
        let some = some-wire (row_at d.rows m.0).inputs (wired.counts m.0 m.1 ∙ kind.1) in
        subst (λ (q : LocalRow). (is_inport q.kind ≡ false) × ((c : ℕ) × (cs : List ℕ) × (q.inputs ≡ c ∷ cs))) m.3
        (kind.0, (some.0, some.1, ap (λ (t : Bool). if t then [] else (row_at d.rows m.0).inputs) kind.0 ∙ some.2))

pub readable : LocalsAreLawful → (r : ResolvedTree) (s : Option ℕ) (local : LocalSystem) → IsResolvedTree r → IsLocalOf r s local →
    IsReadable local
readable lawful r s local resolved is =
    let d = diagram_of r in
    let delays = r.times.delays in
    let headers = is.headers in
    let table = resolved.tree.table in
    let ops : (b : ℕ) → b < length d.rows → (ts : List FixType) × (delay : Bool) ×
    (op_at d b ≡ op_of (row_at d.rows b).kind ts (type_at d.types b) delay) =
    λ b below. (
      map (type_at r.types) (row_at d.rows b).inputs,
      slice_index_or r.times.delays b false,
      ap (λ (ops : List Op). slice_index_or ops b Nothing) resolved.resolved.are_ops ∙ by_row-at d.rows
          (op_in d.rows r.types r.times.delays) b Nothing below,
    ) in
    subst IsReadable (sym is.is_local) (record {
      lawful = subst IsLocal is.is_local (lawful r s local resolved is);
      wires = readable-wires d delays s headers is.are_headers table.nested table.wired table.inports table.outports;
      entering_wires = readable-entering d delays s headers is.are_headers table.nested table.wired table.inports table.outports;
      delay_input = readable-delay d delays s headers is.are_headers table.nested table.wired table.inports table.outports ops;
      inport_port = readable-ports d delays s headers is.are_headers table.nested table.wired table.inports table.outports;
      child_controls = readable-children d delays s headers is.are_headers table.nested table.wired table.inports table.outports;
      controls = readable-controls d delays s headers is.are_headers table.nested table.wired table.inports table.outports;
      child_rows = nested-child d delays s headers is.are_headers table.nested table.wired table.inports table.outports;
      unread_rows = λ o r out own h. no-wire d delays s headers is.are_headers table.nested table.wired table.inports table.outports o out
          (row-wire d delays s headers is.are_headers table.nested table.wired table.inports table.outports r o.row own h);
      unread_children = λ o u out child h. no-wire d delays s headers is.are_headers table.nested table.wired table.inports table.outports
          o out
          (entering-wire d delays s headers is.are_headers table.nested table.wired table.inports table.outports u o.row child h);
      few_rows = few d delays s headers is.are_headers table.nested table.wired table.inports table.outports;
    })

pub emitted-readable : LocalsAreLawful → (local : LocalSystem) (profile : SystemProfile) (schedule : SystemSchedule) →
    IsEmitted local profile schedule → IsReadable local
emitted-readable lawful local profile schedule is = readable lawful is.resolved local.row local is.is_resolved is.is_local
