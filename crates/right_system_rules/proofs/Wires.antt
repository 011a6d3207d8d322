-- Each wire that a system reads has a source among its own values and the outputs of its children.
use Rattle.std.specs.Prelude.{◌≡◌, ℕ, ◌+◌, ◌-◌, ◌<◌, Bool, true, false, not, if◌then◌else◌, List, [], ◌++◌, map, flat_map, length, Contains, Option, Some}
use Rattle.std.specs.List.{enumerate_from}
use Rattle.std.proofs.Common.{refl, sym, ap, subst, ◌∙◌, arith, inl, inr, true≢false}
use Rattle.std.proofs.lemmas.Bool.{and_parts}
use Rattle.std.proofs.lemmas.List.Elements.{Contains-append_cases}
use Rattle.base_fixed_point.specs.declared.FixType.{FixType}
use Rattle.diagram_blocks.specs.declared.Kind.{Kind}
use Rattle.diagram_blocks.specs.declared.Kind.TheVariants.{Inport}
use Rattle.diagram_blocks.specs.Meaning.{has_value}
use Rattle.diagram_meaning.specs.declared.table.Row.{Row}
use Rattle.diagram_meaning.specs.Diagram.{Diagram}
use Rattle.diagram_meaning.specs.Inputs.{entering_wires, control_wires_of}
use Rattle.diagram_meaning.specs.Rows.{row_at, rows_of, subsystems_of, inports_of, outports_of, by_port}
use Rattle.diagram_blocks.specs.Kinds.{is_inport, is_outport, is_subsystem, port_of}
use Rattle.diagram_meaning.specs.WellFormed.{IsNested, IsOwner, IsWired, IsWireIn, HasPorts, reading_system}
use Rattle.modules_profile.specs.declared.local.ChildUse.{ChildUse}
use Rattle.modules_profile.specs.declared.local.LocalRow.{LocalRow}
use Rattle.modules_profile.specs.LocalSystem.{LocalSystem}
use Rattle.modules_profile.specs.SystemHeader.{SystemHeader}
use Rattle.modules_profile.specs.Locals.{local_row, child_use, local_of, entering}
use Rattle.modules_profile.specs.NodeFacts.{AreHeaders}
use Rattle.modules_profile.proofs.lemmas.Members.{in-none, in-map, of-map, in-filter, in-at, at-in, in-enumerate}
use Rattle.modules_profile.proofs.lemmas.OwnRows.{outs-are, of-flat_map, of-rows, of-ports}
use Rattle.modules_profile.proofs.lemmas.PortRows.{in-rows, in-subsystems, of-subsystems, port-place}
use Rattle.emit_system_spec.specs.declared.source.Source.{Source}
use Rattle.emit_system_spec.specs.Fields.{value_rows, child_field}
use Rattle.emit_system_spec.specs.Sources.{output_source, child_sources, value_source, sources}
use Rattle.right_system_rules.proofs.Lists.{of-each, in-front, in-second, in-flat_map}

-- the rows that are sources
abbrev pub source_rows : LocalSystem → List ℕ
source_rows local = map (λ (x : Source). x.row) (sources local)

pub in-values : (local : LocalSystem) (r : LocalRow) → Contains local.rows r → has_value r.kind ≡ true → Contains (source_rows local) r.row
in-values local r h has =
    in-map (λ (x : Source). x.row) (sources local) (value_source local r)
    (in-second (flat_map (child_sources local) (enumerate_from 0 local.children)) (map (value_source local) (value_rows local))
    (value_source local r)
    (in-map (value_source local) (value_rows local) r (in-filter (λ (q : LocalRow). has_value q.kind) local.rows r h has)))

pub in-outputs : (local : LocalSystem) (u : ChildUse) (o : ℕ × FixType) → Contains local.children u → Contains u.header.outputs o →
    Contains (source_rows local) o.0
in-outputs local u o h k =
    let child = at-in local.children u h in
    let output = at-in u.header.outputs o k in
    in-map (λ (x : Source). x.row) (sources local) (output_source (child_field local (0 + child.0)) (0 + output.0, o))
    (in-front (flat_map (child_sources local) (enumerate_from 0 local.children)) (map (value_source local) (value_rows local))
    (output_source (child_field local (0 + child.0)) (0 + output.0, o))
    (in-flat_map (child_sources local) (enumerate_from 0 local.children) (0 + child.0, u)
    (output_source (child_field local (0 + child.0)) (0 + output.0, o))
    (in-enumerate 0 local.children child.0 u child.1)
    (in-map (output_source (child_field local (0 + child.0))) (enumerate_from 0 u.header.outputs) (0 + output.0, o)
    (in-enumerate 0 u.header.outputs output.0 o output.1))))

-- ---- In which system wires are read

pub no-inport : (kind : Kind) → is_subsystem kind ≡ true → is_inport kind ≡ false
no-inport (Inport port) h = absurd (true≢false (sym h))
no-inport _ h = refl

reads-own : (rows : List Row) (kind : Kind) (o : Option ℕ) → is_inport kind ≡ false → reading_system rows kind o ≡ o
reads-own rows (Inport port) o h = absurd (true≢false h)
reads-own rows _ o h = refl

reads-around : (rows : List Row) (kind : Kind) (e : ℕ) → is_inport kind ≡ true → reading_system rows kind (Some e) ≡ (row_at rows e).owner
reads-around rows (Inport port) e h = refl
reads-around rows _ e h = absurd (true≢false (sym h))

module _ (d : Diagram) (delays : List Bool) (s : Option ℕ) (headers : List SystemHeader) (are : AreHeaders d s headers)
    (nested : IsNested d.rows) (wired : IsWired d.rows)
    (has_outports : (o : Option ℕ) → HasPorts d.rows is_outport o) where
  abbrev own : LocalSystem
  own = local_of d delays s headers

  -- the child of a subsystem row
  record HasHeader (e : ℕ) : Type 0 where
    pub header : SystemHeader
    pub is_header : Contains headers header
    pub row : header.row ≡ Some e

  header-of : (e : ℕ) → e < length d.rows → (row_at d.rows e).owner ≡ s → is_subsystem (row_at d.rows e).kind ≡ true → HasHeader e
  header-of e below owned is =
      let m = of-map (λ (h : SystemHeader). h.row) headers (Some e)
      (subst (λ os. Contains os (Some e)) (sym are.rows)
      (in-map Some (subsystems_of d.rows s) e (in-subsystems d.rows s e below owned is))) in
      record { header = m.0; is_header = m.1; row = m.2 }

  -- a wire of the system has a source
  wire-source : (c : ℕ) → IsWireIn d.rows s c → Contains (source_rows own) c
  wire-source c (below, inl (owned, output)) =
      in-values own (local_row d delays c) (in-map (local_row d delays) (rows_of d.rows s) c (in-rows d.rows s c below owned))
      (and_parts (has_value (row_at d.rows c).kind) (not (is_outport (row_at d.rows c).kind)) output).0
  wire-source c (below, inr (out, (e, inside, owned))) =
      let owner = subst (IsOwner d.rows c) inside (nested.owned c below) in
      let before = owner.0 in
      let h = header-of e (omega (arith, before, below)) owned owner.1 in
      let listed : Contains (outports_of d.rows h.header.row) c =
      subst (λ o. Contains (outports_of d.rows o) c) (sym h.row)
      (in-at (by_port d.rows (Some e) is_outport) (port_of (row_at d.rows c).kind - 1) c
      (port-place d.rows (Some e) is_outport (has_outports (Some e)) c below inside out)) in
      let o = of-map (λ (o : ℕ × FixType). o.0) h.header.outputs c
      (subst (λ os. Contains os c) (sym
      (outs-are d h.header (are.each h.header h.is_header).0 (are.each h.header h.is_header).1)) listed) in
      subst (Contains (source_rows own)) o.2
      (in-outputs own (child_use d h.header) o.0 (in-map (child_use d) headers h.header h.is_header) o.1)

  read : (b c : ℕ) → b < length d.rows → Contains (row_at d.rows b).inputs c →
      IsWireIn d.rows (reading_system d.rows (row_at d.rows b).kind (row_at d.rows b).owner) c
  read b c below h =
      of-each (IsWireIn d.rows (reading_system d.rows (row_at d.rows b).kind (row_at d.rows b).owner)) (row_at d.rows b).inputs c
      (wired.wires b below) h

  -- those of the own rows
  pub row-sources : (r : LocalRow) (c : ℕ) → Contains own.rows r → Contains r.inputs c → Contains (source_rows own) c
  row-sources r c h reads =
      let m = of-map (local_row d delays) (rows_of d.rows s) r h in
      let at = of-rows d.rows s m.0 m.1 in
      by m.0 at.0 at.1 (is_inport (row_at d.rows m.0).kind) refl (subst (λ (q : LocalRow). Contains q.inputs c) (sym m.2) reads)
    where
      by : (b : ℕ) → b < length d.rows → (row_at d.rows b).owner ≡ s → (t : Bool) → is_inport (row_at d.rows b).kind ≡ t →
          Contains (if t then [] else (row_at d.rows b).inputs) c → Contains (source_rows own) c
      by b below owned true e k = absurd (in-none c k)
      by b below owned false e k =
          wire-source c
          (subst (λ n. IsWireIn d.rows n c) (reads-own d.rows (row_at d.rows b).kind (row_at d.rows b).owner e ∙ owned) (read b c below k))

  -- those that enter the children
  pub child-wires : (u : ChildUse) (c : ℕ) → Contains own.children u → Contains (entering u) c → Contains (source_rows own) c
  child-wires u c h reads =
      let m = of-map (child_use d) headers u h in
      let n =
      of-map Some (subsystems_of d.rows s) m.0.row
      (subst (λ rows. Contains rows m.0.row) are.rows (in-map (λ (g : SystemHeader). g.row) headers m.0 m.1)) in
      let at = of-subsystems d.rows s n.0 n.1 in
      by n.0 at.0 at.1 at.2
      (subst (λ o. Contains (entering_wires d.rows o ++ control_wires_of d.rows o) c) (sym n.2)
      (subst (λ (v : ChildUse). Contains (entering v) c) (sym m.2) reads))
    where
      by : (e : ℕ) → e < length d.rows → (row_at d.rows e).owner ≡ s → is_subsystem (row_at d.rows e).kind ≡ true →
          Contains (entering_wires d.rows (Some e) ++ (row_at d.rows e).inputs) c → Contains (source_rows own) c
      by e below owned subsystem k = elim (Contains-append_cases (entering_wires d.rows (Some e)) (row_at d.rows e).inputs c k) [
        | inl enters ↦
            let i = of-flat_map (λ b. (row_at d.rows b).inputs) (inports_of d.rows (Some e)) c enters in
            let at = of-ports d.rows (Some e) is_inport i.0 i.1 in
            wire-source c
            (subst (λ n. IsWireIn d.rows n c)
            (ap (reading_system d.rows (row_at d.rows i.0).kind) at.1 ∙ reads-around d.rows (row_at d.rows i.0).kind e at.2 ∙ owned)
            (read i.0 c at.0 i.2))
        | inr controls ↦
            wire-source c
            (subst (λ n. IsWireIn d.rows n c)
            (reads-own d.rows (row_at d.rows e).kind (row_at d.rows e).owner (no-inport (row_at d.rows e).kind subsystem) ∙ owned)
            (read e c below controls))
      ]
