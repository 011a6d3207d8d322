-- The local systems of a resolved model are lawful.
use Rattle.std.specs.Prelude.{◌≡◌, ℕ, ◌^◌, ◌<◌, ◌≤◌, Bool, true, List, [], ◌∷◌, map, filter, flat_map, length, slice_get, All, Contains, Option, Some, refl}
use Rattle.std.proofs.Common.{sym, ap, subst, ◌∙◌, arith, inl, inr}
use Rattle.std.proofs.lemmas.List.{length-map, length-append}
use Rattle.std.proofs.lemmas.List.FromFn.{length-range_with_len}
use Rattle.std.proofs.lemmas.List.Elements.{All-map, All-weaker, All-contains_itself}
use Rattle.std.proofs.lemmas.Slice.Zip.{AllZip-long}
use Rattle.std.proofs.lemmas.Option.{same_Some}
use Rattle.base_core.specs.declared.Control.{Control}
use Rattle.base_core.specs.declared.Control.TheVariants.{Plain, Enabled, Triggered, Both}
use Rattle.diagram_blocks.specs.declared.Kind.TheVariants.{Inport, SubSystem}
use Rattle.base_core.specs.Interface.{different}
use Rattle.modules_clusters.specs.Grouping.{AreDifferent}
use Rattle.diagram_meaning.specs.Rows.{row_at, row_numbers, rows_of, subsystems_of, inports_of, outports_of, same_system, control_at, system_control}
use Rattle.diagram_blocks.specs.Kinds.{is_inport, is_outport, is_subsystem, port_of}
use Rattle.diagram_meaning.specs.Diagram.{Diagram, type_at}
use Rattle.diagram_meaning.specs.Needs.{TrueNeeds, IsMaskOf}
use Rattle.diagram_meaning.specs.ResolvedTree.{diagram_of}
use Rattle.diagram_meaning.specs.WellFormed.{IsNested, IsOwner, IsWired, HasPorts, wires_wanted}
use Rattle.modules_profile.specs.declared.local.ChildUse.{ChildUse}
use Rattle.modules_profile.specs.declared.local.LocalRow.{LocalRow}
use Rattle.modules_profile.specs.declared.node_wires.NodeWires.{NodeWires}
use Rattle.modules_profile.specs.declared.profile.Function.{Function}
use Rattle.modules_profile.specs.LocalSystem.{LocalSystem}
use Rattle.modules_profile.specs.SystemHeader.{SystemHeader}
use Rattle.modules_profile.specs.Functions.{function_for}
use Rattle.modules_profile.specs.Headers.{header_functions, given_by_function}
use Rattle.modules_profile.specs.Locals.{local_row, local_of, child_use}
use Rattle.base_core.specs.Ports.{control_ports}
use Rattle.modules_profile.specs.Systems.{control_wires_of, entering_wires}
use Rattle.diagram_meaning.proofs.lemmas.EnteringWires.{as-many}
use Rattle.modules_profile.specs.NodeFacts.{AreHeaders, LocalsAreLawful}
use Rattle.modules_profile.specs.NodeWires.{wires_of_row, wires_of_call, wires_of_calls, wires_of_nodes, AreGivenOnce}
use Rattle.modules_profile.specs.LawfulLocals.{IsChild, IsLocal}
use Rattle.modules_profile.proofs.lemmas.Members.{in-none, in-cases, in-map, of-map, in-at, at-map, map-at}
use Rattle.modules_profile.proofs.Numbered.{Apart, apart-range, apart-filter}
use Rattle.modules_profile.proofs.lemmas.PortRows.{of-rows, of-subsystems, of-ports, few-ports}
use Rattle.modules_profile.proofs.ChildPorts.{subsystem-kind}
use Rattle.modules_profile.proofs.FunctionRows.{given, need-of, outs-are}
use Rattle.modules_profile.proofs.lemmas.LawfulSteps.{apart-at, apart-differ, differ-at, apart-different, apart-found, once-append, once-flat_map, of-flat_map, long-flat_map, short-filter, short-different}

-- a control has a wire for each of its ports
ports-wanted : (control : Control) (o : Option ℕ) → wires_wanted (SubSystem control) o ≡ length (control_ports control)
ports-wanted Plain o = refl
ports-wanted (Enabled reset) o = refl
ports-wanted (Triggered edge) o = refl
ports-wanted (Both reset edge) o = refl

module _ (d : Diagram) (delays : List Bool) (s : Option ℕ) (headers : List SystemHeader) (are : AreHeaders d s headers)
    (nested : IsNested d.rows) (wired : IsWired d.rows)
    (has_inports : (o : Option ℕ) → HasPorts d.rows is_inport o) (has_outports : (o : Option ℕ) → HasPorts d.rows is_outport o) where
  abbrev own_local : LocalSystem
  own_local = local_of d delays s headers

  -- ---- Own rows

  own-numbers : (bs : List ℕ) → map (λ (r : LocalRow). r.row) (map (local_row d delays) bs) ≡ bs
  own-numbers [] = refl
  own-numbers (b ∷ bs) = ap (λ cs. b ∷ cs) (own-numbers bs)

  rows-apart : Apart (rows_of d.rows s)
  rows-apart = apart-filter (λ b. same_system (row_at d.rows b).owner s) (row_numbers d.rows) (apart-range 0 (length d.rows))

  rows-differ : AreDifferent (map (λ (r : LocalRow). r.row) own_local.rows)
  rows-differ = subst AreDifferent (sym (own-numbers (rows_of d.rows s))) (apart-differ (rows_of d.rows s) rows-apart)

  own-ports : (r : LocalRow) (k : ℕ) → Contains own_local.rows r → r.kind ≡ Inport k → (0 < k) × (k ≤ 32)
  own-ports r k h kind =
      let m = of-map (local_row d delays) (rows_of d.rows s) r h in
      let own = of-rows d.rows s m.0 m.1 in
      let kind_is : (row_at d.rows m.0).kind ≡ Inport k = ap (λ (q : LocalRow). q.kind) m.2 ∙ kind in
      let range = (has_inports s).in_range m.0 own.0 own.1 (ap is_inport kind_is) in
      let most = (has_inports s).at_most in
      let port : port_of (row_at d.rows m.0).kind ≡ k = ap port_of kind_is in
      let low = range.0 in
      let high = range.1 in
      (omega (arith, low, port), omega (arith, high, port, most))

  -- ---- Children

  child-numbers : map (λ (u : ChildUse). u.header.row) own_local.children ≡ map Some (subsystems_of d.rows s)
  child-numbers = mapped headers ∙ are.rows
    where
      mapped : (hs : List SystemHeader) →
          map (λ (u : ChildUse). u.header.row) (map (child_use d) hs) ≡ map (λ (h : SystemHeader). h.row) hs
      mapped [] = refl
      mapped (h ∷ hs) = ap (λ es. h.row ∷ es) (mapped hs)

  children-apart : Apart (subsystems_of d.rows s)
  children-apart = apart-filter (λ b. is_subsystem (row_at d.rows b).kind) (rows_of d.rows s) rows-apart

  -- the header of a child, by its row
  record HasRow (h : SystemHeader) : Type 0 where
    pub e : ℕ
    pub row : h.row ≡ Some e
    pub below : e < length d.rows
    pub owned : (row_at d.rows e).owner ≡ s
    pub is_subsystem : is_subsystem (row_at d.rows e).kind ≡ true

  has-row : (h : SystemHeader) → Contains headers h → HasRow h
  has-row h m =
      let n = of-map Some (subsystems_of d.rows s) h.row
      (subst (λ rows. Contains rows h.row) are.rows (in-map (λ (g : SystemHeader). g.row) headers h m)) in
      let place = of-subsystems d.rows s n.0 n.1 in
      record { e = n.0; row = sym n.2; below = place.0; owned = place.1; is_subsystem = place.2 }

  as_many_inputs : (h : SystemHeader) → Contains headers h → length h.inputs ≡ length (inports_of d.rows h.row)
  as_many_inputs h m = ap (λ (g : SystemHeader). length g.inputs) (are.each h m).0 ∙ length-map (inports_of d.rows h.row) (type_at d.types)

  as_many_outputs : (h : SystemHeader) → Contains headers h → length h.outputs ≡ length (outports_of d.rows h.row)
  as_many_outputs h m = ap (λ (g : SystemHeader). length g.outputs) (are.each h m).0
      ∙ length-map (outports_of d.rows h.row) (λ o. (o, type_at d.types o))

  few-functions : (h : SystemHeader) → Contains headers h → length (header_functions h) ≤ 32
  few-functions h m =
      let profile = (are.each h m).1 in
      let many = ap (λ (fs : List Function). length fs) profile.functions
      ∙ length-map (different profile.needs) (function_for profile.needs) in
      let short = short-different profile.needs in
      let needs = AllZip-long (λ o mask. IsMaskOf (TrueNeeds d h.row o) mask) (outports_of d.rows h.row) profile.needs profile.are_needs in
      let outs = few-ports d.rows h.row is_outport (has_outports h.row) in
      omega (arith, many, short, needs, outs)

  control-wires : (h : SystemHeader) → Contains headers h → length (control_wires_of d.rows h.row) ≡ length (control_ports h.control)
  control-wires h m =
      let at = has-row h m in
      let e : ℕ = at.e in
      ap (λ o. length (control_wires_of d.rows o)) at.row ∙ wired.counts e at.below
      ∙ ap (λ k. wires_wanted k (row_at d.rows e).owner) (subsystem-kind (row_at d.rows e).kind at.is_subsystem)
      ∙ ports-wanted (control_at d.rows e) (row_at d.rows e).owner
      ∙ ap (λ c. length (control_ports c)) (sym (ap (λ (g : SystemHeader). g.control) (are.each h m).0 ∙ ap (system_control d.rows) at.row))

  entered : (h : SystemHeader) → Contains headers h → length (entering_wires d.rows h.row) ≡ length (inports_of d.rows h.row)
  entered h m =
      let at = has-row h m in
      subst (λ o. length (entering_wires d.rows o) ≡ length (inports_of d.rows o)) (sym at.row)
      (as-many d.rows wired at.e (has_inports (Some at.e)))

  is-child : (h : SystemHeader) → Contains headers h → IsChild (child_use d h)
  is-child h m = record {
    inputs = subst (λ n. n ≤ 32) (sym (as_many_inputs h m)) (few-ports d.rows h.row is_inport (has_inports h.row));
    outputs = subst (λ n. n ≤ 32) (sym (as_many_outputs h m)) (few-ports d.rows h.row is_outport (has_outports h.row));
    functions = few-functions h m;
    wires = entered h m ∙ sym (as_many_inputs h m);
    controls = control-wires h m;
  }

  are-children : All IsChild own_local.children
  are-children =
      All-map IsChild (child_use d) headers
      (All-weaker (Contains headers) (λ h. IsChild (child_use d h)) is-child headers (All-contains_itself headers))

  -- ---- The number of nodes

  few-nodes : length (wires_of_nodes own_local) < 2 ^ 32
  few-nodes =
      let rows = length-map (map (local_row d delays) (rows_of d.rows s)) wires_of_row
      ∙ length-map (rows_of d.rows s) (local_row d delays) in
      let own = short-filter (λ b. same_system (row_at d.rows b).owner s) (row_numbers d.rows) in
      let all = length-range_with_len 0 (length d.rows) in
      let subs = short-filter (λ b. is_subsystem (row_at d.rows b).kind) (rows_of d.rows s) in
      let children : length own_local.children ≡ length (subsystems_of d.rows s) =
      sym (length-map own_local.children (λ (u : ChildUse). u.header.row)) ∙ ap (λ os. length os) child-numbers
      ∙ length-map (subsystems_of d.rows s) Some in
      let calls = long-flat_map wires_of_calls own_local.children (λ u m.
      let n = of-map (child_use d) headers u m in
      subst (λ (v : ChildUse). length (wires_of_calls v) ≤ 32) n.2
      (subst (λ k. k ≤ 32) (sym (length-map (header_functions n.0) (wires_of_call (child_use d n.0))))
      (few-functions n.0 n.1))) in
      let both = length-append (map wires_of_row own_local.rows) (flat_map wires_of_calls own_local.children) in
      let most = nested.at_most in
      omega (arith, rows, own, all, subs, children, calls, both, most)

  -- ---- Each wire is given once

  rows-once : AreGivenOnce (map wires_of_row own_local.rows)
  rows-once a b c x y at to gives other =
      let r = map-at wires_of_row own_local.rows a x at in
      let q = map-at wires_of_row own_local.rows b y to in
      let number : (r : LocalRow) (w : NodeWires) → wires_of_row r ≡ w → Contains w.gives c → r.row ≡ c =
      λ r w e h. elim (in-cases r.row c [] (subst (λ (v : NodeWires). Contains v.gives c) (sym e) h)) [
        | inl same ↦
            same
        | inr more ↦ absurd (in-none c more)
      ] in
      differ-at (map (λ (r : LocalRow). r.row) own_local.rows) a b c rows-differ
      (at-map (λ (r : LocalRow). r.row) own_local.rows a r.0 r.1 ∙ ap Some (number r.0 x r.2 gives))
      (at-map (λ (r : LocalRow). r.row) own_local.rows b q.0 q.1 ∙ ap Some (number q.0 y q.2 other))

  outs-of : (h : SystemHeader) → Contains headers h → map (λ o. o.0) h.outputs ≡ outports_of d.rows h.row
  outs-of h m = outs-are d h (are.each h m).0 (are.each h m).1

  -- the outputs that a call gives
  record HasNeed (h : SystemHeader) (needs : List ℕ) (a c : ℕ) : Type 0 where
    pub mask : ℕ
    pub class : slice_get (different needs) a ≡ Some mask
    pub k : ℕ
    pub output : slice_get (outports_of d.rows h.row) k ≡ Some c
    pub need : slice_get needs k ≡ Some mask

  has-need : (h : SystemHeader) (m : Contains headers h) (a c : ℕ) (x : NodeWires) →
      slice_get (wires_of_calls (child_use d h)) a ≡ Some x → Contains x.gives c → HasNeed h (are.each h m).1.needs a c
  has-need h m a c x at gives =
      let profile = (are.each h m).1 in
      let f = map-at (wires_of_call (child_use d h)) (header_functions h) a x at in
      let n = map-at (function_for profile.needs) (different profile.needs) a f.0
      (subst (λ fs. slice_get fs a ≡ Some f.0) profile.functions f.1) in
      let here : Contains (given_by_function (function_for profile.needs n.0) (outports_of d.rows h.row)) c =
      subst (λ outs. Contains (given_by_function (function_for profile.needs n.0) outs) c) (outs-of h m)
      (subst (λ (g : Function). Contains (given_by_function g (map (λ o. o.0) h.outputs)) c) (sym n.2)
      (subst (λ (v : NodeWires). Contains v.gives c) (sym f.2) gives)) in
      let k = need-of profile.needs (outports_of d.rows h.row) n.0 c here in
      record { mask = n.0; class = n.1; k = k.0; output = k.1; need = k.2 }

  calls-once : (u : ChildUse) → Contains own_local.children u → AreGivenOnce (wires_of_calls u)
  calls-once u h = subst (λ (v : ChildUse). AreGivenOnce (wires_of_calls v)) m.2 once
    where
      m : (g : SystemHeader) × Contains headers g × (child_use d g ≡ u)
      m = of-map (child_use d) headers u h

      once : AreGivenOnce (wires_of_calls (child_use d m.0))
      once a b c x y at to gives other =
          let n = has-need m.0 m.1 a c x at gives in
          let p = has-need m.0 m.1 b c y to other in
          let own =
          apart-found (λ b. port_of (row_at d.rows b).kind)
          (filter (λ b. is_outport (row_at d.rows b).kind) (rows_of d.rows m.0.row)) 1
          (length (filter (λ b. is_outport (row_at d.rows b).kind) (rows_of d.rows m.0.row))) in
          let place : n.k ≡ p.k = apart-at (outports_of d.rows m.0.row) n.k p.k c own n.output p.output in
          let mask : n.mask ≡ p.mask = same_Some n.mask p.mask (sym n.need ∙ ap (slice_get (are.each m.0 m.1).1.needs) place ∙ p.need) in
          apart-at (different (are.each m.0 m.1).1.needs) a b n.mask (apart-different (are.each m.0 m.1).1.needs)
          n.class (p.class ∙ ap Some (sym mask))

  -- what a child gives is an Outport of it
  given-inside : (u : ChildUse) (w : NodeWires) (c : ℕ) → Contains own_local.children u →
      Contains (wires_of_calls u) w → Contains w.gives c → (row_at d.rows c).owner ≡ u.header.row
  given-inside u w c h n gives =
      let m = of-map (child_use d) headers u h in
      let f = of-map (wires_of_call u) (header_functions u.header) w n in
      let here = given f.0 (map (λ o. o.0) u.header.outputs) c (subst (λ (v : NodeWires). Contains v.gives c) (sym f.2) gives) in
      let header : m.0 ≡ u.header = ap (λ (v : ChildUse). v.header) m.2 in
      let outs = subst (λ (g : SystemHeader). map (λ o. o.0) g.outputs ≡ outports_of d.rows g.row) header (outs-of m.0 m.1) in
      (of-ports d.rows u.header.row is_outport c
      (subst (λ os. Contains os c) outs (in-at (map (λ o. o.0) u.header.outputs) here.0 c here.1))).1

  once : AreGivenOnce (wires_of_nodes own_local)
  once =
      once-append (map wires_of_row own_local.rows) (flat_map wires_of_calls own_local.children) rows-once
      (once-flat_map (λ (u : ChildUse). u.header.row) (λ c. (row_at d.rows c).owner) wires_of_calls own_local.children
      (subsystems_of d.rows s) child-numbers children-apart calls-once given-inside)
      apart
    where
      apart : (x y : NodeWires) (c : ℕ) → Contains (map wires_of_row own_local.rows) x →
          Contains (flat_map wires_of_calls own_local.children) y → Contains x.gives c → Contains y.gives c → ⊥
      apart x y c own call gives other =
          let r = of-map wires_of_row own_local.rows x own in
          let b = of-map (local_row d delays) (rows_of d.rows s) r.0 r.1 in
          let number : b.0 ≡ c = elim (in-cases r.0.row c [] (subst (λ (v : NodeWires). Contains v.gives c) (sym r.2) gives)) [
            | inl same ↦ ap (λ (q : LocalRow). q.row) b.2 ∙ same
            | inr more ↦ absurd (in-none c more)
          ] in
          let from = of-flat_map wires_of_calls own_local.children y call in
          let m = of-map (child_use d) headers from.0 from.1 in
          let at = has-row m.0 m.1 in
          let inside : (row_at d.rows c).owner ≡ Some at.e =
          given-inside from.0 y c from.1 from.2 other ∙ sym (ap (λ (v : ChildUse). v.header.row) m.2) ∙ at.row in
          let outside : (row_at d.rows c).owner ≡ s = ap (λ k. (row_at d.rows k).owner) (sym number) ∙ (of-rows d.rows s b.0 b.1).1 in
          let itself : (row_at d.rows at.e).owner ≡ Some at.e = at.owned ∙ sym outside ∙ inside in
          let wrong = (subst (IsOwner d.rows at.e) itself (nested.owned at.e at.below)).0 in
          omega (arith, wrong)

  pub lawful : IsLocal own_local
  lawful = record {
    rows_differ = rows-differ;
    numbers = subsystems_of d.rows s;
    have_numbers = child-numbers;
    children_differ = apart-differ (subsystems_of d.rows s) children-apart;
    are_children = are-children;
    few = few-nodes;
    once = once;
    ports = own-ports;
  }

pub locals_are_lawful : LocalsAreLawful
locals_are_lawful r s local resolved is =
    let table = resolved.tree.table in
    subst IsLocal (sym is.is_local)
    (lawful (diagram_of r) r.times.delays s is.headers is.are_headers table.nested table.wired table.inports
    table.outports)
