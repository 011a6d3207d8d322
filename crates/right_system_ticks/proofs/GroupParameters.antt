-- Each parameter of a group is one of every function that calls it: an Inport in the group is needed by an output of the function.
use Rattle.std.specs.Prelude.{◌≡◌, ℕ, zero, suc, ◌+◌, ◌-◌, ◌<◌, ◌≤◌, Bool, true, false, ◌==◌, if◌then◌else◌, List, [], ◌∷◌, ◌++◌, map, filter, zip, length, slice_get, Contains, Option, Some, None, option_and_then, refl}
use Rattle.std.specs.List.{range_with_len}
use Rattle.std.proofs.Common.{sym, ap, subst, ◌∙◌, arith, inl, inr, true≢false}
use Rattle.std.proofs.lemmas.Bool.{eqb-true}
use Rattle.std.proofs.lemmas.List.{length-map}
use Rattle.std.proofs.lemmas.List.Elements.{Contains-append_cases}
use Rattle.std.proofs.lemmas.Option.{same_Some, none-some}
use Rattle.base_core.specs.Interface.{different}
use Rattle.base_core.specs.declared.Control.{Control}
use Rattle.base_core.specs.declared.Control.TheVariants.{Plain, Enabled, Triggered, Both}
use Rattle.base_core.specs.declared.Port.{Port}
use Rattle.base_core.specs.declared.Port.TheVariants.{Number, Enable, Trigger}
use Rattle.base_fixed_point.specs.declared.FixType.{FixType}
use Rattle.diagram_blocks.specs.declared.Kind.{Kind}
use Rattle.diagram_blocks.specs.declared.Kind.TheVariants.{Inport}
use Rattle.diagram_meaning.specs.Diagram.{Diagram}
use Rattle.diagram_meaning.specs.Needs.{TrueNeeds, IsMaskOf, IsInputRow}
use Rattle.diagram_meaning.specs.ResolvedTree.{diagram_of}
use Rattle.diagram_meaning.specs.Rows.{row_at, rows_of, outports_of, is_enabled, is_triggered, system_control}
use Rattle.diagram_blocks.specs.Kinds.{is_inport, is_outport, port_of}
use Rattle.modules_profile.specs.declared.local.LocalRow.{LocalRow}
use Rattle.modules_profile.specs.declared.nodes.Node.{Node}
use Rattle.modules_profile.specs.declared.nodes.Node.TheVariants.{Row as RowNode}
use Rattle.modules_profile.specs.declared.profile.Function.{Function}
use Rattle.modules_profile.specs.LocalSystem.{LocalSystem}
use Rattle.modules_profile.specs.SystemHeader.{SystemHeader}
use Rattle.modules_profile.specs.SystemProfile.{SystemProfile}
use Rattle.modules_profile.specs.Functions.{function_for}
use Rattle.modules_profile.specs.Headers.{ports_of_header, header_function, given_rows, taken}
use Rattle.modules_profile.specs.LawfulLocals.{IsLocal}
use Rattle.modules_profile.specs.LocalNodes.{node_list, NodeReaches}
use Rattle.modules_profile.specs.Locals.{local_row, own_header, inports, outports}
use Rattle.modules_profile.specs.NodeFacts.{NodesReachAsRows, LocalsAreLawful}
use Rattle.base_core.specs.Ports.{control_ports, has_bit, bit_of}
use Rattle.modules_profile.proofs.lemmas.MaskBits.{set-has, has-holds, index-holds}
use Rattle.modules_profile.proofs.lemmas.Members.{in-none, in-first, in-rest, in-cases, in-at, in-map, of-map, map-at, at-map, below-at, in-filter, of-filter, of-filter_map, in-range, of-zip, in-zip}
use Rattle.modules_profile.proofs.lemmas.OwnRows.{given, beside, by_port_mapped, of-rows}
use Rattle.modules_schedule.specs.SystemSchedule.{SystemSchedule}
use Rattle.c_syntax.specs.Tree.{ParamTree}
use Rattle.emit_shape.specs.Heads.{now_param, input_params, out_head}
use Rattle.emit_system_spec.specs.declared.node.Place.{Place}
use Rattle.emit_system_spec.specs.declared.node.Place.TheVariants.{Row, Call}
use Rattle.emit_system_spec.specs.Emitted.{IsEmitted, EmittedIsEmittable}
use Rattle.emit_system_spec.specs.EmittedCode.{group_params}
use Rattle.emit_system_spec.specs.Groups.{group_nodes, has_some, code_groups}
use Rattle.emit_system_spec.specs.Heads.{port_types, port_param, params_where, takes, inport_of, inport_at, inports_among}
use Rattle.emit_system_spec.specs.Places.{node_places}
use Rattle.right_system_ticks.specs.ActLaws.{CalledGroupsAreHeld}
use Rattle.right_system_ticks.specs.Holding.{called_groups, calls_group, is_among}
use Rattle.right_system_ticks.specs.PlaceLaws.{GroupsTakeParameters}
use Rattle.right_system_ticks.specs.ScheduleLaws.{GroupsStandFirst}
use Rattle.right_system_ticks.proofs.GroupOrders.{among-in, grouped, ordered}
use Rattle.right_system_ticks.proofs.GroupSets.{calls-of}
use Rattle.right_system_ticks.proofs.HeldNodes.{function-is}
use Rattle.right_system_ticks.proofs.NextNodes.{At}
use Rattle.right_system_ticks.proofs.NodePlaces.{place-at, IsPlaceOf}
use Rattle.right_system_ticks.proofs.ParameterNames.{found-by-name}
use Rattle.right_system_ticks.proofs.Tests.{any-in, any-of}

-- ---- Kinds and controls

inport-kind : (kind : Kind) → is_inport kind ≡ true → kind ≡ Inport (port_of kind)
inport-kind (Inport port) h = refl
inport-kind _ h = absurd (true≢false (sym h))

one-of : (x y : Port) → Contains (x ∷ []) y → x ≡ y
one-of x y h = elim (in-cases x y [] h) [ inl same ↦ same | inr none ↦ absurd (in-none y none) ]

enabled-by : (control : Control) → Contains (control_ports control) Enable → is_enabled control ≡ true
enabled-by Plain h = absurd (in-none Enable h)
enabled-by (Enabled reset) h = refl
enabled-by (Triggered edge) h = absurd (let same = one-of Trigger Enable h in let wrong : ⊥ = cc in wrong)
enabled-by (Both reset edge) h = refl

triggered-by : (control : Control) → Contains (control_ports control) Trigger → is_triggered control ≡ true
triggered-by Plain h = absurd (in-none Trigger h)
triggered-by (Enabled reset) h = absurd (let same = one-of Enable Trigger h in let wrong : ⊥ = cc in wrong)
triggered-by (Triggered edge) h = refl
triggered-by (Both reset edge) h = refl

module _ (reach : NodesReachAsRows) (lawful : LocalsAreLawful) (are_held : CalledGroupsAreHeld) (stand : GroupsStandFirst)
    (local : LocalSystem) (profile : SystemProfile) (schedule : SystemSchedule) (is : IsEmitted local profile schedule) where
  abbrev d : Diagram
  d = diagram_of is.resolved

  abbrev header : SystemHeader
  header = own_header local profile

  abbrev outs : List ℕ
  outs = map (λ (o : ℕ × FixType). o.0) header.outputs

  abbrev output : LocalRow → ℕ × FixType
  output r = (r.row, r.out)

  is-lawful : IsLocal local
  is-lawful = lawful is.resolved local.row local is.is_resolved is.is_local

  control-is : local.control ≡ system_control d.rows local.row
  control-is = ap (λ (l : LocalSystem). l.control) is.is_local.is_local

  -- ---- What a function needs

  outports-are : outports local ≡ map (local_row d is.resolved.times.delays) (outports_of d.rows local.row)
  outports-are = ap outports is.is_local.is_local ∙ by_port_mapped d is.resolved.times.delays local.row is.is_local.headers is_outport

  output-row : (k q : ℕ) → slice_get outs k ≡ Some q → slice_get (outports_of d.rows local.row) k ≡ Some q
  output-row k q at =
      let p = map-at (λ (o : ℕ × FixType). o.0) header.outputs k q at in
      let o = map-at output (outports local) k p.0 p.1 in
      let r = map-at (local_row d is.resolved.times.delays) (outports_of d.rows local.row) k o.0
      (subst (λ os. slice_get os k ≡ Some o.0) outports-are o.1) in
      r.1 ∙ ap Some (ap (λ (r : LocalRow). r.row) r.2 ∙ ap (λ (o : ℕ × FixType). o.0) o.2 ∙ p.2)

  -- a function has the inputs that each of its outputs needs
  output-needs : (j q : ℕ) → 0 < j → j ≤ length profile.functions → Contains (given_rows header j) q →
      Contains (outports_of d.rows local.row) q × IsMaskOf (TrueNeeds d local.row q) (header_function header j).inputs
  output-needs j q some most among =
      let needs : List ℕ = is.is_profile.needs in
      let k = given (header_function header j) outs q among in
      let at = output-row k.0 q k.1 in
      let n = beside (λ o mask. IsMaskOf (TrueNeeds d local.row o) mask)
      (outports_of d.rows local.row) needs k.0 q is.is_profile.are_needs at in
      let f = below-at profile.functions (j - 1) (omega (arith, some, most)) in
      let function = function-is header j f.0 some f.1 in
      let m = map-at (function_for needs) (different needs) (j - 1) f.0 (ap (λ fs. slice_get fs (j - 1)) (sym is.is_profile.functions)
      ∙ f.1) in
      let i = index-holds (λ n. n == m.0) needs k.0 (has-holds (map (λ n. n == m.0) needs) k.0
      (ap (λ (f : Function). has_bit f.outputs k.0) (m.2 ∙ sym function) ∙ k.2)) in
      let mask : n.0 ≡ (header_function header j).inputs =
      same_Some n.0 i.0 (sym n.1 ∙ i.1) ∙ eqb-true i.0 m.0 i.2 ∙ ap (λ (f : Function). f.inputs) (m.2 ∙ sym function) in
      (in-at (outports_of d.rows local.row) k.0 q at, subst (IsMaskOf (TrueNeeds d local.row q)) mask n.2)

  module _ (j g : ℕ) (some : 0 < j) (most : j ≤ length profile.functions) (calls : calls_group schedule j g ≡ true) where
    abbrev f : Function
    f = header_function header j

    abbrev among : List ℕ
    among = inports_among local (group_nodes schedule g)

    -- ---- Nodes of the group

    called : Contains (called_groups schedule j) g
    called = calls-of schedule j g calls

    -- a node of the group reaches an output of the function, which needs what the function takes
    record IsNeeded (n : ℕ) : Type 0 where
      pub node : Node
      pub at : At local n node
      pub output : ℕ
      pub is_output : Contains (outports_of d.rows local.row) output
      pub reaches : NodeReaches local node (RowNode output)
      pub mask : IsMaskOf (TrueNeeds d local.row output) f.inputs

    is-needed : (n : ℕ) → Contains (group_nodes schedule g) n → IsNeeded n
    is-needed n h =
        let its = grouped local profile schedule is.is_schedule g n h in
        let low = ordered local profile schedule is.is_schedule n its.1 in
        let many = is.is_schedule.are_nodes.count in
        let x = below-at (node_list local) n (omega (arith, low, many)) in
        let held = any-in (λ g. is_among local (group_nodes schedule g) x.0) (called_groups schedule j) g called
        (among-in local (group_nodes schedule g) n x.0 h x.1) in
        let o = ((are_held local profile schedule is).nodes j x.0 some most (in-at (node_list local) n x.0 x.1)).0 held in
        let needs = output-needs j o.0 some most o.1 in
        record { node = x.0; at = x.1; output = o.0; is_output = needs.0; reaches = o.2; mask = needs.1 }

    -- a node of the group, which has one
    some-node : (n : ℕ) × Contains (group_nodes schedule g) n
    some-node = by (group_nodes schedule g) refl
      where
        below : g < length (code_groups schedule)
        below = (stand local profile schedule is).called j g some most called

        has : has_some (group_nodes schedule g) ≡ true
        has = (of-filter (λ g. has_some (group_nodes schedule g)) (range_with_len 0 (length schedule.groups)) g
            (subst (λ gs. Contains gs g) (sym (stand local profile schedule is).first)
            (in-range 0 (length (code_groups schedule)) g (omega arith) (omega (arith, below))))).1

        by : (ns : List ℕ) → group_nodes schedule g ≡ ns → (n : ℕ) × Contains (group_nodes schedule g) n
        by [] e = absurd (true≢false (sym has ∙ ap has_some e))
        by (n ∷ ns) e = (n, subst (λ l. Contains l n) (sym e) (in-first n ns))

    -- an Inport among its nodes
    record IsAmong (k : ℕ) : Type 0 where
      pub n : ℕ
      pub in_group : Contains (group_nodes schedule g) n
      pub p : ℕ
      pub r : LocalRow
      pub place : slice_get (node_places local) n ≡ Some (Row p)
      pub row : slice_get local.rows p ≡ Some r
      pub is_inport : is_inport r.kind ≡ true
      pub port : port_of r.kind ≡ k

    is-among : (k : ℕ) → Contains among k → IsAmong k
    is-among k h =
        let m = of-filter_map (λ n. option_and_then (inport_at local) (slice_get (node_places local) n)) (group_nodes schedule g) k h in
        by m.0 m.1 (slice_get (node_places local) m.0) refl m.2
      where
        kind : (n p : ℕ) (r : LocalRow) → Contains (group_nodes schedule g) n → slice_get (node_places local) n ≡ Some (Row p) →
            slice_get local.rows p ≡ Some r →
            (t : Bool) → is_inport r.kind ≡ t → (if t then Some (port_of r.kind) else None) ≡ Some k → IsAmong k
        kind n p r h place row false e is_port = absurd (none-some k is_port)
        kind n p r h place row true e is_port =
            record {
              n = n;
              in_group = h;
              p = p;
              r = r;
              place = place;
              row = row;
              is_inport = e;
              port = same_Some (port_of r.kind) k is_port;
            }

        row_by : (n p : ℕ) → Contains (group_nodes schedule g) n → slice_get (node_places local) n ≡ Some (Row p) →
            (o : Option LocalRow) → slice_get local.rows p ≡ o → option_and_then inport_of o ≡ Some k → IsAmong k
        row_by n p h place None e found = absurd (none-some k found)
        row_by n p h place (Some r) e found = kind n p r h place e (is_inport r.kind) refl found

        by : (n : ℕ) → Contains (group_nodes schedule g) n → (o : Option Place) → slice_get (node_places local) n ≡ o →
            option_and_then (inport_at local) o ≡ Some k → IsAmong k
        by n h None e found = absurd (none-some k found)
        by n h (Some (Call i l)) e found = absurd (none-some k found)
        by n h (Some (Row p)) e found = row_by n p h e (slice_get local.rows p) refl found

    -- ---- The inputs of the function

    number-bit : (k : ℕ) → Contains among k → has_bit f.inputs (k - 1) ≡ true
    number-bit k h =
        let m = is-among k h in
        let n = is-needed m.n m.in_group in
        let own : Contains local.rows m.r = in-at local.rows m.p m.r m.row in
        let place = place-at local m.n n.node n.at in
        let same : place.0 ≡ Row m.p = same_Some place.0 (Row m.p) (sym place.1 ∙ m.place) in
        let stands : IsPlaceOf local (Row m.p) n.node = subst (λ x. IsPlaceOf local x n.node) same place.2 in
        let row : stands.0 ≡ m.r = same_Some stands.0 m.r (sym stands.1 ∙ m.row) in
        let node : n.node ≡ RowNode m.r.row = stands.2 ∙ ap (λ (r : LocalRow). RowNode r.row) row in
        let reached = (reach is.resolved local.row local n.output m.r.row is.is_resolved is.is_local n.is_output
        (in-map (λ (own : LocalRow). own.row) local.rows m.r own)).1 (subst (λ x. NodeReaches local x (RowNode n.output)) node n.reaches) in
        let table = row-in-table m.r own in
        let kind : m.r.kind ≡ Inport k = inport-kind m.r.kind m.is_inport ∙ ap Inport m.port in
        let input : IsInputRow d.rows local.row k m.r.row = record { in_table = table.0; is_inport = table.2 ∙ kind; is_own = table.1 } in
        let range = is-lawful.ports m.r k own kind in
        set-has f.inputs (k - 1) ((n.mask.number k range.0 range.1).1 (m.r.row, input, reached))
      where
        -- an own row in the table
        row-in-table : (r : LocalRow) → Contains local.rows r → (r.row < length d.rows) × ((row_at d.rows r.row).owner ≡ local.row) ×
            ((row_at d.rows r.row).kind ≡ r.kind)
        row-in-table r own =
            let m = of-map (local_row d is.resolved.times.delays) (rows_of d.rows local.row) r
            (subst (λ (l : LocalSystem). Contains l.rows r) is.is_local.is_local own) in
            let at = of-rows d.rows local.row m.0 m.1 in
            subst (λ (r : LocalRow). (r.row < length d.rows) × ((row_at d.rows r.row).owner ≡ local.row) ×
            ((row_at d.rows r.row).kind ≡ r.kind))
            m.2 (at.0, at.1, refl)

    control-bit : (p : Port) → ((k : ℕ) → Number k ≡ p → ⊥) → Contains (control_ports local.control) p → has_bit f.inputs (bit_of p) ≡ true
    control-bit (Number k) none h = absurd (none k refl)
    control-bit Enable none h =
        let n = is-needed some-node.0 some-node.1 in
        set-has f.inputs 32 (n.mask.enable.1 (ap is_enabled (sym control-is) ∙ enabled-by local.control h))
    control-bit Trigger none h =
        let n = is-needed some-node.0 some-node.1 in
        set-has f.inputs 33 (n.mask.trigger.1 (ap is_triggered (sym control-is) ∙ triggered-by local.control h))

    of-controls : (p : Port) → ((k : ℕ) → Number k ≡ p → ⊥) → Contains (ports_of_header header) p → has_bit f.inputs (bit_of p) ≡ true
    of-controls p none h = elim (Contains-append_cases (map Number (range_with_len 1 (length header.inputs)))
        (control_ports local.control) p h) [
          | inl number ↦ let m = of-map Number (range_with_len 1 (length header.inputs)) p number in absurd (none m.0 m.2)
          | inr control ↦ control-bit p none control
        ]

    port-bit : (p : Port) → Contains (ports_of_header header) p → takes among p ≡ true → has_bit f.inputs (bit_of p) ≡ true
    port-bit (Number k) h passes =
        let m = any-of (λ p. p == k) among passes in
        number-bit k (subst (Contains among) (eqb-true m.0 k m.2) m.1)
    port-bit Enable h passes = of-controls Enable (λ k e. let wrong : ⊥ = cc in wrong) h
    port-bit Trigger h passes = of-controls Trigger (λ k e. let wrong : ⊥ = cc in wrong) h

    -- ---- Parameters

    at-pair : {A B : Type 0} (xs : List A) (ys : List B) (k : ℕ) (x : A) (y : B) → slice_get xs k ≡ Some x → slice_get ys k ≡ Some y →
        slice_get (zip xs ys) k ≡ Some (x, y)
    at-pair [] ys k x y e h = absurd (none-some x e)
    at-pair (a ∷ xs) [] k x y e h = absurd (none-some y h)
    at-pair {A} {B} (a ∷ xs) (b ∷ ys) zero x y e h =
        ap (λ (a : A). Some (a, b)) (same_Some a x e) ∙ ap (λ (b : B). Some (x, b)) (same_Some b y h)
    at-pair (a ∷ xs) (b ∷ ys) (suc k) x y e h = at-pair xs ys k x y e h

    port-taken : (e : Port × FixType) → Contains (port_types header) e → has_bit f.inputs (bit_of e.0) ≡ true →
        Contains (taken header j (input_params header)) (port_param local.control e)
    port-taken e typed bit =
        let z = of-zip (ports_of_header header) (header.inputs ++ header.controls) e typed in
        let here = at-map (port_param local.control) (port_types header) z.0 e
        (at-pair (ports_of_header header) (header.inputs ++ header.controls) z.0 e.0 e.1 z.1 z.2) in
        let test : Port × ParamTree → Bool = λ e. has_bit f.inputs (bit_of e.0) in
        let pairs : List (Port × ParamTree) = zip (ports_of_header header) (input_params header) in
        in-map (λ (e : Port × ParamTree). e.1) (filter test pairs) (e.0, port_param local.control e)
        (in-filter test pairs (e.0, port_param local.control e)
        (in-zip (ports_of_header header) (input_params header) z.0 e.0 (port_param local.control e) z.1 here) bit)

    has-param : (p : ParamTree) → Contains (group_params local profile schedule g) p → Contains (out_head header j).params p
    has-param p h = elim (in-cases now_param p (params_where local.control (takes among) (port_types header)) h) [
      | inl same ↦ subst (Contains (out_head header j).params) same (in-first now_param (taken header j (input_params header)))
      | inr more ↦
          let m = of-map (port_param local.control) (filter (λ (e : Port × FixType). takes among e.0) (port_types header)) p more in
          let e = of-filter (λ (e : Port × FixType). takes among e.0) (port_types header) m.0 m.1 in
          let z = of-zip (ports_of_header header) (header.inputs ++ header.controls) m.0 e.0 in
          let bit = port-bit m.0.0 (in-at (ports_of_header header) z.0 m.0.0 z.1) e.1 in
          in-rest now_param p (taken header j (input_params header))
          (subst (Contains (taken header j (input_params header))) m.2 (port-taken m.0 e.0 bit))
    ]

pub groups_take_parameters : NodesReachAsRows → LocalsAreLawful → EmittedIsEmittable → CalledGroupsAreHeld → GroupsStandFirst →
    GroupsTakeParameters
groups_take_parameters reach lawful emittable are_held stand local profile schedule is j g wanted some most calls among =
    let inputs = (emittable local profile schedule is).inputs in
    let many = length-map (inports local) (λ (r : LocalRow). r.out) in
    found-by-name (own_header local profile) (omega (arith, inputs, many)) j wanted
    (has-param reach lawful are_held stand local profile schedule is j g some most calls wanted among)
