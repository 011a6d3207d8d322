-- Each parameter of a group is one of every function that calls it: what an Inport of the group reaches needs that input.
use Rattle.std.specs.Prelude.{◌≡◌, refl, ℕ, zero, suc, ◌+◌, ◌-◌, ◌^◌, ◌<◌, Bool, true, false, not, ◌==◌, ◌||◌, List, [], ◌∷◌, ◌++◌, map, filter, zip, length, slice_get, slice_index, bit_and, Contains, Option, Some, None, option_and_then, if◌then◌else◌}
use Rattle.std.specs.List.{list_any, range_with_len}
use Rattle.std.proofs.Common.{sym, ap, subst, ◌∙◌, arith, inl, inr, true≢false}
use Rattle.std.proofs.lemmas.Bool.{eqb-true}
use Rattle.std.proofs.lemmas.List.Elements.{Contains-append_cases}
use Rattle.std.proofs.lemmas.Option.{same_Some, none-some}
use Rattle.base_core.specs.declared.base.Control.{Control}
use Rattle.base_core.specs.declared.base.Control.TheVariants.{Plain, Enabled, Triggered, Both}
use Rattle.base_core.specs.declared.base.Port.{Port}
use Rattle.base_core.specs.declared.base.Port.TheVariants.{Number, Enable, Trigger}
use Rattle.base_fixed_point.specs.declared.types.FixType.{FixType}
use Rattle.diagram_blocks.specs.declared.kind.Kind.{Kind}
use Rattle.diagram_blocks.specs.declared.kind.Kind.TheVariants.{Inport}
use Rattle.diagram_meaning.specs.Diagram.{Diagram}
use Rattle.base_core.specs.Ports.{control_ports, bit_of, has_bit}
use Rattle.diagram_meaning.specs.Needs.{TrueNeeds, IsMaskOf, IsInputRow}
use Rattle.diagram_meaning.specs.ResolvedTree.{diagram_of}
use Rattle.diagram_meaning.specs.Rows.{row_at, rows_of, is_enabled, is_triggered, system_control}
use Rattle.diagram_blocks.specs.Kinds.{is_inport, port_of}
use Rattle.modules_profile.specs.declared.local.LocalRow.{LocalRow}
use Rattle.modules_profile.specs.declared.nodes.Node.TheVariants.{Row as RowNode}
use Rattle.modules_profile.specs.declared.profile.Function.{Function}
use Rattle.modules_profile.specs.LocalSystem.{LocalSystem}
use Rattle.modules_profile.specs.SystemProfile.{SystemProfile}
use Rattle.modules_profile.specs.SystemHeader.{SystemHeader}
use Rattle.modules_profile.specs.Headers.{ports_of_header, header_function, idle_function, taken}
use Rattle.modules_profile.specs.LocalNodes.{node_list}
use Rattle.modules_profile.specs.Locals.{local_row, own_header}
use Rattle.modules_profile.specs.NodeFacts.{NodesReachAsRows}
use Rattle.modules_profile.proofs.lemmas.Members.{in-none, in-cases, in-first, in-rest, in-map, of-map, in-filter, of-filter, of-filter_map, in-at, at-map, at-below, below-at, of-zip, in-zip}
use Rattle.modules_profile.proofs.lemmas.MaskBits.{set-has}
use Rattle.modules_profile.proofs.lemmas.OwnRows.{of-rows}
use Rattle.modules_schedule.specs.SystemSchedule.{SystemSchedule}
use Rattle.c_syntax.specs.Tree.{ParamTree}
use Rattle.emit_shape.specs.Heads.{now_param, input_params, out_head}
use Rattle.emit_shape.specs.Names.{now_name, port_name}
use Rattle.emit_system_spec.specs.declared.node.Place.{Place}
use Rattle.emit_system_spec.specs.declared.node.Place.TheVariants.{Row, Call}
use Rattle.emit_system_spec.specs.Emitted.{IsEmitted}
use Rattle.emit_system_spec.specs.EmittedCode.{group_params}
use Rattle.emit_system_spec.specs.Groups.{group_nodes, has_some, code_groups}
use Rattle.emit_system_spec.specs.Heads.{port_types, port_param, params_where, takes, inport_of, inport_at, inports_among}
use Rattle.emit_system_spec.specs.Places.{node_places}
use Rattle.right_system_shape.proofs.Callees.{get-index}
use Rattle.right_system_shape.proofs.GroupOrder.{of-function, function-held}
use Rattle.right_system_shape.proofs.OwnParams.{has-later}
use Rattle.right_system_shape.proofs.Params.{HasParam}
use Rattle.right_system_shape.proofs.ProcedureRules.{FunctionsHaveParams, GroupsStandAtNumbers}
use Rattle.right_system_shape.proofs.PublicHeads.{functions-many}
use Rattle.right_system_shape.proofs.Reaching as reaching
use Rattle.right_system_shape.proofs.Reaching.{place-row, row-node}
use Rattle.right_system_shape.proofs.Readable.{IsReadable}

-- ---- Lists

at-zip : {A B : Type 0} (xs : List A) (ys : List B) (k : ℕ) (x : A) (y : B) → slice_get xs k ≡ Some x → slice_get ys k ≡ Some y →
    slice_get (zip xs ys) k ≡ Some (x, y)
at-zip [] ys k x y e h = absurd (none-some x e)
at-zip (a ∷ xs) [] k x y e h = absurd (none-some y h)
at-zip {A} {B} (a ∷ xs) (b ∷ ys) zero x y e h =
    ap (λ (a : A). Some (a, b)) (same_Some a x e) ∙ ap (λ (b : B). Some (x, b)) (same_Some b y h)
at-zip (a ∷ xs) (b ∷ ys) (suc k) x y e h = at-zip xs ys k x y e h

of-any : (xs : List ℕ) (k : ℕ) → list_any (λ p. p == k) xs ≡ true → Contains xs k
of-any [] k h = absurd (true≢false (sym h))
of-any (x ∷ xs) k h = by (x == k) refl h (λ more. of-any xs k more)
  where
    by : (t : Bool) → (x == k) ≡ t → (t || list_any (λ p. p == k) xs) ≡ true → (list_any (λ p. p == k) xs ≡ true → Contains xs k) →
        Contains (x ∷ xs) k
    by true e h later = subst (Contains (x ∷ xs)) (eqb-true x k e) (in-first x xs)
    by false e h later = in-rest x k xs (later h)

inport-kind : (kind : Kind) → is_inport kind ≡ true → kind ≡ Inport (port_of kind)
inport-kind (Inport port) h = refl
inport-kind _ h = absurd (true≢false (sym h))

enabled-by : (control : Control) → Contains (control_ports control) Enable → is_enabled control ≡ true
enabled-by Plain h = absurd (in-none Enable h)
enabled-by (Enabled reset) h = refl
enabled-by (Triggered edge) h = elim (in-cases Trigger Enable [] h) [
  | inl same ↦ absurd (let wrong : ⊥ = cc in wrong)
  | inr none ↦ absurd
      (in-none Enable none)
]
enabled-by (Both reset edge) h = refl

triggered-by : (control : Control) → Contains (control_ports control) Trigger → is_triggered control ≡ true
triggered-by Plain h = absurd (in-none Trigger h)
triggered-by (Enabled reset) h = elim (in-cases Enable Trigger [] h) [
  | inl same ↦ absurd (let wrong : ⊥ = cc in wrong)
  | inr none ↦ absurd
      (in-none Trigger none)
]
triggered-by (Triggered edge) h = refl
triggered-by (Both reset edge) h = refl

module _ (reach : NodesReachAsRows) (local : LocalSystem) (profile : SystemProfile) (schedule : SystemSchedule)
    (is : IsEmitted local profile schedule) (readable : IsReadable local) where
  abbrev d : Diagram
  d = diagram_of is.resolved

  abbrev header : SystemHeader
  header = own_header local profile

  control-is : local.control ≡ system_control d.rows local.row
  control-is = ap (λ (l : LocalSystem). l.control) is.is_local.is_local

  -- an own row in the table
  row-in-table : (r : LocalRow) → Contains local.rows r → (r.row < length d.rows) × ((row_at d.rows r.row).owner ≡ local.row) ×
      ((row_at d.rows r.row).kind ≡ r.kind)
  row-in-table r own =
      let there = subst (λ (l : LocalSystem). Contains l.rows r) is.is_local.is_local own in
      let m = of-map (local_row d is.resolved.times.delays) (rows_of d.rows local.row) r there in
      let at = of-rows d.rows local.row m.0 m.1 in
      subst (λ (r : LocalRow). (r.row < length d.rows) × ((row_at d.rows r.row).owner ≡ local.row) ×
      ((row_at d.rows r.row).kind ≡ r.kind)) m.2 (at.0, at.1, refl)

  -- there is a function for each list of groups
  pub function-at : (j : ℕ) (gs : List ℕ) → slice_get schedule.functions j ≡ Some gs →
      (f : Function) × (slice_get profile.functions j ≡ Some f)
  function-at j gs at =
      let inside = at-below schedule.functions j gs at in
      let many = functions-many local profile schedule is.is_schedule in
      below-at profile.functions j (omega (arith, inside, many))

  module _ (j : ℕ) (gs : List ℕ) (g : ℕ) (at : slice_get schedule.functions j ≡ Some gs) (called : Contains gs g) (f : Function)
      (there : slice_get profile.functions j ≡ Some f) where
    number-is : 1 + j ≡ suc j
    number-is = omega arith

    function-is : header_function header (1 + j) ≡ f
    function-is = ap (header_function header) number-is ∙ get-index profile.functions j idle_function f there

    -- a port in the function's mask has a parameter
    has-port : (p : Port) (t : FixType) → Contains (port_types header) (p, t) → has_bit f.inputs (bit_of p) ≡ true →
        HasParam (out_head header (1 + j)).params (port_name local.control p)
    has-port p t typed bit =
        let z = of-zip (ports_of_header header) (header.inputs ++ header.controls) (p, t) typed in
        let here = at-map (port_param local.control) (port_types header) z.0 (p, t)
        (at-zip (ports_of_header header) (header.inputs ++ header.controls) z.0 p t z.1 z.2) in
        let test : Port × ParamTree → Bool = λ e. has_bit (header_function header (1 + j)).inputs (bit_of e.0) in
        let pairs : List (Port × ParamTree) = zip (ports_of_header header) (input_params header) in
        let passes : test (p, port_param local.control (p, t)) ≡ true = ap (λ (f : Function). has_bit f.inputs (bit_of p)) function-is
        ∙ bit in
        let kept = in-filter test pairs (p, port_param local.control (p, t)) (in-zip (ports_of_header header) (input_params header) z.0 p
        (port_param local.control (p, t)) z.1 here) passes in
        has-later now_param (taken header (1 + j) (input_params header)) (port_name local.control p)
        (in-map (λ (q : ParamTree). q.name) (taken header (1 + j) (input_params header)) (port_param local.control (p, t))
        (in-map (λ (e : Port × ParamTree). e.1) (filter test pairs) (p, port_param local.control (p, t)) kept))

    abbrev among : List ℕ
    among = inports_among local (group_nodes schedule g)

    held : (g < length is.is_schedule.groups.holds) × (not (bit_and (slice_index is.is_schedule.groups.holds g) (2 ^ j) == 0) ≡ true)
    held = of-function local profile schedule is.is_schedule j gs g at called

    -- some node of the group gives the function's mask what it is
    mask-of : (nth : ℕ) → Contains (group_nodes schedule g) nth → (o : LocalRow) × IsMaskOf (TrueNeeds d local.row o.row) f.inputs
    mask-of nth h =
        let r = reaching.called-reaches reach local profile schedule is nth j g held.0 held.1 h in
        (r.output, reaching.function-of-output reach local profile schedule is r.i r.output j f r.at r.giving there)

    -- an Inport among its nodes
    record IsAmong (k : ℕ) : Type 0 where
      pub nth : ℕ
      pub in_group : Contains (group_nodes schedule g) nth
      pub p : ℕ
      pub r : LocalRow
      pub place : slice_get (node_places local) nth ≡ Some (Row p)
      pub row : slice_get local.rows p ≡ Some r
      pub inport : is_inport r.kind ≡ true
      pub port : port_of r.kind ≡ k

    is-among : (k : ℕ) → Contains among k → IsAmong k
    is-among k h =
        let m = of-filter_map (λ m. option_and_then (inport_at local) (slice_get (node_places local) m)) (group_nodes schedule g) k h in
        by m.0 m.1 (slice_get (node_places local) m.0) refl m.2
      where
        kind : (nth p : ℕ) (r : LocalRow) → Contains (group_nodes schedule g) nth → slice_get (node_places local) nth ≡ Some (Row p) →
            slice_get local.rows p ≡ Some r →
            (t : Bool) → is_inport r.kind ≡ t → (if t then Some (port_of r.kind) else None) ≡ Some k → IsAmong k
        kind nth p r h place row false e is_port = absurd (none-some k is_port)
        kind nth p r h place row true e is_port = record {
          nth = nth;
          in_group = h;
          p = p;
          r = r;
          place = place;
          row = row;
          inport =
              e;
          port = same_Some (port_of r.kind) k is_port;
        }

        row_by : (nth p : ℕ) → Contains (group_nodes schedule g) nth → slice_get (node_places local) nth ≡ Some (Row p) →
            (o : Option LocalRow) → slice_get local.rows p ≡ o →
            option_and_then inport_of o ≡ Some k → IsAmong k
        row_by nth p h place None e found = absurd (none-some k found)
        row_by nth p h place (Some r) e found = kind nth p r h place e (is_inport r.kind) refl found

        by : (nth : ℕ) → Contains (group_nodes schedule g) nth → (o : Option Place) → slice_get (node_places local) nth ≡ o →
            option_and_then (inport_at local) o ≡ Some k → IsAmong k
        by nth h None e found = absurd (none-some k found)
        by nth h (Some (Row p)) e found = row_by nth p h e (slice_get local.rows p) refl found
        by nth h (Some (Call c i)) e found = absurd (none-some k found)

    number-bit : (k : ℕ) → Contains among k → has_bit f.inputs (bit_of (Number k)) ≡ true
    number-bit k h =
        let m = is-among k h in
        let own = in-at local.rows m.p m.r m.row in
        let r = reaching.called-reaches reach local profile schedule is m.nth j g held.0 held.1 m.in_group in
        let mask = reaching.function-of-output reach local profile schedule is r.i r.output j f r.at r.giving there in
        let place : m.nth ≡ m.p = place-row local m.nth m.p m.place in
        let node : slice_get (node_list local) m.nth ≡ Some (RowNode m.r.row) =
        subst (λ i. slice_get (node_list local) i ≡ Some (RowNode m.r.row)) (sym place) (row-node local m.p m.r m.row) in
        let nodes = reaching.node-reaches reach local profile schedule is m.nth r.node (RowNode m.r.row)
        (RowNode r.output.row) node r.is_node r.reaches in
        let rows = reaching.row-reaches reach local profile schedule is r.i r.output m.r r.at own nodes in
        let table = row-in-table m.r own in
        let kind : (row_at d.rows m.r.row).kind ≡ Inport k = table.2 ∙ inport-kind m.r.kind m.inport ∙ ap Inport m.port in
        let input : IsInputRow d.rows local.row k m.r.row = record { in_table = table.0; is_inport = kind; is_own = table.1 } in
        let range = readable.lawful.ports m.r k own (inport-kind m.r.kind m.inport ∙ ap Inport m.port) in
        set-has f.inputs (k - 1) ((mask.number k range.0 range.1).1 (m.r.row, input, rows))

    -- a node of the group, which has one
    some-node : (nth : ℕ) × Contains (group_nodes schedule g) nth
    some-node = by (group_nodes schedule g) refl
      where
        shown : Contains (code_groups schedule) g
        shown = in-at (code_groups schedule) g g (function-held local profile schedule is.is_schedule j gs g at called)

        has : has_some (group_nodes schedule g) ≡ true
        has = (of-filter (λ g. has_some (group_nodes schedule g)) (range_with_len 0 (length schedule.groups)) g shown).1

        by : (xs : List ℕ) → group_nodes schedule g ≡ xs → (nth : ℕ) × Contains (group_nodes schedule g) nth
        by [] e = absurd (true≢false (sym has ∙ ap has_some e))
        by (x ∷ xs) e = (x, subst (λ l. Contains l x) (sym e) (in-first x xs))

    control-bit : (p : Port) → Contains (control_ports local.control) p → has_bit f.inputs (bit_of p) ≡ true
    control-bit (Number k) h = absurd (no-number local.control h)
      where
        no-number : (control : Control) → Contains (control_ports control) (Number k) → ⊥
        no-number Plain h = in-none (Number k) h
        no-number (Enabled reset) h = elim
            (in-cases Enable (Number k) [] h) [ inl same ↦ (let wrong : ⊥ = cc in wrong) | inr none ↦ in-none (Number k) none ]
        no-number (Triggered edge) h = elim
            (in-cases Trigger (Number k) [] h) [ inl same ↦ (let wrong : ⊥ = cc in wrong) | inr none ↦ in-none (Number k) none ]
        no-number (Both reset edge) h = elim (in-cases Enable (Number k) (Trigger ∷ []) h) [
          | inl same ↦ (let wrong : ⊥ = cc in wrong)
          | inr more ↦ elim (in-cases Trigger (Number k) [] more) [
            | inl same ↦ (let wrong : ⊥ = cc in wrong)
            | inr none ↦ in-none
                (Number k) none
          ]
        ]
    control-bit Enable h =
        let n = some-node in
        let mask = mask-of n.0 n.1 in
        set-has f.inputs 32 (mask.1.enable.1 (ap is_enabled (sym control-is) ∙ enabled-by local.control h))
    control-bit Trigger h =
        let n = some-node in
        let mask = mask-of n.0 n.1 in
        set-has f.inputs 33 (mask.1.trigger.1 (ap is_triggered (sym control-is) ∙ triggered-by local.control h))

    behind : (p : Port) → ((k : ℕ) → Number k ≡ p → ⊥) → Contains (ports_of_header header) p → Contains (control_ports local.control) p
    behind p none h = elim (Contains-append_cases (map Number (range_with_len 1 (length header.inputs)))
        (control_ports local.control) p h) [
          | inl number ↦ let m = of-map Number (range_with_len 1 (length header.inputs)) p number in absurd (none m.0 m.2)
          | inr control ↦ control
        ]

    port-bit : (p : Port) → Contains (ports_of_header header) p → takes among p ≡ true → has_bit f.inputs (bit_of p) ≡ true
    port-bit (Number k) h passes = number-bit k (of-any among k passes)
    port-bit Enable h passes = control-bit Enable (behind Enable (λ k e. let wrong : ⊥ = cc in wrong) h)
    port-bit Trigger h passes = control-bit Trigger (behind Trigger (λ k e. let wrong : ⊥ = cc in wrong) h)

    has-param : (p : ParamTree) → Contains (group_params local profile schedule g) p → HasParam (out_head header (1 + j)).params p.name
    has-param p h = elim (in-cases now_param p (params_where local.control (takes among) (port_types header)) h) [
      | inl same ↦ subst (λ (p : ParamTree). HasParam (out_head header (1 + j)).params p.name) same
          (in-first now_name (map (λ (q : ParamTree). q.name) (taken header (1 + j) (input_params header))))
      | inr more ↦
          let m = of-map (port_param local.control) (filter (λ (e : Port × FixType). takes among e.0) (port_types header)) p more in
          let e = of-filter (λ (e : Port × FixType). takes among e.0) (port_types header) m.0 m.1 in
          let z = of-zip (ports_of_header header) (header.inputs ++ header.controls) m.0 e.0 in
          let bit = port-bit m.0.0 (in-at (ports_of_header header) z.0 m.0.0 z.1) e.1 in
          subst (λ (p : ParamTree). HasParam (out_head header (1 + j)).params p.name) m.2 (has-port m.0.0 m.0.1 e.0 bit)
    ]

  pub functions-have-params : FunctionsHaveParams local profile schedule
  functions-have-params j gs g p at called h = let f = function-at j gs at in has-param j gs g at called f.0 f.1 p h

  pub groups-stand : GroupsStandAtNumbers schedule
  groups-stand j gs g at called = function-held local profile schedule is.is_schedule j gs g at called
