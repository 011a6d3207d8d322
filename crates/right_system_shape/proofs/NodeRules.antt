-- The code of a node, and that of each child in the update, touches what the rules allow.
use Rattle.std.specs.Prelude.{◌≡◌, refl, ℕ, ◌+◌, ◌-◌, ◌<◌, ◌≤◌, Bool, true, false, if◌then◌else◌, List, [], ◌∷◌, ◌++◌, map, flat_map, zip, length, slice_get, Contains, Option, Some, None}
use Rattle.std.specs.Option.{option_map_or}
use Rattle.std.specs.List.{AllByRecursion, AllZip, range_with_len, enumerate_from}
use Rattle.std.proofs.Common.{sym, ap, ap₂, subst, ◌∙◌, arith, inl, inr, length-append}
use Rattle.std.proofs.lemmas.List.{length-map}
use Rattle.std.proofs.lemmas.List.Elements.{Contains-append_cases}
use Rattle.base_core.specs.declared.base.Port.{Port}
use Rattle.base_fixed_point.specs.declared.types.FixType.{FixType}
use Rattle.diagram_blocks.specs.Kinds.{is_inport, port_of}
use Rattle.modules_profile.specs.declared.local.ChildUse.{ChildUse}
use Rattle.modules_profile.specs.declared.local.LocalRow.{LocalRow}
use Rattle.modules_profile.specs.LocalSystem.{LocalSystem}
use Rattle.modules_profile.specs.LawfulLocals.{IsChild}
use Rattle.modules_profile.specs.Headers.{ports_of_header, header_function, header_functions, taken}
use Rattle.modules_profile.specs.Locals.{entering}
use Rattle.modules_profile.proofs.lemmas.Members.{in-none, in-first, in-rest, of-map, in-at, at-map, map-at, in-zip, of-range, of-enumerate}
use Rattle.modules_profile.proofs.lemmas.OwnRows.{of-flat_map}
use Rattle.modules_schedule.specs.SystemSchedule.{SystemSchedule}
use Rattle.c_syntax.specs.declared.code.Leaf.{Leaf}
use Rattle.c_syntax.specs.Tree.{ExprTree, read, ParamTree, StmtTrees, no_stmts, ProcedureTree, exprs_of_list, list_of_exprs}
use Rattle.emit_row_code.specs.Laws.{RowsReadTheirLeaves}
use Rattle.emit_row_code.specs.StatementCode.{child_call}
use Rattle.emit_shape.specs.NamedLeaf.{NamedLeaf, param}
use Rattle.emit_shape.specs.Names.{now_name, input_name}
use Rattle.emit_shape.specs.CodeNames.{CodeNames, named_leaf, IsReadOf}
use Rattle.emit_shape.specs.Heads.{Head, input_params, now_param, out_head, update_head, reset_head, public_heads}
use Rattle.emit_shape.specs.Reads.{exprs_indices, IndexSite}
use Rattle.emit_shape.specs.Rules.{input_reads, wire_place, passed, CallsChild}
use Rattle.emit_shape.specs.Slots.{counters_in}
use Rattle.emit_shape.specs.SystemTree.{SystemTree}
use Rattle.emit_system_spec.specs.declared.node.Place.{Place}
use Rattle.emit_system_spec.specs.declared.node.Place.TheVariants.{Row, Call}
use Rattle.emit_system_spec.specs.Fields.{child_field, code_slots}
use Rattle.emit_system_spec.specs.Heads.{port_param}
use Rattle.emit_system_spec.specs.NodeCode.{active_test, off_test, input_leaves, value_code, call_code, update_code, reset_code, node_code, code_at}
use Rattle.emit_system_spec.specs.Places.{call_places, node_places, child_base, param_leaf, now_leaf}
use Rattle.emit_system_spec.specs.Sources.{wire_leaf}
use Rattle.right_system_shape.proofs.AllOf.{all-append}
use Rattle.right_system_shape.proofs.Callees.{all-zipped, zip-sent, taken-zip, length-zip, many-ports, out-at, behind-at, callee-at, listed-back}
use Rattle.right_system_shape.proofs.FieldNames.{names, own-child, wire-named}
use Rattle.right_system_shape.proofs.Params.{HasParam, param-named}
use Rattle.right_system_shape.proofs.Readable.{IsReadable}
use Rattle.right_system_shape.proofs.RowRules.{Touches, HasTestParams, active-ok, off-ok, value-touches}
use Rattle.right_system_shape.proofs.Touching as touching

map-named : {A B C : Type 0} (f : B → C) (g : A → B) (h : A → C) (xs : List A) → ((x : A) → Contains xs x → f (g x) ≡ h x) →
    map f (map g xs) ≡ map h xs
map-named f g h [] each = refl
map-named f g h (x ∷ xs) each = ap₂ ◌∷◌ (each x (in-first x xs)) (map-named f g h xs (λ y k. each y (in-rest x y xs k)))

no-indices : (P : IndexSite → Type 0) (leaves : List Leaf) → AllByRecursion P (exprs_indices (exprs_of_list (map read leaves)))
no-indices P [] = tt
no-indices P (l ∷ leaves) = no-indices P leaves

module _ (local : LocalSystem) (schedule : SystemSchedule) (code : SystemTree) (readable : IsReadable local) (count : ℕ)
    (many : length code.procedures ≡ count)
    (q : ProcedureTree) where
  abbrev n : CodeNames
  n = names local schedule code

  abbrev counters : List (List ℕ)
  counters = counters_in (code_slots local schedule)

  abbrev Touched : StmtTrees → Type 0
  Touched c = Touches local schedule code readable.lawful q c

  -- what a leaf reads is passed to this parameter of the child's update
  abbrev pub LeafPassed : ChildUse → ParamTree → Leaf → Type 0
  LeafPassed u wanted l = Contains (passed local u) (wanted.name, named_leaf n q.params l)

  abbrev ValuePassed : ChildUse → ParamTree → ExprTree → Type 0
  ValuePassed u wanted e = (what : NamedLeaf) × Contains (passed local u) (wanted.name, what) × IsReadOf n q.params what e

  -- ---- Calls

  pub touches-call : (k i : ℕ) (u : ChildUse) (head : Head) (leaves : List Leaf) → slice_get local.children k ≡ Some u →
      slice_get (public_heads u.header) i ≡ Some head →
      AllZip (LeafPassed u) head.params leaves → Touched (child_call (child_base local count k + i) (child_field local k) leaves)
  touches-call k i u head leaves child there each =
      let callee : n.callee (child_base local count k + i) ≡ head = callee-at local code count k i u head many child there in
      let values : AllZip (ValuePassed u) head.params (map read leaves) =
      zip-sent (LeafPassed u) (ValuePassed u) read head.params leaves (λ wanted l h. (named_leaf n q.params l, h, (l, refl, refl))) each in
      let call : CallsChild n local q (child_field local k) head (map read leaves) = record {
        child = u;
        is_child = in-at local.children k u child;
        on_child = own-child local schedule code k u child;
        is_public = in-at (public_heads u.header) i head there;
        passes = values;
      } in
      record {
        calls = (
          subst (λ (h : Head). CallsChild n local q (child_field local k) h (list_of_exprs (exprs_of_list (map read leaves)))) (sym callee)
              (subst (λ es. CallsChild n local q (child_field local k) head es) (sym (listed-back (map read leaves))) call),
          tt,
        );
        stores = tt;
        indices = all-append (touching.MayIndex n local counters q) (exprs_indices (exprs_of_list (map read leaves))) []
            (no-indices (touching.MayIndex n local counters q) leaves) tt;
        tests = tt;
      }

  module _ (has : HasTestParams local schedule code readable.lawful q) where
    now-passed : (u : ChildUse) → LeafPassed u now_param (now_leaf q.params)
    now-passed u = subst (λ x. Contains (passed local u) (now_name, x)) (sym (param-named n q.params now_name has.now))
        (in-first (now_name, param now_name) (zip (map (λ (p : ParamTree). p.name) (input_params u.header))
        (map (wire_place local) (entering u))))

    -- the inputs and controls of a child's update are the wires that enter it
    inputs-passed : (k : ℕ) (u : ChildUse) → slice_get local.children k ≡ Some u → AllZip (LeafPassed u) (input_params u.header)
        (map (wire_leaf local) (entering u))
    inputs-passed k u child = all-zipped (LeafPassed u) (input_params u.header) (map (wire_leaf local) (entering u)) long each
      where
        is_child : IsChild u
        is_child = let there = in-at local.children k u child in
            subst IsChild there.2 (readable.lawful.are_children there.0 u there.1)

        long : length (input_params u.header) ≡ length (map (wire_leaf local) (entering u))
        long =
            let h = u.header in
            let ports = many-ports h in
            let types = length-append h.inputs h.controls in
            let wires = length-append u.wires u.controls in
            let controls = readable.child_controls u (in-at local.children k u child) in
            let a = is_child.wires in
            let b = is_child.controls in
            let both : length (ports_of_header h) ≡ length (h.inputs ++ h.controls) = omega (arith, ports, types, controls, b) in
            let zipped = length-zip (ports_of_header h) (h.inputs ++ h.controls) both in
            let params = length-map (zip (ports_of_header h) (h.inputs ++ h.controls)) (λ (e : Port × FixType). port_param h.control e) in
            let leaves = length-map (entering u) (wire_leaf local) in
            omega (arith, types, wires, controls, a, zipped, params, leaves)

        each : (i : ℕ) (p : ParamTree) (l : Leaf) → slice_get (input_params u.header) i ≡ Some p →
            slice_get (map (wire_leaf local) (entering u)) i ≡ Some l → LeafPassed u p l
        each i p l e h =
            let m = map-at (wire_leaf local) (entering u) i l h in
            let named = wire-named local schedule code readable.lawful q.params m.0
            (readable.entering_wires u m.0 (in-at local.children k u child) (in-at (entering u) i m.0 m.1)) in
            let place : named_leaf n q.params l ≡ wire_place local m.0 = ap (named_leaf n q.params) (sym m.2) ∙ named in
            subst (λ x. Contains (passed local u) (p.name, x)) (sym place)
            (in-rest (now_name, param now_name) (p.name, wire_place local m.0)
            (zip (map (λ (p : ParamTree). p.name) (input_params u.header)) (map (wire_place local) (entering u)))
            (in-zip (map (λ (p : ParamTree). p.name) (input_params u.header)) (map (wire_place local) (entering u)) i p.name
            (wire_place local m.0)
            (at-map (λ (p : ParamTree). p.name) (input_params u.header) i p e) (at-map (wire_place local) (entering u) i m.0 m.1)))

    call-touches : (k j : ℕ) (u : ChildUse) → slice_get local.children k ≡ Some u → 0 < j → j ≤ length (header_functions u.header) →
        Touched (call_code local count q.params k u j)
    call-touches k j u child some most =
        touching.touches-guarded n local counters q (active_test local q.params)
        (child_call (child_base local count k + (j - 1)) (child_field local k)
        (now_leaf q.params ∷ taken u.header j (map (wire_leaf local) (entering u)))) no_stmts
        (active-ok local schedule code readable.lawful q has)
        (touches-call k (j - 1) u (out_head u.header j) (now_leaf q.params ∷ taken u.header j (map (wire_leaf local) (entering u))) child
        (out-at u.header j some most) (
          now-passed u,
          taken-zip (LeafPassed u) (header_function u.header j) (ports_of_header u.header) (input_params u.header)
              (map (wire_leaf local) (entering u)) (inputs-passed k u child),
        ))
        (touching.touches-none n local counters q)

    pub update-touches : (k : ℕ) (u : ChildUse) → slice_get local.children k ≡ Some u → Touched (update_code local count q.params (k, u))
    update-touches k u child =
        let leaves : List Leaf = now_leaf q.params ∷ map (wire_leaf local) (entering u) in
        let i = length (header_functions u.header) in
        let same : child_base local count k + (i + 0) ≡ child_base local count k + i = omega arith in
        touching.touches-guarded n local counters q (active_test local q.params)
        (child_call (child_base local count k + i) (child_field local k) leaves) no_stmts
        (active-ok local schedule code readable.lawful q has)
        (subst (λ p. Touched (child_call p (child_field local k) leaves)) same
        (touches-call k (i + 0) u (update_head u.header) leaves child (behind-at u.header 0 (update_head u.header) refl)
        (now-passed u, inputs-passed k u child)))
        (touching.touches-none n local counters q)

    pub reset-touches : (k : ℕ) (u : ChildUse) → slice_get local.children k ≡ Some u → Touched (reset_code local count q.params (k, u))
    reset-touches k u child =
        let i = length (header_functions u.header) in
        let same : child_base local count k + (i + 2) ≡ child_base local count k + i + 2 = omega arith in
        touching.touches-only n local counters q (off_test local q.params)
        (child_call (child_base local count k + i + 2) (child_field local k) [])
        (off-ok local schedule code readable.lawful q has)
        (subst (λ p. Touched (child_call p (child_field local k) [])) same
        (touches-call k (i + 2) u (reset_head u.header) [] child (behind-at u.header 2 (reset_head u.header) refl) tt))

    -- ---- Nodes

    module _ (reads_leaves : RowsReadTheirLeaves) where
      pub inputs-named : (r : LocalRow) → Contains local.rows r →
          (is_inport r.kind ≡ true → HasParam q.params (input_name (port_of r.kind))) →
          map (named_leaf n q.params) (input_leaves local q.params r) ≡ input_reads local r
      inputs-named r own has_port = by (is_inport r.kind) refl
        where
          by : (t : Bool) → is_inport r.kind ≡ t →
              map (named_leaf n q.params) (if t then param_leaf q.params (input_name (port_of r.kind)) ∷ [] else map
              (wire_leaf local) r.inputs)
              ≡ (if t then param (input_name (port_of r.kind)) ∷ [] else map (wire_place local) r.inputs)
          by true e = ap (λ x. x ∷ []) (param-named n q.params (input_name (port_of r.kind)) (has_port e))
          by false e = map-named (named_leaf n q.params) (wire_leaf local) (wire_place local) r.inputs
              (λ c h. wire-named local schedule code readable.lawful q.params c (readable.wires r c own h))

      pub row-touches : (r : LocalRow) → Contains local.rows r →
          (is_inport r.kind ≡ true → HasParam q.params (input_name (port_of r.kind))) →
          Touched (value_code local q.params r)
      row-touches r own has_port = value-touches local schedule code readable.lawful q has reads_leaves r own (inputs-named r own has_port)

      -- the place of a call is that of a function of a child
      call-place : (k j : ℕ) → Contains (node_places local) (Call k j) → (u : ChildUse) × (slice_get local.children k ≡ Some u) ×
          (0 < j) × (j ≤ length (header_functions u.header))
      call-place k j h = elim (Contains-append_cases (map Row (range_with_len 0 (length local.rows)))
          (flat_map call_places (enumerate_from 0 local.children)) (Call k j) h) [
            | inl rows ↦ let m = of-map Row (range_with_len 0 (length local.rows)) (Call k j) rows in
                absurd (let wrong : ⊥ = (let e = m.2 in cc) in wrong)
            | inr calls ↦
                let m = of-flat_map call_places (enumerate_from 0 local.children) (Call k j) calls in
                let at = of-enumerate 0 local.children m.0 m.1 in
                by m.0.0 m.0.1 m.0.1.header.row ((let none : at.0 ≡ 0 + at.0 = omega arith in none) ∙ at.1) at.2 m.2
          ]
        where
          by : {i : ℕ} (e : ℕ) (u : ChildUse) (row : Option ℕ) → i ≡ e → slice_get local.children i ≡ Some u →
              Contains (option_map_or (λ row. map (Call e) (range_with_len 1 (length (header_functions u.header)))) row []) (Call k j) →
              (u : ChildUse) × (slice_get local.children k ≡ Some u) × (0 < j) × (j ≤ length (header_functions u.header))
          by e u None same at h = absurd (in-none (Call k j) h)
          by {i} e u (Some row) same at h =
              let m = of-map (Call e) (range_with_len 1 (length (header_functions u.header))) (Call k j) h in
              let range = of-range 1 (length (header_functions u.header)) m.0 m.1 in
              let low = range.0 in
              let high = range.1 in
              let child : e ≡ k = (let is = m.2 in cc) in
              let number : m.0 ≡ j = (let is = m.2 in cc) in (
                u,
                subst (λ i. slice_get local.children i ≡ Some u) (same ∙ child) at,
                omega (arith, low, number),
                omega (arith, high, number),
              )

      pub node-touches : (nth : ℕ) → ((p : ℕ) (r : LocalRow) → slice_get (node_places local) nth ≡ Some (Row p) → slice_get local.rows p
          ≡ Some r → is_inport r.kind ≡ true → HasParam q.params (input_name (port_of r.kind))) →
          Touched (code_at local count q.params nth)
      node-touches nth has_port = by (slice_get (node_places local) nth) refl
        where
          row : (p : ℕ) (o : Option LocalRow) → slice_get local.rows p ≡ o → ((r : LocalRow) → slice_get local.rows p ≡ Some r →
              is_inport r.kind ≡ true → HasParam q.params (input_name (port_of r.kind))) →
              Touched (option_map_or (value_code local q.params) o no_stmts)
          row p None e ports = touching.touches-none n local counters q
          row p (Some r) e ports = row-touches r (in-at local.rows p r e) (ports r e)

          by : (o : Option Place) → slice_get (node_places local) nth ≡ o →
              Touched (option_map_or (node_code local count q.params) o no_stmts)
          by None e = touching.touches-none n local counters q
          by (Some (Row p)) e = row p (slice_get local.rows p) refl (λ r. has_port p r e)
          by (Some (Call k j)) e =
              let c = call-place k j (in-at (node_places local) nth (Call k j) e) in
              subst (λ o. Touched (option_map_or (λ (u : ChildUse). call_code local count q.params k u j) o no_stmts)) (sym c.1)
              (call-touches k j c.0 c.1 c.2 c.3)
