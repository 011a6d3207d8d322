-- Each procedure of a system's code keeps the rules.
use Rattle.std.specs.Prelude.{◌≡◌, refl, ℕ, zero, suc, ◌+◌, Bool, true, false, if◌then◌else◌, ◌==◌, List, [], ◌∷◌, ◌++◌, map, filter, flat_map, length, slice_get, Contains, Option, Some, None, pos}
use Rattle.std.specs.Option.{option_map}
use Rattle.std.specs.List.{AllByRecursion, AllZip, enumerate_from, position_from, range_with_len}
use Rattle.std.proofs.Common.{sym, ap, subst, ◌∙◌, arith, length-append}
use Rattle.std.proofs.lemmas.Bool.{eqb-true}
use Rattle.std.proofs.lemmas.List.{length-map}
use Rattle.std.proofs.lemmas.Option.{same_Some, none-some}
use Rattle.base_core.specs.declared.base.Compare.TheVariants.{Eq}
use Rattle.diagram_meaning.specs.Rows.{is_triggered}
use Rattle.diagram_blocks.specs.Kinds.{is_inport, port_of, is_delay}
use Rattle.modules_profile.specs.declared.local.ChildUse.{ChildUse}
use Rattle.modules_profile.specs.declared.local.LocalRow.{LocalRow}
use Rattle.modules_profile.specs.LocalSystem.{LocalSystem}
use Rattle.modules_profile.specs.SystemProfile.{SystemProfile}
use Rattle.modules_profile.specs.SystemHeader.{SystemHeader}
use Rattle.modules_profile.specs.Headers.{header_functions}
use Rattle.modules_profile.specs.Locals.{own_header}
use Rattle.modules_profile.proofs.lemmas.Members.{in-first, in-rest, of-filter, in-at, at-map, at-left, of-enumerate, in-map}
use Rattle.base_core.specs.declared.base.Port.TheVariants.{Number}
use Rattle.modules_schedule.specs.SystemSchedule.{SystemSchedule}
use Rattle.c_syntax.specs.declared.code.CType.{CType}
use Rattle.c_syntax.specs.declared.code.CType.TheVariants.{U8}
use Rattle.c_syntax.specs.declared.code.Leaf.TheVariants.{Own}
use Rattle.c_syntax.specs.Tree.{ExprTree, literal, read, compare, StmtTree, StmtTrees, assign, no_stmts, more_stmts, stmts_of_list, exprs_of_list, list_of_exprs, ParamTree, ProcedureTree}
use Rattle.emit_row_code.specs.Laws.{RowsReadTheirLeaves}
use Rattle.emit_row_code.specs.RowCode.{nought}
use Rattle.emit_row_code.specs.StatementCode.{child_call}
use Rattle.emit_shape.specs.CodeNames.{CodeNames, IsReadOf}
use Rattle.emit_shape.specs.Heads.{Head, head_of, out_head, update_head, start_head, reset_head, public_heads}
use Rattle.emit_shape.specs.LocalShape.{callable, no_head}
use Rattle.emit_shape.specs.NamedLeaf.{param, own}
use Rattle.emit_shape.specs.Names.{counter_name, now_name, input_name, control_name, second_control_name, trigger_name}
use Rattle.emit_shape.specs.Reads.{exprs_indices}
use Rattle.emit_shape.specs.RowStarts.{row_start}
use Rattle.emit_shape.specs.Rules.{PassesOwn, KeepsRules, test_reads}
use Rattle.emit_shape.specs.Slots.{Slot, value, memory, ring_items, ring_place, ring_taken, trigger, counter, instance, filler, counters_in}
use Rattle.emit_shape.specs.SystemTree.{SystemTree}
use Rattle.emit_system_spec.specs.EmittedCode.{joined, with_body, counted, own_call, group_params, group_procedure, function_procedure, update_body, system_code}
use Rattle.emit_system_spec.specs.Fields.{first_place, child_field, shared_groups, counter_field, code_slots, value_field, memory_field, trigger_field, value_rows, single_rows, line_rows}
use Rattle.emit_system_spec.specs.Groups.{group_nodes, code_groups, own_count}
use Rattle.emit_system_spec.specs.NodeCode.{code_at, memory_code, trigger_code, update_code, reset_code, input_leaves, ring_fields}
use Rattle.emit_system_spec.specs.Places.{param_leaf, child_base}
use Rattle.emit_system_spec.specs.Renewing.{zero_store, counter_stores, start_store, ring_stores, value_starts, single_starts, line_starts, trigger_starts, memory_starts, call_behind, child_calls, start_body, reset_body}
use Rattle.emit_system_spec.specs.Sources.{wire_leaf}
use Rattle.right_system_shape.proofs.AllOf.{all-append, all-of-map, all-flat, in-right}
use Rattle.right_system_shape.proofs.Callees.{get-index, listed-back, behind-at}
use Rattle.right_system_shape.proofs.FieldNames.{names, own-counter}
use Rattle.right_system_shape.proofs.FieldPlaces.{counter-at}
use Rattle.right_system_shape.proofs.NodeRules.{LeafPassed, touches-call, update-touches, reset-touches, node-touches}
use Rattle.right_system_shape.proofs.OwnParams.{update-param, number-port, control-port, group-control, group-input, group-names}
use Rattle.right_system_shape.proofs.Params.{HasParam, param-named}
use Rattle.right_system_shape.proofs.Readable.{IsReadable}
use Rattle.right_system_shape.proofs.RowRules.{Touches, HasTestParams, touches-written, trigger-touches, memory-touches}
use Rattle.right_system_shape.proofs.NodeRules.{inputs-named}
use Rattle.right_system_shape.proofs.Touching as touching

-- ---- Lists

pub length-enumerate : {A : Type 0} (n : ℕ) (xs : List A) → length (enumerate_from n xs) ≡ length xs
length-enumerate n [] = refl
length-enumerate n (x ∷ xs) = ap suc (length-enumerate (n + 1) xs)

-- the first place of a number has it
pub first-has : (xs : List ℕ) (g i j : ℕ) → position_from (λ key. key == g) i xs ≡ Some j → (k : ℕ) × (i + k ≡ j) ×
    (slice_get xs k ≡ Some g)
first-has [] g i j e = absurd (none-some j e)
first-has (x ∷ xs) g i j e = by (x == g) refl e (λ e. first-has xs g (i + 1) j e)
  where
    by : (t : Bool) → (x == g) ≡ t → (if t then Some i else position_from (λ key. key == g) (i + 1) xs) ≡ Some j →
        (position_from (λ key. key == g) (i + 1) xs ≡ Some j → (k : ℕ) × (i + 1 + k ≡ j) × (slice_get xs k ≡ Some g)) →
        (k : ℕ) × (i + k ≡ j) × (slice_get (x ∷ xs) k ≡ Some g)
    by true is e later = (0, (let stay : i + 0 ≡ i = omega arith in stay) ∙ same_Some i j e, ap Some (eqb-true x g is))
    by false is e later = let m = later e in (suc m.0, (let next : i + suc m.0 ≡ i + 1 + m.0 = omega arith in next) ∙ m.1, m.2)

-- a counter among slots has its name among those of counters
pub counter-in : (slots : List Slot) (k : ℕ) (name : List ℕ) (type : CType) → slice_get slots k ≡ Some (counter name type) →
    Contains (counters_in slots) name
counter-in [] k name type e = absurd (none-some (counter name type) e)
counter-in (s ∷ slots) zero name type e = subst (λ s. Contains (counters_in (s ∷ slots)) name) (sym (same_Some s (counter name type) e))
    (in-first name (counters_in slots))
counter-in (s ∷ slots) (suc k) name type e = by s (counter-in slots k name type e)
  where
    by : (s : Slot) → Contains (counters_in slots) name → Contains (counters_in (s ∷ slots)) name
    by (counter other kind) h = in-rest other name (counters_in slots) h
    by _ h = h

-- ---- The code of a system

-- each parameter of a group that a function calls is one of the function
abbrev pub FunctionsHaveParams : LocalSystem → SystemProfile → SystemSchedule → Type 0
FunctionsHaveParams local profile schedule = (j : ℕ) (gs : List ℕ) (g : ℕ) (p : ParamTree) → slice_get schedule.functions j ≡ Some gs →
    Contains gs g →
    Contains (group_params local profile schedule g) p → HasParam (out_head (own_header local profile) (1 + j)).params p.name

-- each group that a function calls is at its number
abbrev pub GroupsStandAtNumbers : SystemSchedule → Type 0
GroupsStandAtNumbers schedule = (j : ℕ) (gs : List ℕ) (g : ℕ) → slice_get schedule.functions j ≡ Some gs → Contains gs g →
    slice_get (code_groups schedule) g ≡ Some g

module _ (local : LocalSystem) (profile : SystemProfile) (schedule : SystemSchedule) (readable : IsReadable local) where
  abbrev code : SystemTree
  code = system_code local profile schedule

  abbrev count : ℕ
  count = own_count schedule

  abbrev n : CodeNames
  n = names local schedule code

  abbrev counters : List (List ℕ)
  counters = counters_in (code_slots local schedule)

  abbrev header : SystemHeader
  header = own_header local profile

  abbrev pub group_part : List ProcedureTree
  group_part = map (group_procedure local profile schedule) (code_groups schedule)

  abbrev pub function_part : List ProcedureTree
  function_part = map (function_procedure local profile schedule) (enumerate_from 1 schedule.functions)

  abbrev pub update_part : ProcedureTree
  update_part = with_body (update_head header) (update_body local profile schedule (update_head header).params)

  abbrev pub start_part : ProcedureTree
  start_part = with_body (start_head header) (stmts_of_list (start_body local count schedule))

  abbrev pub reset_part : ProcedureTree
  reset_part = with_body (reset_head header) (stmts_of_list (reset_body local count))

  abbrev pub last_part : List ProcedureTree
  last_part = update_part ∷ start_part ∷ reset_part ∷ []

  pub many : length code.procedures ≡ count
  many =
      let a = length-append (group_part ++ function_part) last_part in
      let b = length-append group_part function_part in
      let c = length-map (code_groups schedule) (group_procedure local profile schedule) in
      let d = length-map (enumerate_from 1 schedule.functions) (function_procedure local profile schedule) in
      let e = length-enumerate 1 schedule.functions in
      omega (arith, a, b, c, d, e)

  -- a group at its number is what that number calls
  pub group-callee : (g : ℕ) → slice_get (code_groups schedule) g ≡ Some g → n.callee g ≡ head_of (group_procedure local profile schedule g)
  group-callee g at =
      let q = group_procedure local profile schedule g in
      let here = at-left (group_part ++ function_part) last_part g q
      (at-left group_part function_part g q (at-map (group_procedure local profile schedule) (code_groups schedule) g g at)) in
      let offered : List Head = flat_map (λ (u : ChildUse). public_heads u.header) local.children in
      get-index (callable local code) g no_head (head_of q) (at-left (map head_of code.procedures) offered g (head_of q)
      (at-map head_of code.procedures g q here))

  -- ---- Groups

  -- the counter of a group is a counter
  counted-named : (g f : ℕ) → counter_field local schedule g ≡ Some f → Contains counters (n.own f)
  counted-named g f e = by (first_place (shared_groups schedule) g) refl e
    where
      by : (o : Option ℕ) → first_place (shared_groups schedule) g ≡ o → option_map (λ k. child_field local (length local.children) + k) o
          ≡ Some f → Contains counters (n.own f)
      by None is e = absurd (none-some f e)
      by (Some k) is e =
          let m = first-has (shared_groups schedule) g 0 k is in
          let number : m.0 ≡ k = (let none : m.0 ≡ 0 + m.0 = omega arith in none) ∙ m.1 in
          let at : slice_get (shared_groups schedule) k ≡ Some g = subst (λ i. slice_get (shared_groups schedule) i ≡ Some g) number m.2 in
          let field = child_field local (length local.children) + k in
          let named : n.own field ≡ counter_name (suc g) = own-counter local schedule code k g at in
          subst (λ f. Contains counters (n.own f)) (same_Some field f e)
          (subst (Contains counters) (sym named) (counter-in (code_slots local schedule) field (counter_name (suc g)) U8
          (counter-at local schedule k g at)))

  counted-touches : (q : ProcedureTree) (o : Option ℕ) (body : StmtTrees) → ((f : ℕ) → o ≡ Some f → Contains counters (n.own f)) →
      Touches local schedule code readable.lawful q body →
      Touches local schedule code readable.lawful q (counted o body)
  counted-touches q None body named h = h
  counted-touches q (Some f) body named h =
      let tested : Contains (test_reads counters) (own (n.own f)) =
      in-right (param now_name ∷ param control_name ∷ param second_control_name ∷ own trigger_name ∷ []) (map own counters)
      (own (n.own f)) (in-map own counters (n.own f) (named f refl)) in
      touching.touches-branch n local counters q (compare Eq (read (Own f)) nought)
      (more_stmts (assign 0 f (literal (pos 1))) body) no_stmts
      ((tested, tt), tt)
      (touching.touches-more n local counters q (assign 0 f (literal (pos 1))) body
      (record { calls = tt; stores = (tt, tt); indices = tt; tests = tt }) h)
      (touching.touches-none n local counters q)

  module _ (reads_leaves : RowsReadTheirLeaves) where
    group-rules : (g : ℕ) → KeepsRules n local counters (group_procedure local profile schedule g)
    group-rules g =
        let q = group_procedure local profile schedule g in
        let has : HasTestParams local schedule code readable.lawful q =
        record { now = (0, omega arith, refl); controls = group-control local profile readable schedule g } in
        let nodes = joined (map (code_at local count (group_params local profile schedule g)) (group_nodes schedule g)) in
        let inner : Touches local schedule code readable.lawful q nodes =
        touching.touches-joined n local counters q (map (code_at local count (group_params local profile schedule g))
        (group_nodes schedule g))
        (all-of-map (Touches local schedule code readable.lawful q) (code_at local count (group_params local profile schedule g))
        (group_nodes schedule g)
        (λ nth h. node-touches local schedule code readable count many q has reads_leaves nth
        (λ p r place at is. group-input local profile readable schedule g nth p r h place at is))) in
        let whole = counted-touches q (counter_field local schedule g) nodes (counted-named g) inner in
        record {
          private_name = (suc g, refl);
          params = group-names local profile readable schedule g;
          calls = whole.calls;
          stores =
              whole.stores;
          indices = whole.indices;
          tests = whole.tests;
        }

    -- ---- The update

    abbrev Updated : StmtTrees → Type 0
    Updated body = Touches local schedule code readable.lawful update_part body

    update-rules : KeepsRules n local counters update_part
    update-rules =
        let whole = touching.touches-joined n local counters q
        (joined (map (code_at local count params) schedule.update)
        ∷ joined (map (memory_code local params) (filter (λ (r : LocalRow). is_delay r.op) local.rows))
        ∷ joined (map (update_code local count params) (enumerate_from 0 local.children))
        ∷ joined (map (reset_code local count params) (enumerate_from 0 local.children))
        ∷ (if is_triggered local.control then trigger_code local params else no_stmts)
        ∷ stmts_of_list (counter_stores local schedule) ∷ [])
        (nodes, (memories, (updates, (resets, (levels (is_triggered local.control) refl, (zeros, tt)))))) in
        record { private_name = tt; params = tt; calls = whole.calls; stores = whole.stores; indices = whole.indices; tests = whole.tests }
      where
        q : ProcedureTree
        q = update_part

        params : List ParamTree
        params = (update_head header).params

        has : HasTestParams local schedule code readable.lawful update_part
        has = record {
          now = (0, omega arith, refl);
          controls = λ p h. update-param local profile readable p (control-port local profile readable p h);
        }

        has-port : (r : LocalRow) → Contains local.rows r → is_inport r.kind ≡ true → HasParam params (input_name (port_of r.kind))
        has-port r is_own is = let range = readable.inport_port r is_own is in update-param local profile readable
            (Number (port_of r.kind)) (number-port local profile readable (port_of r.kind) range.0 range.1)

        nodes : Updated (joined (map (code_at local count params) schedule.update))
        nodes = touching.touches-joined n local counters q (map (code_at local count params) schedule.update)
            (all-of-map Updated (code_at local count params) schedule.update
            (λ nth h. node-touches local schedule code readable count many q has reads_leaves nth
            (λ p r place at is. has-port r (in-at local.rows p r at) is)))

        memory-of : (r : LocalRow) → Contains local.rows r → is_delay r.op ≡ true → Updated (memory_code local params r)
        memory-of r is_own delay =
            let input = readable.delay_input r is_own delay in
            let some : input_leaves local params r ≡ map (wire_leaf local) (input.1.0 ∷ input.1.1) =
            ap (λ (t : Bool). if t then param_leaf params (input_name (port_of r.kind)) ∷ [] else map (wire_leaf local) r.inputs) input.0
            ∙ ap (map (wire_leaf local)) input.1.2 in
            memory-touches local schedule code readable.lawful q has reads_leaves r is_own
            (inputs-named local schedule code readable count many q has reads_leaves r is_own (has-port r is_own))
            (wire_leaf local input.1.0) (map (wire_leaf local) input.1.1) some delay

        memories : Updated (joined (map (memory_code local params) (filter (λ (r : LocalRow). is_delay r.op) local.rows)))
        memories = touching.touches-joined n local counters q
            (map (memory_code local params) (filter (λ (r : LocalRow). is_delay r.op) local.rows))
            (all-of-map Updated (memory_code local params) (filter (λ (r : LocalRow). is_delay r.op) local.rows)
            (λ r h. let f = of-filter (λ (r : LocalRow). is_delay r.op) local.rows r h in memory-of r f.0 f.1))

        child : (e : ℕ × ChildUse) → Contains (enumerate_from 0 local.children) e → slice_get local.children e.0 ≡ Some e.1
        child e h =
            let m = of-enumerate 0 local.children e h in
            subst (λ k. slice_get local.children k ≡ Some e.1) ((let none : m.0 ≡ 0 + m.0 = omega arith in none) ∙ m.1) m.2

        updates : Updated (joined (map (update_code local count params) (enumerate_from 0 local.children)))
        updates = touching.touches-joined n local counters q (map (update_code local count params) (enumerate_from 0 local.children))
            (all-of-map Updated (update_code local count params) (enumerate_from 0 local.children)
            (λ e h. update-touches local schedule code readable count many q has e.0 e.1 (child e h)))

        resets : Updated (joined (map (reset_code local count params) (enumerate_from 0 local.children)))
        resets = touching.touches-joined n local counters q (map (reset_code local count params) (enumerate_from 0 local.children))
            (all-of-map Updated (reset_code local count params) (enumerate_from 0 local.children)
            (λ e h. reset-touches local schedule code readable count many q has e.0 e.1 (child e h)))

        levels : (t : Bool) → is_triggered local.control ≡ t → Updated (if t then trigger_code local params else no_stmts)
        levels true is = trigger-touches local schedule code readable.lawful q has is
        levels false is = touching.touches-none n local counters q

        zeros : Updated (stmts_of_list (counter_stores local schedule))
        zeros = touching.touches-listed n local counters q (counter_stores local schedule)
            (all-of-map (λ s. Updated (more_stmts s no_stmts)) zero_store (range_with_len (child_field local (length local.children))
            (length (shared_groups schedule)))
            (λ f h. record { calls = tt; stores = (tt, tt); indices = tt; tests = tt }))

  -- ---- Start and reset

  module _ (q : ProcedureTree) where
    abbrev Alone : StmtTree → Type 0
    Alone s = Touches local schedule code readable.lawful q (more_stmts s no_stmts)

    zero-alone : (f : ℕ) → Alone (zero_store f)
    zero-alone f = record { calls = tt; stores = (tt, tt); indices = tt; tests = tt }

    start-alone : (f : ℕ) (r : LocalRow) → Alone (start_store local f r)
    start-alone f r = touches-written local schedule code readable.lawful q f (row_start local r)

    trigger-alone : (t : Bool) → AllByRecursion Alone (if t then zero_store (trigger_field local) ∷ [] else [])
    trigger-alone true = (zero-alone (trigger_field local), tt)
    trigger-alone false = tt

    memories-alone : AllByRecursion Alone (memory_starts local)
    memories-alone =
        all-append Alone (single_starts local ++ line_starts local) (trigger_starts local)
        (all-append Alone (single_starts local) (line_starts local)
        (all-of-map Alone (λ (r : LocalRow). start_store local (memory_field local r.row) r) (single_rows local)
        (λ r h. start-alone (memory_field local r.row) r))
        (all-flat Alone (ring_stores local) (line_rows local)
        (λ r h. (zero-alone (ring_fields local r.row).place, (zero-alone (ring_fields local r.row).taken, tt)))))
        (trigger-alone (is_triggered local.control))

    values-alone : AllByRecursion Alone (value_starts local)
    values-alone = all-of-map Alone (λ (r : LocalRow). start_store local (value_field local r.row) r) (value_rows local)
        (λ r h. start-alone (value_field local r.row) r)

    counters-alone : AllByRecursion Alone (counter_stores local schedule)
    counters-alone = all-of-map Alone zero_store (range_with_len (child_field local (length local.children))
        (length (shared_groups schedule))) (λ f h. zero-alone f)

    calls-alone : (i : ℕ) (head : SystemHeader → Head) →
        ((h : SystemHeader) → slice_get (public_heads h) (length (header_functions h) + i) ≡ Some (head h)) →
        ((h : SystemHeader) → (head h).params ≡ []) →
        AllByRecursion Alone (child_calls local count i)
    calls-alone i head there none = all-of-map Alone (call_behind local count i) (enumerate_from 0 local.children) each
      where
        each : (e : ℕ × ChildUse) → Contains (enumerate_from 0 local.children) e → Alone (call_behind local count i e)
        each e h =
            let m = of-enumerate 0 local.children e h in
            let child : slice_get local.children e.0 ≡ Some e.1 = subst (λ k. slice_get local.children k ≡ Some e.1)
            ((let zero_more : m.0 ≡ 0 + m.0 = omega arith in zero_more) ∙ m.1) m.2 in
            let size = length (header_functions e.1.header) in
            let same : child_base local count e.0 + (size + i) ≡ child_base local count e.0 + size + i = omega arith in
            subst (λ p. Touches local schedule code readable.lawful q (child_call p (child_field local e.0) [])) same
            (touches-call local schedule code readable count many q e.0 (size + i) e.1 (head e.1.header) [] child (there e.1.header)
            (subst (λ (ps : List ParamTree). AllZip (LeafPassed local schedule code readable count many q e.1) ps [])
            (sym (none e.1.header)) tt))

  start-rules : KeepsRules n local counters start_part
  start-rules =
      let whole = touching.touches-listed n local counters start_part (start_body local count schedule)
      (all-append (Alone start_part) (value_starts local ++ memory_starts local ++ child_calls local count 1)
      (counter_stores local schedule)
      (all-append (Alone start_part) (value_starts local ++ memory_starts local) (child_calls local count 1)
      (all-append (Alone start_part) (value_starts local) (memory_starts local) (values-alone start_part) (memories-alone start_part))
      (calls-alone start_part 1 start_head (λ h. behind-at h 1 (start_head h) refl) (λ h. refl)))
      (counters-alone start_part)) in
      record { private_name = tt; params = tt; calls = whole.calls; stores = whole.stores; indices = whole.indices; tests = whole.tests }

  reset-rules : KeepsRules n local counters reset_part
  reset-rules =
      let whole = touching.touches-listed n local counters reset_part (reset_body local count)
      (all-append (Alone reset_part) (memory_starts local) (child_calls local count 2) (memories-alone reset_part)
      (calls-alone reset_part 2 reset_head (λ h. behind-at h 2 (reset_head h) refl) (λ h. refl))) in
      record { private_name = tt; params = tt; calls = whole.calls; stores = whole.stores; indices = whole.indices; tests = whole.tests }

  -- ---- Functions

  module _ (params_there : FunctionsHaveParams local profile schedule) (groups_there : GroupsStandAtNumbers schedule) where
    function-rules : (j : ℕ) (gs : List ℕ) → slice_get schedule.functions j ≡ Some gs → KeepsRules n local counters
        (function_procedure local profile schedule (1 + j, gs))
    function-rules j gs at =
        let whole = touching.touches-listed n local counters q (map (λ g. own_call params g (group_params local profile schedule g)) gs)
        (all-of-map (λ s. Touches local schedule code readable.lawful q (more_stmts s no_stmts))
        (λ g. own_call params g (group_params local profile schedule g)) gs each) in
        record { private_name = tt; params = tt; calls = whole.calls; stores = whole.stores; indices = whole.indices; tests = whole.tests }
      where
        q : ProcedureTree
        q = function_procedure local profile schedule (1 + j, gs)

        params : List ParamTree
        params = (out_head header (1 + j)).params

        value_of : ParamTree → ExprTree
        value_of p = read (param_leaf params p.name)

        passes : (ps : List ParamTree) → ((p : ParamTree) → Contains ps p → HasParam params p.name) →
            AllZip (λ (wanted : ParamTree) e. IsReadOf n params (param wanted.name) e) ps (map value_of ps)
        passes [] there = tt
        passes (p ∷ ps) there = (
          (param_leaf params p.name, refl, param-named n params p.name (there p (in-first p ps))),
          passes ps (λ o h. there o (in-rest p o ps h)),
        )

        no-items : (ps : List ParamTree) → AllByRecursion (touching.MayIndex n local counters q)
            (exprs_indices (exprs_of_list (map value_of ps)))
        no-items [] = tt
        no-items (p ∷ ps) = no-items ps

        each : (g : ℕ) → Contains gs g → Touches local schedule code readable.lawful q
            (more_stmts (own_call params g (group_params local profile schedule g)) no_stmts)
        each g h =
            let wanted = group_params local profile schedule g in
            let callee = group-callee g (groups_there j gs g at h) in
            record {
              calls = (
                subst (λ (c : Head). PassesOwn n q c (list_of_exprs (exprs_of_list (map value_of wanted)))) (sym callee)
                    (subst (λ es. PassesOwn n q (head_of (group_procedure local profile schedule g)) es)
                    (sym (listed-back (map value_of wanted)))
                    (passes wanted (λ p k. params_there j gs g p at h k))),
                tt,
              );
              stores = tt;
              indices = all-append (touching.MayIndex n local counters q) (exprs_indices (exprs_of_list (map value_of wanted))) []
                  (no-items wanted) tt;
              tests = tt;
            }

    pub code-keeps-rules : RowsReadTheirLeaves → AllByRecursion (KeepsRules n local counters) code.procedures
    code-keeps-rules reads_leaves =
        all-append (KeepsRules n local counters) (group_part ++ function_part) last_part
        (all-append (KeepsRules n local counters) group_part function_part
        (all-of-map (KeepsRules n local counters) (group_procedure local profile schedule) (code_groups schedule)
        (λ g h. group-rules reads_leaves g))
        (all-of-map (KeepsRules n local counters) (function_procedure local profile schedule)
        (enumerate_from 1 schedule.functions) function))
        (update-rules reads_leaves, (start-rules, (reset-rules, tt)))
      where
        function : (e : ℕ × List ℕ) → Contains (enumerate_from 1 schedule.functions) e → KeepsRules n local counters
            (function_procedure local profile schedule e)
        function e h =
            let m = of-enumerate 1 schedule.functions e h in
            subst (λ k. KeepsRules n local counters (function_procedure local profile schedule (k, e.1))) m.1 (function-rules m.0 e.1 m.2)
