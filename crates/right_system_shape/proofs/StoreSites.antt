-- How many statements of a system's ticks store the value of a row.
use Rattle.std.specs.Prelude.{◌≡◌, ◌≢◌, refl, ℕ, suc, ◌+◌, ◌-◌, ◌<◌, ◌≤◌, Bool, true, false, not, ◌||◌, ◌==◌, cond, if◌then◌else◌, List, [], ◌∷◌, ◌++◌, map, flat_map, filter, length, slice_get, Contains, Option, Some, None, pos, bytes_eq, codes, decimal}
use Rattle.std.specs.Option.{option_map, option_map_or}
use Rattle.std.specs.List.{range_with_len, enumerate_from}
use Rattle.std.proofs.Common.{sym, ap, ap₂, subst, ◌∙◌, arith, true≢false}
use Rattle.std.proofs.lemmas.Bool.{eqb-true, eq-eqb, ne_eqb}
use Rattle.std.proofs.lemmas.List.{append_assoc}
use Rattle.std.proofs.lemmas.List.Elements.{filter-append}
use Rattle.std.proofs.lemmas.Option.{same_Some, none-some}
use Rattle.base_core.specs.declared.base.Compare.TheVariants.{Eq}
use Rattle.diagram_blocks.specs.Meaning.{has_value, delay_length}
use Rattle.diagram_meaning.specs.Rows.{is_triggered}
use Rattle.diagram_blocks.specs.Kinds.{is_delay, is_reset_outport}
use Rattle.modules_profile.specs.declared.local.ChildUse.{ChildUse}
use Rattle.modules_profile.specs.declared.local.LocalRow.{LocalRow}
use Rattle.modules_profile.specs.LocalSystem.{LocalSystem}
use Rattle.modules_profile.specs.SystemProfile.{SystemProfile}
use Rattle.modules_profile.specs.Headers.{header_functions, taken}
use Rattle.modules_profile.specs.Locals.{own_header, entering}
use Rattle.modules_profile.specs.declared.nodes.Node.TheVariants.{Row as RowNode}
use Rattle.modules_profile.specs.LocalNodes.{node_list}
use Rattle.modules_profile.specs.Systems.{system_name}
use Rattle.modules_profile.proofs.lemmas.Members.{in-first, in-rest, of-map, of-filter, in-at, at-in, at-map, at-below, below-at, range-at}
use Rattle.modules_profile.proofs.lemmas.OwnRows.{differ-at}
use Rattle.modules_schedule.specs.SystemSchedule.{SystemSchedule}
use Rattle.c_syntax.specs.declared.code.Leaf.TheVariants.{Own}
use Rattle.c_syntax.specs.Tree.{literal, read, compare, CondTree, StmtTree, StmtTrees, branch, assign, no_stmts, more_stmts, stmts_append, stmts_of_list, ParamTree, ProcedureTree}
use Rattle.emit_row_code.specs.RingCode.{taken_in, emptied}
use Rattle.emit_row_code.specs.RowCode.{nought, written, rhs_code}
use Rattle.emit_row_code.specs.StatementCode.{guarded, only_if, store_code, child_call, value_reset_statements, memory_statements, ring_statements}
use Rattle.emit_row_code.specs.TestCode.{disabled_by}
use Rattle.emit_shape.specs.CodeNames.{CodeNames}
use Rattle.emit_shape.specs.Delays.{is_line}
use Rattle.emit_shape.specs.Heads.{out_head, update_head}
use Rattle.emit_shape.specs.Names.{value_name, memory_name, place_name, taken_name, trigger_name, counter_name, group_name, out_name, update_name, start_name, reset_name}
use Rattle.emit_shape.specs.Once.{of_ticks, store_sites}
use Rattle.emit_shape.specs.Reads.{StoreSite, stmt_stores, stores_in}
use Rattle.emit_shape.specs.RowStarts.{row_start}
use Rattle.emit_system_spec.specs.declared.node.Place.{Place}
use Rattle.emit_system_spec.specs.declared.node.Place.TheVariants.{Row, Call}
use Rattle.emit_system_spec.specs.EmittedCode.{joined, counted, own_call, group_params, group_procedure, function_procedure, update_body, system_code}
use Rattle.emit_system_spec.specs.Fields.{value_field, memory_field, ring_field, trigger_field, child_field, counter_field, shared_groups, first_place}
use Rattle.emit_system_spec.specs.Groups.{group_nodes, code_groups, own_count}
use Rattle.emit_system_spec.specs.NodeCode as node
use Rattle.emit_system_spec.specs.NodeCode.{ring_fields, memory_read, off_test, active_test, runs_test, input_leaves, first_input, output_reset, value_store, value_code, memory_code, trigger_code, call_code, update_code, reset_code, node_code, code_at}
use Rattle.emit_system_spec.specs.Places.{node_places, child_base, now_leaf}
use Rattle.emit_system_spec.specs.Renewing.{zero_store, counter_stores}
use Rattle.emit_system_spec.specs.Schedules.{IsScheduleOf}
use Rattle.emit_system_spec.specs.Sources.{wire_leaf, wire_types}
use Rattle.right_system_shape.proofs.FieldNames.{names, own-value, own-memory, own-items, own-place, own-taken, own-trigger, own-counter}
use Rattle.right_system_shape.proofs.NameTexts.{numbered, prefixed}
use Rattle.right_system_shape.proofs.Params.{bytes-same}
use Rattle.right_system_shape.proofs.ProcedureRules.{first-has, group_part, function_part, update_part, start_part, reset_part, last_part}
use Rattle.right_system_shape.proofs.Reaching.{order-below, place-row, row-node}
use Rattle.right_system_shape.proofs.Readable.{IsReadable}
use Rattle.right_system_shape.proofs.RowRules.{delay-single}
use Rattle.right_system_shape.proofs.Totals.{total, one_if, total-append, total-flat, total-map, total-none, count-total, filter-keeps, order-counts, schedule-counts}
use Rattle.right_system_shape.proofs.Touching.{stores-append}

pub total-le : {A : Type 0} (f h : A → ℕ) (xs : List A) → ((x : A) → Contains xs x → f x ≤ h x) → total f xs ≤ total h xs
total-le f h [] each = omega arith
total-le f h (x ∷ xs) each = let here = each x (in-first x xs) in let rest = total-le f h xs (λ y k. each y (in-rest x y xs k)) in
    omega (arith, here, rest)

-- ---- What pieces store under a name

module _ (n : CodeNames) (name : List ℕ) where
  abbrev pub hit : StoreSite → ℕ
  hit st = one_if (bytes_eq (n.own st.field) name)

  abbrev pub hit_at : ℕ → ℕ
  hit_at f = one_if (bytes_eq (n.own f) name)

  abbrev pub stored : StmtTrees → ℕ
  stored code = total hit (stores_in code)

  pub stored-append : (a b : StmtTrees) → stored (stmts_append a b) ≡ stored a + stored b
  stored-append a b = ap (total hit) (stores-append a b) ∙ total-append hit (stores_in a) (stores_in b)

  pub stored-joined : (codes : List StmtTrees) → stored (joined codes) ≡ total stored codes
  stored-joined [] = refl
  stored-joined (code ∷ codes) = stored-append code (joined codes) ∙ ap (λ k. stored code + k) (stored-joined codes)

  pub stored-listed : (ss : List StmtTree) → stored (stmts_of_list ss) ≡ total (λ s. total hit (stmt_stores s)) ss
  stored-listed [] = refl
  stored-listed (s ∷ ss) = total-append hit (stmt_stores s) (stores_in (stmts_of_list ss)) ∙ ap (λ k. total hit (stmt_stores s) + k)
      (stored-listed ss)

  stored-branch : (t : CondTree) (a b : StmtTrees) → stored (more_stmts (branch 0 t a b) no_stmts) ≡ stored a + stored b
  stored-branch t a b =
      let whole = total-append hit (stores_in a ++ stores_in b) [] in
      let both = total-append hit (stores_in a) (stores_in b) in
      omega (arith, whole, both)

  pub stored-guarded : (t : Option CondTree) (a b : StmtTrees) → stored (guarded t a b) ≤ stored a + stored b
  stored-guarded None a b = omega arith
  stored-guarded (Some t) a b = let same = stored-branch t a b in omega (arith, same)

  pub stored-only : (t : Option CondTree) (a : StmtTrees) → stored (only_if t a) ≤ stored a
  stored-only None a = omega arith
  stored-only (Some t) a = let same = stored-branch t a no_stmts in omega (arith, same)

  pub stored-counted : (o : Option ℕ) (body : StmtTrees) → ((f : ℕ) → o ≡ Some f → hit_at f ≡ 0) → stored (counted o body) ≡ stored body
  stored-counted None body none = refl
  stored-counted (Some f) body none =
      let same = stored-branch (compare Eq (read (Own f)) nought) (more_stmts (assign 0 f (literal (pos 1))) body) no_stmts in
      let zero_hit = none f refl in
      omega (arith, same, zero_hit)

-- ---- In the code of a system

module _ (local : LocalSystem) (profile : SystemProfile) (schedule : SystemSchedule) (readable : IsReadable local) (row : LocalRow)
    (row_own : Contains local.rows row) where
  abbrev n : CodeNames
  n = names local schedule (system_code local profile schedule)

  abbrev name : List ℕ
  name = value_name row.row

  abbrev sites : StmtTrees → ℕ
  sites code = stored n name code

  abbrev at : ℕ → ℕ
  at f = hit_at n name f

  -- a field of another name
  elsewhere : (f : ℕ) (other : List ℕ) → n.own f ≡ other → bytes_eq other name ≡ false → at f ≡ 0
  elsewhere f other named apart = ap (λ (x : List ℕ). one_if (bytes_eq x name)) named ∙ ap one_if apart

  -- ---- Rows

  abbrev most : LocalRow → ℕ
  most r = if is_reset_outport r.kind then 2 else 1

  other-value : (r : LocalRow) → Contains local.rows r → has_value r.kind ≡ true → r.row ≢ row.row → at (value_field local r.row) ≡ 0
  other-value r own valued apart =
      let a = readable.few_rows r own in
      let b = readable.few_rows row row_own in
      elsewhere (value_field local r.row) (value_name r.row)
      (own-value local schedule (system_code local profile schedule) readable.lawful r own valued)
      (numbered (codes "v") r.row row.row (omega (arith, a)) (omega (arith, b)) ∙ ne_eqb r.row row.row apart)

  reset-part : (params : List ParamTree) (r : LocalRow) → sites (output_reset local params r) ≤
      (if is_reset_outport r.kind then at (value_field local r.row) else 0)
  reset-part params r = by (is_reset_outport r.kind)
    where
      start : sites (store_code (value_field local r.row) (written (row_start local r))) ≡ at (value_field local r.row)
      start = omega arith

      by : (t : Bool) → sites (if t then value_reset_statements (value_field local r.row)
          (disabled_by local.control (node.control_leaves local params)) (row_start local r) else no_stmts) ≤
          (if t then at (value_field local r.row) else 0)
      by true = let few = stored-only n name (disabled_by local.control (node.control_leaves local params))
          (store_code (value_field local r.row) (written (row_start local r))) in let one = start in omega (arith, few, one)
      by false = omega arith

  value-part : (params : List ParamTree) (r : LocalRow) → sites (value_store local params r) ≤ at (value_field local r.row)
  value-part params r =
      let few = stored-guarded n name (runs_test local params r)
      (store_code (value_field local r.row) (rhs_code r.op (input_leaves local params r) (wire_types local r.inputs)
      (memory_read local r))) no_stmts in
      omega (arith, few)

  row-sites : (params : List ParamTree) (r : LocalRow) → Contains local.rows r → sites (value_code local params r) ≤ cond
      (r.row == row.row) (most r) 0
  row-sites params r own = by (has_value r.kind) refl
    where
      parts : sites (stmts_append (output_reset local params r) (value_store local params r)) ≤
          (if is_reset_outport r.kind then at (value_field local r.row) else 0) + at (value_field local r.row)
      parts =
          let both = stored-append n name (output_reset local params r) (value_store local params r) in
          let a = reset-part params r in
          let b = value-part params r in
          omega (arith, both, a, b)

      few : (t u : Bool) → (if t then one_if u else 0) + one_if u ≤ (if t then 2 else 1)
      few true true = omega arith
      few true false = omega arith
      few false true = omega arith
      few false false = omega arith

      none : (t : Bool) (k : ℕ) → k ≡ 0 → (if t then k else 0) + k ≡ 0
      none true k e = omega (arith, e)
      none false k e = omega (arith, e)

      same_row : (t : Bool) → (r.row == row.row) ≡ t → has_value r.kind ≡ true →
          sites (stmts_append (output_reset local params r) (value_store local params r)) ≤ cond t (most r) 0
      same_row true e valued = let p = parts in let f = few (is_reset_outport r.kind) (bytes_eq (n.own (value_field local r.row)) name) in
          omega (arith, p, f)
      same_row false e valued =
          let p = parts in
          let gone = none (is_reset_outport r.kind) (at (value_field local r.row))
          (other-value r own valued (λ same. true≢false (sym (eq-eqb r.row row.row same) ∙ e))) in
          omega (arith, p, gone)

      by : (t : Bool) → has_value r.kind ≡ t →
          sites (if t then stmts_append (output_reset local params r) (value_store local params r) else no_stmts) ≤ cond
          (r.row == row.row) (most r) 0
      by true valued = same_row (r.row == row.row) refl valued
      by false valued = omega arith

  memory-sites : (params : List ParamTree) (r : LocalRow) → Contains local.rows r → is_delay r.op ≡ true →
      sites (memory_code local params r) ≡ 0
  memory-sites params r own delay = by (is_line r.op) refl
    where
      by : (t : Bool) → is_line r.op ≡ t → sites (if t then ring_statements (ring_fields local r.row) (delay_length r.op)
          (runs_test local params r) (first_input local params r) (off_test local params)
          else memory_statements (memory_field local r.row) (runs_test local params r) (first_input local params r)
          (off_test local params) (row_start local r)) ≡ 0
      by true line =
          let code = system_code local profile schedule in
          let f = ring_field local r.row in
          let a = elsewhere f (memory_name r.row) (own-items local schedule code readable.lawful r own line) refl in
          let b = elsewhere (f + 1) (place_name r.row) (own-place local schedule code readable.lawful r own line) refl in
          let c = elsewhere (f + 2) (taken_name r.row) (own-taken local schedule code readable.lawful r own line) refl in
          let first : sites (taken_in (ring_fields local r.row) (delay_length r.op) (first_input local params r)) ≡ 0 =
          omega (arith, a, b, c) in
          let second : sites (emptied (ring_fields local r.row)) ≡ 0 = omega (arith, b, c) in
          let whole = stored-guarded n name (runs_test local params r) (taken_in (ring_fields local r.row) (delay_length r.op)
          (first_input local params r)) (only_if (off_test local params) (emptied (ring_fields local r.row))) in
          let last = stored-only n name (off_test local params) (emptied (ring_fields local r.row)) in
          omega (arith, first, second, whole, last)
      by false line =
          let f = memory_field local r.row in
          let a = elsewhere f (memory_name r.row) (own-memory local schedule (system_code local profile schedule) readable.lawful r own
          (delay-single r.op delay line)) refl in
          let first : sites (store_code f (read (first_input local params r))) ≡ 0 = omega (arith, a) in
          let second : sites (store_code f (written (row_start local r))) ≡ 0 = omega (arith, a) in
          let whole = stored-guarded n name (runs_test local params r) (store_code f (read (first_input local params r)))
          (only_if (off_test local params) (store_code f (written (row_start local r)))) in
          let last = stored-only n name (off_test local params) (store_code f (written (row_start local r))) in
          omega (arith, first, second, whole, last)

  -- ---- Nodes

  abbrev count : ℕ
  count = own_count schedule

  -- own rows of one number are at one place
  pub place-one : (i k : ℕ) (r q : LocalRow) → slice_get local.rows i ≡ Some r → slice_get local.rows k ≡ Some q → r.row ≡ q.row → i ≡ k
  place-one i k r q here there same =
      let number : LocalRow → ℕ = λ r. r.row in
      differ-at (map number local.rows) i k q.row readable.lawful.rows_differ
      (at-map number local.rows i r here ∙ ap Some same) (at-map number local.rows k q there)

  module _ (k : ℕ) (row_at : slice_get local.rows k ≡ Some row) where
    -- the row's own node alone counts
    abbrev weight : ℕ → ℕ
    weight nth = cond (nth == k) (most row) 0

    node-sites : (params : List ParamTree) (nth : ℕ) → sites (code_at local count params nth) ≤ weight nth
    node-sites params nth = by (slice_get (node_places local) nth) refl
      where
        called : (c j : ℕ) (o : Option ChildUse) → sites (option_map_or (λ (u : ChildUse). call_code local count params c u j) o no_stmts)
            ≡ 0
        called c j None = refl
        called c j (Some u) =
            let few = stored-guarded n name (active_test local params)
            (child_call (child_base local count c + (j - 1)) (child_field local c)
            (now_leaf params ∷ taken u.header j (map (wire_leaf local) (entering u)))) no_stmts in
            omega (arith, few)

        same : (r : LocalRow) (t : Bool) → (nth == k) ≡ t → slice_get local.rows nth ≡ Some r → cond (r.row == row.row)
            (most r) 0 ≤ cond t (most row) 0
        same r true e there =
            let is : r ≡ row = same_Some r row (sym there ∙ ap (slice_get local.rows) (eqb-true nth k e) ∙ row_at) in
            subst (λ (q : LocalRow). cond (q.row == row.row) (most q) 0 ≤ most row) (sym is) (less (row.row == row.row) (most row))
          where
            less : (t : Bool) (m : ℕ) → cond t m 0 ≤ m
            less true m = omega arith
            less false m = omega arith
        same r false e there =
            let apart : (r.row == row.row) ≡ false =
            ne_eqb r.row row.row (λ is. true≢false (sym (eq-eqb nth k (place-one nth k r row there row_at is)) ∙ e)) in
            let none : cond (r.row == row.row) (most r) 0 ≡ 0 = ap (λ t. cond t (most r) 0) apart in
            omega (arith, none)

        row_by : (p : ℕ) → nth ≡ p → (o : Option LocalRow) → slice_get local.rows p ≡ o →
            sites (option_map_or (value_code local params) o no_stmts) ≤ weight nth
        row_by p at_p None e = omega arith
        row_by p at_p (Some r) e =
            let there : slice_get local.rows nth ≡ Some r = ap (slice_get local.rows) at_p ∙ e in
            let few = row-sites params r (in-at local.rows p r e) in
            let more = same r (nth == k) refl there in
            omega (arith, few, more)

        by : (o : Option Place) → slice_get (node_places local) nth ≡ o →
            sites (option_map_or (node_code local count params) o no_stmts) ≤ weight nth
        by None e = omega arith
        by (Some (Row p)) e = row_by p (place-row local nth p e) (slice_get local.rows p) refl
        by (Some (Call c j)) e = let none = called c j (slice_get local.children c) in omega (arith, none)

    nodes-sites : (params : List ParamTree) (nodes : List ℕ) → sites (joined (map (code_at local count params) nodes)) ≤ total weight nodes
    nodes-sites params nodes =
        let whole = stored-joined n name (map (code_at local count params) nodes) in
        let each = total-map sites (code_at local count params) nodes in
        let few = total-le (λ nth. sites (code_at local count params nth)) weight nodes (λ nth h. node-sites params nth) in
        omega (arith, whole, each, few)

    -- ---- Procedures

    counter-none : (i g : ℕ) → slice_get (shared_groups schedule) i ≡ Some g → at (child_field local (length local.children) + i) ≡ 0
    counter-none i g e = elsewhere (child_field local (length local.children) + i) (counter_name (suc g))
        (own-counter local schedule (system_code local profile schedule) i g e) refl

    pub group-sites : (g : ℕ) → sites (group_procedure local profile schedule g).body ≤ total weight (group_nodes schedule g)
    group-sites g =
        let params = group_params local profile schedule g in
        let body = joined (map (code_at local count params) (group_nodes schedule g)) in
        let whole = stored-counted n name (counter_field local schedule g) body (none (first_place (shared_groups schedule) g) refl) in
        let few = nodes-sites params (group_nodes schedule g) in
        omega (arith, whole, few)
      where
        none : (o : Option ℕ) → first_place (shared_groups schedule) g ≡ o → (f : ℕ) →
            option_map (λ i. child_field local (length local.children) + i) o ≡ Some f → at f ≡ 0
        none None is f e = absurd (none-some f e)
        none (Some i) is f e =
            let m = first-has (shared_groups schedule) g 0 i is in
            let number : m.0 ≡ i = (let zero_more : m.0 ≡ 0 + m.0 = omega arith in zero_more) ∙ m.1 in
            let there : slice_get (shared_groups schedule) i ≡ Some g =
            subst (λ i. slice_get (shared_groups schedule) i ≡ Some g) number m.2 in
            subst (λ f. at f ≡ 0) (same_Some (child_field local (length local.children) + i) f e) (counter-none i g there)

    function-sites : (e : ℕ × List ℕ) → sites (function_procedure local profile schedule e).body ≡ 0
    function-sites e =
        let params = (out_head (own_header local profile) e.0).params in
        let calls = map (λ g. own_call params g (group_params local profile schedule g)) e.1 in
        stored-listed n name calls ∙ total-map (λ s. total (hit n name) (stmt_stores s))
        (λ g. own_call params g (group_params local profile schedule g)) e.1
        ∙ total-none (λ g. 0) e.1 (λ g h. refl)

    update-sites : (params : List ParamTree) → sites (update_body local profile schedule params) ≤ total weight schedule.update
    update-sites params =
        let rows = filter (λ (r : LocalRow). is_delay r.op) local.rows in
        let children = enumerate_from 0 local.children in
        let parts : List StmtTrees = joined (map (code_at local count params) schedule.update)
        ∷ joined (map (memory_code local params) rows)
        ∷ joined (map (update_code local count params) children)
        ∷ joined (map (reset_code local count params) children)
        ∷ (if is_triggered local.control then trigger_code local params else no_stmts)
        ∷ stmts_of_list (counter_stores local schedule) ∷ [] in
        let whole = stored-joined n name parts in
        let nodes = nodes-sites params schedule.update in
        let memories : sites (joined (map (memory_code local params) rows)) ≡ 0 =
        stored-joined n name (map (memory_code local params) rows) ∙ total-map sites (memory_code local params) rows
        ∙ total-none (λ r. sites (memory_code local params r)) rows
        (λ r h. let f = of-filter (λ (r : LocalRow). is_delay r.op) local.rows r h in memory-sites params r f.0 f.1) in
        let updates : sites (joined (map (update_code local count params) children)) ≡ 0 =
        stored-joined n name (map (update_code local count params) children) ∙ total-map sites (update_code local count params) children
        ∙ total-none (λ e. sites (update_code local count params e)) children (λ e h. updated e) in
        let resets : sites (joined (map (reset_code local count params) children)) ≡ 0 =
        stored-joined n name (map (reset_code local count params) children) ∙ total-map sites (reset_code local count params) children
        ∙ total-none (λ e. sites (reset_code local count params e)) children (λ e h. reset e) in
        let levels = trigger (is_triggered local.control) refl in
        let zeros : sites (stmts_of_list (counter_stores local schedule)) ≡ 0 =
        stored-listed n name (counter_stores local schedule)
        ∙ total-map (λ s. total (hit n name) (stmt_stores s)) zero_store (range_with_len (child_field local (length local.children))
        (length (shared_groups schedule)))
        ∙ total-none (λ f. at f + 0) (range_with_len (child_field local (length local.children)) (length (shared_groups schedule)))
        (λ f h. let none = counter f h in omega (arith, none)) in
        omega (arith, whole, nodes, memories, updates, resets, levels, zeros)
      where
        updated : (e : ℕ × ChildUse) → sites (update_code local count params e) ≡ 0
        updated e =
            let few = stored-guarded n name (active_test local params)
            (child_call (child_base local count e.0 + length (header_functions e.1.header)) (child_field local e.0)
            (now_leaf params ∷ map (wire_leaf local) (entering e.1))) no_stmts in
            omega (arith, few)

        reset : (e : ℕ × ChildUse) → sites (reset_code local count params e) ≡ 0
        reset e =
            let few = stored-only n name (off_test local params)
            (child_call (child_base local count e.0 + length (header_functions e.1.header) + 2) (child_field local e.0) []) in
            omega (arith, few)

        trigger : (t : Bool) → is_triggered local.control ≡ t → sites (if t then trigger_code local params else no_stmts) ≡ 0
        trigger true is =
            let none = elsewhere (trigger_field local) trigger_name
            (own-trigger local schedule (system_code local profile schedule) is) refl in
            omega (arith, none)
        trigger false is = refl

        counter : (f : ℕ) → Contains (range_with_len (child_field local (length local.children)) (length (shared_groups schedule))) f →
            at f ≡ 0
        counter f h =
            let m = at-in (range_with_len (child_field local (length local.children)) (length (shared_groups schedule))) f h in
            let range = range-at (child_field local (length local.children)) (length (shared_groups schedule)) m.0 f m.1 in
            let g = below-at (shared_groups schedule) m.0 range.0 in
            subst (λ f. at f ≡ 0) range.1 (counter-none m.0 g.0 g.1)

-- ---- The procedures of ticks

in-system : (s a b c : List ℕ) → bytes_eq (s ++ a ++ b) (s ++ c) ≡ bytes_eq (a ++ b) c
in-system s a b c = ap (λ x. bytes_eq x (s ++ c)) (append_assoc s a b) ∙ prefixed s (a ++ b) c

module _ (local : LocalSystem) (profile : SystemProfile) (schedule : SystemSchedule) (readable : IsReadable local) where
  abbrev s : List ℕ
  s = system_name local.row

  abbrev in_ticks : ProcedureTree → Bool
  in_ticks q = not (bytes_eq q.name (start_name local.row) || bytes_eq q.name (reset_name local.row))

  kept : (a b : Bool) → a ≡ false → b ≡ false → not (a || b) ≡ true
  kept true b h k = absurd (true≢false h)
  kept false true h k = absurd (true≢false k)
  kept false false h k = refl

  dropped-first : (a b : Bool) → a ≡ true → not (a || b) ≡ false
  dropped-first true b h = refl
  dropped-first false b h = absurd (true≢false (sym h))

  dropped-second : (a b : Bool) → b ≡ true → not (a || b) ≡ false
  dropped-second true b h = refl
  dropped-second false true h = refl
  dropped-second false false h = absurd (true≢false (sym h))

  pub ticks-are : of_ticks local (system_code local profile schedule).procedures
      ≡ group_part local profile schedule readable ++ function_part local profile schedule readable ++ update_part local profile schedule
      readable ∷ []
  ticks-are =
      let groups = group_part local profile schedule readable in
      let functions = function_part local profile schedule readable in
      filter-append in_ticks (groups ++ functions) (last_part local profile schedule readable)
      ∙ ap₂ ◌++◌ (filter-append in_ticks groups functions ∙ ap₂ ◌++◌ (filter-keeps in_ticks groups group)
      (filter-keeps in_ticks functions function)) last
    where
      group : (q : ProcedureTree) → Contains (group_part local profile schedule readable) q → in_ticks q ≡ true
      group q h =
          let m = of-map (group_procedure local profile schedule) (code_groups schedule) q h in
          subst (λ (q : ProcedureTree). in_ticks q ≡ true) m.2
          (kept (bytes_eq (group_name local.row (suc m.0)) (start_name local.row))
          (bytes_eq (group_name local.row (suc m.0)) (reset_name local.row))
          (in-system s (codes "_g") (decimal (suc m.0)) (codes "_start")) (in-system s (codes "_g") (decimal (suc m.0)) (codes "_reset")))

      function : (q : ProcedureTree) → Contains (function_part local profile schedule readable) q → in_ticks q ≡ true
      function q h =
          let m = of-map (function_procedure local profile schedule) (enumerate_from 1 schedule.functions) q h in
          subst (λ (q : ProcedureTree). in_ticks q ≡ true) m.2
          (kept (bytes_eq (out_name local.row m.0.0) (start_name local.row)) (bytes_eq (out_name local.row m.0.0) (reset_name local.row))
          (in-system s (codes "_out") (decimal m.0.0) (codes "_start")) (in-system s (codes "_out") (decimal m.0.0) (codes "_reset")))

      last : filter in_ticks (last_part local profile schedule readable) ≡ update_part local profile schedule readable ∷ []
      last =
          let update = kept (bytes_eq (update_name local.row) (start_name local.row))
          (bytes_eq (update_name local.row) (reset_name local.row)) (prefixed s (codes "_update") (codes "_start"))
          (prefixed s (codes "_update") (codes "_reset")) in
          let start = dropped-first (bytes_eq (start_name local.row) (start_name local.row))
          (bytes_eq (start_name local.row) (reset_name local.row)) (bytes-same (start_name local.row) (start_name local.row) refl) in
          let reset = dropped-second (bytes_eq (reset_name local.row) (start_name local.row))
          (bytes_eq (reset_name local.row) (reset_name local.row)) (bytes-same (reset_name local.row) (reset_name local.row) refl) in
          ap (λ t. cond t (update_part local profile schedule readable ∷ filter in_ticks
          (start_part local profile schedule readable ∷ reset_part local profile schedule readable ∷ []))
          (filter in_ticks (start_part local profile schedule readable ∷ reset_part local profile schedule readable ∷ []))) update
          ∙ ap (λ t. update_part local profile schedule readable ∷ cond t (start_part local profile schedule readable ∷ filter in_ticks
          (reset_part local profile schedule readable ∷ [])) (filter in_ticks (reset_part local profile schedule readable ∷ []))) start
          ∙ ap (λ t. update_part local profile schedule readable ∷ cond t (reset_part local profile schedule readable ∷ []) []) reset

-- ---- The whole

-- outside start and reset each value is stored by one statement, of an Outport that is reset by two
pub values-once : (local : LocalSystem) (profile : SystemProfile) (schedule : SystemSchedule) (readable : IsReadable local)
    (is : IsScheduleOf local profile schedule)
    (r : LocalRow) → Contains local.rows r →
    store_sites (names local schedule (system_code local profile schedule))
    (of_ticks local (system_code local profile schedule).procedures) (value_name r.row)
    ≤ (if is_reset_outport r.kind then 2 else 1)
values-once local profile schedule readable is r own =
    let n = names local schedule (system_code local profile schedule) in
    let name = value_name r.row in
    let ticks = of_ticks local (system_code local profile schedule).procedures in
    let body : ProcedureTree → List StoreSite = λ (q : ProcedureTree). stores_in q.body in
    let sites : ProcedureTree → ℕ = λ (q : ProcedureTree). stored n name q.body in
    let groups = group_part local profile schedule readable in
    let functions = function_part local profile schedule readable in
    let update = update_part local profile schedule readable in
    let m = at-in local.rows r own in
    let k = m.0 in
    let bound : ℕ = if is_reset_outport r.kind then 2 else 1 in
    let weight : ℕ → ℕ = λ nth. cond (nth == k) bound 0 in
    let counted_sites : store_sites n ticks name ≡ total sites (groups ++ functions ++ update ∷ []) =
    count-total (λ (st : StoreSite). bytes_eq (n.own st.field) name) (flat_map body ticks) ∙ total-flat (hit n name) body ticks
    ∙ ap (total sites) (ticks-are local profile schedule readable) in
    let last = total-append sites (groups ++ functions) (update ∷ []) in
    let first = total-append sites groups functions in
    let in_groups = total-map sites (group_procedure local profile schedule) (code_groups schedule) in
    let few_groups = total-le (λ g. sites (group_procedure local profile schedule g)) (λ g. total weight (group_nodes schedule g))
    (code_groups schedule)
    (λ g h. group-sites local profile schedule readable r own k m.1 g) in
    let in_functions : total sites functions ≡ 0 = total-map sites (function_procedure local profile schedule)
    (enumerate_from 1 schedule.functions)
    ∙ total-none (λ e. sites (function_procedure local profile schedule e)) (enumerate_from 1 schedule.functions)
    (λ e h. function-sites local profile schedule readable r own k m.1 e) in
    let few_update = update-sites local profile schedule readable r own k m.1 (update_head (own_header local profile)).params in
    let below : (k : ℕ) → Contains is.order k → k < length is.clusters = λ k h.
    let low = order-below is.nodes.graph [] is.order k is.is_order.is_least_first h in
    let one = is.are_clusters.one_each in
    omega (arith, low, one) in
    let whole = schedule-counts local profile schedule is below weight in
    let inside = at-below (node_list local) k (RowNode r.row) (row-node local k r m.1) in
    let many = is.are_nodes.count in
    let there = is.is_order.has_all k (omega (arith, inside, many)) in
    let alone = order-counts is.nodes.graph [] is.order weight k is.is_order.is_least_first there
    (λ c apart. ap (λ t. cond t bound 0) (ne_eqb c k apart)) in
    let here : weight k ≡ bound = ap (λ t. cond t bound 0) (eq-eqb k k refl) in
    omega (arith, counted_sites, last, first, in_groups, few_groups, in_functions, few_update, whole, alone, here)
