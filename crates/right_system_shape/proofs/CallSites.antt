-- How many statements of a system's ticks call a procedure of a child.
use Rattle.std.specs.Prelude.{◌≡◌, refl, ℕ, suc, ◌+◌, ◌-◌, ◌<◌, ◌≤◌, ◌^◌, Bool, true, false, if◌then◌else◌, List, [], ◌∷◌, ◌++◌, map, flat_map, filter, length, slice_get, Contains, Option, Some, None, pos, bytes_eq, codes, ◌⊎◌}
use Rattle.std.specs.Option.{option_map_or}
use Rattle.std.specs.List.{range_with_len, enumerate_from}
use Rattle.std.proofs.Common.{sym, ap, ap₂, subst, ◌∙◌, arith, inl, inr}
use Rattle.std.proofs.lemmas.Option.{same_Some, none-some}
use Rattle.base_core.specs.declared.base.Compare.TheVariants.{Eq}
use Rattle.diagram_blocks.specs.Meaning.{has_value, delay_length}
use Rattle.diagram_meaning.specs.Rows.{is_triggered}
use Rattle.diagram_blocks.specs.Kinds.{is_delay, is_reset_outport}
use Rattle.modules_profile.specs.declared.local.ChildUse.{ChildUse}
use Rattle.modules_profile.specs.declared.local.LocalRow.{LocalRow}
use Rattle.modules_profile.specs.LocalSystem.{LocalSystem}
use Rattle.modules_profile.specs.SystemProfile.{SystemProfile}
use Rattle.modules_profile.specs.Headers.{header_functions, taken}
use Rattle.modules_profile.specs.Locals.{own_header, entering}
use Rattle.modules_profile.specs.Systems.{system_name}
use Rattle.modules_profile.proofs.lemmas.Members.{in-none, of-map, in-at, at-map, map-at, at-append, range-at, of-range, of-enumerate}
use Rattle.modules_profile.proofs.lemmas.OwnRows.{differ-at, of-flat_map}
use Rattle.modules_schedule.specs.SystemSchedule.{SystemSchedule}
use Rattle.c_syntax.specs.declared.code.Leaf.TheVariants.{Own}
use Rattle.c_syntax.specs.Tree.{literal, read, compare, CondTree, StmtTree, StmtTrees, branch, assign, no_stmts, more_stmts, stmts_append, stmts_of_list, ParamTree, ProcedureTree}
use Rattle.emit_row_code.specs.RowCode.{nought, rhs_code, written}
use Rattle.emit_row_code.specs.StatementCode.{guarded, only_if, store_code, child_call, memory_statements, ring_statements, value_reset_statements}
use Rattle.emit_shape.specs.CodeNames.{CodeNames}
use Rattle.emit_shape.specs.Heads.{Head, out_head, update_head, reset_head}
use Rattle.emit_shape.specs.Names.{group_name, out_name, update_name, reset_name}
use Rattle.emit_shape.specs.Once.{of_ticks, call_sites}
use Rattle.emit_shape.specs.Reads.{CallSite, stmt_calls, calls_in}
use Rattle.emit_shape.specs.SystemTree.{SystemTree}
use Rattle.emit_system_spec.specs.declared.node.Place.{Place}
use Rattle.emit_system_spec.specs.declared.node.Place.TheVariants.{Row, Call}
use Rattle.emit_system_spec.specs.EmittedCode.{joined, counted, own_call, group_params, group_procedure, function_procedure, update_body, system_code}
use Rattle.emit_system_spec.specs.Fields.{child_field, counter_field, shared_groups, memory_field, value_field}
use Rattle.emit_system_spec.specs.Groups.{group_nodes, code_groups, own_count}
use Rattle.emit_system_spec.specs.NodeCode.{off_test, active_test, value_code, memory_code, trigger_code, call_code, update_code, reset_code, node_code, code_at, control_leaves, first_input, input_leaves, memory_read, output_reset, ring_fields, runs_test, value_store}
use Rattle.emit_system_spec.specs.Places.{call_places, node_places, child_base, now_leaf}
use Rattle.emit_system_spec.specs.Renewing.{zero_store, counter_stores}
use Rattle.emit_system_spec.specs.Schedules.{IsScheduleOf}
use Rattle.emit_system_spec.specs.Sources.{wire_leaf, wire_types}
use Rattle.right_system_shape.proofs.Callees.{out-at, behind-at, callee-at}
use Rattle.right_system_shape.proofs.FieldNames.{names}
use Rattle.right_system_shape.proofs.NameTexts.{nested-one}
use Rattle.right_system_shape.proofs.Params.{bytes-apart}
use Rattle.right_system_shape.proofs.ProcedureRules.{GroupsStandAtNumbers, many, group-callee, group_part, function_part, update_part}
use Rattle.right_system_shape.proofs.Readable.{IsReadable}
use Rattle.right_system_shape.proofs.StoreSites.{ticks-are}
use Rattle.right_system_shape.proofs.Totals.{total, one_if, total-append, total-flat, total-map, total-same, total-none, count-total, schedule-counts}
use Rattle.right_system_shape.proofs.Touching.{calls-append}
use Rattle.emit_row_code.specs.TestCode.{disabled_by}
use Rattle.emit_shape.specs.RowStarts.{row_start}
use Rattle.emit_shape.specs.Delays.{is_line}
use Rattle.emit_row_code.specs.RingCode.{emptied, taken_in}
use Rattle.right_system_shape.proofs.Reaching.{order-below}
use Rattle.std.proofs.lemmas.List.Elements.{Contains-append_cases}

-- ---- What pieces call under a name

module _ (n : CodeNames) (name : List ℕ) where
  abbrev pub hit_at : ℕ → ℕ
  hit_at k = one_if (bytes_eq (n.callee k).name name)

  abbrev pub hit : CallSite → ℕ
  hit c = hit_at c.procedure

  abbrev pub called : StmtTrees → ℕ
  called code = total hit (calls_in code)

  called-append : (a b : StmtTrees) → called (stmts_append a b) ≡ called a + called b
  called-append a b = ap (total hit) (calls-append a b) ∙ total-append hit (calls_in a) (calls_in b)

  called-joined : (codes : List StmtTrees) → called (joined codes) ≡ total called codes
  called-joined [] = refl
  called-joined (code ∷ codes) = called-append code (joined codes) ∙ ap (λ k. called code + k) (called-joined codes)

  called-listed : (ss : List StmtTree) → called (stmts_of_list ss) ≡ total (λ s. total hit (stmt_calls s)) ss
  called-listed [] = refl
  called-listed (s ∷ ss) = total-append hit (stmt_calls s) (calls_in (stmts_of_list ss)) ∙ ap (λ k. total hit (stmt_calls s) + k)
      (called-listed ss)

  called-branch : (t : CondTree) (a b : StmtTrees) → called (more_stmts (branch 0 t a b) no_stmts) ≡ called a + called b
  called-branch t a b =
      let whole = total-append hit (calls_in a ++ calls_in b) [] in
      let both = total-append hit (calls_in a) (calls_in b) in
      omega (arith, whole, both)

  called-guarded : (t : Option CondTree) (a b : StmtTrees) → called b ≡ 0 → called (guarded t a b) ≡ called a
  called-guarded None a b none = refl
  called-guarded (Some t) a b none = let same = called-branch t a b in omega (arith, same, none)

  called-only : (t : Option CondTree) (a : StmtTrees) → called a ≡ 0 → called (only_if t a) ≡ 0
  called-only None a none = refl
  called-only (Some t) a none = let same = called-branch t a no_stmts in omega (arith, same, none)

  called-counted : (o : Option ℕ) (body : StmtTrees) → called (counted o body) ≡ called body
  called-counted None body = refl
  called-counted (Some f) body = let same = called-branch (compare Eq (read (Own f)) nought)
      (more_stmts (assign 0 f (literal (pos 1))) body) no_stmts in omega (arith, same)

  -- where nothing is called, whatever the tests
  guarded-none : (t : Option CondTree) (a b : StmtTrees) → called a ≡ 0 → called b ≡ 0 → called (guarded t a b) ≡ 0
  guarded-none t a b first second = called-guarded t a b second ∙ first

-- ---- The places of calls

-- they count from the first child on
call-from : (i : ℕ) (us : List ChildUse) (k j : ℕ) → Contains (flat_map call_places (enumerate_from i us)) (Call k j) → i ≤ k
call-from i us k j h =
    let m = of-flat_map call_places (enumerate_from i us) (Call k j) h in
    let at = of-enumerate i us m.0 m.1 in
    by m.0.0 m.0.1 m.0.1.header.row at.0 at.1 m.2
  where
    by : (e : ℕ) (u : ChildUse) (row : Option ℕ) (c : ℕ) → i + c ≡ e →
        Contains (option_map_or (λ row. map (Call e) (range_with_len 1 (length (header_functions u.header)))) row []) (Call k j) → i ≤ k
    by e u None c same h = absurd (in-none (Call k j) h)
    by e u (Some row) c same h =
        let m = of-map (Call e) (range_with_len 1 (length (header_functions u.header))) (Call k j) h in
        let child : e ≡ k = (let is = m.2 in cc) in
        omega (arith, same, child)

-- a call of a function occurs once
call-once : (i : ℕ) (us : List ChildUse) (k j a b : ℕ) → slice_get (flat_map call_places (enumerate_from i us)) a ≡ Some (Call k j) →
    slice_get (flat_map call_places (enumerate_from i us)) b ≡ Some (Call k j) → a ≡ b
call-once i [] k j a b e h = absurd (none-some (Call k j) e)
call-once i (u ∷ us) k j a b e h =
    by u.header.row (at-append (call_places (i, u)) (flat_map call_places (enumerate_from (i + 1) us)) a (Call k j) e)
    (at-append (call_places (i, u)) (flat_map call_places (enumerate_from (i + 1) us)) b (Call k j) h)
    (λ a b e h. call-once (i + 1) us k j a b e h)
  where
    rest : List Place
    rest = flat_map call_places (enumerate_from (i + 1) us)

    own : Option ℕ → List Place
    own row = option_map_or (λ row. map (Call i) (range_with_len 1 (length (header_functions u.header)))) row []

    first : (row : Option ℕ) (a : ℕ) → slice_get (own row) a ≡ Some (Call k j) → (i ≡ k) × (1 + a ≡ j)
    first None a e = absurd (none-some (Call k j) e)
    first (Some row) a e =
        let m = map-at (Call i) (range_with_len 1 (length (header_functions u.header))) a (Call k j) e in
        let number = (range-at 1 (length (header_functions u.header)) a m.0 m.1).1 in
        let child : i ≡ k = (let is = m.2 in cc) in
        let same : m.0 ≡ j = (let is = m.2 in cc) in
        (child, number ∙ same)

    later : (c : ℕ) → slice_get rest c ≡ Some (Call k j) → i + 1 ≤ k
    later c e = call-from (i + 1) us k j (in-at rest c (Call k j) e)

    by : (row : Option ℕ) → (slice_get (own row) a ≡ Some (Call k j)) ⊎
        ((c : ℕ) × (length (own row) + c ≡ a) × (slice_get rest c ≡ Some (Call k j))) →
        (slice_get (own row) b ≡ Some (Call k j)) ⊎ ((c : ℕ) × (length (own row) + c ≡ b) × (slice_get rest c ≡ Some (Call k j))) →
        ((a b : ℕ) → slice_get rest a ≡ Some (Call k j) → slice_get rest b ≡ Some (Call k j) → a ≡ b) → a ≡ b
    by row (inl e) (inl h) more = let p = (first row a e).1 in let q = (first row b h).1 in omega (arith, p, q)
    by row (inl e) (inr (d, place, h)) more = let p = (first row a e).0 in let q = later d h in absurd (omega (arith, p, q))
    by row (inr (c, place, e)) (inl h) more = let p = (first row b h).0 in let q = later c e in absurd (omega (arith, p, q))
    by row (inr (c, place, e)) (inr (d, other, h)) more = let same = more c d e h in omega (arith, place, other, same)

no-row : (rows : List ℕ) (k j a : ℕ) → slice_get (map Row rows) a ≡ Some (Call k j) → ⊥
no-row rows k j a e = let m = map-at Row rows a (Call k j) e in let is = m.2 in let wrong : ⊥ = cc in wrong

pub one-place : (local : LocalSystem) (k j a b : ℕ) → slice_get (node_places local) a ≡ Some (Call k j) → slice_get (node_places local) b
    ≡ Some (Call k j) → a ≡ b
one-place local k j a b e h = by (at-append rows calls a (Call k j) e) (at-append rows calls b (Call k j) h)
  where
    rows : List Place
    rows = map Row (range_with_len 0 (length local.rows))

    calls : List Place
    calls = flat_map call_places (enumerate_from 0 local.children)

    by : (slice_get rows a ≡ Some (Call k j)) ⊎ ((c : ℕ) × (length rows + c ≡ a) × (slice_get calls c ≡ Some (Call k j))) →
        (slice_get rows b ≡ Some (Call k j)) ⊎ ((c : ℕ) × (length rows + c ≡ b) × (slice_get calls c ≡ Some (Call k j))) → a ≡ b
    by (inl e) h = absurd (no-row (range_with_len 0 (length local.rows)) k j a e)
    by (inr e) (inl h) = absurd (no-row (range_with_len 0 (length local.rows)) k j b h)
    by (inr (c, place, e)) (inr (d, other, h)) = let same = call-once 0 local.children k j c d e h in omega (arith, place, other, same)

-- ---- Names of children's procedures

pub child-apart : (e f : ℕ) (xs ys : List ℕ) → e < 2 ^ 64 → f < 2 ^ 64 → (e ≡ f → xs ≡ ys → ⊥) →
    bytes_eq (system_name (Some e) ++ 95 ∷ xs) (system_name (Some f) ++ 95 ∷ ys) ≡ false
child-apart e f xs ys h k apart =
    bytes-apart (system_name (Some e) ++ 95 ∷ xs) (system_name (Some f) ++ 95 ∷ ys) (λ same. let both = nested-one e f xs ys h k same in
    apart both.0 both.1)

module _ (local : LocalSystem) (profile : SystemProfile) (schedule : SystemSchedule) (readable : IsReadable local)
    (groups_there : GroupsStandAtNumbers schedule) where
  abbrev code : SystemTree
  code = system_code local profile schedule

  abbrev count : ℕ
  count = own_count schedule

  abbrev n : CodeNames
  n = names local schedule code

  -- children of one row are at one place
  pub child-one : (i k e : ℕ) (u v : ChildUse) → slice_get local.children i ≡ Some u → slice_get local.children k ≡ Some v → u.header.row
      ≡ Some e → v.header.row ≡ Some e → i ≡ k
  child-one i k e u v here there is same = differ-at readable.lawful.numbers i k e readable.lawful.children_differ (number i u here is)
      (number k v there same)
    where
      number : (k : ℕ) (u : ChildUse) → slice_get local.children k ≡ Some u → u.header.row ≡ Some e → slice_get readable.lawful.numbers k
          ≡ Some e
      number k u at is =
          let row = at-map (λ (u : ChildUse). u.header.row) local.children k u at in
          let m = map-at Some readable.lawful.numbers k u.header.row
          (subst (λ xs. slice_get xs k ≡ Some u.header.row) readable.lawful.have_numbers row) in
          m.1 ∙ same_Some (Some m.0) (Some e) (ap Some (m.2 ∙ is))

  out-callee : (k j : ℕ) (u : ChildUse) → slice_get local.children k ≡ Some u → 0 < j → j ≤ length (header_functions u.header) →
      n.callee (child_base local count k + (j - 1)) ≡ out_head u.header j
  out-callee k j u at some most = callee-at local code count k (j - 1) u (out_head u.header j) (many local profile schedule readable) at
      (out-at u.header j some most)

  update-callee : (k : ℕ) (u : ChildUse) → slice_get local.children k ≡ Some u →
      n.callee (child_base local count k + length (header_functions u.header)) ≡ update_head u.header
  update-callee k u at =
      let size = length (header_functions u.header) in
      subst (λ i. n.callee (child_base local count k + i) ≡ update_head u.header) (let none : size + 0 ≡ size = omega arith in none)
      (callee-at local code count k (size + 0) u (update_head u.header) (many local profile schedule readable) at
      (behind-at u.header 0 (update_head u.header) refl))

  reset-callee : (k : ℕ) (u : ChildUse) → slice_get local.children k ≡ Some u →
      n.callee (child_base local count k + length (header_functions u.header) + 2) ≡ reset_head u.header
  reset-callee k u at =
      let size = length (header_functions u.header) in
      subst (λ p. n.callee p ≡ reset_head u.header) (let same : child_base local count k + (size + 2)
      ≡ child_base local count k + size + 2 = omega arith in same)
      (callee-at local code count k (size + 2) u (reset_head u.header) (many local profile schedule readable) at
      (behind-at u.header 2 (reset_head u.header) refl))

  pub child-at : (e : ℕ × ChildUse) → Contains (enumerate_from 0 local.children) e → slice_get local.children e.0 ≡ Some e.1
  child-at e h =
      let m = of-enumerate 0 local.children e h in
      subst (λ k. slice_get local.children k ≡ Some e.1) ((let none : m.0 ≡ 0 + m.0 = omega arith in none) ∙ m.1) m.2

  -- the place of a call is that of a function of a child
  pub call-of : (k j : ℕ) → Contains (node_places local) (Call k j) → (u : ChildUse) → slice_get local.children k ≡ Some u →
      (0 < j) × (j ≤ length (header_functions u.header))
  call-of k j h u at = elim (Contains-append_cases (map Row (range_with_len 0 (length local.rows)))
      (flat_map call_places (enumerate_from 0 local.children)) (Call k j) h) [
        | inl rows ↦ let m = of-map Row (range_with_len 0 (length local.rows)) (Call k j) rows in
            absurd (let wrong : ⊥ = (let e = m.2 in cc) in wrong)
        | inr calls ↦
            let m = of-flat_map call_places (enumerate_from 0 local.children) (Call k j) calls in
            by m.0.0 m.0.1 m.0.1.header.row (child-at m.0 m.1) m.2
      ]
    where
      by : (e : ℕ) (v : ChildUse) (row : Option ℕ) → slice_get local.children e ≡ Some v →
          Contains (option_map_or (λ row. map (Call e) (range_with_len 1 (length (header_functions v.header)))) row []) (Call k j) →
          (0 < j) × (j ≤ length (header_functions u.header))
      by e v None there h = absurd (in-none (Call k j) h)
      by e v (Some row) there h =
          let m = of-map (Call e) (range_with_len 1 (length (header_functions v.header))) (Call k j) h in
          let range = of-range 1 (length (header_functions v.header)) m.0 m.1 in
          let low = range.0 in
          let high = range.1 in
          let child : e ≡ k = (let is = m.2 in cc) in
          let number : m.0 ≡ j = (let is = m.2 in cc) in
          let one : v ≡ u = same_Some v u (sym there ∙ ap (slice_get local.children) child ∙ at) in
          subst (λ (v : ChildUse). (0 < j) × (j ≤ length (header_functions v.header))) one (
            omega (arith, low, number),
            omega (arith, high, number),
          )

  module _ (name : List ℕ) (own : (g : ℕ) → bytes_eq (group_name local.row g) name ≡ false)
      (resets : (k : ℕ) (u : ChildUse) → slice_get local.children k ≡ Some u → bytes_eq (reset_name u.header.row) name ≡ false) where
    abbrev sites : StmtTrees → ℕ
    sites body = called n name body

    abbrev out_hit : ChildUse → ℕ → ℕ
    out_hit u j = one_if (bytes_eq (out_name u.header.row j) name)

    abbrev update_hit : ℕ × ChildUse → ℕ
    update_hit e = one_if (bytes_eq (update_name e.1.header.row) name)

    call-sites : (params : List ParamTree) (k j : ℕ) (u : ChildUse) → slice_get local.children k ≡ Some u → 0 < j →
        j ≤ length (header_functions u.header) → sites (call_code local count params k u j) ≡ out_hit u j
    call-sites params k j u at some most =
        called-guarded n name (active_test local params) (child_call (child_base local count k + (j - 1)) (child_field local k)
        (now_leaf params ∷ taken u.header j (map (wire_leaf local) (entering u)))) no_stmts refl
        ∙ ap (λ (h : Head). one_if (bytes_eq h.name name) + 0) (out-callee k j u at some most)
        ∙ (let none : out_hit u j + 0 ≡ out_hit u j = omega arith in none)

    update-call-sites : (params : List ParamTree) (e : ℕ × ChildUse) → slice_get local.children e.0 ≡ Some e.1 →
        sites (update_code local count params e) ≡ update_hit e
    update-call-sites params e at =
        called-guarded n name (active_test local params) (child_call (child_base local count e.0 + length (header_functions e.1.header))
        (child_field local e.0) (now_leaf params ∷ map (wire_leaf local) (entering e.1))) no_stmts refl
        ∙ ap (λ (h : Head). one_if (bytes_eq h.name name) + 0) (update-callee e.0 e.1 at) ∙ (let none : update_hit e + 0 ≡ update_hit e =
        omega arith in none)

    reset-call-sites : (params : List ParamTree) (e : ℕ × ChildUse) → slice_get local.children e.0 ≡ Some e.1 →
        sites (reset_code local count params e) ≡ 0
    reset-call-sites params e at =
        called-only n name (off_test local params) (child_call (child_base local count e.0 + length (header_functions e.1.header) + 2)
        (child_field local e.0) [])
        (ap (λ (h : Head). one_if (bytes_eq h.name name) + 0) (reset-callee e.0 e.1 at) ∙ ap (λ t. one_if t + 0) (resets e.0 e.1 at))

    row-sites : (params : List ParamTree) (r : LocalRow) → sites (value_code local params r) ≡ 0
    row-sites params r = by (has_value r.kind)
      where
        start : (t : Bool) → sites (if t then value_reset_statements (value_field local r.row)
            (disabled_by local.control (control_leaves local params)) (row_start local r) else no_stmts) ≡ 0
        start true = called-only n name (disabled_by local.control (control_leaves local params))
            (store_code (value_field local r.row) (written (row_start local r))) refl
        start false = refl

        store : sites (value_store local params r) ≡ 0
        store = guarded-none n name (runs_test local params r)
            (store_code (value_field local r.row) (rhs_code r.op (input_leaves local params r) (wire_types local r.inputs)
            (memory_read local r))) no_stmts refl refl

        by : (t : Bool) → sites (if t then stmts_append (output_reset local params r) (value_store local params r) else no_stmts) ≡ 0
        by true = called-append n name (output_reset local params r) (value_store local params r)
            ∙ ap₂ ◌+◌ (start (is_reset_outport r.kind)) store
        by false = refl

    memory-sites : (params : List ParamTree) (r : LocalRow) → sites (memory_code local params r) ≡ 0
    memory-sites params r = by (is_line r.op)
      where
        by : (t : Bool) → sites (if t then ring_statements (ring_fields local r.row) (delay_length r.op) (runs_test local params r)
            (first_input local params r) (off_test local params)
            else memory_statements (memory_field local r.row) (runs_test local params r) (first_input local params r)
            (off_test local params) (row_start local r)) ≡ 0
        by true = guarded-none n name (runs_test local params r) (taken_in (ring_fields local r.row) (delay_length r.op)
            (first_input local params r)) (only_if (off_test local params) (emptied (ring_fields local r.row))) refl
            (called-only n name (off_test local params) (emptied (ring_fields local r.row)) refl)
        by false = guarded-none n name (runs_test local params r)
            (store_code (memory_field local r.row) (read (first_input local params r)))
            (only_if (off_test local params) (store_code (memory_field local r.row) (written (row_start local r)))) refl
            (called-only n name (off_test local params) (store_code (memory_field local r.row) (written (row_start local r))) refl)

    -- what the node at a place calls: of a row nothing
    pub node-sites : (params : List ParamTree) (nth w : ℕ) → ((p : ℕ) → slice_get (node_places local) nth ≡ Some (Row p) → w ≡ 0) →
        (slice_get (node_places local) nth ≡ None → w ≡ 0) →
        ((k j : ℕ) (u : ChildUse) → slice_get (node_places local) nth ≡ Some (Call k j) → slice_get local.children k ≡ Some u →
        w ≡ out_hit u j) →
        ((k j : ℕ) → slice_get (node_places local) nth ≡ Some (Call k j) → slice_get local.children k ≡ None → w ≡ 0) →
        sites (code_at local count params nth) ≡ w
    node-sites params nth w rows none calls lost = by (slice_get (node_places local) nth) refl
      where
        row_by : (o : Option LocalRow) → sites (option_map_or (value_code local params) o no_stmts) ≡ 0
        row_by None = refl
        row_by (Some r) = row-sites params r

        call_by : (k j : ℕ) → slice_get (node_places local) nth ≡ Some (Call k j) → (o : Option ChildUse) → slice_get local.children k ≡ o →
            sites (option_map_or (λ (u : ChildUse). call_code local count params k u j) o no_stmts) ≡ w
        call_by k j place None e = sym (lost k j place e)
        call_by k j place (Some u) e =
            let range = call-of k j (in-at (node_places local) nth (Call k j) place) u e in
            call-sites params k j u e range.0 range.1 ∙ sym (calls k j u place e)

        by : (o : Option Place) → slice_get (node_places local) nth ≡ o → sites (option_map_or (node_code local count params) o no_stmts)
            ≡ w
        by None e = sym (none e)
        by (Some (Row p)) e = row_by (slice_get local.rows p) ∙ sym (rows p e)
        by (Some (Call k j)) e = call_by k j e (slice_get local.children k) refl

    -- ---- Procedures, where the node at each place calls so often

    module _ (weight : ℕ → ℕ) (is_weight : (params : List ParamTree) (nth : ℕ) → sites (code_at local count params nth) ≡ weight nth) where
      nodes-sites : (params : List ParamTree) (nodes : List ℕ) → sites (joined (map (code_at local count params) nodes))
          ≡ total weight nodes
      nodes-sites params nodes =
          called-joined n name (map (code_at local count params) nodes) ∙ total-map sites (code_at local count params) nodes
          ∙ total-same (λ nth. sites (code_at local count params nth)) weight nodes (λ nth h. is_weight params nth)

      group-sites : (g : ℕ) → sites (group_procedure local profile schedule g).body ≡ total weight (group_nodes schedule g)
      group-sites g =
          let params = group_params local profile schedule g in
          called-counted n name (counter_field local schedule g) (joined (map (code_at local count params) (group_nodes schedule g)))
          ∙ nodes-sites params (group_nodes schedule g)

      function-sites : (e : ℕ × List ℕ) → Contains (enumerate_from 1 schedule.functions) e →
          sites (function_procedure local profile schedule e).body ≡ 0
      function-sites e h =
          let params = (out_head (own_header local profile) e.0).params in
          let calls = map (λ g. own_call params g (group_params local profile schedule g)) e.1 in
          called-listed n name calls ∙ total-map (λ s. total (hit n name) (stmt_calls s))
          (λ g. own_call params g (group_params local profile schedule g)) e.1
          ∙ total-none (λ g. hit_at n name g + 0) e.1 each
        where
          each : (g : ℕ) → Contains e.1 g → hit_at n name g + 0 ≡ 0
          each g k =
              let m = of-enumerate 1 schedule.functions e h in
              let callee = group-callee local profile schedule readable g (groups_there m.0 e.1 g m.2 k) in
              ap (λ (h : Head). one_if (bytes_eq h.name name) + 0) callee ∙ ap (λ t. one_if t + 0) (own (suc g))

      update-sites : (params : List ParamTree) → sites (update_body local profile schedule params)
          ≡ total weight schedule.update + total update_hit (enumerate_from 0 local.children)
      update-sites params =
          let rows = filter (λ (r : LocalRow). is_delay r.op) local.rows in
          let children = enumerate_from 0 local.children in
          let parts : List StmtTrees = joined (map (code_at local count params) schedule.update)
          ∷ joined (map (memory_code local params) rows)
          ∷ joined (map (update_code local count params) children)
          ∷ joined (map (reset_code local count params) children)
          ∷ (if is_triggered local.control then trigger_code local params else no_stmts)
          ∷ stmts_of_list (counter_stores local schedule) ∷ [] in
          let whole = called-joined n name parts in
          let nodes = nodes-sites params schedule.update in
          let memories : sites (joined (map (memory_code local params) rows)) ≡ 0 =
          called-joined n name (map (memory_code local params) rows) ∙ total-map sites (memory_code local params) rows
          ∙ total-none (λ r. sites (memory_code local params r)) rows (λ r h. memory-sites params r) in
          let updates : sites (joined (map (update_code local count params) children)) ≡ total update_hit children =
          called-joined n name (map (update_code local count params) children) ∙ total-map sites (update_code local count params) children
          ∙ total-same (λ e. sites (update_code local count params e)) update_hit children
          (λ e h. update-call-sites params e (child-at e h)) in
          let resets_called : sites (joined (map (reset_code local count params) children)) ≡ 0 =
          called-joined n name (map (reset_code local count params) children) ∙ total-map sites (reset_code local count params) children
          ∙ total-none (λ e. sites (reset_code local count params e)) children (λ e h. reset-call-sites params e (child-at e h)) in
          let levels = trigger (is_triggered local.control) in
          let zeros : sites (stmts_of_list (counter_stores local schedule)) ≡ 0 =
          called-listed n name (counter_stores local schedule)
          ∙ total-map (λ s. total (hit n name) (stmt_calls s)) zero_store (range_with_len (child_field local (length local.children))
          (length (shared_groups schedule)))
          ∙ total-none (λ f. 0) (range_with_len (child_field local (length local.children)) (length (shared_groups schedule)))
          (λ f h. refl) in
          omega (arith, whole, nodes, memories, updates, resets_called, levels, zeros)
        where
          trigger : (t : Bool) → sites (if t then trigger_code local params else no_stmts) ≡ 0
          trigger true = refl
          trigger false = refl

      pub sites-are : (is : IsScheduleOf local profile schedule) →
          call_sites n (of_ticks local code.procedures) name ≡ total weight is.order + total update_hit (enumerate_from 0 local.children)
      sites-are is =
          let ticks = of_ticks local code.procedures in
          let body : ProcedureTree → List CallSite = λ (q : ProcedureTree). calls_in q.body in
          let all_sites : ProcedureTree → ℕ = λ (q : ProcedureTree). called n name q.body in
          let groups = group_part local profile schedule readable in
          let functions = function_part local profile schedule readable in
          let update = update_part local profile schedule readable in
          let counted_sites : call_sites n ticks name ≡ total all_sites (groups ++ functions ++ update ∷ []) =
          count-total (λ (c : CallSite). bytes_eq (n.callee c.procedure).name name) (flat_map body ticks) ∙ total-flat
          (hit n name) body ticks
          ∙ ap (total all_sites) (ticks-are local profile schedule readable) in
          let last = total-append all_sites (groups ++ functions) (update ∷ []) in
          let first = total-append all_sites groups functions in
          let in_groups = total-map all_sites (group_procedure local profile schedule) (code_groups schedule) in
          let each_group = total-same (λ g. all_sites (group_procedure local profile schedule g))
          (λ g. total weight (group_nodes schedule g)) (code_groups schedule) (λ g h. group-sites g) in
          let in_functions : total all_sites functions ≡ 0 = total-map all_sites (function_procedure local profile schedule)
          (enumerate_from 1 schedule.functions)
          ∙ total-none (λ e. all_sites (function_procedure local profile schedule e)) (enumerate_from 1 schedule.functions)
          (λ e h. function-sites e h) in
          let in_update = update-sites (update_head (own_header local profile)).params in
          let below : (k : ℕ) → Contains is.order k → k < length is.clusters = λ k h.
          let low = order-below is.nodes.graph [] is.order k is.is_order.is_least_first h in
          let one = is.are_clusters.one_each in
          omega (arith, low, one) in
          let whole = schedule-counts local profile schedule is below weight in
          omega (arith, counted_sites, last, first, in_groups, each_group, in_functions, in_update, whole)
