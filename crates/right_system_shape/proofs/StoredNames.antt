-- What the procedures of a system store, each itself or through groups: of a function what its groups store.
use Rattle.std.specs.Prelude.{◌≡◌, refl, ℕ, zero, suc, ◌+◌, ◌-◌, Bool, true, false, if◌then◌else◌, List, [], ◌∷◌, ◌++◌, map, flat_map, length, slice_get, slice_index_or, Contains, Option, Some, None, pos}
use Rattle.std.specs.Option.{option_map_or}
use Rattle.std.specs.List.{AllByRecursion, enumerate_from}
use Rattle.std.proofs.Common.{sym, ap, ap₂, subst, ◌∙◌, arith, length-append}
use Rattle.std.proofs.lemmas.List.{append_assoc, append-nil, length-map}
use Rattle.std.proofs.lemmas.Option.{same_Some, none-some}
use Rattle.base_core.specs.declared.base.Compare.TheVariants.{Eq}
use Rattle.diagram_blocks.specs.Meaning.{has_value}
use Rattle.diagram_blocks.specs.Kinds.{is_reset_outport}
use Rattle.modules_profile.specs.declared.local.ChildUse.{ChildUse}
use Rattle.modules_profile.specs.declared.local.LocalRow.{LocalRow}
use Rattle.modules_profile.specs.LocalSystem.{LocalSystem}
use Rattle.modules_profile.specs.SystemProfile.{SystemProfile}
use Rattle.modules_profile.specs.Headers.{taken}
use Rattle.modules_profile.specs.Locals.{own_header, entering}
use Rattle.modules_profile.proofs.lemmas.Members.{in-first, in-rest, at-map, at-left, at-right}
use Rattle.modules_schedule.specs.SystemSchedule.{SystemSchedule}
use Rattle.c_syntax.specs.declared.code.Leaf.TheVariants.{Own as OwnLeaf}
use Rattle.c_syntax.specs.declared.code.Target.{Target}
use Rattle.c_syntax.specs.declared.code.Target.TheVariants.{Own, Child}
use Rattle.c_syntax.specs.Tree.{literal, read, compare, CondTree, StmtTrees, branch, assign, no_stmts, more_stmts, stmts_append, stmts_of_list, ParamTree, ProcedureTree}
use Rattle.emit_row_code.specs.RowCode.{nought, written, rhs_code}
use Rattle.emit_row_code.specs.StatementCode.{guarded, only_if, store_code, child_call, value_reset_statements}
use Rattle.emit_row_code.specs.TestCode.{disabled_by}
use Rattle.emit_shape.specs.CodeNames.{CodeNames}
use Rattle.emit_shape.specs.Heads.{Head, out_head}
use Rattle.emit_shape.specs.LocalShape.{callable, no_head, local_stored}
use Rattle.emit_shape.specs.Reads.{StoreSite, CallSite, stores_in, calls_in}
use Rattle.emit_shape.specs.RowStarts.{row_start}
use Rattle.emit_shape.specs.Stored.{stored_on, stored_in, stored_names}
use Rattle.emit_system_spec.specs.declared.node.Place.{Place}
use Rattle.emit_system_spec.specs.declared.node.Place.TheVariants.{Row, Call}
use Rattle.emit_system_spec.specs.EmittedCode.{joined, counted, own_call, group_params, group_procedure, function_procedure, system_code}
use Rattle.emit_system_spec.specs.Fields.{value_field, child_field, counter_field, code_slots}
use Rattle.emit_system_spec.specs.Groups.{group_nodes, code_groups, own_count}
use Rattle.emit_system_spec.specs.NodeCode.{control_leaves, active_test, runs_test, input_leaves, memory_read, output_reset, value_store, value_code, call_code, node_code, code_at}
use Rattle.emit_system_spec.specs.Places.{node_places, child_base, now_leaf}
use Rattle.emit_system_spec.specs.Sources.{wire_leaf, wire_types}
use Rattle.right_system_shape.proofs.AllOf.{all-append}
use Rattle.right_system_shape.proofs.CalledOnce.{enum-at}
use Rattle.right_system_shape.proofs.Callees.{get-index}
use Rattle.right_system_shape.proofs.FieldNames.{names}
use Rattle.right_system_shape.proofs.ProcedureRules.{GroupsStandAtNumbers, group-callee, group_part, function_part, last_part}
use Rattle.right_system_shape.proofs.Readable.{IsReadable}
use Rattle.right_system_shape.proofs.Touching.{calls-append}

-- ---- Code that calls only children

abbrev IsAway : Target → Type 0
IsAway Own = ⊥
IsAway (Child f) = Unit {0}

abbrev Away : StmtTrees → Type 0
Away code = AllByRecursion (λ (c : CallSite). IsAway c.target) (calls_in code)

away-append : (a b : StmtTrees) → Away a → Away b → Away (stmts_append a b)
away-append a b h k = subst (AllByRecursion (λ (c : CallSite). IsAway c.target)) (sym (calls-append a b))
    (all-append (λ (c : CallSite). IsAway c.target) (calls_in a) (calls_in b) h k)

away-joined : (codes : List StmtTrees) → AllByRecursion Away codes → Away (joined codes)
away-joined [] h = tt
away-joined (code ∷ codes) h = away-append code (joined codes) h.0 (away-joined codes h.1)

away-branch : (t : CondTree) (a b : StmtTrees) → Away a → Away b → Away (more_stmts (branch 0 t a b) no_stmts)
away-branch t a b h k = all-append (λ (c : CallSite). IsAway c.target) (calls_in a ++ calls_in b) []
    (all-append (λ (c : CallSite). IsAway c.target) (calls_in a) (calls_in b) h k) tt

away-guarded : (t : Option CondTree) (a b : StmtTrees) → Away a → Away b → Away (guarded t a b)
away-guarded None a b h k = h
away-guarded (Some t) a b h k = away-branch t a b h k

away-only : (t : Option CondTree) (a : StmtTrees) → Away a → Away (only_if t a)
away-only None a h = tt
away-only (Some t) a h = away-branch t a no_stmts h tt

away-counted : (o : Option ℕ) (body : StmtTrees) → Away body → Away (counted o body)
away-counted None body h = h
away-counted (Some f) body h = away-branch (compare Eq (read (OwnLeaf f)) nought)
    (more_stmts (assign 0 f (literal (pos 1))) body) no_stmts h tt

module _ (local : LocalSystem) (count : ℕ) (params : List ParamTree) where
  away-row : (r : LocalRow) → Away (value_code local params r)
  away-row r = by (has_value r.kind)
    where
      start : (t : Bool) → Away (if t then value_reset_statements (value_field local r.row)
          (disabled_by local.control (control_leaves local params)) (row_start local r) else no_stmts)
      start true = away-only (disabled_by local.control (control_leaves local params))
          (store_code (value_field local r.row) (written (row_start local r))) tt
      start false = tt

      by : (t : Bool) → Away (if t then stmts_append (output_reset local params r) (value_store local params r) else no_stmts)
      by true = away-append (output_reset local params r) (value_store local params r) (start (is_reset_outport r.kind))
          (away-guarded (runs_test local params r)
          (store_code (value_field local r.row) (rhs_code r.op (input_leaves local params r) (wire_types local r.inputs)
          (memory_read local r))) no_stmts tt tt)
      by false = tt

  away-node : (nth : ℕ) → Away (code_at local count params nth)
  away-node nth = by (slice_get (node_places local) nth)
    where
      row : (o : Option LocalRow) → Away (option_map_or (value_code local params) o no_stmts)
      row None = tt
      row (Some r) = away-row r

      child : (k j : ℕ) (o : Option ChildUse) → Away (option_map_or (λ (u : ChildUse). call_code local count params k u j) o no_stmts)
      child k j None = tt
      child k j (Some u) = away-guarded (active_test local params) (child_call (child_base local count k + (j - 1)) (child_field local k)
          (now_leaf params ∷ taken u.header j (map (wire_leaf local) (entering u)))) no_stmts (tt, tt) tt

      by : (o : Option Place) → Away (option_map_or (node_code local count params) o no_stmts)
      by None = tt
      by (Some (Row p)) = row (slice_get local.rows p)
      by (Some (Call k j)) = child k j (slice_get local.children k)

  away-nodes : (nodes : List ℕ) → AllByRecursion Away (map (code_at local count params) nodes)
  away-nodes [] = tt
  away-nodes (nth ∷ nodes) = (away-node nth, away-nodes nodes)

-- ---- Names stored, one procedure after the other

module _ (private : ℕ → Bool) (field_name : ProcedureTree → ℕ → List ℕ) where
  abbrev all_names : List (List (List ℕ)) → List ProcedureTree → List (List (List ℕ))
  all_names earlier qs = stored_names private field_name earlier qs

  abbrev own_names : ProcedureTree → List (List ℕ)
  own_names q = map (λ (st : StoreSite). field_name q st.field) (stores_in q.body)

  names-append : (earlier : List (List (List ℕ))) (ps qs : List ProcedureTree) → all_names earlier (ps ++ qs) ≡ all_names
      (all_names earlier ps) qs
  names-append earlier [] qs = refl
  names-append earlier (p ∷ ps) qs = names-append (earlier ++ stored_in private field_name earlier p ∷ []) ps qs

  names-kept : (earlier : List (List (List ℕ))) (qs : List ProcedureTree) (k : ℕ) (x : List (List ℕ)) → slice_get earlier k ≡ Some x →
      slice_get (all_names earlier qs) k ≡ Some x
  names-kept earlier [] k x e = e
  names-kept earlier (q ∷ qs) k x e = names-kept (earlier ++ stored_in private field_name earlier q ∷ []) qs k x
      (at-left earlier (stored_in private field_name earlier q ∷ []) k x e)

  -- what a procedure stores, and that it sees what those before the list stored
  record IsStoredAt (earlier : List (List (List ℕ))) (all : List (List (List ℕ))) (k : ℕ) (q : ProcedureTree) : Type 0 where
    pub seen : List (List (List ℕ))
    pub at : slice_get all k ≡ Some (stored_in private field_name seen q)
    pub sees : (i : ℕ) (x : List (List ℕ)) → slice_get earlier i ≡ Some x → slice_get seen i ≡ Some x

  names-at : (earlier : List (List (List ℕ))) (qs : List ProcedureTree) (k : ℕ) (q : ProcedureTree) → slice_get qs k ≡ Some q →
      IsStoredAt earlier (all_names earlier qs) (length earlier + k) q
  names-at earlier [] k q e = absurd (none-some q e)
  names-at earlier (p ∷ qs) zero q e =
      let here : slice_get (earlier ++ stored_in private field_name earlier p ∷ []) (length earlier + 0)
      ≡ Some (stored_in private field_name earlier q) =
      at-right earlier (stored_in private field_name earlier p ∷ []) 0 (stored_in private field_name earlier q)
      (ap (λ (p : ProcedureTree). Some (stored_in private field_name earlier p)) (same_Some p q e)) in
      record {
        seen = earlier;
        at = names-kept (earlier ++ stored_in private field_name earlier p ∷ []) qs (length earlier + 0)
            (stored_in private field_name earlier q) here;
        sees = λ i x h. h;
      }
  names-at earlier (p ∷ qs) (suc k) q e =
      let more = earlier ++ stored_in private field_name earlier p ∷ [] in
      let rest = names-at more qs k q e in
      let long = length-append earlier (stored_in private field_name earlier p ∷ []) in
      let same : length more + k ≡ length earlier + suc k = omega (arith, long) in
      record {
        seen = rest.seen;
        at = subst (λ i. slice_get (all_names more qs) i ≡ Some (stored_in private field_name rest.seen q)) same rest.at;
        sees = λ i x h. rest.sees i x (at-left earlier (stored_in private field_name earlier p ∷ []) i x h);
      }

  no-calls : (earlier : List (List (List ℕ))) (calls : List CallSite) → AllByRecursion (λ (c : CallSite). IsAway c.target) calls →
      flat_map (λ (c : CallSite). stored_on private field_name earlier c.procedure c.target) calls ≡ []
  no-calls earlier [] h = refl
  no-calls earlier (c ∷ calls) h = by c.target h.0 (no-calls earlier calls h.1)
    where
      by : (t : Target) → IsAway t → flat_map (λ (c : CallSite). stored_on private field_name earlier c.procedure c.target) calls ≡ [] →
          stored_on private field_name earlier c.procedure t ++ flat_map
          (λ (c : CallSite). stored_on private field_name earlier c.procedure c.target) calls ≡ []
      by Own h rest = absurd h
      by (Child f) h rest = rest

  -- procedures that call only children store what they store themselves
  away-names : (earlier : List (List (List ℕ))) (qs : List ProcedureTree) → AllByRecursion (λ (q : ProcedureTree). Away q.body) qs →
      all_names earlier qs ≡ earlier ++ map own_names qs
  away-names earlier [] h = sym (append-nil earlier)
  away-names earlier (q ∷ qs) h =
      let one : stored_in private field_name earlier q ≡ own_names q = ap (λ xs. own_names q ++ xs)
      (no-calls earlier (calls_in q.body) h.0) ∙ append-nil (own_names q) in
      away-names (earlier ++ stored_in private field_name earlier q ∷ []) qs h.1
      ∙ append_assoc earlier (stored_in private field_name earlier q ∷ []) (map own_names qs)
      ∙ ap (λ x. earlier ++ x ∷ map own_names qs) one

-- ---- In the code of a system

module _ (local : LocalSystem) (profile : SystemProfile) (schedule : SystemSchedule) (readable : IsReadable local)
    (groups_there : GroupsStandAtNumbers schedule) where
  abbrev n : CodeNames
  n = names local schedule (system_code local profile schedule)

  abbrev pub private : ℕ → Bool
  private k = (slice_index_or (callable local (system_code local profile schedule)) k no_head).private

  abbrev pub field_name : ProcedureTree → ℕ → List ℕ
  field_name q f = n.own f

  abbrev pub group_names : ℕ → List (List ℕ)
  group_names g = map (λ (st : StoreSite). n.own st.field) (stores_in (group_procedure local profile schedule g).body)

  groups-away : (gs : List ℕ) → AllByRecursion (λ (q : ProcedureTree). Away q.body) (map (group_procedure local profile schedule) gs)
  groups-away [] = tt
  groups-away (g ∷ gs) = (
    away-counted (counter_field local schedule g)
        (joined (map (code_at local (own_count schedule) (group_params local profile schedule g)) (group_nodes schedule g)))
        (away-joined (map (code_at local (own_count schedule) (group_params local profile schedule g)) (group_nodes schedule g))
        (away-nodes local (own_count schedule) (group_params local profile schedule g) (group_nodes schedule g))),
    groups-away gs,
  )

  -- what a function stores is what its groups store
  called-names : (seen : List (List (List ℕ))) (params : List ParamTree) (gs : List ℕ) →
      ((g : ℕ) → Contains gs g → (private g ≡ true) × (slice_get seen g ≡ Some (group_names g))) →
      flat_map (λ (c : CallSite). stored_on private field_name seen c.procedure c.target)
      (calls_in (stmts_of_list (map (λ g. own_call params g (group_params local profile schedule g)) gs))) ≡ flat_map group_names gs
  called-names seen params [] each = refl
  called-names seen params (g ∷ gs) each =
      let here = each g (in-first g gs) in
      ap₂ ◌++◌ (ap (λ (t : Bool). if t then slice_index_or seen g [] else []) here.0 ∙ get-index seen g [] (group_names g) here.1)
      (called-names seen params gs (λ h k. each h (in-rest g h gs k)))

  no-stores : (params : List ParamTree) (gs : List ℕ) →
      stores_in (stmts_of_list (map (λ g. own_call params g (group_params local profile schedule g)) gs)) ≡ []
  no-stores params [] = refl
  no-stores params (g ∷ gs) = no-stores params gs

  pub function-names : (j : ℕ) (gs : List ℕ) → slice_get schedule.functions j ≡ Some gs →
      slice_index_or (local_stored local (code_slots local schedule) (system_code local profile schedule))
      (length (code_groups schedule) + j) [] ≡ flat_map group_names gs
  function-names j gs at =
      let groups = group_part local profile schedule readable in
      let functions = function_part local profile schedule readable in
      let last = last_part local profile schedule readable in
      let early = all_names private field_name [] groups in
      let early_is : early ≡ map (own_names private field_name) groups = away-names private field_name [] groups
      (groups-away (code_groups schedule)) in
      let long : length early ≡ length (code_groups schedule) = ap length early_is ∙ length-map groups (own_names private field_name)
      ∙ length-map (code_groups schedule) (group_procedure local profile schedule) in
      let whole : local_stored local (code_slots local schedule) (system_code local profile schedule) ≡ all_names private field_name early
      (functions ++ last) =
      ap (all_names private field_name []) (append_assoc groups functions last) ∙ names-append private field_name [] groups
      (functions ++ last) in
      let q = function_procedure local profile schedule (1 + j, gs) in
      let there : slice_get (functions ++ last) j ≡ Some q =
      at-left functions last j q (at-map (function_procedure local profile schedule) (enumerate_from 1 schedule.functions) j (1 + j, gs)
      (enum-at 1 schedule.functions j gs at)) in
      let stored = names-at private field_name early (functions ++ last) j q there in
      let params = (out_head (own_header local profile) (1 + j)).params in
      let each : (g : ℕ) → Contains gs g → (private g ≡ true) × (slice_get stored.seen g ≡ Some (group_names g)) = λ g h.
      let stands = groups_there j gs g at h in (
        ap (λ (h : Head). h.private) (group-callee local profile schedule readable g stands),
        stored.sees g (group_names g) (ap (λ xs. slice_get xs g) early_is
            ∙ at-map (own_names private field_name) groups g (group_procedure local profile schedule g)
            (at-map (group_procedure local profile schedule) (code_groups schedule) g g stands)),
      ) in
      ap (λ xs. slice_index_or xs (length (code_groups schedule) + j) []) whole
      ∙ get-index (all_names private field_name early (functions ++ last)) (length (code_groups schedule) + j) []
      (stored_in private field_name stored.seen q)
      (subst (λ m. slice_get (all_names private field_name early (functions ++ last)) (m + j)
      ≡ Some (stored_in private field_name stored.seen q)) long stored.at)
      ∙ ap (λ xs. map (λ (st : StoreSite). n.own st.field) xs ++ flat_map
      (λ (c : CallSite). stored_on private field_name stored.seen c.procedure c.target) (calls_in q.body)) (no-stores params gs)
      ∙ called-names stored.seen params gs each
