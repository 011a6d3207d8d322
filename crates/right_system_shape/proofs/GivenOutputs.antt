-- Each function of a system's code stores just the outputs that it gives.
use Rattle.std.specs.Prelude.{◌≡◌, refl, ℕ, zero, suc, ◌+◌, ◌<◌, ◌≤◌, Bool, true, false, ◌==◌, ◌||◌, cond, if◌then◌else◌, List, [], ◌∷◌, ◌++◌, map, flat_map, filter, length, slice_get, Contains, Option, Some, None, pos, unwrap_or, bytes_eq, codes, decimal, ◌⊎◌}
use Rattle.std.specs.Option.{option_map_or}
use Rattle.std.specs.List.{list_any, position_from, range_with_len, enumerate_from}
use Rattle.std.proofs.Common.{sym, ap, ap₂, subst, ◌∙◌, arith, inl, inr, true≢false, length-append}
use Rattle.std.proofs.lemmas.Bool.{eqb-true, ne_eqb}
use Rattle.std.proofs.lemmas.List.{append_assoc, length-map}
use Rattle.std.proofs.lemmas.Option.{same_Some, none-some}
use Rattle.base_core.specs.Interface.{different}
use Rattle.base_core.specs.declared.base.Compare.TheVariants.{Eq}
use Rattle.base_fixed_point.specs.declared.types.FixType.{FixType}
use Rattle.diagram_blocks.specs.Meaning.{has_value}
use Rattle.diagram_meaning.specs.ResolvedTree.{diagram_of}
use Rattle.diagram_meaning.specs.Rows.{outports_of}
use Rattle.diagram_blocks.specs.Kinds.{is_outport, is_reset_outport}
use Rattle.modules_profile.specs.declared.local.LocalRow.{LocalRow}
use Rattle.modules_profile.specs.declared.profile.Function.{Function}
use Rattle.modules_profile.specs.LocalSystem.{LocalSystem}
use Rattle.modules_profile.specs.SystemProfile.{SystemProfile}
use Rattle.modules_profile.specs.Functions.{function_for}
use Rattle.modules_profile.specs.Headers.{header_function, idle_function, given_rows}
use Rattle.modules_profile.specs.Locals.{local_row, own_header, outports}
use Rattle.modules_profile.specs.NodeFacts.{LocalsAreLawful, NodesReachAsRows}
use Rattle.base_core.specs.Ports.{has_bit}
use Rattle.modules_profile.specs.Systems.{system_name}
use Rattle.modules_profile.proofs.lemmas.Members.{in-none, in-cases, in-first, in-rest, in-map, of-map, in-at, at-in, at-map, map-at, at-below, below-at, at-left, at-right, at-append, at-range, of-range}
use Rattle.modules_profile.proofs.lemmas.OwnRows.{of-flat_map}
use Rattle.modules_profile.proofs.lemmas.LawfulSteps.{short-different}
use Rattle.modules_profile.proofs.lemmas.PortRows.{few-ports}
use Rattle.modules_schedule.specs.SystemSchedule.{SystemSchedule}
use Rattle.c_syntax.specs.declared.code.Leaf.TheVariants.{Own}
use Rattle.c_syntax.specs.Tree.{literal, read, compare, CondTree, StmtTrees, branch, assign, no_stmts, more_stmts, stmts_append, ProcedureTree}
use Rattle.emit_row_code.specs.RowCode.{nought, rhs_code}
use Rattle.emit_row_code.specs.StatementCode.{guarded, store_code}
use Rattle.emit_shape.specs.CodeNames.{CodeNames}
use Rattle.emit_shape.specs.LocalShape.{local_stored, own_position, outputs_stored}
use Rattle.emit_shape.specs.Names.{value_name, out_name}
use Rattle.emit_shape.specs.Reads.{StoreSite, stores_in}
use Rattle.emit_shape.specs.Stored.{has_stored}
use Rattle.emit_shape.specs.SystemTree.{SystemTree}
use Rattle.emit_system_spec.specs.declared.node.Place.TheVariants.{Row}
use Rattle.emit_system_spec.specs.Emitted.{IsEmitted}
use Rattle.emit_system_spec.specs.EmittedCode.{joined, counted, group_params, group_procedure, function_procedure, system_code}
use Rattle.emit_system_spec.specs.Fields.{value_field, counter_field, code_slots}
use Rattle.emit_system_spec.specs.Groups.{group_nodes, code_groups, own_count}
use Rattle.emit_system_spec.specs.NodeCode.{runs_test, input_leaves, memory_read, output_reset, value_store, value_code, node_code, code_at}
use Rattle.emit_system_spec.specs.Places.{call_places, node_places}
use Rattle.emit_system_spec.specs.Sources.{wire_types}
use Rattle.right_system_shape.specs.Formed.{FunctionsGiveTheirOutputs}
use Rattle.right_system_shape.proofs.AllOf.{all-of, in-left, in-right, in-flat_map}
use Rattle.right_system_shape.proofs.CalledOnce.{enum-at}
use Rattle.right_system_shape.proofs.Callees.{get-index}
use Rattle.right_system_shape.proofs.FieldNames.{names, own-value}
use Rattle.right_system_shape.proofs.FunctionParams.{function-at, groups-stand}
use Rattle.right_system_shape.proofs.HeldOutputs.{given-in, group-in}
use Rattle.right_system_shape.proofs.NameTexts.{numbered, prefixed}
use Rattle.right_system_shape.proofs.OutputPlaces.{outport-row, outport-valued}
use Rattle.right_system_shape.proofs.Params.{bytes-same, bytes-one}
use Rattle.right_system_shape.proofs.ProcedureRules.{GroupsStandAtNumbers, group_part, function_part, last_part}
use Rattle.right_system_shape.proofs.PublicHeads.{functions-many}
use Rattle.right_system_shape.proofs.Reaching as reaching
use Rattle.right_system_shape.proofs.Readable.{IsReadable, emitted-readable}
use Rattle.right_system_shape.proofs.StoredNames.{group_names, function-names}
use Rattle.right_system_shape.proofs.StoreSites.{group-sites}
use Rattle.right_system_shape.proofs.Totals.{total, one_if}
use Rattle.right_system_shape.proofs.Touching.{stores-append}

-- ---- Lists

-- the first that passes, where those before it fail
first-passing : {A : Type 0} (t : A → Bool) (s : ℕ) (xs : List A) (k : ℕ) (x : A) → slice_get xs k ≡ Some x → t x ≡ true →
    ((i : ℕ) (y : A) → i < k → slice_get xs i ≡ Some y → t y ≡ false) → position_from t s xs ≡ Some (s + k)
first-passing t s [] k x e passes before = absurd (none-some x e)
first-passing {A} t s (y ∷ ys) zero x e passes before =
    ap (λ r. cond r (Some s) (position_from t (s + 1) ys)) (ap t (same_Some y x e) ∙ passes)
    ∙ ap Some (let stay : s ≡ s + 0 = omega arith in stay)
first-passing {A} t s (y ∷ ys) (suc k) x e passes before =
    ap (λ r. cond r (Some s) (position_from t (s + 1) ys)) (before 0 y (omega arith) refl)
    ∙ first-passing t (s + 1) ys k x e passes (λ i z low h. before (suc i) z (omega arith) h)
    ∙ ap Some (let next : s + 1 + k ≡ s + suc k = omega arith in next)

listed : (name : List ℕ) (xs : List (List ℕ)) → Contains xs name → list_any (bytes_eq name) xs ≡ true
listed name [] h = absurd (in-none name h)
listed name (x ∷ xs) h = by (bytes_eq name x) refl (in-cases x name xs h) (λ more. listed name xs more)
  where
    by : (t : Bool) → bytes_eq name x ≡ t → (x ≡ name) ⊎ Contains xs name → (Contains xs name → list_any (bytes_eq name) xs ≡ true) →
        (t || list_any (bytes_eq name) xs) ≡ true
    by true e h later = refl
    by false e (inl same) later = absurd (true≢false (sym (bytes-same name x (sym same)) ∙ e))
    by false e (inr more) later = later more

of-listed : (name : List ℕ) (xs : List (List ℕ)) → list_any (bytes_eq name) xs ≡ true → Contains xs name
of-listed name [] h = absurd (true≢false (sym h))
of-listed name (x ∷ xs) h = by (bytes_eq name x) refl h (λ more. of-listed name xs more)
  where
    by : (t : Bool) → bytes_eq name x ≡ t → (t || list_any (bytes_eq name) xs) ≡ true →
        (list_any (bytes_eq name) xs ≡ true → Contains xs name) → Contains (x ∷ xs) name
    by true e h later = subst (Contains (x ∷ xs)) (sym (bytes-one name x e)) (in-first x xs)
    by false e h later = in-rest x name xs (later h)

-- truth values that imply each other are one
one-truth : (a b : Bool) → (a ≡ true → b ≡ true) → (b ≡ true → a ≡ true) → a ≡ b
one-truth true b there back = sym (there refl)
one-truth false true there back = absurd (true≢false (sym (back refl)))
one-truth false false there back = refl

-- a member with a name counts
hit-some : {A : Type 0} (f : A → List ℕ) (name : List ℕ) (xs : List A) → Contains (map f xs) name →
    1 ≤ total (λ x. one_if (bytes_eq (f x) name)) xs
hit-some f name [] h = absurd (in-none name h)
hit-some f name (x ∷ xs) h = by (in-cases (f x) name (map f xs) h) (λ more. hit-some f name xs more)
  where
    by : (f x ≡ name) ⊎ Contains (map f xs) name → (Contains (map f xs) name → 1 ≤ total (λ x. one_if (bytes_eq (f x) name)) xs) →
        1 ≤ one_if (bytes_eq (f x) name) + total (λ x. one_if (bytes_eq (f x) name)) xs
    by (inl same) later = let one : one_if (bytes_eq (f x) name) ≡ 1 = ap one_if (bytes-same (f x) name same) in omega (arith, one)
    by (inr more) later = let rest = later more in omega (arith, rest)

weight-some : (k bound : ℕ) (xs : List ℕ) → 1 ≤ total (λ nth. cond (nth == k) bound 0) xs → Contains xs k
weight-some k bound [] h = absurd (omega arith)
weight-some k bound (x ∷ xs) h = by (x == k) refl h (λ more. weight-some k bound xs more)
  where
    by : (t : Bool) → (x == k) ≡ t → 1 ≤ cond t bound 0 + total (λ nth. cond (nth == k) bound 0) xs →
        (1 ≤ total (λ nth. cond (nth == k) bound 0) xs → Contains xs k) → Contains (x ∷ xs) k
    by true e h later = subst (Contains (x ∷ xs)) (eqb-true x k e) (in-first x xs)
    by false e h later = in-rest x k xs (later (omega (arith, h)))

-- outputs that pass by row and by port are one
given-same : (t : LocalRow → Bool) (b : ℕ → Bool) (p : ℕ) (os : List LocalRow) → ((i : ℕ) (o : LocalRow) → slice_get os i ≡ Some o →
    t o ≡ b (p + i)) →
    map (λ (o : LocalRow). o.row) (filter t os)
    ≡ map (λ (e : ℕ × ℕ). e.1) (filter (λ (e : ℕ × ℕ). b e.0)
    (enumerate_from p (map (λ (e : ℕ × FixType). e.0) (map {B = ℕ × FixType} (λ (r : LocalRow). (r.row, r.out)) os))))
given-same t b p [] same = refl
given-same t b p (o ∷ os) same =
    by (t o) (b p) (same 0 o refl ∙ ap b (let stay : p + 0 ≡ p = omega arith in stay))
    (given-same t b (p + 1) os (λ i q e. same (suc i) q e ∙ ap b (let next : p + suc i ≡ p + 1 + i = omega arith in next)))
  where
    rest : List (ℕ × ℕ)
    rest = filter (λ (e : ℕ × ℕ). b e.0)
        (enumerate_from (p + 1) (map (λ (e : ℕ × FixType). e.0) (map {B = ℕ × FixType} (λ (r : LocalRow). (r.row, r.out)) os)))

    by : (x y : Bool) → x ≡ y → map (λ (o : LocalRow). o.row) (filter t os) ≡ map (λ (e : ℕ × ℕ). e.1) rest →
        map (λ (o : LocalRow). o.row) (cond x (o ∷ filter t os) (filter t os)) ≡ map (λ (e : ℕ × ℕ). e.1) (cond y ((p, o.row) ∷ rest) rest)
    by true true e later = ap (λ rows. o.row ∷ rows) later
    by true false e later = absurd (true≢false e)
    by false true e later = absurd (true≢false (sym e))
    by false false e later = later

-- ---- What statements store

joined-has : (codes : List StmtTrees) (code : StmtTrees) (st : StoreSite) → Contains codes code → Contains (stores_in code) st →
    Contains (stores_in (joined codes)) st
joined-has [] code st h k = absurd (in-none code h)
joined-has (c ∷ codes) code st h k = subst (λ xs. Contains xs st) (sym (stores-append c (joined codes)))
    (by (in-cases c code codes h) (λ more. joined-has codes code st more k))
  where
    by : (c ≡ code) ⊎ Contains codes code → (Contains codes code → Contains (stores_in (joined codes)) st) →
        Contains (stores_in c ++ stores_in (joined codes)) st
    by (inl same) later = in-left (stores_in c) (stores_in (joined codes)) st (subst (λ c. Contains (stores_in c) st) (sym same) k)
    by (inr more) later = in-right (stores_in c) (stores_in (joined codes)) st (later more)

branch-has : (t : CondTree) (a : StmtTrees) (st : StoreSite) → Contains (stores_in a) st →
    Contains (stores_in (more_stmts (branch 0 t a no_stmts) no_stmts)) st
branch-has t a st h = in-left (stores_in a ++ []) [] st (in-left (stores_in a) [] st h)

counted-has : (o : Option ℕ) (body : StmtTrees) (st : StoreSite) → Contains (stores_in body) st → Contains (stores_in (counted o body)) st
counted-has None body st h = h
counted-has (Some f) body st h =
    branch-has (compare Eq (read (Own f)) nought) (more_stmts (assign 0 f (literal (pos 1))) body) st
    (in-rest (record { field = f; value = literal (pos 1) }) st (stores_in body) h)

guarded-has : (t : Option CondTree) (a : StmtTrees) (st : StoreSite) → Contains (stores_in a) st →
    Contains (stores_in (guarded t a no_stmts)) st
guarded-has None a st h = h
guarded-has (Some t) a st h = branch-has t a st h

module _ (local : LocalSystem) (profile : SystemProfile) (schedule : SystemSchedule) (readable : IsReadable local)
    (groups_there : GroupsStandAtNumbers schedule)
    (o : LocalRow) (own : Contains local.rows o) (valued : has_value o.kind ≡ true) (k : ℕ) (row : slice_get local.rows k ≡ Some o) where
  abbrev n : CodeNames
  n = names local schedule (system_code local profile schedule)

  -- a group that stores the value has the row's node
  stored-in : (g : ℕ) → Contains (group_names local profile schedule readable groups_there g) (value_name o.row) →
      Contains (group_nodes schedule g) k
  stored-in g h =
      let some = hit-some (λ (st : StoreSite). n.own st.field) (value_name o.row)
      (stores_in (group_procedure local profile schedule g).body) h in
      let few = group-sites local profile schedule readable o own k row g in
      weight-some k (if is_reset_outport o.kind then 2 else 1) (group_nodes schedule g) (omega (arith, some, few))

  -- and one with the node stores it
  stores-it : (g : ℕ) → Contains (group_nodes schedule g) k → Contains (group_names local profile schedule readable groups_there g)
      (value_name o.row)
  stores-it g h =
      let params = group_params local profile schedule g in
      let value = rhs_code o.op (input_leaves local params o) (wire_types local o.inputs) (memory_read local o) in
      let st : StoreSite = record { field = value_field local o.row; value = value } in
      let store : Contains (stores_in (value_store local params o)) st = guarded-has (runs_test local params o)
      (store_code (value_field local o.row) value) st (in-first st []) in
      let both : Contains (stores_in (stmts_append (output_reset local params o) (value_store local params o))) st =
      subst (λ xs. Contains xs st) (sym (stores-append (output_reset local params o) (value_store local params o)))
      (in-right (stores_in (output_reset local params o)) (stores_in (value_store local params o)) st store) in
      let row_code : value_code local params o ≡ stmts_append (output_reset local params o) (value_store local params o) =
      ap (λ (t : Bool). if t then stmts_append (output_reset local params o) (value_store local params o) else no_stmts) valued in
      let place : slice_get (node_places local) k ≡ Some (Row k) = at-left (map Row (range_with_len 0 (length local.rows)))
      (flat_map call_places (enumerate_from 0 local.children)) k (Row k)
      (at-map Row (range_with_len 0 (length local.rows)) k k (at-range 0 (length local.rows) k (at-below local.rows k o row)
      ∙ ap Some (let none : 0 + k ≡ k = omega arith in none))) in
      let node : code_at local (own_count schedule) params k ≡ value_code local params o =
      ap (λ x. option_map_or (node_code local (own_count schedule) params) x no_stmts) place
      ∙ ap (λ x. option_map_or (value_code local params) x no_stmts) row in
      let in_node : Contains (stores_in (code_at local (own_count schedule) params k)) st = subst (λ c. Contains (stores_in c) st)
      (sym (node ∙ row_code)) both in
      let body = map (code_at local (own_count schedule) params) (group_nodes schedule g) in
      let in_body : Contains (stores_in (joined body)) st = joined-has body (code_at local (own_count schedule) params k) st
      (in-map (code_at local (own_count schedule) params) (group_nodes schedule g) k h) in_node in
      let whole = counted-has (counter_field local schedule g) (joined body) st in_body in
      subst (Contains (group_names local profile schedule readable groups_there g))
      (own-value local schedule (system_code local profile schedule) readable.lawful o own valued)
      (in-map (λ (st : StoreSite). n.own st.field) (stores_in (group_procedure local profile schedule g).body) st whole)

module _ (reach : NodesReachAsRows) (local : LocalSystem) (profile : SystemProfile) (schedule : SystemSchedule)
    (is : IsEmitted local profile schedule) (readable : IsReadable local) where
  abbrev code : SystemTree
  code = system_code local profile schedule

  groups_there : GroupsStandAtNumbers schedule
  groups_there = groups-stand reach local profile schedule is readable

  -- at most 32 functions
  few-functions : length schedule.functions ≤ 32
  few-functions =
      let needs = reaching.needs reach local profile schedule is in
      let a = functions-many local profile schedule is.is_schedule in
      let b = ap length is.is_profile.functions in
      let c = length-map (different needs) (function_for needs) in
      let e = short-different needs in
      let f = reaching.needs-many reach local profile schedule is in
      let g = ap length (reaching.outports-are reach local profile schedule is) in
      let h = length-map (outports_of (diagram_of is.resolved).rows local.row)
      (local_row (diagram_of is.resolved) is.resolved.times.delays) in
      let few = few-ports (diagram_of is.resolved).rows local.row is_outport (is.is_resolved.tree.table.outports local.row) in
      omega (arith, a, b, c, e, f, g, h, few)

  -- where a function is
  position-is : (j : ℕ) (gs : List ℕ) → slice_get schedule.functions j ≡ Some gs → own_position code (out_name local.row (1 + j))
      ≡ length (code_groups schedule) + j
  position-is j gs at =
      ap (λ x. unwrap_or x 0) (first-passing test 0 code.procedures (length groups + j) q there
      (bytes-same q.name (out_name local.row (1 + j)) refl) before)
      ∙ (let long = length-map (code_groups schedule) (group_procedure local profile schedule) in let same : 0 + (length groups + j)
      ≡ length (code_groups schedule) + j = omega (arith, long) in same)
    where
      groups : List ProcedureTree
      groups = group_part local profile schedule readable

      functions : List ProcedureTree
      functions = function_part local profile schedule readable

      test : ProcedureTree → Bool
      test = λ (q : ProcedureTree). bytes_eq q.name (out_name local.row (1 + j))

      q : ProcedureTree
      q = function_procedure local profile schedule (1 + j, gs)

      there : slice_get code.procedures (length (group_part local profile schedule readable) + j)
          ≡ Some (function_procedure local profile schedule (1 + j, gs))
      there = at-left (group_part local profile schedule readable ++ function_part local profile schedule readable)
          (last_part local profile schedule readable) (length (group_part local profile schedule readable) + j)
          (function_procedure local profile schedule (1 + j, gs))
          (at-right (group_part local profile schedule readable) (function_part local profile schedule readable) j
          (function_procedure local profile schedule (1 + j, gs))
          (at-map (function_procedure local profile schedule) (enumerate_from 1 schedule.functions) j (1 + j, gs)
          (enum-at 1 schedule.functions j gs at)))

      group-before : (y : ProcedureTree) → Contains (group_part local profile schedule readable) y →
          bytes_eq y.name (out_name local.row (1 + j)) ≡ false
      group-before y h =
          let m = of-map (group_procedure local profile schedule) (code_groups schedule) y h in
          subst (λ (y : ProcedureTree). bytes_eq y.name (out_name local.row (1 + j)) ≡ false) m.2
          (ap₂ bytes_eq (append_assoc (system_name local.row) (codes "_g") (decimal (suc m.0)))
          (append_assoc (system_name local.row) (codes "_out") (decimal (1 + j)))
          ∙ prefixed (system_name local.row) (codes "_g" ++ decimal (suc m.0)) (codes "_out" ++ decimal (1 + j)))

      function-before : (c : ℕ) (y : ProcedureTree) → c < j → slice_get (function_part local profile schedule readable) c ≡ Some y →
          bytes_eq y.name (out_name local.row (1 + j)) ≡ false
      function-before c y low e =
          let m = map-at (function_procedure local profile schedule) (enumerate_from 1 schedule.functions) c y e in
          let inside = at-below schedule.functions j gs at in
          let few = few-functions in
          let x = below-at schedule.functions c (omega (arith, low, inside)) in
          let number : m.0 ≡ (1 + c, x.0) = same_Some m.0 (1 + c, x.0) (sym m.1 ∙ enum-at 1 schedule.functions c x.0 x.1) in
          let name : y.name ≡ out_name local.row (1 + c) = ap (λ (q : ProcedureTree). q.name) (sym m.2)
          ∙ ap (λ (e : ℕ × List ℕ). out_name local.row e.0) number in
          ap (λ x. bytes_eq x (out_name local.row (1 + j))) name
          ∙ ap₂ bytes_eq (append_assoc (system_name local.row) (codes "_out") (decimal (1 + c)))
          (append_assoc (system_name local.row) (codes "_out") (decimal (1 + j)))
          ∙ prefixed (system_name local.row) (codes "_out" ++ decimal (1 + c)) (codes "_out" ++ decimal (1 + j))
          ∙ numbered (codes "_out") (1 + c) (1 + j) (omega (arith, low, inside, few)) (omega (arith, inside, few)) ∙ ne_eqb (1 + c)
          (1 + j) (omega (arith, low))

      before : (i : ℕ) (y : ProcedureTree) → i < length (group_part local profile schedule readable) + j → slice_get code.procedures i
          ≡ Some y → bytes_eq y.name (out_name local.row (1 + j)) ≡ false
      before i y low e = elim (at-append (group_part local profile schedule readable ++ function_part local profile schedule readable)
          (last_part local profile schedule readable) i y e) [
            | inl first ↦ elim (at-append (group_part local profile schedule readable)
                (function_part local profile schedule readable) i y first) [
                  | inl group ↦ group-before y (in-at (group_part local profile schedule readable) i y group)
                  | inr function ↦ function-before function.0 y (let place = function.1 in omega (arith, place, low)) function.2
                ]
            | inr last ↦
                let place = last.1 in
                let long = length-append (group_part local profile schedule readable) (function_part local profile schedule readable) in
                let inside =
                at-below (function_part local profile schedule readable) j (function_procedure local profile schedule (1 + j, gs))
                (at-map (function_procedure local profile schedule) (enumerate_from 1 schedule.functions) j (1 + j, gs)
                (enum-at 1 schedule.functions j gs at)) in
                absurd (omega (arith, place, long, inside, low))
          ]

  -- the output is stored just where the function gives it
  stored-where : (j : ℕ) (gs : List ℕ) (f : Function) → slice_get schedule.functions j ≡ Some gs → slice_get profile.functions j
      ≡ Some f → (i : ℕ) (o : LocalRow) → slice_get (outports local) i ≡ Some o →
      list_any (bytes_eq (value_name o.row)) (flat_map (group_names local profile schedule readable groups_there) gs) ≡ has_bit f.outputs i
  stored-where j gs f called there i o at =
      let outport = outport-row local o (in-at (outports local) i o at) in
      let valued = outport-valued o.kind outport.1 in
      let k = at-in local.rows o outport.0 in
      let all_names = flat_map (group_names local profile schedule readable groups_there) gs in
      one-truth (list_any (bytes_eq (value_name o.row)) all_names) (has_bit f.outputs i)
      (λ h. let m = of-flat_map (group_names local profile schedule readable groups_there) gs (value_name o.row)
      (of-listed (value_name o.row) all_names h) in
      given-in reach local profile schedule is readable i o at k.0 k.1 j gs called f there m.0 m.1
      (stored-in local profile schedule readable groups_there o outport.0 valued k.0 k.1 m.0 m.2))
      (λ h. let g = group-in reach local profile schedule is readable i o at k.0 k.1 j gs called f there h in
      listed (value_name o.row) all_names (in-flat_map (group_names local profile schedule readable groups_there) gs g.0
      (value_name o.row) g.1
      (stores-it local profile schedule readable groups_there o outport.0 valued k.0 k.1 g.0 g.2)))

  gives-its : (j : ℕ) → 0 < j → j ≤ length profile.functions → outputs_stored local (code_slots local schedule) code
      (own_position code (out_name local.row j)) ≡ given_rows (own_header local profile) j
  gives-its zero some most = absurd (omega arith)
  gives-its (suc c) some most =
      let many = functions-many local profile schedule is.is_schedule in
      let gs = below-at schedule.functions c (omega (arith, many, most)) in
      let f = function-at reach local profile schedule is readable c gs.0 gs.1 in
      let number : 1 + c ≡ suc c = omega arith in
      let position : own_position code (out_name local.row (suc c)) ≡ length (code_groups schedule) + c =
      ap (λ j. own_position code (out_name local.row j)) (sym number) ∙ position-is c gs.0 gs.1 in
      let all_stored = local_stored local (code_slots local schedule) code in
      let function : header_function (own_header local profile) (suc c) ≡ f.0 = get-index profile.functions c idle_function f.0 f.1 in
      ap (outputs_stored local (code_slots local schedule) code) position
      ∙ given-same (λ (o : LocalRow). has_stored all_stored (length (code_groups schedule) + c) (value_name o.row))
      (has_bit f.0.outputs) 0 (outports local)
      (λ i o at. ap (list_any (bytes_eq (value_name o.row))) (function-names local profile schedule readable groups_there c gs.0 gs.1)
      ∙ stored-where c gs.0 f.0 gs.1 f.1 i o at ∙ ap (has_bit f.0.outputs) (let none : i ≡ 0 + i = omega arith in none))
      ∙ ap (λ (f : Function). map (λ (e : ℕ × ℕ). e.1)
      (filter (λ (e : ℕ × ℕ). has_bit f.outputs e.0)
      (enumerate_from 0 (map (λ (e : ℕ × FixType). e.0) (own_header local profile).outputs)))) (sym function)

pub functions_give_their_outputs : LocalsAreLawful → NodesReachAsRows → FunctionsGiveTheirOutputs
functions_give_their_outputs lawful reach local profile schedule is =
    let readable : IsReadable local = emitted-readable lawful local profile schedule is in
    all-of (λ j. outputs_stored local (code_slots local schedule) (system_code local profile schedule)
    (own_position (system_code local profile schedule) (out_name local.row j)) ≡ given_rows (own_header local profile) j)
    (range_with_len 1 (length profile.functions))
    (λ j h. let range = of-range 1 (length profile.functions) j h in let low = range.0 in let high = range.1 in
    gives-its reach local profile schedule is readable j (omega (arith, low)) (omega (arith, high)))
