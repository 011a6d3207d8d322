-- A call of the root's step takes a tick.
use Rattle.std.specs.Prelude.{◌≡◌, ℕ, suc, ◌+◌, ◌%◌, ◌<◌, ◌≤◌, Bool, true, List, [], ◌∷◌, ◌++◌, map, filter, length, slice_get, slice_index_or, find, ◌==◌, Contains, Some, None, unwrap_or, codes as text, ℤ, pos, refl}
use Rattle.std.specs.List.{AllZip, enumerate_from, range_with_len}
use Rattle.std.proofs.Common.{sym, ap, ap₂, subst, ◌∙◌, arith, true≢false}
use Rattle.std.proofs.lemmas.List.{append-nil, append_assoc}
use Rattle.std.proofs.lemmas.List.FromFn.{length-range_with_len}
use Rattle.std.proofs.lemmas.List.Sorted.{IsPermutation-refl}
use Rattle.std.proofs.lemmas.Option.{get_or_from_slice_get, same_Some}
use Rattle.base_fixed_point.specs.Conversion.{InType}
use Rattle.diagram_blocks.specs.Meaning.{has_value}
use Rattle.diagram_blocks.specs.Kinds.{is_outport, port_of}
use Rattle.diagram_meaning.specs.Run.{value_at}
use Rattle.diagram_meaning.specs.Laws.{Run, IsRunOver}
use Rattle.diagram_meaning.specs.Traces.{IsTrace}
use Rattle.modules_profile.specs.declared.LocalRow.{LocalRow}
use Rattle.modules_profile.specs.LocalSystem.{LocalSystem}
use Rattle.modules_profile.specs.Headers.{header_functions}
use Rattle.modules_profile.specs.Locals.{inports, outports}
use Rattle.modules_profile.specs.NodeFacts.{HeaderIsOfOwnRows}
use Rattle.modules_profile.proofs.lemmas.Members.{in-at, in-filter, of-filter, of-filter_map, found-in, at-map, at-below, below-at}
use Rattle.c_syntax.specs.declared.Leaf.TheVariants as leaf
use Rattle.c_syntax.specs.declared.Target.TheVariants.{Child}
use Rattle.c_syntax.specs.Tree.{read, ProgramTree, ProcedureTree, StmtTree, assign, call, stmts_of_list, type_at, field_types}
use Rattle.c_semantics.specs.Cells.{Cells, cell_value, cell_fields, number_at, fields_at}
use Rattle.c_semantics.specs.CellLaws.{cells_count}
use Rattle.c_semantics.specs.Values.{gives, reads, is_in_type, step_limit}
use Rattle.c_semantics.specs.Machine.{After, then_run, arguments, Routine, Scope, run_stmts, routine_at, program_routines, call_under}
use Rattle.c_semantics.specs.Rows.{step_run}
use Rattle.c_semantics.specs.CallLaws.{passed_in}
use Rattle.c_semantics.specs.NumberingLaws.{ProceduresStandInOrder}
use Rattle.c_semantics.proofs.lemmas.Runs.{run_stmts-append}
use Rattle.emit_shape.specs.Names.{container, out_name}
use Rattle.emit_shape.specs.Programs.{no_procedure}
use Rattle.emit_shape.specs.SystemTree.{SystemTree}
use Rattle.emit_shape.specs.Assembled.{code_at, struct_position, first_procedure, call_top, root_params, root_procedures}
use Rattle.right_relation.specs.Instances.{Act, out, update, reset, none_called, OuterTick, InstanceTick, fields_after, Offered, stores_at, OnDone, Performs}
use Rattle.right_relation.specs.Serving.{MayCome, Serves, act_values}
use Rattle.right_relation.specs.Accounts.{log_along, most_along, stored_along}
use Rattle.right_relation.specs.Budgets.{step_bound}
use Rattle.right_relation.specs.BudgetLaws.{BudgetsSumToBound}
use Rattle.right_relation.specs.LocalTicks.{IsTypedTick}
use Rattle.right_relation.specs.Relation.{IsCycleOf}
use Rattle.right_relation.specs.RunTicks.{nothing_untouched, tick_at}
use Rattle.right_relation.specs.RunTickLaws.{CycleIsOfLocals, LocalTicksAreTyped}
use Rattle.right_relation.proofs.lemmas.Containers.{container-has}
use Rattle.right_linking.specs.Parts.{Parts, program_of, diagram, Views}
use Rattle.right_linking.specs.Places.{SystemsHavePlaces, FieldsAreFound, RootHasPlaces}
use Rattle.right_linking.specs.Offers.{offered_by, offer_of, OffersAreOfHeaders}
use Rattle.right_linking.specs.Lives.{whole_tick, outer_at, IsWhole}
use Rattle.right_linking.specs.Root.{IsRootAt, TakesTick, RootsTakeTicks}
use Rattle.right_linking.proofs.lemmas.NamedFields.{outport-valued}
use Rattle.right_program_root.proofs.NumberedNames.{of-each}
use Rattle.right_program_root.proofs.ChildCalls.{IsWith, Comes, stores_at-append, on_then, on_behind, tick_calls}
use Rattle.right_program_root.proofs.PortedRows.{map-map, mapped-by}
use Rattle.right_program_root.proofs.RootCopies.{OwnPart, own_part, next_tick, next-gives, copy, stmts-append, tick-fits}
use Rattle.right_program_root.proofs.RootStruct.{fields, output-type}
use Rattle.right_program_root.proofs.RootFacts.{root-fields, top-here, now-here, outputs-here, long}
use Rattle.right_program_root.proofs.RootRoutines.{systems_count, root_scope, same-routine, runs-body, types-are, first-sum}
use Rattle.right_program_root.proofs.RootBound.{within-bound, within-limit}
use Rattle.right_program_root.proofs.TopCode.{out-names, code-is, struct-name}
use Rattle.right_program_root.proofs.TopFacts.{local, h, known, row, os, out-ports, few-outs, outs-same, out-rows, outs-many, functions-most, functions-short, places-many, output-place}
use Rattle.right_program_root.proofs.TopCalls.{act_name, IsCall, number, given, calls-are, call-below, offered-is, act-passes}
use Rattle.right_program_root.proofs.TopLogs.{all-may, calls_in_tick, whole-tick}
use Rattle.right_program_root.proofs.OutCount.{counted}

-- the laws on which a tick of the root rests
pub record Laws : Type 0 where
  pub own : HeaderIsOfOwnRows
  pub order : ProceduresStandInOrder
  pub budgets : BudgetsSumToBound
  pub cycles : CycleIsOfLocals
  pub typed : LocalTicksAreTyped
  pub systems : SystemsHavePlaces
  pub fields_places : FieldsAreFound
  pub root : RootHasPlaces
  pub offers : OffersAreOfHeaders

zip-mapped : {A B C : Type 0} (R : B → C → Type 0) (g : A → B) (xs : List A) (ys : List C) → AllZip (λ x y. R (g x) y) xs ys →
    AllZip R (map g xs) ys
zip-mapped R g [] [] all = tt
zip-mapped R g [] (y ∷ ys) all = absurd all
zip-mapped R g (x ∷ xs) [] all = absurd all
zip-mapped R g (x ∷ xs) (y ∷ ys) all = (all.0, zip-mapped R g xs ys all.1)

-- an own Outport is an own row
of-outs : (l : LocalSystem) (o : LocalRow) → Contains (outports l) o → Contains l.rows o × (is_outport o.kind ≡ true)
of-outs l o has =
    let rows = filter (λ (r : LocalRow). is_outport r.kind) l.rows in
    let made = of-filter_map (λ k. find (λ (r : LocalRow). port_of r.kind == k) rows) (range_with_len 1 (length rows)) o has in
    of-filter (λ (r : LocalRow). is_outport r.kind) l.rows o (found-in (λ (r : LocalRow). port_of r.kind == made.0) rows o made.2).0

module _ (laws : Laws) (a : Parts) (v : Views a) where
  abbrev p : ProgramTree
  p = program_of a

  -- how many functions and outputs `top` has
  abbrev n : ℕ
  n = length (header_functions (h a v))

  abbrev m : ℕ
  m = length (os a v)

  -- the field of `top`
  abbrev f : ℕ
  f = m + 1

  cycle : IsCycleOf (local a v) a.hyper
  cycle = subst (IsCycleOf (local a v)) (sym a.can.is_cycle) (laws.cycles a.model None (local a v) a.can.resolved (known a v).local)

  abbrev scope : List ℤ → Scope
  scope values = root_scope laws.order a 1 values

  type-here : (values : List ℤ) (g : ℕ) →
      type_at (scope values).types g ≡ type_at (field_types (fields (os a v) (struct_position a.codes 0) (out-ports a v) (few-outs a v))) g
  type-here values g = ap (λ ts. type_at ts g) (types-are laws.order a laws.root values 1 ∙ ap field_types (root-fields laws.root a v))

  first : length (v.at None).code.procedures + first_procedure a.codes 0 ≡ systems_count laws.order a
  first = first-sum a.codes (v.at None).code (known a v).stands

  -- the body of the step
  abbrev body : List StmtTree
  body =
      map (λ act. call 0 (number a v act) (Child f) (given a v act)) (whole_tick (range_with_len 1 n))
      ++ (map (λ (e : ℕ × ℕ). assign 0 (e.0 + 1) (read (leaf.Child f e.1))) (enumerate_from 0 (v.at None).code.outputs) ++ assign 0 0
      (next_tick a.hyper) ∷ [])

  abbrev own_copies : List ℕ → List StmtTree
  own_copies places = map (λ (e : ℕ × ℕ). assign 0 (e.0 + 1) (read (leaf.Child f e.1))) (enumerate_from 0 places)

  abbrev last_stmt : List StmtTree
  last_stmt = assign 0 0 (next_tick a.hyper) ∷ []

  body-is : (q : ProcedureTree) → slice_get (root_procedures a.codes a.root a.hyper) 1 ≡ Some q → q.body ≡ stmts_of_list body
  body-is q at =
      ap (λ (z : ProcedureTree). z.body) (sym (same_Some (slice_index_or (root_procedures a.codes a.root a.hyper) 1 no_procedure) q at))
      ∙ ap (λ (names : List (List ℕ)). stmts_of_list
      ((map (call_top a.codes (root_params a.codes a.root a.hyper) m) (names ++ (name ++ text "_update") ∷ []) ++ own_copies
      (code_at a.codes 0).outputs) ++ last_stmt)) (out-names a v (row a v) (functions-short a v))
      ∙ ap (λ (z : List ℕ). stmts_of_list
      ((map (call_top a.codes (root_params a.codes a.root a.hyper) m)
      (map (out_name None) (range_with_len 1 n) ++ (z ++ text "_update") ∷ []) ++ own_copies (code_at a.codes 0).outputs) ++ last_stmt))
      (struct-name a v (row a v) (functions-short a v))
      ∙ ap₂ (λ (ss : List StmtTree) (c : SystemTree). stmts_of_list ((ss ++ own_copies c.outputs) ++ last_stmt))
      (calls-are a v laws.systems m 1 n (omega arith) (omega arith)) (code-is a v (row a v) (functions-short a v))
      ∙ ap stmts_of_list (append_assoc (map (λ act. call 0 (number a v act) (Child f) (given a v act)) (whole_tick (range_with_len 1 n)))
      (own_copies (v.at None).code.outputs) last_stmt)
    where
      name : List ℕ
      name = (code_at a.codes 0).structure.name

  -- a procedure of `top` comes before those of the root
  early : (act : Act) → IsCall (h a v) act → number a v act < systems_count laws.order a + 1
  early act is =
      let there = call-below a v laws.systems act is in
      let sum = first in
      omega (arith, there, sum)

  -- ---- A tick of a run

  module _ (xs : List (List ℤ)) (run : Run) (t : ℕ) (trace : IsTrace (diagram a) None xs) (is_run : IsRunOver (diagram a) None xs run)
      (below : t < length xs) (i : InstanceTick)
      (serves : Serves (h a v) (offer_of a v None) a.hyper (outer_at a v None xs run None t) i)
      (whole : IsWhole a v None xs run None i t (range_with_len 1 n)) where
    abbrev values : List ℤ
    values = slice_index_or xs t []

    abbrev outer : OuterTick
    outer = outer_at a v None xs run None t

    typed : IsTypedTick (local a v) (tick_at (diagram a) None xs run None nothing_untouched t)
    typed = laws.typed a.model None None (local a v) xs run nothing_untouched t a.can.resolved tt refl
        (known a v).local is_run trace a.can.no_loop below

    abbrev most : ℕ
    most = most_along i none_called (whole_tick (range_with_len 1 n))

    in_limit : suc n + most + m + 1 ≤ step_limit
    in_limit =
        let few = functions-most a v in
        let spent = whole.in_time in
        let bound = within-bound a v laws.budgets in
        let limit = within-limit a v in
        let same = outs-many a v in
        omega (arith, few, spent, bound, limit, same)

    in_bound : suc n + most + m + 1 ≤ step_bound (diagram a).rows
    in_bound =
        let few = functions-most a v in
        let spent = whole.in_time in
        let bound = within-bound a v laws.budgets in
        let same = outs-many a v in
        omega (arith, few, spent, bound, same)

    is-call : (called : ℕ → Bool) (act : Act) → MayCome (h a v) outer called act → IsCall (h a v) act
    is-call called (out j) may = (may.1, may.2)
    is-call called update may = tt
    is-call called reset may = absurd (true≢false (sym may.0))

    inputs-typed : AllZip InType (h a v).inputs outer.inputs
    inputs-typed = zip-mapped InType (λ (r : LocalRow). r.out) (inports (local a v)) outer.inputs typed.inputs

    same-as : (act : Act) → IsCall (h a v) act → routine_at (scope values).routines (number a v act) ≡ (offered_by p (act_name act)).routine
    same-as act is = sym (same-routine laws.order a 1 (number a v act) (early act is))

    passes : (called : ℕ → Bool) (act : Act) (cells : Cells) (steps : ℕ) → MayCome (h a v) outer called act →
        number_at cells 0 ≡ pos (t % a.hyper) →
        passed_in (scope values) cells 0 steps (number a v act) (given a v act) ≡ gives (act_values (h a v) a.hyper outer act) steps
    passes called act cells steps may now =
        let is = is-call called act may in
        ap (λ (r : Routine). arguments (scope values).functions (reads values cells) 0 r.params (given a v act) steps) (same-as act is)
        ∙ act-passes a v laws.own outer values (t % a.hyper) (tick-fits t a.hyper cycle.some cycle.short) refl refl inputs-typed
        (laws.offers a v 0 None refl) a.hyper refl (scope values).functions cells steps act is now

    performs : (called : ℕ → Bool) (act : Act) → MayCome (h a v) outer called act →
        Performs (routine_at (scope values).routines (number a v act)) (act_values (h a v) a.hyper outer act) (i.standing called)
        (fields_after i called act) (i.most called act) (i.log called act) (i.stored called act)
    performs called act may =
        let is = is-call called act may in
        subst (λ r. Performs r (act_values (h a v) a.hyper outer act) (i.standing called) (fields_after i called act) (i.most called act)
        (i.log called act) (i.stored called act))
        (ap (λ (o : Offered). o.routine) (offered-is a v act is) ∙ sym (same-as act is)) (serves.acts called act may)

    -- ---- The calls, and then the rest

    -- what is copied is an output's value
    copied-value : (j q : ℕ) → slice_get (v.at None).code.outputs j ≡ Some q →
        (o : LocalRow) × (slice_get (os a v) j ≡ Some o) × (number_at i.after q ≡ value_at (slice_index_or run.values t []) o.row)
    copied-value j q at =
        let place = output-place a v laws.fields_places j q at in
        let o = place.0 in
        let listed : slice_get (outports (local a v)) j ≡ Some o = ap (λ rows. slice_get rows j) (outs-same a v) ∙ place.1 in
        let less : j < length (h a v).outputs =
        at-below (h a v).outputs j (o.row, o.out) (at-map (λ (z : LocalRow). (z.row, z.out)) (outports (local a v)) j o listed) in (
          o,
          place.1,
          ap (number_at i.after) (sym place.2) ∙ serves.stay j less
              ∙ get_or_from_slice_get outer.outputs j (value_at (slice_index_or run.values t []) o.row) (pos 0)
              (at-map (λ (z : LocalRow). value_at (slice_index_or run.values t []) z.row) (outports (local a v)) j o listed),
        )

    value-fits : (j : ℕ) (o : LocalRow) → slice_get (os a v) j ≡ Some o →
        is_in_type (container o.out) (value_at (slice_index_or run.values t []) o.row) ≡ true
    value-fits j o at =
        let listed : Contains (outports (local a v)) o = subst (λ rows. Contains rows o) (sym (outs-same a v)) (in-at (os a v) j o at) in
        let own = of-outs (local a v) o listed in
        container-has o.out (value_at (slice_index_or run.values t []) o.row)
        (of-each (λ (r : LocalRow). InType r.out (value_at (slice_index_or run.values t []) r.row))
        (filter (λ (r : LocalRow). has_value r.kind) (local a v).rows) o typed.values
        (in-filter (λ (r : LocalRow). has_value r.kind) (local a v).rows o own.0 (outport-valued o.kind own.1)))

    -- the fields of the root in this tick
    module _ (cells : Cells) (at : IsRootAt p a.hyper t (i.standing none_called) cells) where
      now : number_at cells 0 ≡ pos (t % a.hyper)
      now = ap (number_at cells) (sym (now-here laws.root a v)) ∙ at.now

      inner : fields_at cells f ≡ i.standing none_called
      inner = ap (fields_at cells) (sym (top-here laws.root a v)) ∙ at.inner

      wide : cells_count cells ≡ m + 2
      wide = at.long ∙ (long laws.root a v)

      keeps : (before inside after : Cells) → IsWith f before inside after → number_at before 0 ≡ pos (t % a.hyper) →
          number_at after 0 ≡ pos (t % a.hyper)
      keeps before inside after one same = ap cell_value (one.others 0 (λ e. omega (arith, e))) ∙ same

      called-ones : OnDone (run_stmts (scope values)
          (stmts_of_list (map (λ act. call 0 (number a v act) (Child f) (given a v act)) (whole_tick (range_with_len 1 n)))) cells 0)
          (Comes f cells i.after (0 + (suc (length (range_with_len 1 n)) + most))
          (log_along i none_called (whole_tick (range_with_len 1 n))) (stored_along i none_called (whole_tick (range_with_len 1 n))))
      called-ones =
          let count = length-range_with_len 1 n in
          let room = in_limit in
          let size = wide in
          tick_calls (scope values) f i (number a v) (given a v) (act_values (h a v) a.hyper outer) (MayCome (h a v) outer)
          (λ c. number_at c 0 ≡ pos (t % a.hyper)) keeps passes performs
          none_called (range_with_len 1 n) cells 0
          (all-may (h a v) outer refl 1 n (omega arith) (omega arith) none_called (λ j some less. absurd (omega (arith, some, less)))
          (λ j more. refl))
          (omega (arith, size)) inner now (omega (arith, count, room))

      rest-part : (b : After) → Comes f cells i.after (0 + (suc (length (range_with_len 1 n)) + most))
          (log_along i none_called (whole_tick (range_with_len 1 n))) (stored_along i none_called (whole_tick (range_with_len 1 n))) b →
          OnDone (run_stmts (scope values)
          (stmts_of_list (map (copy (scope values) f) (enumerate_from 0 (v.at None).code.outputs) ++ assign 0 0 (next_tick a.hyper) ∷ []))
          b.cells b.steps)
          (OwnPart f (v.at None).code.outputs (pos (suc t % a.hyper)) b.cells (b.steps + length (v.at None).code.outputs + 1))
      rest-part b comes =
          let count = length-range_with_len 1 n in
          let room = in_limit in
          let size = wide in
          let same = comes.stands.count in
          let late = comes.in_time in
          let many = places-many a v in
          own_part (scope values) f (v.at None).code.outputs (next_tick a.hyper) (pos (suc t % a.hyper)) b.cells b.steps
          (omega (arith, many)) (omega (arith, size, same))
          (λ j q listed.
          let is = copied-value j q listed in
          ap₂ is_in_type (type-here values (j + 1) ∙ output-type (os a v) (struct_position a.codes 0) (out-ports a v)
          (few-outs a v) j is.0 is.1)
          (ap (λ inside. number_at inside q) comes.stands.inside ∙ is.2)
          ∙ value-fits j is.0 is.1)
          (λ x begun. next-gives (scope values) x t a.hyper cycle.some cycle.short (begun ∙ keeps cells i.after b.cells comes.stands now))
          (ap (λ ty. is_in_type ty (pos (suc t % a.hyper))) (type-here values 0) ∙ tick-fits (suc t) a.hyper cycle.some cycle.short)
          (omega (arith, count, room, late, many))

      -- both make a tick
      taken : (b c : After) → Comes f cells i.after (0 + (suc (length (range_with_len 1 n)) + most))
          (log_along i none_called (whole_tick (range_with_len 1 n))) (stored_along i none_called (whole_tick (range_with_len 1 n))) b →
          OwnPart f (v.at None).code.outputs (pos (suc t % a.hyper)) b.cells (b.steps + length (v.at None).code.outputs + 1) c →
          TakesTick a xs run t i.after (record { cells = c.cells; steps = c.steps; log = b.log ++ c.log; stores = b.stores ++ c.stores })
      taken b c comes own = record {
        stands = record {
          now = ap (number_at c.cells) (now-here laws.root a v) ∙ ap cell_value own.tick;
          inner =
              let many = places-many a v in
              ap (fields_at c.cells) (top-here laws.root a v) ∙ ap cell_fields (own.others f (omega (arith, many))) ∙ comes.stands.inside;
          long = own.count ∙ comes.stands.count ∙ at.long;
        };
        outputs =
            ap (map (number_at c.cells)) (outputs-here laws.root a v)
            ∙ mapped-by (number_at c.cells) (λ (o : LocalRow). value_at (slice_index_or run.values t []) o.row) 1 (os a v) output-value
            ∙ sym (map-map (value_at (slice_index_or run.values t [])) (λ (o : LocalRow). o.row) (os a v))
            ∙ ap (map (value_at (slice_index_or run.values t []))) (out-rows a v);
        in_bound =
            let count = length-range_with_len 1 n in
            let bound = in_bound in
            let late = comes.in_time in
            let end = own.quiet.in_time in
            let many = places-many a v in
            omega (arith, count, bound, late, end, many);
        calls = calls_in_tick a v xs run t i (range_with_len 1 n) whole (b.log ++ c.log) (b.stores ++ c.stores)
            (ap (λ l. b.log ++ l) own.quiet.calls ∙ append-nil b.log ∙ comes.calls
            ∙ ap (λ g. map (call_under g) (log_along i none_called (whole_tick (range_with_len 1 n)))) (sym (top-here laws.root a v)))
            (λ path field.
            let one = comes.stores path field in
            let two = own.quiet.stores path field in
            let sum = stores_at-append (f ∷ path) field b.stores c.stores in
            subst (λ g. stores_at (g ∷ path) field (b.stores ++ c.stores) ≤ stored_along i none_called
            (whole_tick (range_with_len 1 n)) path field) (sym (top-here laws.root a v)) (omega (arith, one, two, sum)))
            (whole-tick p (h a v) (row a v) (counted a v (row a v) (functions-short a v) (first_procedure a.codes 0) first) a.hyper outer
            i serves refl);
      }
        where
          output-value : (j : ℕ) (o : LocalRow) → slice_get (os a v) j ≡ Some o →
              number_at c.cells (1 + j) ≡ value_at (slice_index_or run.values t []) o.row
          output-value j o there =
              let many = places-many a v in
              let less = at-below (os a v) j o there in
              let q = below-at (v.at None).code.outputs j (omega (arith, many, less)) in
              let is = copied-value j q.0 q.1 in
              let same : is.0 ≡ o = same_Some is.0 o (sym is.1 ∙ there) in
              ap cell_value (own.copied j q.0 q.1) ∙ ap (λ inside. number_at inside q.0) comes.stands.inside ∙ is.2
              ∙ ap (λ (z : LocalRow). value_at (slice_index_or run.values t []) z.row) same

      pub step-taken : OnDone (step_run p values cells) (TakesTick a xs run t i.after)
      step-taken =
          subst (λ o. OnDone o (TakesTick a xs run t i.after)) (sym same)
          (on_then (run_stmts (scope values) (stmts_of_list calls) cells 0) (run_stmts (scope values) (stmts_of_list own_part_of)) _
          (TakesTick a xs run t i.after) called-ones
          (λ b comes. on_behind b.log b.stores (run_stmts (scope values) (stmts_of_list own_part_of) b.cells b.steps) _
          (TakesTick a xs run t i.after) (rest-part b comes) (λ c own. taken b c comes own)))
        where
          calls : List StmtTree
          calls = map (λ act. call 0 (number a v act) (Child f) (given a v act)) (whole_tick (range_with_len 1 n))

          own_part_of : List StmtTree
          own_part_of = map (copy (scope values) f) (enumerate_from 0 (v.at None).code.outputs) ++ assign 0 0 (next_tick a.hyper) ∷ []

          step : ProcedureTree
          step = slice_index_or (root_procedures a.codes a.root a.hyper) 1 no_procedure

          same : step_run p values cells ≡ then_run (run_stmts (scope values) (stmts_of_list calls) cells 0)
              (run_stmts (scope values) (stmts_of_list own_part_of))
          same =
              ap (λ o. (routine_at (program_routines p) (unwrap_or o 0)).run values cells 0) (laws.root a).step
              ∙ runs-body laws.order a 1 step refl refl refl values cells 0
              ∙ ap (λ ss. run_stmts (scope values) ss cells 0) (body-is step refl ∙ stmts-append calls own_part_of)
              ∙ run_stmts-append (scope values) (stmts_of_list calls) (stmts_of_list own_part_of) cells 0

pub roots_take_ticks : Laws → RootsTakeTicks
roots_take_ticks laws a v renewed xs run before trace is_run lives t cells below at =
    step-taken laws a v xs run t trace is_run below (lives.at t) (lives.serves t below)
    ((lives.accounts t below).whole refl (range_with_len 1 (length (header_functions (h a v))))
    (IsPermutation-refl (range_with_len 1 (length (header_functions (h a v)))))) cells at
