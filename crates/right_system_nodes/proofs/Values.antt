-- The code of a row with a value makes it that of the tick.
use Rattle.std.specs.Prelude.{◌≡◌, ℕ, ◌+◌, ◌-◌, ◌<◌, ◌≤◌, Bool, true, false, not, ◌&&◌, ◌==◌, nat_lt, if◌then◌else◌, List, [], ◌∷◌, ◌++◌, map, slice_get, Contains, IsTrue, Option, Some, None, ℤ, pos, refl}
use Rattle.std.specs.List.{AllByRecursion}
use Rattle.std.specs.Option.{option_map_or}
use Rattle.std.proofs.Common.{sym, ap, subst, ◌∙◌, arith, true≢false}
use Rattle.std.proofs.lemmas.Bool.{eq-eqb, eqb-true}
use Rattle.std.proofs.lemmas.Bool.Decides.{nat_tests}
use Rattle.std.proofs.lemmas.Option.{none-some}
use Rattle.base_fixed_point.specs.Conversion.{InType}
use Rattle.diagram_blocks.specs.Evaluation.{IsEvaluable}
use Rattle.diagram_blocks.specs.Meaning.{has_value, delay_length}
use Rattle.diagram_blocks.specs.Value.{rhs, feeds_through, input}
use Rattle.base_core.specs.Numbers.{int_at}
use Rattle.diagram_meaning.specs.SampleTimes.{hit}
use Rattle.diagram_meaning.specs.Rows.{is_triggered}
use Rattle.diagram_blocks.specs.Kinds.{is_inport, port_of, is_delay, is_reset_outport}
use Rattle.diagram_meaning.specs.Run.{first_of}
use Rattle.modules_profile.specs.declared.local.LocalRow.{LocalRow}
use Rattle.modules_profile.specs.declared.nodes.Node.TheVariants.{Row}
use Rattle.modules_profile.specs.LocalSystem.{LocalSystem}
use Rattle.modules_profile.specs.LawfulLocals.{IsLocal}
use Rattle.modules_profile.specs.LocalNodes.{used_inputs, node_needs}
use Rattle.modules_profile.specs.Locals.{row_of}
use Rattle.modules_profile.proofs.lemmas.Members.{at-in, at-map, found-in, finds}
use Rattle.modules_profile.proofs.lemmas.OwnRows.{differ-at}
use Rattle.modules_schedule.specs.SystemSchedule.{SystemSchedule}
use Rattle.c_syntax.specs.declared.code.Leaf.TheVariants.{Own}
use Rattle.c_syntax.specs.declared.fault.Why.TheVariants.{Steps}
use Rattle.c_syntax.specs.Tree.{ExprTree, read, CondTree, no_stmts, stmts_append, ParamTree, PureTree, field_types}
use Rattle.c_semantics.specs.Cells.{Cells, number, set_cell, number_at, cell_at, cell_value}
use Rattle.c_semantics.specs.Values.{gives, eval, eval_cond, is_in_type, Function, functions_of, Reads, reads, step_limit, stuck_at}
use Rattle.c_semantics.specs.Machine.{Outcome, stuck, behind, then_run, on_answer, Routine, Scope, run_stmts}
use Rattle.c_semantics.proofs.lemmas.Runs.{run_stmts-append}
use Rattle.emit_prelude.specs.Rules.{IsPrelude}
use Rattle.emit_shape.specs.Names.{container, input_name}
use Rattle.emit_shape.specs.Relocation.{Relocation, moved_expr, moved_stmts}
use Rattle.emit_shape.specs.RowStarts.{row_start}
use Rattle.emit_shape.specs.Slots.{Slot, value, trigger, slot_field}
use Rattle.emit_row_code.specs.KnownTypes.{IsOfType}
use Rattle.emit_row_code.specs.Laws.{RowsAreComputed, ReturnsAreFew}
use Rattle.emit_row_code.specs.RingCode.{oldest_code}
use Rattle.emit_row_code.specs.RowCode.{rhs_code}
use Rattle.emit_row_code.specs.StatementCode.{store_code, value_statements, value_reset_statements}
use Rattle.emit_row_code.specs.StatementLaws.{own_store, leaves, test_steps, TestsTo, Takes, OldestIsRead, ValuesAreStored, ValuesAreReset}
use Rattle.emit_row_code.specs.TestCode.{disabled_by}
use Rattle.emit_row_code.specs.TestLaws.{ActivityIsTested, HitsAreTested, BothAreTested}
use Rattle.right_relation.specs.LocalTicks.{LocalTick, IsLocalTick, IsTypedTick, is_active, is_disabled, row_runs, row_inputs, value_of}
use Rattle.right_relation.specs.Instances.{InstanceTick, Offer, OnDone, Leaves}
use Rattle.right_relation.specs.NodeCode.{value_steps}
use Rattle.right_relation.specs.NodeStatements.{HoldsWire, IsReady, HoldsMemory, Gives, GivesValue, stored_once}
use Rattle.right_relation.specs.Relation.{children_routines, behind_offers, IsCycleOf}
use Rattle.diagram_activity.specs.Activity.{memory_number}
use Rattle.right_relation.proofs.lemmas.Containers.{container-has}
use Rattle.emit_system_spec.specs.Fields.{value_field, memory_field, trigger_field, code_slots}
use Rattle.emit_system_spec.specs.Groups.{own_count}
use Rattle.emit_system_spec.specs.NodeCode.{ring_fields, memory_read, control_leaves, runs_test, input_leaves, output_reset, value_store, value_code}
use Rattle.emit_system_spec.specs.Places.{param_leaf}
use Rattle.emit_system_spec.specs.Sources.{wire_leaf, wire_types}
use Rattle.right_system_nodes.specs.PieceLaws.{HasParam, HasParams}
use Rattle.right_system_nodes.proofs.Arguments.{input-reads}
use Rattle.right_system_nodes.proofs.Computed.{Computes, computes, no-line}
use Rattle.right_system_nodes.proofs.Facts.{IsSettled}
use Rattle.right_system_nodes.proofs.lemmas.SlotLists.{each-member, each-kept}
use Rattle.right_system_nodes.proofs.Moved.{moved_test, expr-moved, test-moved, append-moved, value-moved, value_reset-moved}
use Rattle.right_system_nodes.proofs.lemmas.SlotPlaces.{stands, value-at, trigger-at}
use Rattle.right_system_nodes.proofs.Sources.{wires-read, inputs-typed}
use Rattle.right_system_nodes.proofs.Stores.{set-same, other-at, slot-has, is-number, slot-type, stores-nothing, stores-once, leaves-done}
use Rattle.right_system_nodes.proofs.Tests.{disabled-rests}
use Rattle.right_system_nodes.proofs.Ticks.{given, tests, runs-is, memory-reads}

-- the row of a number
pub found-row : (local : LocalSystem) → IsLocal local → (r : LocalRow) → Contains local.rows r → row_of local r.row ≡ Some r
found-row local lawful r own =
    let number : LocalRow → ℕ = λ (r : LocalRow). r.row in
    let f = finds (λ (q : LocalRow). q.row == r.row) local.rows r own (eq-eqb r.row r.row refl) in
    let q = found-in (λ (q : LocalRow). q.row == r.row) local.rows f.0 f.1 in
    let a = at-in local.rows f.0 q.0 in
    let b = at-in local.rows r own in
    let same : a.0 ≡ b.0 = differ-at (map number local.rows) a.0 b.0 r.row lawful.rows_differ
    (at-map number local.rows a.0 f.0 a.1 ∙ ap Some (eqb-true f.0.row r.row q.1)) (at-map number local.rows b.0 r b.1) in
    f.1 ∙ sym a.1 ∙ ap (slice_get local.rows) same ∙ b.1

-- what a tick says of a value
reset-value : (has reset runs : Bool) (start computed before : ℤ) → has ≡ true → reset ≡ true →
    (if not has then pos 0 else (if reset then start else (if runs then computed else before))) ≡ start
reset-value has reset runs start computed before h r = λ i. if not (h i) then pos 0
    else (if r i then start else (if runs then computed else before))

run-value : (has reset runs : Bool) (start computed before : ℤ) → has ≡ true → reset ≡ false → runs ≡ true →
    (if not has then pos 0 else (if reset then start else (if runs then computed else before))) ≡ computed
run-value has reset runs start computed before h r q = λ i. if not (h i) then pos 0
    else (if r i then start else (if q i then computed else before))

kept-value : (has reset runs : Bool) (start computed before : ℤ) → has ≡ true → reset ≡ false → runs ≡ false →
    (if not has then pos 0 else (if reset then start else (if runs then computed else before))) ≡ before
kept-value has reset runs start computed before h r q = λ i. if not (h i) then pos 0
    else (if r i then start else (if q i then computed else before))

-- a row that rests stores nothing, in the step of its test
still-runs : (scope : Scope) (cells : Cells) (f : ℕ) (runs : Option CondTree) (e : ExprTree) (steps : ℕ) →
    TestsTo scope cells true runs false →
    steps < step_limit → run_stmts scope (value_statements f runs e) cells steps ≡ leaves cells (steps + test_steps runs) []
still-runs scope cells f None e steps tests room = absurd (true≢false (sym tests))
still-runs scope cells f (Some test) e steps tests room =
    let there : nat_lt steps step_limit ≡ true = grind (arith, nat_tests) in
    let go : Bool → ℕ → Outcome = λ holds. (if holds then run_stmts scope (store_code f e) else run_stmts scope no_stmts) cells in
    ap (λ b. then_run (if b then on_answer (eval_cond scope.functions (reads scope.values cells) 0 test (steps + 1)) cells go
    else stuck (stuck_at 0 Steps) cells)
    (run_stmts scope no_stmts)) there
    ∙ ap (λ a. then_run (on_answer a cells go) (run_stmts scope no_stmts)) (tests (steps + 1))

-- the laws of rows, tests and statements
pub record RowLaws : Type 0 where
  pub computed : RowsAreComputed
  pub returns : ReturnsAreFew
  pub activity : ActivityIsTested
  pub hits : HitsAreTested
  pub both : BothAreTested
  pub oldest : OldestIsRead
  pub stored : ValuesAreStored
  pub reset : ValuesAreReset

module _ (laws : RowLaws) (local : LocalSystem) (schedule : SystemSchedule) (params : List ParamTree) (settled : IsSettled local)
    (has : HasParams local params)
    (ps : List PureTree) (prelude : IsPrelude ps) (cycle : ℕ) (is_cycle : IsCycleOf local cycle) (offers : List Offer)
    (m : LocalTick) (tick : IsLocalTick local m)
    (typed : IsTypedTick local m) (children : List InstanceTick) (own_routines : List Routine) where
  abbrev slots : List Slot
  slots = code_slots local schedule

  abbrev away : Relocation
  away = behind_offers slots offers (own_count schedule)

  abbrev functions : List Function
  functions = functions_of [] ps

  abbrev scope : List ℤ → Scope
  scope values = record {
    functions = functions;
    routines = children_routines offers ++ own_routines;
    types =
        field_types (map slot_field slots);
    values = values;
  }

  lawful : IsLocal local
  lawful = settled.sound.lawful

  module _ (r : LocalRow) (own : Contains local.rows r) (has_val : has_value r.kind ≡ true)
      (takes : is_inport r.kind ≡ true → HasParam params (input_name (port_of r.kind))) where
    abbrev f : ℕ
    f = value_field local r.row

    at : slice_get slots f ≡ Some (value r)
    at = value-at local schedule lawful r own has_val

    abbrev start : ℤ
    start = row_start local r

    abbrev e : ExprTree
    e = rhs_code r.op (input_leaves local params r) (wire_types local r.inputs) (memory_read local r)

    abbrev memory : ℤ
    memory = first_of (m.tick.memory r.row)

    abbrev v : ℤ
    v = rhs r.op (row_inputs local m r) memory

    is_value : m.tick.value r.row ≡ value_of local m r
    is_value = each-member (λ (q : LocalRow). m.tick.value q.row ≡ value_of local m q) local.rows r tick.values own

    in_type : InType r.out (m.tick.value r.row)
    in_type = each-kept (λ (r : LocalRow). InType r.out (m.tick.value r.row))
        (λ (r : LocalRow). has_value r.kind) local.rows r typed.values own has_val

    -- its field takes its value
    field-takes : (values : List ℤ) (w : ℤ) → m.tick.value r.row ≡ w → Takes (scope values) f w
    field-takes values w is =
        ap (λ t. is_in_type t w) (slot-type slots f (value r) at)
        ∙ subst (λ x. is_in_type (container r.out) x ≡ true) is (container-has r.out (m.tick.value r.row) in_type)

    module _ (values : List ℤ) (cells : Cells) (ready : IsReady local slots offers children cycle m params scope values cells
        (node_needs local (Row r.row)))
        (before_is : number_at cells f ≡ m.tick.before r.row)
        (holds : HoldsMemory local slots offers children cycle m params scope cells r) where
      abbrev there : Reads
      there = given local schedule params settled has functions cycle is_cycle offers m typed children scope values cells ready.arguments

      remembers : is_triggered local.control ≡ true → number_at cells (trigger_field local) ≡ memory_number m.tick.trigger
      remembers is = ready.remembers (trigger_field local) (trigger-at local schedule lawful is)

      needs : node_needs local (Row r.row) ≡ used_inputs r
      needs = ap (λ o. option_map_or used_inputs o []) (found-row local lawful r own)

      through-needs : feeds_through r.op ≡ true → node_needs local (Row r.row) ≡ r.inputs
      through-needs through = needs ∙ ap (λ t. if t then r.inputs else []) through

      -- ---- Inputs

      inputs-read : is_active local m ≡ true → feeds_through r.op ≡ true →
          map there.leaf (input_leaves local params r) ≡ row_inputs local m r
      inputs-read active through = by (is_inport r.kind) refl
        where
          by : (t : Bool) → is_inport r.kind ≡ t →
              map there.leaf (if t then param_leaf params (input_name (port_of r.kind)) ∷ [] else map (wire_leaf local) r.inputs)
              ≡ (if t then int_at m.tick.inputs (port_of r.kind - 1) ∷ [] else map m.tick.value r.inputs)
          by true is =
              let port = settled.ported r own is in
              let few = settled.few in
              let high = port.1 in
              ap (λ w. w ∷ []) (input-reads local slots offers children cycle m params scope typed values cells ready.arguments
              (port_of r.kind) port.0 (omega (arith, few, high)) few (takes is))
          by false is =
              wires-read local schedule lawful offers children cycle m params scope values cells r.inputs
              (λ c h. settled.wired r c own h)
              (subst (AllByRecursion (HoldsWire local slots offers children cycle m params scope cells)) (through-needs through)
              (ready.needed active))

      types-known : (i : ℕ) → IsOfType (wire_types local r.inputs) (row_inputs local m r) i
      types-known i t = by (is_inport r.kind) refl
        where
          nothing : r.inputs ≡ [] → slice_get (wire_types local r.inputs) i ≡ Some t → ⊥
          nothing none there = let wrong : None ≡ Some t = sym (ap (λ ws. slice_get (wire_types local ws) i) none) ∙ there in
              none-some t wrong

          by : (b : Bool) → is_inport r.kind ≡ b → slice_get (wire_types local r.inputs) i ≡ Some t →
              InType t (input (if b then int_at m.tick.inputs (port_of r.kind - 1) ∷ [] else map m.tick.value r.inputs) i)
          by true is known = absurd (nothing (settled.no_wires r own is) known)
          by false is known = inputs-typed local m typed r.inputs (λ c h. settled.wired r c own h) i t known

      -- ---- What it computes

      computes-value : row_runs local m r ≡ true → Computes laws.computed laws.returns ps prelude there e v
      computes-value runs =
          computes laws.computed laws.returns ps prelude there (input_leaves local params r) (wire_types local r.inputs)
          (memory_read local r) memory (row_inputs local m r) types-known r.op
          (inputs-read (first-of-both (is_active local m) _ runs))
          (λ through. (
            number_at cells (memory_field local r.row),
            λ count. ap (λ t. eval functions there 0
                (if t then oldest_code (ring_fields local r.row) (delay_length r.op) start
                else read (Own (memory_field local r.row))) count)
                (no-line r.op through),
          ))
          (λ delay. memory-reads local schedule params settled has functions cycle is_cycle offers m typed
          children scope values cells ready.arguments tick r own holds laws.oldest delay)
          (each-kept (λ (r : LocalRow). IsTrue (row_runs local m r) →
          IsEvaluable r.op (row_inputs local m r) (first_of (m.tick.memory r.row)))
          (λ (r : LocalRow). has_value r.kind) local.rows r typed.evaluable own has_val runs)
        where
          first-of-both : (a b : Bool) → (a && b) ≡ true → a ≡ true
          first-of-both true b is = refl
          first-of-both false b is = absurd (true≢false (sym is))

      -- ---- The two parts of its code

      -- what is stored where the output is reset
      record IsReset (reset : Bool) (steps : ℕ) : Type 0 where
        pub end : ℕ
        pub left : run_stmts (scope values) (moved_stmts away (output_reset local params r)) cells steps
            ≡ leaves (if reset then set_cell cells f (number start) else cells) end (if reset then f ∷ [] else [])
        pub in_time : end ≤ (if reset then steps + 2 else steps + 1)
        pub untested : is_delay r.op ≡ true → end ≡ steps

      -- a reset takes a test more, where the code takes five steps
      at-least : 4 ≤ value_steps r.op
      at-least = by (is_delay r.op)
        where
          by : (b : Bool) → 4 ≤ (if b then 4 else 5)
          by true = omega arith
          by false = omega arith

      room-behind : (end steps : ℕ) → end ≤ steps + 1 → (is_delay r.op ≡ true → end ≡ steps) → end + 4 ≤ steps + value_steps r.op
      room-behind end steps early same = by (is_delay r.op) same
        where
          by : (b : Bool) → (b ≡ true → end ≡ steps) → end + 4 ≤ steps + (if b then 4 else 5)
          by true same = let e = same refl in omega (arith, e)
          by false same = omega (arith, early)

      few : (test : Option CondTree) → test_steps test ≤ 1
      few None = omega arith
      few (Some test) = omega arith

      resets : (steps : ℕ) → steps + 4 ≤ step_limit → (t d : Bool) → is_reset_outport r.kind ≡ t → is_disabled local m ≡ d →
          IsReset (t && d) steps
      resets steps room false d not_reset is = record {
        end = steps;
        left = ap (λ t. run_stmts (scope values) (moved_stmts away
            (if t then value_reset_statements f (disabled_by local.control (control_leaves local params)) start
            else no_stmts)) cells steps) not_reset;
        in_time = omega arith;
        untested = λ delay. refl;
      }
      resets steps room true d is_reset is = by d is
        where
          test : Option CondTree
          test = disabled_by local.control (control_leaves local params)

          code-is : moved_stmts away (output_reset local params r) ≡ value_reset_statements f (moved_test away test) start
          code-is = ap (λ t. moved_stmts away (if t then value_reset_statements f test start else no_stmts)) is_reset
              ∙ value_reset-moved away f test start

          result : run_stmts (scope values) (moved_stmts away (output_reset local params r)) cells steps
              ≡ (if is_disabled local m then leaves (set_cell cells f (number start))
              (steps + test_steps (moved_test away test) + 1) (f ∷ [])
              else leaves cells (steps + test_steps (moved_test away test)) [])
          result =
              ap (λ code. run_stmts (scope values) code cells steps) code-is
              ∙ laws.reset (scope values) cells f (moved_test away test) (is_disabled local m) start steps
              (test-moved away functions (reads values cells) 0 false test (is_disabled local m)
              (tests local schedule params settled has functions cycle is_cycle offers m typed
              children scope values cells ready.arguments ready.callable remembers laws.activity).disabled)
              (λ off. field-takes values start (is_value
              ∙ reset-value (has_value r.kind) (is_reset_outport r.kind && is_disabled local m) (row_runs local m r) start v
              (m.tick.before r.row) has_val (λ i. is_reset i && off i)))
              (settled.starts r own) (omega (arith, room))

          no-delay : {n : ℕ} → is_delay r.op ≡ true → n ≡ steps
          no-delay delay = absurd (true≢false (sym is_reset ∙ (settled.delays r own delay).1))

          by : (d : Bool) → is_disabled local m ≡ d → IsReset (true && d) steps
          by true off = record {
            end = steps + test_steps (moved_test away test) + 1;
            left = result ∙ ap (λ b. if b then leaves (set_cell cells f (number start))
                (steps + test_steps (moved_test away test) + 1) (f ∷ [])
                else leaves cells (steps + test_steps (moved_test away test)) []) off;
            in_time = let one = few (moved_test away test) in omega (arith, one);
            untested = λ delay. no-delay delay;
          }
          by false on = record {
            end = steps + test_steps (moved_test away test);
            left = result ∙ ap (λ b. if b then leaves (set_cell cells f (number start))
                (steps + test_steps (moved_test away test) + 1) (f ∷ [])
                else leaves cells (steps + test_steps (moved_test away test)) []) on;
            in_time = let one = few (moved_test away test) in omega (arith, one);
            untested = λ delay. no-delay delay;
          }

      runs-now : (now : Cells) → (is_triggered local.control ≡ true →
          number_at now (trigger_field local) ≡ memory_number m.tick.trigger) →
          TestsTo (scope values) now true (moved_test away (runs_test local params r)) (row_runs local m r)
      runs-now now remembers_now =
          test-moved away functions (reads values now) 0 true (runs_test local params r) (row_runs local m r)
          (runs-is local schedule params settled has functions cycle is_cycle offers m typed
          children scope values now ready.arguments ready.callable remembers_now
          laws.activity laws.hits laws.both r own)

      -- where it runs, what it computes is stored
      store-result : (now : Cells) → (is_triggered local.control ≡ true →
          number_at now (trigger_field local) ≡ memory_number m.tick.trigger) →
          (w : ℤ) (calls steps : ℕ) →
          (row_runs local m r ≡ true → (count : ℕ) → count + 2 ≤ step_limit →
          eval functions (reads values now) 0 (moved_expr away e) count ≡ gives w (count + calls)) →
          (row_runs local m r ≡ true → Takes (scope values) f w) → steps + 4 ≤ step_limit →
          run_stmts (scope values) (moved_stmts away (value_store local params r)) now steps
          ≡ (if row_runs local m r then leaves (set_cell now f (number w))
          (steps + test_steps (moved_test away (runs_test local params r)) + 1 + calls) (f ∷ [])
          else leaves now (steps + test_steps (moved_test away (runs_test local params r))) [])
      store-result now remembers_now w calls steps comes fits room =
          ap (λ code. run_stmts (scope values) code now steps) (value-moved away f (runs_test local params r) e)
          ∙ laws.stored (scope values) now f (moved_test away (runs_test local params r)) (row_runs local m r)
          (moved_expr away e) w calls steps
          (runs-now now remembers_now) comes fits room

      -- ---- Both

      abbrev reset : Bool
      reset = is_reset_outport r.kind && is_disabled local m

      abbrev runs_steps : ℕ
      runs_steps = test_steps (moved_test away (runs_test local params r))

      abbrev Done : ℕ → Type 0
      Done steps = OnDone (run_stmts (scope values) (moved_stmts away (value_code local params r)) cells steps)
          (Leaves (set_cell cells f (number (m.tick.value r.row))) (steps + value_steps r.op) [] (stored_once f))

      in-order : (steps : ℕ) → run_stmts (scope values) (moved_stmts away (value_code local params r)) cells steps
          ≡ then_run (run_stmts (scope values) (moved_stmts away (output_reset local params r)) cells steps)
          (run_stmts (scope values) (moved_stmts away (value_store local params r)))
      in-order steps =
          ap (λ t. run_stmts (scope values) (moved_stmts away
          (if t then stmts_append (output_reset local params r) (value_store local params r)
          else no_stmts)) cells steps) has_val
          ∙ ap (λ code. run_stmts (scope values) code cells steps)
          (append-moved away (output_reset local params r) (value_store local params r))
          ∙ run_stmts-append (scope values) (moved_stmts away (output_reset local params r))
          (moved_stmts away (value_store local params r)) cells steps

      -- the output is reset; the system isn't active then
      as-reset : (steps : ℕ) → steps + value_steps r.op ≤ step_limit → reset ≡ true → IsReset true steps → Done steps
      as-reset steps room is first =
          leaves-done _ now (set_cell cells f (number (m.tick.value r.row))) (first.end + runs_steps) (steps + value_steps r.op) (f ∷ [])
          (stored_once f)
          (in-order steps
          ∙ ap (λ o. then_run o (run_stmts (scope values) (moved_stmts away (value_store local params r)))) first.left
          ∙ ap (behind [] (own_store f ∷ [])) (ap (λ code. run_stmts (scope values) code now first.end)
          (value-moved away f (runs_test local params r) e)
          ∙ still-runs (scope values) now f (moved_test away (runs_test local params r)) (moved_expr away e) first.end
          (subst (TestsTo (scope values) now true (moved_test away (runs_test local params r))) still (runs-now now remembers_now))
          (let early = first.in_time in let least = at-least in omega (arith, early, room, least))))
          (ap (λ w. set_cell cells f (number w)) (sym
          (is_value ∙ reset-value (has_value r.kind) reset (row_runs local m r) start v (m.tick.before r.row) has_val is)))
          (let early = first.in_time in let one = few (moved_test away (runs_test local params r)) in
          let least = at-least in omega (arith, early, one, least))
          (stores-once f)
        where
          now : Cells
          now = set_cell cells f (number start)

          apart : is_triggered local.control ≡ true → f ≡ trigger_field local → ⊥
          apart triggered same =
              let other : Some (value r) ≡ Some trigger = sym at ∙ ap (slice_get slots) same
              ∙ trigger-at local schedule lawful triggered in
              let wrong : ⊥ = cc other in wrong

          remembers_now : is_triggered local.control ≡ true → number_at now (trigger_field local) ≡ memory_number m.tick.trigger
          remembers_now triggered =
              ap cell_value (other-at cells f (trigger_field local) (number start) (apart triggered)) ∙ remembers triggered

          second : (a b : Bool) → (a && b) ≡ true → b ≡ true
          second true b is = is
          second false b is = absurd (true≢false (sym is))

          still : row_runs local m r ≡ false
          still = ap (λ a. a && hit r.time m.tick.t)
              (disabled-rests m.tick.parent local.control m.tick.trigger m.tick.controls
              (second (is_reset_outport r.kind) (is_disabled local m) is))

      as-run : (steps : ℕ) → steps + value_steps r.op ≤ step_limit → reset ≡ false → IsReset false steps → (b : Bool) →
          row_runs local m r ≡ b →
          Done steps
      as-run steps room none first true runs =
          let c = computes-value runs in
          let within = room-behind first.end steps first.in_time first.untested in
          let one = few (moved_test away (runs_test local params r)) in
          let two = c.at_most in
          leaves-done _ (set_cell cells f (number v)) (set_cell cells f (number (m.tick.value r.row)))
          (first.end + runs_steps + 1 + c.calls) (steps + value_steps r.op) (f ∷ []) (stored_once f)
          (in-order steps
          ∙ ap (λ o. then_run o (run_stmts (scope values) (moved_stmts away (value_store local params r)))) first.left
          ∙ ap (behind [] []) (store-result cells remembers v c.calls first.end
          (λ does count more. expr-moved away functions (reads values cells) 0 e count ∙ c.comes count more)
          (λ does. field-takes values v is-computed) (omega (arith, within, room))
          ∙ ap (λ b. if b then leaves (set_cell cells f (number v)) (first.end + runs_steps + 1 + c.calls) (f ∷ [])
          else leaves cells (first.end + runs_steps) []) runs))
          (ap (λ w. set_cell cells f (number w)) (sym is-computed))
          (omega (arith, within, one, two))
          (stores-once f)
        where
          is-computed : m.tick.value r.row ≡ v
          is-computed = is_value ∙ run-value (has_value r.kind) reset (row_runs local m r) start v
              (m.tick.before r.row) has_val none runs
      as-run steps room none first false rests =
          let within = room-behind first.end steps first.in_time first.untested in
          let one = few (moved_test away (runs_test local params r)) in
          leaves-done _ cells (set_cell cells f (number (m.tick.value r.row))) (first.end + runs_steps) (steps + value_steps r.op) []
          (stored_once f)
          (in-order steps
          ∙ ap (λ o. then_run o (run_stmts (scope values) (moved_stmts away (value_store local params r)))) first.left
          ∙ ap (behind [] []) (store-result cells remembers v 0 first.end (λ runs. absurd (true≢false (sym runs ∙ rests)))
          (λ runs. absurd (true≢false (sym runs ∙ rests)))
          (omega (arith, within, room))
          ∙ ap (λ b. if b then leaves (set_cell cells f (number v)) (first.end + runs_steps + 1 + 0) (f ∷ [])
          else leaves cells (first.end + runs_steps) []) rests))
          (sym (set-same cells f (number (m.tick.value r.row))
          (is-number (container r.out) (cell_at cells f) (slot-has slots cells f (value r) ready.shape at)
          ∙ ap number (before_is ∙ sym (is_value ∙ kept-value (has_value r.kind) reset (row_runs local m r) start v
          (m.tick.before r.row) has_val none rests)))))
          (omega (arith, within, one))
          (stores-nothing (stored_once f))

      done-at : (steps : ℕ) → steps + value_steps r.op ≤ step_limit → Done steps
      done-at steps room =
          by reset refl (resets steps (let least = at-least in omega (arith, room, least)) (is_reset_outport r.kind)
          (is_disabled local m) refl refl)
        where
          by : (q : Bool) → reset ≡ q → IsReset q steps → Done steps
          by true is first = as-reset steps room is first
          by false is first = as-run steps room is first (row_runs local m r) refl

    pub value-given : GivesValue local slots offers children cycle m params scope
        (moved_stmts away (value_code local params r)) (value_steps r.op) r
    value-given values cells g there_at ready before_is holds =
        subst (λ n. Gives local slots offers children cycle m params scope
        (moved_stmts away (value_code local params r)) values cells
        (set_cell cells n (number (m.tick.value r.row))) (value_steps r.op) [] (stored_once n))
        (stands local schedule lawful g (value r) there_at).2
        (done-at values cells ready (ap (number_at cells) (stands local schedule lawful g (value r) there_at).2 ∙ before_is) holds)
