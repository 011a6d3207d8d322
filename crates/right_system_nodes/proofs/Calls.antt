-- The code of a call of a child's function, of its update and of its reset is that act on the child.
use Rattle.std.specs.Prelude.{◌≡◌, ℕ, ◌+◌, ◌-◌, ◌%◌, ◌<◌, ◌≤◌, nat_lt, Bool, true, false, MatchBool, if◌then◌else◌, List, [], ◌∷◌, ◌++◌, map, take, sum_by, length, slice_get, Contains, IsTrue, Option, Some, None, ℤ, pos, refl}
use Rattle.std.specs.List.{AllByRecursion, AllZip, range_with_len}
use Rattle.std.specs.Option.{option_map_or}
use Rattle.std.proofs.Common.{sym, ap, subst, ◌∙◌, arith}
use Rattle.std.proofs.lemmas.Bool.Decides.{nat_tests}
use Rattle.std.proofs.lemmas.List.{length-append, length-map, map-append}
use Rattle.std.proofs.lemmas.List.FromFn.{length-range_with_len}
use Rattle.base_core.specs.declared.base.Port.{Port}
use Rattle.base_core.specs.declared.base.Port.TheVariants.{Number}
use Rattle.base_fixed_point.specs.declared.types.FixType.{FixType}
use Rattle.base_fixed_point.specs.Conversion.{InType}
use Rattle.base_core.specs.Ports.{control_ports}
use Rattle.diagram_meaning.specs.Rows.{is_triggered}
use Rattle.modules_profile.specs.declared.local.ChildUse.{ChildUse}
use Rattle.modules_profile.specs.LocalSystem.{LocalSystem}
use Rattle.modules_profile.specs.LawfulLocals.{IsLocal, IsChild}
use Rattle.modules_profile.specs.Headers.{header_functions, header_function, ports_of_header, taken}
use Rattle.modules_profile.specs.Locals.{entering}
use Rattle.modules_profile.proofs.lemmas.Members.{in-at, at-below, at-map, at-range}
use Rattle.modules_schedule.specs.SystemSchedule.{SystemSchedule}
use Rattle.c_syntax.specs.declared.code.Leaf.{Leaf}
use Rattle.c_syntax.specs.Tree.{CondTree, StmtTrees, ParamTree, PureTree, field_types}
use Rattle.c_semantics.specs.Cells.{Cells, object, set_cell, number_at, fields_at}
use Rattle.c_semantics.specs.Values.{is_in_type, leaf_reads, Function, functions_of, Reads, reads, step_limit}
use Rattle.c_semantics.specs.Machine.{LoggedCall, Outcome, done, stuck, call_under, in_child, Routine, routine_at, Scope, run_stmts}
use Rattle.emit_shape.specs.Heads.{out_head, out_heads}
use Rattle.emit_shape.specs.Names.{container, port_name}
use Rattle.emit_shape.specs.Relocation.{Relocation, moved_number, moved_leaf, moved_stmts}
use Rattle.emit_shape.specs.Slots.{Slot, instance, slot_field}
use Rattle.emit_row_code.specs.StatementCode.{call_statements, reset_call_statements}
use Rattle.emit_row_code.specs.StatementLaws.{leaves, test_steps, TestsTo, CallsAreMade, ResetsAreCalled}
use Rattle.emit_row_code.specs.TestLaws.{ActivityIsTested}
use Rattle.right_relation.specs.LocalTicks.{LocalTick, IsFed, IsTypedTick, is_active, is_off}
use Rattle.right_relation.specs.Instances.{Act, out, update, reset, InstanceTick, instance_at, fields_after, Offered, nothing_offered, Offer, offered_for, OnDone, Leaves}
use Rattle.right_relation.specs.NodeCode.{call_steps}
use Rattle.right_relation.specs.NodeStatements.{HoldsWire, IsReady, Gives, GivesCall, GivesUpdate, GivesReset, call_needs, nothing_stored, stored_inside}
use Rattle.right_relation.specs.Relation.{children_routines, behind_offers, IsCycleOf, ChildrenServe}
use Rattle.right_relation.specs.Serving.{act_values, MayCome, Takes, IsOfferOf, Serves}
use Rattle.right_relation.specs.Standing.{child_tick_of}
use Rattle.diagram_activity.specs.Activity.{memory_number}
use Rattle.right_relation.proofs.lemmas.Containers.{container-has}
use Rattle.emit_system_spec.specs.Fields.{trigger_field, child_field, code_slots}
use Rattle.emit_system_spec.specs.Groups.{own_count}
use Rattle.emit_system_spec.specs.NodeCode.{active_test, off_test, call_code, update_code, reset_code}
use Rattle.emit_system_spec.specs.Places.{child_base, now_leaf}
use Rattle.emit_system_spec.specs.Sources.{wire_leaf}
use Rattle.right_system_nodes.specs.PieceLaws.{HasParams}
use Rattle.right_system_nodes.proofs.Facts.{IsSettled, IsSourced}
use Rattle.right_system_nodes.proofs.lemmas.SlotLists.{each-member, index-or-at, zip-at, zip-back-at, zip-long}
use Rattle.right_system_nodes.proofs.Moved.{moved_test, test-moved, call-moved, reset_call-moved}
use Rattle.right_system_nodes.proofs.Routines.{child-row, serves-at, size, act_place, IsAct, routine-is, Fit, tick-fits, fit-taken, fit-all, taken-map, of-taken, zip-append, zip-values, values-zip, zip-more}
use Rattle.right_system_nodes.proofs.lemmas.SlotPlaces.{stands, trigger-at}
use Rattle.right_system_nodes.proofs.Sources.{wires-read}
use Rattle.right_system_nodes.proofs.Stores.{stores-nothing, leaves-done, child-done}
use Rattle.right_system_nodes.proofs.Ticks.{given, now-is, tests}

-- in more steps too
in-more : (o : Outcome) (cells : Cells) (most more : ℕ) (log : List LoggedCall) (stored : List ℕ → ℕ → ℕ) → most ≤ more →
    OnDone o (Leaves cells most log stored) → OnDone o (Leaves cells more log stored)
in-more (done a) cells most more log stored room left =
    record {
      fields = left.fields;
      in_time = (let early = left.in_time in omega (arith, early, room));
      calls = left.calls;
      stores =
          left.stores;
    }
in-more (stuck at c) cells most more log stored room left = absurd left

module _ (local : LocalSystem) (schedule : SystemSchedule) (params : List ParamTree) (settled : IsSettled local)
    (has : HasParams local params)
    (ps : List PureTree) (cycle : ℕ) (is_cycle : IsCycleOf local cycle) (offers : List Offer)
    (are : AllZip (λ (u : ChildUse) o. IsOfferOf u.header o) local.children offers) (m : LocalTick)
    (typed : IsTypedTick local m) (children : List InstanceTick)
    (serve : ChildrenServe local m cycle local.children offers children) (own_routines : List Routine) where
  abbrev slots : List Slot
  slots = code_slots local schedule

  abbrev count : ℕ
  count = own_count schedule

  abbrev away : Relocation
  away = behind_offers slots offers count

  abbrev functions : List Function
  functions = functions_of [] ps

  abbrev scope : List ℤ → Scope
  scope values = record {
    functions = functions;
    routines = children_routines offers ++ own_routines;
    types =
        field_types (map slot_field slots);
    values = values;
  }

  lawful : IsLocal local
  lawful = settled.sound.lawful

  few : (test : Option CondTree) → test_steps test ≤ 1
  few None = omega arith
  few (Some test) = omega arith

  -- a procedure of a child goes after the system's own
  goes : (k i : ℕ) → moved_number away (child_base local count k + i) ≡ sum_by size (take k local.children) + i
  goes k i =
      let n = child_base local count k + i in
      let far : nat_lt n count ≡ false = not-below in
      ap (λ t. if t then length (children_routines offers) + n else n - count) far
      ∙ (let same : n - count ≡ sum_by size (take k local.children) + i = omega arith in same)
    where
      not-below : nat_lt (child_base local count k + i) count ≡ false
      not-below = by (nat_lt (child_base local count k + i) count) refl
        where
          by : (t : Bool) → nat_lt (child_base local count k + i) count ≡ t → t ≡ false
          by false e = refl
          by true e = absurd (grind (arith, nat_tests))

  module _ (k : ℕ) (u : ChildUse) (at : slice_get local.children k ≡ Some u) where
    abbrev f : ℕ
    f = child_field local k

    abbrev inst : InstanceTick
    inst = instance_at children k

    is_child : IsChild u
    is_child = subst IsChild (index-or-at local.children k u u at) (lawful.are_children k u (at-below local.children k u at))

    fed : IsFed local m u
    fed = each-member (IsFed local m) local.children u typed.children (in-at local.children k u at)

    offered : (o : Offer) × (slice_get offers k ≡ Some o) × IsOfferOf u.header o
    offered = zip-at (λ (u : ChildUse) o. IsOfferOf u.header o) local.children offers k u are at

    abbrev o : Offer
    o = offered.0

    serves : Serves u.header o cycle (child_tick_of local m u) inst
    serves = serves-at local m cycle local.children offers children k u o serve at offered.1

    -- ---- Arguments

    abbrev types : List FixType
    types = u.header.inputs ++ u.header.controls

    abbrev passed : List ℤ
    passed = map m.tick.value u.wires ++ map m.tick.value u.controls

    contained : AllZip (λ (t : FixType) v. is_in_type (container t) v ≡ true) types passed
    contained =
        zip-more (λ (t : FixType) v. InType t v) (λ (t : FixType) v. is_in_type (container t) v ≡ true) types passed container-has
        (zip-append (λ (t : FixType) v. InType t v) u.header.inputs u.header.controls (map m.tick.value u.wires)
        (map m.tick.value u.controls)
        (values-zip (λ (t : FixType) v. InType t v) m.tick.value u.header.inputs u.wires fed.inputs)
        (values-zip (λ (t : FixType) v. InType t v) m.tick.value u.header.controls u.controls fed.controls))

    -- there is a port for each
    ports-long : length (ports_of_header u.header) ≡ length types
    ports-long =
        let a = length-append (map Number (range_with_len 1 (length u.header.inputs))) (control_ports u.header.control) in
        let b = length-map (range_with_len 1 (length u.header.inputs)) Number in
        let c = length-range_with_len 1 (length u.header.inputs) in
        let d = length-append u.header.inputs u.header.controls in
        let e = zip-long (λ (t : FixType) c. InType t (m.tick.value c)) u.header.controls u.controls fed.controls in
        let g = is_child.controls in
        omega (arith, a, b, c, d, e, g)

    abbrev make : Port × FixType → ParamTree
    make e = record { name = port_name u.header.control e.0; type = container e.1 }

    -- what the acts pass on lies in the types of the parameters
    fits : (act : Act) → IsAct u.header act → Fit (offered_for o act).routine.params
        (act_values u.header cycle (child_tick_of local m u) act)
    fits (out j) act =
        let n = length (header_functions u.header) in
        let low = act.0 in let high = act.1 in
        let is = offered.2 in
        let number : 1 + (j - 1) ≡ j = omega (arith, low) in
        let head : slice_get (out_heads u.header) (j - 1) ≡ Some (out_head u.header j) =
        at-map (out_head u.header) (range_with_len 1 n) (j - 1) (1 + (j - 1)) (at-range 1 n (j - 1) (omega (arith, low, high)))
        ∙ ap (λ i. Some (out_head u.header i)) number in
        let q = zip-back-at Takes o.outs (out_heads u.header) (j - 1) (out_head u.header j) is.outs head in
        let same : offered_for o (out j) ≡ q.0 = index-or-at o.outs (j - 1) nothing_offered q.0 q.1 in
        subst (λ types. Fit types (act_values u.header cycle (child_tick_of local m u) (out j)))
        (sym (ap (λ (x : Offered). x.routine.params) same ∙ q.2)) (
          tick-fits m.tick.t cycle is_cycle.some is_cycle.short,
          fit-taken make (λ e. refl) (header_function u.header j)
              (ports_of_header u.header) types passed contained,
        )
    fits update act =
        subst (λ types. Fit types (act_values u.header cycle (child_tick_of local m u) update)) (sym offered.2.update) (
          tick-fits m.tick.t cycle is_cycle.some is_cycle.short,
          fit-all make (λ e. refl)
              (ports_of_header u.header) types passed ports-long contained,
        )
    fits reset act = subst (λ types. Fit types []) (sym offered.2.reset) tt

    -- ---- The code of an act

    module _ (activity : ActivityIsTested) (values : List ℤ) (cells : Cells) (wires : List ℕ)
        (ready : IsReady local slots offers children cycle m params scope values cells wires) where
      abbrev there : Reads
      there = given local schedule params settled has functions cycle is_cycle offers m typed children scope values cells ready.arguments

      remembers : is_triggered local.control ≡ true → number_at cells (trigger_field local) ≡ memory_number m.tick.trigger
      remembers is = ready.remembers (trigger_field local) (trigger-at local schedule lawful is)

      active-tested : TestsTo (scope values) cells true (moved_test away (active_test local params)) (is_active local m)
      active-tested =
          test-moved away functions (reads values cells) 0 true (active_test local params) (is_active local m)
          (tests local schedule params settled has functions cycle is_cycle offers m typed
          children scope values cells ready.arguments ready.callable remembers activity).active

      off-tested : TestsTo (scope values) cells false (moved_test away (off_test local params)) (is_off local m)
      off-tested =
          test-moved away functions (reads values cells) 0 false (off_test local params) (is_off local m)
          (tests local schedule params settled has functions cycle is_cycle offers m typed
          children scope values cells ready.arguments ready.callable remembers activity).off

      -- an act that comes is done, from the procedure's first step on
      acts-done : (act : Act) (called : ℕ → Bool) (steps end : ℕ) →
          (fields_at cells f ≡ inst.standing called) × MayCome u.header (child_tick_of local m u) called act →
          end ≤ steps + call_steps → steps + (call_steps + inst.most called act) ≤ step_limit →
          OnDone (in_child f cells ((offered_for o act).routine.run (act_values u.header cycle (child_tick_of local m u) act)
          (fields_at cells f) end))
          (Leaves (set_cell cells f (object (fields_after inst called act))) (steps + (call_steps + inst.most called act))
          (map (call_under f) (inst.log called act))
          (stored_inside f (inst.stored called act)))
      acts-done act called steps end may early room =
          child-done f cells (fields_after inst called act)
          ((offered_for o act).routine.run (act_values u.header cycle (child_tick_of local m u) act) (fields_at cells f) end)
          (steps + (call_steps + inst.most called act)) (inst.log called act) (inst.stored called act)
          (subst (λ c. OnDone ((offered_for o act).routine.run (act_values u.header cycle (child_tick_of local m u) act) c end)
          (Leaves (fields_after inst called act) (steps + (call_steps + inst.most called act)) (inst.log called act)
          (inst.stored called act))) (sym may.0)
          (in-more ((offered_for o act).routine.run (act_values u.header cycle (child_tick_of local m u) act)
          (inst.standing called) end) (fields_after inst called act)
          (end + inst.most called act) (steps + (call_steps + inst.most called act)) (inst.log called act) (inst.stored called act)
          (omega (arith, early))
          (serves.acts called act may.1 end (omega (arith, early, room)))))

      module _ (law : CallsAreMade) (act : Act) (is_act : IsAct u.header act) (leaves_given : List Leaf)
          (read : is_active local m ≡ true → map there.leaf leaves_given
          ≡ act_values u.header cycle (child_tick_of local m u) act) where
        abbrev procedure : ℕ
        procedure = sum_by size (take k local.children) + act_place u.header act

        abbrev moved_leaves : List Leaf
        moved_leaves = map (moved_leaf away) leaves_given

        abbrev code : StmtTrees
        code = moved_stmts away (call_statements (active_test local params)
            (child_base local count k + act_place u.header act) f leaves_given)

        routine : routine_at (scope values).routines procedure ≡ (offered_for o act).routine
        routine = routine-is local.children offers own_routines k u o act are at offered.1 is_act

        args : is_active local m ≡ true → map (leaf_reads values cells) moved_leaves
            ≡ act_values u.header cycle (child_tick_of local m u) act
        args active = in-one leaves_given ∙ read active
          where
            in-one : (ls : List Leaf) → map (leaf_reads values cells) (map (moved_leaf away) ls) ≡ map there.leaf ls
            in-one [] = refl
            in-one (l ∷ ls) = ap (λ vs. leaf_reads values cells (moved_leaf away l) ∷ vs) (in-one ls)

        fit : is_active local m ≡ true → AllZip (λ type leaf. is_in_type type (leaf_reads values cells leaf) ≡ true)
            (routine_at (scope values).routines procedure).params moved_leaves
        fit active =
            zip-values (λ type v. is_in_type type v ≡ true) (leaf_reads values cells)
            (routine_at (scope values).routines procedure).params moved_leaves
            (subst (Fit (routine_at (scope values).routines procedure).params) (sym (args active))
            (subst (λ (q : Routine). Fit q.params (act_values u.header cycle (child_tick_of local m u) act)) (sym routine)
            (fits act is_act)))

        result : (steps : ℕ) → steps + 2 ≤ step_limit →
            run_stmts (scope values) code cells steps
            ≡ (if is_active local m then in_child f cells
            ((routine_at (scope values).routines procedure).run (map (leaf_reads values cells) moved_leaves) (fields_at cells f)
            (steps + test_steps (moved_test away (active_test local params)) + 1))
            else leaves cells (steps + test_steps (moved_test away (active_test local params))) [])
        result steps room =
            ap (λ c. run_stmts (scope values) c cells steps)
            (call-moved away (active_test local params) (child_base local count k + act_place u.header act) f leaves_given)
            ∙ ap (λ p. run_stmts (scope values) (call_statements
            (moved_test away (active_test local params)) p f moved_leaves) cells steps) (goes k (act_place u.header act))
            ∙ law (scope values) cells (moved_test away (active_test local params))
            (is_active local m) procedure f moved_leaves steps active-tested fit room

        act-given : (called : ℕ → Bool) → (IsTrue (is_active local m) →
            (fields_at cells f ≡ inst.standing called) × MayCome u.header (child_tick_of local m u) called act) →
            MatchBool (is_active local m)
            (Gives local slots offers children cycle m params scope code values cells
            (set_cell cells f (object (fields_after inst called act))) (call_steps + inst.most called act)
            (map (call_under f) (inst.log called act)) (stored_inside f (inst.stored called act)))
            (Gives local slots offers children cycle m params scope code values cells cells call_steps [] nothing_stored)
        act-given called may = by (is_active local m) refl
          where
            by : (b : Bool) → is_active local m ≡ b → MatchBool b
                (Gives local slots offers children cycle m params scope code values cells
                (set_cell cells f (object (fields_after inst called act))) (call_steps + inst.most called act)
                (map (call_under f) (inst.log called act)) (stored_inside f (inst.stored called act)))
                (Gives local slots offers children cycle m params scope code values cells cells call_steps [] nothing_stored)
            by true active = λ steps room.
                let one = few (moved_test away (active_test local params)) in
                subst (λ x. OnDone x (Leaves (set_cell cells f (object (fields_after inst called act)))
                (steps + (call_steps + inst.most called act))
                (map (call_under f) (inst.log called act)) (stored_inside f (inst.stored called act))))
                (sym (result steps (omega (arith, room))
                ∙ ap (λ b. if b then in_child f cells ((routine_at (scope values).routines procedure).run
                (map (leaf_reads values cells) moved_leaves) (fields_at cells f)
                (steps + test_steps (moved_test away (active_test local params)) + 1))
                else leaves cells (steps + test_steps (moved_test away (active_test local params))) []) active
                ∙ ap (λ vs. in_child f cells ((routine_at (scope values).routines procedure).run vs (fields_at cells f)
                (steps + test_steps (moved_test away (active_test local params)) + 1))) (args active)
                ∙ ap (λ (q : Routine). in_child f cells (q.run (act_values u.header cycle (child_tick_of local m u) act)
                (fields_at cells f) (steps + test_steps (moved_test away (active_test local params)) + 1))) routine))
                (acts-done act called steps (steps + test_steps (moved_test away (active_test local params)) + 1) (may active)
                (omega (arith, one)) room)
            by false still = λ steps room.
                let one = few (moved_test away (active_test local params)) in
                leaves-done _ cells cells (steps + test_steps (moved_test away (active_test local params)))
                (steps + call_steps) [] nothing_stored
                (result steps room
                ∙ ap (λ b. if b then in_child f cells ((routine_at (scope values).routines procedure).run
                (map (leaf_reads values cells) moved_leaves) (fields_at cells f)
                (steps + test_steps (moved_test away (active_test local params)) + 1))
                else leaves cells (steps + test_steps (moved_test away (active_test local params))) []) still)
                refl (omega (arith, one)) (stores-nothing nothing_stored)

      -- ---- What is passed on

      entered : (c : ℕ) → Contains (entering u) c → IsSourced local c
      entered c h = settled.entered u c (in-at local.children k u at) h

      all-read : wires ≡ entering u → is_active local m ≡ true → map there.leaf (map (wire_leaf local) (entering u)) ≡ passed
      all-read same active =
          wires-read local schedule lawful offers children cycle m params scope values cells (entering u) entered
          (subst (AllByRecursion (HoldsWire local slots offers children cycle m params scope cells)) same (ready.needed active))
          ∙ map-append m.tick.value u.wires u.controls

      some-read : (j : ℕ) → wires ≡ taken u.header j (entering u) → is_active local m ≡ true →
          map there.leaf (taken u.header j (map (wire_leaf local) (entering u))) ≡ taken u.header j passed
      some-read j same active =
          let g = header_function u.header j in
          let ports = ports_of_header u.header in
          ap (map there.leaf) (taken-map (wire_leaf local) g ports (entering u))
          ∙ wires-read local schedule lawful offers children cycle m params scope values cells (taken u.header j (entering u))
          (λ c h. entered c (of-taken g ports (entering u) c h))
          (subst (AllByRecursion (HoldsWire local slots offers children cycle m params scope cells)) same (ready.needed active))
          ∙ sym (taken-map m.tick.value g ports (entering u))
          ∙ ap (taken u.header j) (map-append m.tick.value u.wires u.controls)

      now-read : there.leaf (now_leaf params) ≡ pos (m.tick.t % cycle)
      now-read =
          now-is local schedule params settled has functions cycle is_cycle offers m typed children scope values cells ready.arguments

    -- ---- As it is said of the code

    needs-taken : (j : ℕ) → call_needs local u.header.row j ≡ taken u.header j (entering u)
    needs-taken j =
        let c = child-row local lawful k u at in
        ap (λ o. call_needs local o j) c.1 ∙ ap (λ w. option_map_or (λ (x : ChildUse). taken x.header j (entering x)) w []) c.2

    call-there : ActivityIsTested → CallsAreMade → (j : ℕ) → 0 < j → j ≤ length (header_functions u.header) →
        GivesCall local slots offers children cycle m params scope
        (moved_stmts away (call_code local count params k u j)) call_steps f k u j
    call-there activity law j low high values cells called slot ready may =
        act-given activity values cells (call_needs local u.header.row j) ready law (out j) (low, high)
        (now_leaf params ∷ taken u.header j (map (wire_leaf local) (entering u)))
        (λ active i. now-read activity values cells (call_needs local u.header.row j) ready i ∷ some-read activity values cells
        (call_needs local u.header.row j) ready j (needs-taken j) active i)
        called may

    update-there : ActivityIsTested → CallsAreMade →
        GivesUpdate local slots offers children cycle m params scope
        (moved_stmts away (update_code local count params (k, u))) call_steps f k u
    update-there activity law values cells called slot ready may =
        act-given activity values cells (entering u) ready law update tt (now_leaf params ∷ map (wire_leaf local) (entering u))
        (λ active i. now-read activity values cells (entering u) ready i ∷ all-read activity values cells
        (entering u) ready refl active i)
        called may

    reset-there : ActivityIsTested → ResetsAreCalled →
        GivesReset local slots offers children cycle m params scope
        (moved_stmts away (reset_code local count params (k, u))) call_steps f k u
    reset-there activity law values cells called slot ready may = by (is_off local m) refl
      where
        place-is : moved_number away (child_base local count k + length (header_functions u.header) + 2)
            ≡ sum_by size (take k local.children) + act_place u.header reset
        place-is =
            (let same : child_base local count k + length (header_functions u.header) + 2
            ≡ child_base local count k + act_place u.header reset = omega arith in ap (moved_number away) same)
            ∙ goes k (act_place u.header reset)

        routine-there : routine_at (scope values).routines (sum_by size (take k local.children) + act_place u.header reset)
            ≡ o.reset.routine
        routine-there = routine-is local.children offers own_routines k u o reset are at offered.1 tt

        result-there : (steps : ℕ) → steps + 2 ≤ step_limit →
            run_stmts (scope values) (moved_stmts away (reset_code local count params (k, u))) cells steps
            ≡ (if is_off local m then in_child f cells
            (o.reset.routine.run [] (fields_at cells f) (steps + test_steps (moved_test away (off_test local params)) + 1))
            else leaves cells (steps + test_steps (moved_test away (off_test local params))) [])
        result-there steps room =
            ap (λ c. run_stmts (scope values) c cells steps)
            (reset_call-moved away (off_test local params)
            (child_base local count k + length (header_functions u.header) + 2) f)
            ∙ ap (λ n. run_stmts (scope values) (reset_call_statements
            (moved_test away (off_test local params)) n f) cells steps) place-is
            ∙ law (scope values) cells (moved_test away (off_test local params)) (is_off local m)
            (sum_by size (take k local.children) + act_place u.header reset) f steps
            (off-tested activity values cells [] ready) room
            ∙ ap (λ (q : Routine). if is_off local m then in_child f cells
            (q.run [] (fields_at cells f) (steps + test_steps (moved_test away (off_test local params)) + 1))
            else leaves cells (steps + test_steps (moved_test away (off_test local params))) []) routine-there

        by : (b : Bool) → is_off local m ≡ b → MatchBool b
            (Gives local slots offers children cycle m params scope
            (moved_stmts away (reset_code local count params (k, u))) values cells
            (set_cell cells f (object (fields_after inst called reset))) (call_steps + inst.most called reset)
            (map (call_under f) (inst.log called reset)) (stored_inside f (inst.stored called reset)))
            (Gives local slots offers children cycle m params scope
            (moved_stmts away (reset_code local count params (k, u))) values cells cells call_steps [] nothing_stored)
        by true off = λ steps room.
            let one = few (moved_test away (off_test local params)) in
            subst (λ x. OnDone x (Leaves (set_cell cells f (object (fields_after inst called reset)))
            (steps + (call_steps + inst.most called reset))
            (map (call_under f) (inst.log called reset)) (stored_inside f (inst.stored called reset))))
            (sym (result-there steps (omega (arith, room))
            ∙ ap (λ b. if b then in_child f cells (o.reset.routine.run [] (fields_at cells f)
            (steps + test_steps (moved_test away (off_test local params)) + 1))
            else leaves cells (steps + test_steps (moved_test away (off_test local params))) []) off))
            (acts-done activity values cells [] ready reset called steps
            (steps + test_steps (moved_test away (off_test local params)) + 1) (may off) (omega (arith, one)) room)
        by false on = λ steps room.
            let one = few (moved_test away (off_test local params)) in
            leaves-done _ cells cells (steps + test_steps (moved_test away (off_test local params)))
            (steps + call_steps) [] nothing_stored
            (result-there steps room
            ∙ ap (λ b. if b then in_child f cells (o.reset.routine.run [] (fields_at cells f)
            (steps + test_steps (moved_test away (off_test local params)) + 1))
            else leaves cells (steps + test_steps (moved_test away (off_test local params))) []) on)
            refl (omega (arith, one)) (stores-nothing nothing_stored)

  pub call-given : ActivityIsTested → CallsAreMade → (f k j : ℕ) (u : ChildUse) → slice_get slots f ≡ Some (instance k u) → 0 < j →
      j ≤ length (header_functions u.header) →
      GivesCall local slots offers children cycle m params scope
      (moved_stmts away (call_code local count params k u j)) call_steps f k u j
  call-given activity law f k j u slot low high =
      let s = stands local schedule lawful f (instance k u) slot in
      subst (λ g. GivesCall local slots offers children cycle m params scope
      (moved_stmts away (call_code local count params k u j)) call_steps g k u j) s.1
      (call-there k u s.0 activity law j low high)

  pub update-given : ActivityIsTested → CallsAreMade → (f k : ℕ) (u : ChildUse) → slice_get slots f ≡ Some (instance k u) →
      GivesUpdate local slots offers children cycle m params scope
      (moved_stmts away (update_code local count params (k, u))) call_steps f k u
  update-given activity law f k u slot =
      let s = stands local schedule lawful f (instance k u) slot in
      subst (λ g. GivesUpdate local slots offers children cycle m params scope
      (moved_stmts away (update_code local count params (k, u))) call_steps g k u) s.1 (update-there k u s.0 activity law)

  pub reset-given : ActivityIsTested → ResetsAreCalled → (f k : ℕ) (u : ChildUse) → slice_get slots f ≡ Some (instance k u) →
      GivesReset local slots offers children cycle m params scope
      (moved_stmts away (reset_code local count params (k, u))) call_steps f k u
  reset-given activity law f k u slot =
      let s = stands local schedule lawful f (instance k u) slot in
      subst (λ g. GivesReset local slots offers children cycle m params scope
      (moved_stmts away (reset_code local count params (k, u))) call_steps g k u) s.1 (reset-there k u s.0 activity law)
