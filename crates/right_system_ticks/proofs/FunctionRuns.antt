-- The code of a function executes its groups.
use Rattle.std.specs.Prelude.{◌≡◌, ◌⊎◌, ℕ, zero, suc, ◌+◌, ◌-◌, ◌<◌, ◌≤◌, Bool, true, false, ◌==◌, ◌||◌, ◌&&◌, if◌then◌else◌, List, [], ◌∷◌, ◌++◌, map, length, slice_get, Contains, IsTrue, IsFalse, Some, ℤ, pos, refl}
use Rattle.std.specs.List.{AllZip, list_any, range_with_len}
use Rattle.std.proofs.Common.{sym, ap, subst, ◌∙◌, arith, inl, inr, lt-ltb}
use Rattle.std.proofs.Math.Path.{fun_ext}
use Rattle.std.proofs.lemmas.Bool.{eq-eqb, eqb-true}
use Rattle.std.proofs.lemmas.Option.{same_Some, none-some, get_or_from_slice_get}
use Rattle.modules_profile.specs.LocalSystem.{LocalSystem}
use Rattle.modules_profile.specs.SystemProfile.{SystemProfile}
use Rattle.modules_profile.specs.Locals.{own_header}
use Rattle.modules_profile.proofs.lemmas.Members.{in-first, in-rest, in-cases, in-range, of-range, of-filter}
use Rattle.modules_schedule.specs.SystemSchedule.{SystemSchedule}
use Rattle.c_syntax.specs.declared.code.Target.TheVariants.{Own}
use Rattle.c_syntax.specs.Tree.{read, ExprTrees, exprs_of_list, call, stmts_of_list, ParamTree, PureTree, field_types}
use Rattle.c_semantics.specs.Cells.{Cells}
use Rattle.c_semantics.specs.Values.{gives, is_in_type, reads, leaf_reads, functions_of as pure_functions}
use Rattle.c_semantics.specs.Machine.{Routine, routine_at, routine_with, arguments as passing, call_entry, behind, Outcome, Scope, run_stmts}
use Rattle.c_semantics.proofs.lemmas.Runs.{behind-nothing}
use Rattle.c_semantics.proofs.lemmas.CallLaws.{arguments_are_passed}
use Rattle.emit_shape.specs.Heads.{out_head}
use Rattle.emit_shape.specs.Names.{group_name}
use Rattle.emit_shape.specs.Relocation.{Relocation, moved_stmt, moved_stmts, moved_exprs, moved_number, moved_procedure}
use Rattle.emit_shape.specs.Slots.{slot_field}
use Rattle.right_relation.specs.ExecutedNodes.{RowIsNoField, RowIsExecuted, CallIsExecuted}
use Rattle.right_relation.specs.Instances.{InstanceTick, Offer}
use Rattle.right_relation.specs.LocalTicks.{LocalTick}
use Rattle.right_relation.specs.NodeStatements.{IsArgument}
use Rattle.right_relation.specs.Relation.{children_routines, behind_offers}
use Rattle.right_relation.specs.Standing.{standing_cells}
use Rattle.emit_system_spec.specs.Emitted.{IsEmitted}
use Rattle.emit_system_spec.specs.EmittedCode.{own_call, group_params, group_procedure}
use Rattle.emit_system_spec.specs.Fields.{code_slots, shared_groups}
use Rattle.emit_system_spec.specs.Groups.{group_nodes, code_groups, own_count, has_some}
use Rattle.emit_system_spec.specs.Places.{param_leaf}
use Rattle.right_system_nodes.specs.Pieces.{HasRightPieces}
use Rattle.right_system_ticks.specs.Holding.{called_groups, calls_group, done_by, with_group, executed_in, count_in}
use Rattle.right_system_ticks.specs.CodeAccounts.{Account, takes_steps, nothing_done, and_then}
use Rattle.right_system_ticks.specs.OwnAccounts.{nodes_account, counter_account, group_account, groups_account}
use Rattle.right_system_ticks.specs.PlaceLaws.{IsTypedArgument, GroupsTakeParameters, LogsByName}
use Rattle.right_system_ticks.specs.ScheduleLaws.{AreNext, AreRising, GroupsAreNext, HasGroups}
use Rattle.right_system_ticks.proofs.Tests.{any-in, any-of, both-true, true-first, true-second, not-true, true-false}
use Rattle.right_system_ticks.proofs.Sequences.{Ends, Does, DoesOne, nothing-does, more-does, one-weaker}
use Rattle.right_system_ticks.proofs.Statements.{call-does}
use Rattle.right_system_ticks.proofs.NodeRuns.{IsRunning, body_sees}
use Rattle.right_system_ticks.proofs.GroupRuns.{group-body-runs}

-- ---- Which groups were executed

abbrev pub with_groups : (ℕ → Bool) → List ℕ → ℕ → Bool
with_groups done [] = done
with_groups done (g ∷ groups) = with_groups (with_group done g) groups

equal-back : (i g : ℕ) → (i == g) ≡ (g == i)
equal-back i g = by (i == g) (g == i) refl refl
  where
    by : (a b : Bool) → (i == g) ≡ a → (g == i) ≡ b → a ≡ b
    by true true one two = refl
    by true false one two = sym (eq-eqb g i (sym (eqb-true i g one))) ∙ two
    by false true one two = sym one ∙ eq-eqb i g (sym (eqb-true g i two))
    by false false one two = refl

groups-more : (done : ℕ → Bool) (groups : List ℕ) (i : ℕ) → with_groups done groups i ≡ (list_any (λ k. k == i) groups || done i)
groups-more done [] i = refl
groups-more done (g ∷ groups) i =
    groups-more (with_group done g) groups i ∙ ap (λ t. list_any (λ k. k == i) groups || (t || done i)) (equal-back i g)
    ∙ order (list_any (λ k. k == i) groups) (g == i) (done i)
  where
    order : (a b c : Bool) → (a || (b || c)) ≡ ((b || a) || c)
    order true true c = refl
    order true false c = refl
    order false true c = refl
    order false false c = refl

-- after a function its groups were
pub groups-called : (profile : SystemProfile) (schedule : SystemSchedule) (called : ℕ → Bool) (with_j : ℕ → Bool) (j : ℕ) →
    ((g : ℕ) → done_by schedule with_j g ≡ (calls_group schedule j g || done_by schedule called g)) →
    with_groups (done_by schedule called) (called_groups schedule j) ≡ done_by schedule with_j
groups-called profile schedule called with_j j more =
    fun_ext (λ g. groups-more (done_by schedule called) (called_groups schedule j) g ∙ sym (more g))

-- a group that has code is one of the schedule
pub code-group : (profile : SystemProfile) (schedule : SystemSchedule) (g : ℕ) → HasGroups profile schedule →
    g < length (code_groups schedule) →
    Contains (code_groups schedule) g × (g < length schedule.groups)
code-group profile schedule g has below =
    let in-code : Contains (code_groups schedule) g = subst (λ gs. Contains gs g) (sym has.first)
    (in-range 0 (length (code_groups schedule)) g (omega arith) (omega (arith, below))) in
    let in-all = (of-filter (λ i. has_some (group_nodes schedule i)) (range_with_len 0 (length schedule.groups)) g in-code).0 in
    let range = of-range 0 (length schedule.groups) g in-all in
    (in-code, let high = range.1 in omega (arith, high))

-- ---- Arguments

pub zip-made : {A B : Type 0} (R : A → B → Type 0) (f : A → B) (xs : List A) → ((x : A) → Contains xs x → R x (f x)) →
    AllZip R xs (map f xs)
zip-made R f [] each = tt
zip-made R f (x ∷ xs) each = (each x (in-first x xs), zip-made R f xs (λ y h. each y (in-rest x y xs h)))

-- what is beside the first
pub zip-from : {A B : Type 0} (R : A → B → Type 0) (xs : List A) (ys : List B) (n : ℕ) (x : A) → AllZip R xs ys → slice_get xs n ≡ Some x →
    (y : B) × (slice_get ys n ≡ Some y) × R x y
zip-from R [] [] n x all at = absurd (none-some x at)
zip-from R [] (y ∷ ys) n x all at = absurd all
zip-from R (z ∷ xs) [] n x all at = absurd all
zip-from R (z ∷ xs) (y ∷ ys) zero x all at = (y, refl, subst (λ w. R w y) (same_Some z x at) all.0)
zip-from R (z ∷ xs) (y ∷ ys) (suc n) x all at = zip-from R xs ys n x all.1 at

-- parameters that are passed on by name
module _ (s : Scope) (x : Cells) (mv : Relocation) (params : List ParamTree) where
  abbrev pub argument : ParamTree → ℤ
  argument q = leaf_reads s.values x (param_leaf params q.name)

  abbrev pub reads_of : List ParamTree → ExprTrees
  reads_of wanted = moved_exprs mv (exprs_of_list (map (λ q. read (param_leaf params q.name)) wanted))

  pub pass-on : (wanted : List ParamTree) → ((q : ParamTree) → Contains wanted q → is_in_type q.type (argument q) ≡ true) → (steps : ℕ) →
      passing s.functions (reads s.values x) 0 (map (λ q. q.type) wanted) (reads_of wanted) steps ≡ gives (map argument wanted) steps
  pass-on [] fits steps = refl
  pass-on (q ∷ wanted) fits steps =
      (arguments_are_passed s.functions (reads s.values x) 0 steps).passed q.type (map (λ q. q.type) wanted)
      (read (param_leaf params q.name))
      (reads_of wanted) (argument q) (map argument wanted) steps steps refl (fits q (in-first q wanted))
      (pass-on wanted (λ p h. fits p (in-rest q p wanted h)) steps)

-- ---- Groups

-- after the procedures of the children come those of the groups, each with its number
abbrev pub SeesGroups : (local : LocalSystem) (profile : SystemProfile) (schedule : SystemSchedule) → List Offer → List PureTree → (ℕ → ℕ) →
    List Routine → Type 0
SeesGroups local profile schedule offers pures numbers own =
    (g : ℕ) → g < length (code_groups schedule) →
    (before : List Routine)
    × (routine_at (children_routines offers ++ own) (length (children_routines offers) + g)
    ≡ routine_with (pure_functions [] pures) (field_types (map slot_field (code_slots local schedule)))
    (children_routines offers ++ before) (numbers g)
    (moved_procedure (behind_offers (code_slots local schedule) offers (own_count schedule)) (group_procedure local profile schedule g)))

module _ (row_is_executed : RowIsExecuted) (call_is_executed : CallIsExecuted) (row_is_no_field : RowIsNoField)
    (groups_are_next : GroupsAreNext) (groups_take_parameters : GroupsTakeParameters)
    (local : LocalSystem) (profile : SystemProfile) (schedule : SystemSchedule) (emitted : IsEmitted local profile schedule)
    (has : HasGroups profile schedule) (names : LogsByName local profile schedule) (pieces : HasRightPieces local profile schedule)
    (offers : List Offer) (children : List InstanceTick) (cycle : ℕ) (m : LocalTick) (pures : List PureTree)
    (running : IsRunning local schedule offers children cycle m pures) (numbers : ℕ → ℕ) (own : List Routine)
    (groups_stand : SeesGroups local profile schedule offers pures numbers own)
    (j : ℕ) (some : 0 < j) (most : j ≤ length profile.functions) (values : List ℤ)
    (typed : AllZip (IsTypedArgument local cycle m) (out_head (own_header local profile) j).params values) where
  abbrev params : List ParamTree
  params = (out_head (own_header local profile) j).params

  abbrev sees : Scope
  sees = body_sees local schedule offers pures own values

  abbrev mv : Relocation
  mv = behind_offers (code_slots local schedule) offers (own_count schedule)

  abbrev state : (ℕ → Bool) → Cells
  state groups = standing_cells local m children (code_slots local schedule) (executed_in local schedule groups) (count_in schedule groups)

  argument-typed : (x : Cells) (g : ℕ) → IsTrue (calls_group schedule j g) → (q : ParamTree) →
      Contains (group_params local profile schedule g) q →
      IsTypedArgument local cycle m q (argument sees x mv params q)
  argument-typed x g calls q h =
      let p = groups_take_parameters local profile schedule emitted j g q some most calls h in
      let v = zip-from (IsTypedArgument local cycle m) params values p.0 q typed p.1 in
      subst (IsTypedArgument local cycle m q)
      (sym (ap (leaf_reads values x) p.2 ∙ get_or_from_slice_get values p.0 v.0 (pos 0) v.1)) v.2

  module _ (g : ℕ) (done : ℕ → Bool) (calls : IsTrue (calls_group schedule j g)) (below : g < length (code_groups schedule)) where
    abbrev wanted : List ParamTree
    wanted = group_params local profile schedule g

    abbrev es : ExprTrees
    es = reads_of sees (state done) mv params wanted

    abbrev given : List ℤ
    given = map (argument sees (state done) mv params) wanted

    abbrev before : List Routine
    before = (groups_stand g below).0

    abbrev inside : Scope
    inside = body_sees local schedule offers pures before given

    abbrev run-body : ℕ → Outcome
    run-body steps = run_stmts inside (moved_stmts mv (group_procedure local profile schedule g).body) (state done) steps

    abbrev body : Account
    body = and_then (takes_steps 1)
        (if done g then nothing_done
        else and_then (counter_account local m children schedule g)
        (nodes_account local m children (executed_in local schedule done) (group_nodes schedule g)))

    place : moved_number mv g ≡ length (children_routines offers) + g
    place = ap (λ b. if b then length (children_routines offers) + g else g - own_count schedule)
        (lt-ltb g (own_count schedule) (omega (arith, below)))

    private : call_entry (numbers g) (group_name local.row (suc g)) ≡ []
    private = ap (λ b. if b then record { path = []; procedure = numbers g } ∷ [] else []) (names.groups g below)

    call-runs : (done g ≡ true → Contains (shared_groups schedule) g) →
        (done g ≡ false → AreNext local (executed_in local schedule done) (group_nodes schedule g)) →
        DoesOne sees (moved_stmt mv (own_call params g wanted)) (state done) (state (with_group done g))
        (group_account local m children schedule done g)
    call-runs shared next =
        let in-code = code-group profile schedule g has below in
        let fits = zip-made (IsArgument local (code_slots local schedule) offers children cycle m wanted
        (body_sees local schedule offers pures before))
        (argument sees (state done) mv params) wanted
        (λ q h. (argument-typed (state done) g calls q h).is_argument (code_slots local schedule) offers children wanted
        (body_sees local schedule offers pures before)) in
        let does = group-body-runs row_is_executed call_is_executed row_is_no_field local schedule offers children cycle m pures running
        before
        wanted given fits g in-code.1 (pieces.groups g in-code.0) done shared next in
        one-weaker sees (call 0 (moved_number mv g) Own es) (state done) (state (with_group done g)) (and_then (takes_steps 1) body)
        (group_account local m children schedule done g) (omega arith) refl (λ path field. omega arith)
        (subst (λ k. DoesOne sees (call 0 k Own es) (state done) (state (with_group done g)) (and_then (takes_steps 1) body)) (sym place)
        (call-does sees (length (children_routines offers) + g) es given (state done) (state (with_group done g)) body
        (λ steps. ap (λ r. passing sees.functions (reads values (state done)) 0 r.params es steps) (groups_stand g below).1
        ∙ pass-on sees (state done) mv params wanted (λ q h. (argument-typed (state done) g calls q h).in_type) steps)
        (λ steps room. subst (λ r. Ends (r.run given (state done) steps) steps (state (with_group done g)) body)
        (sym (groups_stand g below).1)
        (subst (λ e. Ends (behind e [] (run-body steps)) steps (state (with_group done g)) body) (sym private)
        (subst (λ o. Ends o steps (state (with_group done g)) body) (sym (behind-nothing (run-body steps))) (does steps room))))))

  -- what is known where some groups of the function are left
  module _ (called : ℕ → Bool) (new : IsFalse (called j)) where
    pub record AreLeft (done : ℕ → Bool) (groups : List ℕ) : Type 0 where
      pub inside : (i : ℕ) → Contains groups i → Contains (called_groups schedule j) i
      pub fresh : (i : ℕ) → Contains groups i → done i ≡ done_by schedule called i
      pub earlier : (i : ℕ) → IsTrue (calls_group schedule j i) → (done i ≡ true) ⊎ Contains groups i
      pub rising : AreRising groups

    left-next : (done : ℕ → Bool) (g : ℕ) (groups : List ℕ) → AreLeft done (g ∷ groups) → AreLeft (with_group done g) groups
    left-next done g groups left = record {
      inside = λ i h. left.inside i (in-rest g i groups h);
      fresh = λ i h.
          let above : g < i = left.rising.0 i h in
          ap (λ t. t || done i) (not-equal i g (omega (arith, above))) ∙ left.fresh i (in-rest g i groups h);
      earlier = λ i calls. elim (left.earlier i calls) [
        | inl was ↦ inl (true-second (i == g) (done i) was)
        | inr h ↦ elim (in-cases g i groups h) [
          | inl same ↦ inl (true-first (i == g) (done i) (eq-eqb i g (sym same)))
          | inr more ↦ inr more
        ]
      ];
      rising = left.rising.1;
    }
      where
        not-equal : (i g : ℕ) → (i ≡ g → ⊥) → (i == g) ≡ false
        not-equal i g apart = not-true (i == g) (λ e. apart (eqb-true i g e))

    pub groups-run : (done : ℕ → Bool) (groups : List ℕ) → AreLeft done groups →
        Does sees (moved_stmts mv (stmts_of_list (map (λ g. own_call params g (group_params local profile schedule g)) groups)))
        (state done)
        (state (with_groups done groups)) (groups_account local m children schedule done groups)
    groups-run done [] left = nothing-does sees (state done)
    groups-run done (g ∷ groups) left =
        let listed = left.inside g (in-first g groups) in
        let calls : IsTrue (calls_group schedule j g) = any-in (λ i. i == g) (called_groups schedule j) g listed (eq-eqb g g refl) in
        more-does sees (moved_stmt mv (own_call params g (group_params local profile schedule g)))
        (moved_stmts mv (stmts_of_list (map (λ i. own_call params i (group_params local profile schedule i)) groups)))
        (state done) (state (with_group done g)) (state (with_groups (with_group done g) groups))
        (group_account local m children schedule done g)
        (groups_account local m children schedule (with_group done g) groups)
        (call-runs g done calls (has.called j g some most listed) (shared calls) (next calls))
        (groups-run (with_group done g) groups (left-next done g groups left))
      where
        shared : IsTrue (calls_group schedule j g) → done g ≡ true → Contains (shared_groups schedule) g
        shared calls is =
            let was = any-of (λ i. called i && calls_group schedule i g) (range_with_len 1 (length schedule.functions))
            (sym (left.fresh g (in-first g groups)) ∙ is) in
            let parts = both-true (called was.0) (calls_group schedule was.0 g) was.2 in
            let range = of-range 1 (length schedule.functions) was.0 was.1 in
            has.shared was.0 j g (omega (arith, range.0)) (let high = range.1 in omega (arith, high, has.functions)) some most
            (λ same. true-false (called j) (ap called (sym same) ∙ parts.0) new) parts.1 calls

        next : IsTrue (calls_group schedule j g) → done g ≡ false → AreNext local (executed_in local schedule done) (group_nodes schedule g)
        next calls is = groups_are_next local profile schedule emitted j g done some most calls is (λ i low its. elim (left.earlier i its) [
          | inl was ↦ was
          | inr h ↦ elim (in-cases g i groups h) [
            | inl same ↦ absurd (omega (arith, low, same))
            | inr more ↦ let above : g < i = left.rising.0 i more in absurd (omega (arith, low, above))
          ]
        ])

    -- all groups of the function
    pub function-runs : Does sees
        (moved_stmts mv (stmts_of_list (map (λ g. own_call params g (group_params local profile schedule g)) (called_groups schedule j))))
        (state (done_by schedule called)) (state (with_groups (done_by schedule called) (called_groups schedule j)))
        (groups_account local m children schedule (done_by schedule called) (called_groups schedule j))
    function-runs = groups-run (done_by schedule called) (called_groups schedule j) (record {
      inside = λ i h. h;
      fresh = λ i h. refl;
      earlier = λ i calls.
          let some-group = any-of (λ k. k == i) (called_groups schedule j) calls in
          inr (subst (Contains (called_groups schedule j)) (eqb-true some-group.0 i some-group.2) some-group.1);
      rising = has.rising j some most;
    })
