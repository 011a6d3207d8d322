-- Each act adds to steps, log and stores what it should.
use Rattle.std.specs.Prelude.{◌≡◌, ◌⊎◌, ℕ, ◌+◌, ◌<◌, ◌≤◌, Bool, true, false, not, ◌&&◌, if◌then◌else◌, MatchBool, List, [], ◌∷◌, ◌++◌, map, filter, length, slice_get, Contains, IsPermutation, IsTrue, Option, Some, None, refl}
use Rattle.std.specs.List.{list_any, range_with_len}
use Rattle.std.proofs.Common.{sym, ap, subst, ◌∙◌, arith, inl, inr}
use Rattle.std.proofs.Math.Path.{fun_ext}
use Rattle.std.proofs.lemmas.Bool.{cases_lt}
use Rattle.std.proofs.lemmas.List.Elements.{filter_map-append}
use Rattle.std.proofs.lemmas.Option.{same_Some}
use Rattle.modules_profile.specs.declared.local.ChildUse.{ChildUse}
use Rattle.modules_profile.specs.declared.local.LocalRow.{LocalRow}
use Rattle.modules_profile.specs.declared.nodes.Node.{Node}
use Rattle.modules_profile.specs.declared.nodes.Node.TheVariants as node
use Rattle.modules_profile.specs.LocalSystem.{LocalSystem}
use Rattle.modules_profile.specs.SystemHeader.{SystemHeader}
use Rattle.modules_profile.specs.SystemProfile.{SystemProfile}
use Rattle.modules_profile.specs.LawfulLocals.{IsLocal}
use Rattle.modules_profile.specs.Locals.{own_header}
use Rattle.modules_profile.specs.Headers.{header_functions}
use Rattle.modules_profile.specs.LocalNodes.{node_list}
use Rattle.modules_profile.specs.NodeFacts.{LocalsAreLawful}
use Rattle.modules_profile.proofs.lemmas.Members.{in-at, at-in, in-range, number-of}
use Rattle.modules_schedule.specs.SystemSchedule.{SystemSchedule}
use Rattle.c_syntax.specs.Tree.{PureTree}
use Rattle.c_semantics.specs.Machine.{LoggedCall}
use Rattle.emit_shape.specs.Slots.{value}
use Rattle.right_relation.specs.Accounts.{AreCalls, AreCallsAndUpdate, newly_executed, newly_called, AreActs, Adds}
use Rattle.right_relation.specs.Instances.{Act, out, update, reset, none_called, with_called, InstanceTick, call_inside, calls_inside, Offer}
use Rattle.right_relation.specs.LocalTicks.{LocalTick, is_active, is_off}
use Rattle.right_relation.specs.Serving.{MayCome, own_entry}
use Rattle.right_relation.specs.Standing.{executed_by, is_call_executed, called_in, outer_tick_of}
use Rattle.emit_system_spec.specs.declared.node.Place.{Place}
use Rattle.emit_system_spec.specs.declared.node.Place.TheVariants.{Row, Call}
use Rattle.emit_system_spec.specs.Emitted.{IsEmitted}
use Rattle.emit_system_spec.specs.Fields.{code_slots}
use Rattle.emit_system_spec.specs.Groups.{group_nodes}
use Rattle.right_system_ticks.specs.ActLaws.{emitted_offer, emitted_instance, EmittedActsAdd}
use Rattle.right_system_ticks.specs.CodeAccounts.{Account}
use Rattle.right_system_ticks.specs.Holding.{called_groups, calls_group, is_among, done_by, with_node_at, with_nodes_at, executed_in, held}
use Rattle.right_system_ticks.specs.OwnAccounts.{nodes_account, function_account, update_account, reset_account}
use Rattle.right_system_ticks.specs.OwnInstances.{called_here, act_account, own_steps}
use Rattle.right_system_ticks.specs.PlaceLaws.{HasFieldPlaces, FieldsHavePlaces}
use Rattle.right_system_ticks.specs.ScheduleLaws.{AreAllDone, EndsTick, HasGroups, GroupsStandFirst, UpdatesEndTicks, AreNext}
use Rattle.right_system_ticks.proofs.Tests.{true-false, any-in, true-both, one-true}
use Rattle.right_system_ticks.proofs.DoneGroups.{nodes-more, called-executed, function-more}
use Rattle.right_system_ticks.proofs.FunctionRuns.{with_groups, groups-called, code-group}
use Rattle.right_system_ticks.proofs.NextNodes.{AreNew}
use Rattle.right_system_ticks.proofs.NodesOnce.{children-apart}
use Rattle.right_system_ticks.proofs.NodePlaces.{IsPlaceOf, place-at}
use Rattle.right_system_ticks.proofs.GroupOrders.{among-of, executed-of, group-count, group-is-new}
use Rattle.right_system_ticks.proofs.OftenLists.{bit, times, as-often, kept-once, kept-outside, kept-below}
use Rattle.right_system_ticks.proofs.ChildAccounts.{Functions, Goes}
use Rattle.right_system_ticks.proofs.ActChildren.{called_by, active-not-off, groups-lead, update-leads, reset-leads}
use Rattle.right_system_ticks.proofs.ChildActs.{Calls, groups-quiet, nodes-quiet, nodes-make, groups-make, update-acts, reset-acts}
use Rattle.right_system_ticks.proofs.UpdateStates.{call-in}
use Rattle.right_system_ticks.proofs.ValueStores.{groups-once, update-once, reset-stores}

-- nodes that can be executed in order are new
next-new : (local : LocalSystem) (executed : Node → Bool) (nodes : List ℕ) → AreNext local executed nodes → AreNew local executed nodes
next-new local executed [] next = tt
next-new local executed (n ∷ nodes) next = (
  record { node = next.0.node; at = next.0.at; is_new = next.0.next.is_new },
  next-new local (with_node_at local executed n)
      nodes next.1,
)

-- a call that is a node is that of a function of a child
call-is : (local : LocalSystem) (lawful : IsLocal local) (k e j : ℕ) (u : ChildUse) → slice_get local.children k ≡ Some u →
    u.header.row ≡ Some e →
    Contains (node_list local) (node.Call e j) → (0 < j) × (j ≤ length (header_functions u.header))
call-is local lawful k e j u at row h =
    let n = at-in (node_list local) (node.Call e j) h in
    let p = place-at local n.0 (node.Call e j) n.1 in
    by p.0 p.2
  where
    by : (p : Place) → IsPlaceOf local p (node.Call e j) → (0 < j) × (j ≤ length (header_functions u.header))
    by (Row i) (r, at_r, is) = absurd (let wrong : ⊥ = cc is in wrong)
    by (Call i n) (v, d, at_v, row_v, some, most, is) =
        let number : e ≡ d = cc is in
        let function : j ≡ n = cc is in
        let place = children-apart local lawful k i e u v at at_v row (row_v ∙ ap Some (sym number)) in
        let one : v ≡ u = same_Some v u (sym at_v ∙ ap (slice_get local.children) (sym place) ∙ at) in
        subst (λ (w : ChildUse). (0 < j) × (j ≤ length (header_functions w.header))) one
        (omega (arith, some, function), omega (arith, most, function))

-- calls of nodes that weren't executed before and are afterwards are, in some order, those of the child's functions that pass
module _ (local : LocalSystem) (lawful : IsLocal local) (k e : ℕ) (u : ChildUse) (at : slice_get local.children k ≡ Some u)
    (row : u.header.row ≡ Some e)
    (before behind : Node → Bool) (nodes : (x : Node) → behind x ≡ true → Contains (node_list local) x) where
  abbrev count : ℕ
  count = length (header_functions u.header)

  are-often : (a : Account) (calls : Calls k e before behind a) (p : ℕ → Bool) →
      ((j : ℕ) → 0 < j → j ≤ count → bit (before (node.Call e j)) + bit (p j) ≡ bit (behind (node.Call e j))) →
      IsPermutation (filter p (range_with_len 1 count)) calls.functions
  are-often a calls p passes = as-often (filter p (range_with_len 1 count)) calls.functions (λ j. by j (cases_lt 0 j) (cases_lt count j))
    where
      outside : (j : ℕ) → ((0 < j) × (j ≤ count) → ⊥) → times j calls.functions ≡ 0
      outside j not_one = never (behind (node.Call e j)) refl
        where
          never : (t : Bool) → behind (node.Call e j) ≡ t → times j calls.functions ≡ 0
          never true is = absurd (not_one (call-is local lawful k e j u at row (nodes (node.Call e j) is)))
          never false is = let sum = calls.counts j in let none = ap bit is in omega (arith, sum, none)

      by : (j : ℕ) → (0 < j) ⊎ (j ≤ 0) → (count < j) ⊎ (j ≤ count) → times j (filter p (range_with_len 1 count)) ≡ times j calls.functions
      by j (inl some) (inr most) =
          let sum = calls.counts j in
          let one = passes j some most in
          let kept = kept-once p 1 count j (omega (arith, some)) (omega (arith, most)) in
          omega (arith, sum, one, kept)
      by j (inr none) most = kept-below p 1 count j (omega (arith, none))
          ∙ sym (outside j (λ range. let some = range.0 in omega (arith, some, none)))
      by j (inl some) (inl past) =
          kept-outside p 1 count j (omega (arith, past)) ∙ sym (outside j (λ range. let most = range.1 in omega (arith, most, past)))

-- what a system has for its children has a row
child-row : (local : LocalSystem) (lawful : IsLocal local) (k : ℕ) (u : ChildUse) → slice_get local.children k ≡ Some u →
    (e : ℕ) × (u.header.row ≡ Some e)
child-row local lawful k u at =
    let n = number-of (λ (u : ChildUse). u.header.row) local.children lawful.numbers u lawful.have_numbers (in-at local.children k u at) in
    (n.0, n.2)

no-own-calls : (f : ℕ) (ns : List ℕ) → calls_inside f (map called_here ns) ≡ []
no-own-calls f [] = refl
no-own-calls f (n ∷ ns) = no-own-calls f ns

either : (t : Bool) (P Q : Type 0) → (t ≡ true → P) → (t ≡ false → Q) → MatchBool t P Q
either true P Q one two = one refl
either false P Q one two = two refl

-- ---- Tests as numbers

grown : (s t : Bool) (n : ℕ) → bit s + n ≡ bit t → bit s + bit (t && not s) ≡ bit t
grown true true n e = refl
grown true false n e = absurd (omega (arith, e))
grown false true n e = refl
grown false false n e = refl

all-grown : (s t : Bool) → t ≡ true → bit s + bit (not s) ≡ bit t
all-grown true true e = refl
all-grown false true e = refl
all-grown s false e = absurd (true-false true refl (sym e))

stored-grown : (s t : Bool) (n : ℕ) → bit s + n ≤ bit t → n ≤ bit (t && not s)
stored-grown true true n e = omega (arith, e)
stored-grown true false n e = omega (arith, e)
stored-grown false true n e = omega (arith, e)
stored-grown false false n e = omega (arith, e)

stored-new : (s t : Bool) (n : ℕ) → bit s + n ≤ bit t → n ≤ bit (not s)
stored-new true true n e = omega (arith, e)
stored-new true false n e = omega (arith, e)
stored-new false true n e = omega (arith, e)
stored-new false false n e = omega (arith, e)

-- ---- The acts

module _ (local : LocalSystem) (profile : SystemProfile) (schedule : SystemSchedule) (offers : List Offer) (m : LocalTick)
    (children : List InstanceTick)
    (emitted : IsEmitted local profile schedule) (lawful : IsLocal local) (places : HasFieldPlaces local schedule)
    (has : HasGroups profile schedule)
    (updates_end_ticks : UpdatesEndTicks) (pures : List PureTree) (numbers : ℕ → ℕ) where
  abbrev h : SystemHeader
  h = own_header local profile

  abbrev own : InstanceTick
  own = emitted_instance local profile schedule offers pures numbers m children

  -- the nodes that were executed where these functions were called
  abbrev by_calls : (ℕ → Bool) → Node → Bool
  by_calls called = executed_by h (held local schedule) called

  abbrev Led : (Node → Bool) → Functions → Account → Type 0
  Led executed d a = Goes local schedule children places (called_by local schedule m children places lawful (is_active local m) executed)
      d a

  new-groups : (d : ℕ → Bool) (g : ℕ) → g < length schedule.groups → d g ≡ false →
      AreNew local (executed_in local schedule d) (group_nodes schedule g)
  new-groups d g below fresh =
      let long = group-count local profile schedule emitted.is_schedule in
      group-is-new local profile schedule emitted.is_schedule lawful g d (omega (arith, below, long)) fresh

  inside : (j : ℕ) → 0 < j → j ≤ length profile.functions → (g : ℕ) → Contains (called_groups schedule j) g → g < length schedule.groups
  inside j some most g calls = (code-group profile schedule g has (has.called j g some most calls)).1

  executed-is : (called : ℕ → Bool) → by_calls called ≡ executed_in local schedule (done_by schedule called)
  executed-is called = called-executed local schedule profile called has

  -- what is executed is a node
  executed-node : (done : ℕ → Bool) (x : Node) → executed_in local schedule done x ≡ true → Contains (node_list local) x
  executed-node done x is = let n = executed-of local profile schedule emitted.is_schedule done x is in in-at (node_list local) n.0 x n.1

  -- the accounts, from what children add
  module _ (called : ℕ → Bool) (act : Act) (d : Functions) where
    abbrev account : Account
    account = act_account local h schedule m children called act

    module _ (goes : Led (by_calls called) d account)
        (are_acts : (k : ℕ) (u : ChildUse) → slice_get local.children k ≡ Some u →
        AreActs local h (held local schedule) m called act u (account.acts k))
        (once : (f : ℕ) (r : LocalRow) → slice_get (code_slots local schedule) f ≡ Some (value r) →
        account.stored [] f ≤ bit (newly_executed local h (held local schedule) m called act (node.Row r.row))) where
      abbrev entry : List LoggedCall
      entry = map called_here (own_entry (emitted_offer local profile schedule offers pures numbers) act)

      adds : Adds local h (held local schedule) m (code_slots local schedule) children own (own_steps local h schedule m children)
          called act
      adds = record {
        acts = account.acts;
        are_acts = are_acts;
        most = ap (λ n. account.steps + n) goes.inner;
        log = λ f k u at.
            filter_map-append (call_inside f) entry account.log
            ∙ ap (λ l. l ++ calls_inside f account.log) (no-own-calls f
            (own_entry (emitted_offer local profile schedule offers pures numbers) act))
            ∙ goes.log f k u at;
        no_other_log = λ f none.
            filter_map-append (call_inside f) entry account.log
            ∙ ap (λ l. l ++ calls_inside f account.log) (no-own-calls f
            (own_entry (emitted_offer local profile schedule offers pures numbers) act))
            ∙ goes.no_other_log f none;
        stored = λ f k u path field at. goes.stored f k u path field at;
        stored_here = once;
      }

  -- ---- A function

  module _ (called : ℕ → Bool) (j : ℕ) (some : 0 < j) (most : j ≤ length profile.functions) where
    abbrev before : Node → Bool
    before = executed_in local schedule (done_by schedule called)

    abbrev behind : Node → Bool
    behind = executed_in local schedule (with_groups (done_by schedule called) (called_groups schedule j))

    abbrev function : Account
    function = function_account local m children schedule (done_by schedule called) j

    behind-is : behind ≡ by_calls (with_called called j)
    behind-is =
        ap (executed_in local schedule) (groups-called profile schedule called (with_called called j) j
        (λ g. function-more profile schedule called j g has some most)) ∙ sym (executed-is (with_called called j))

    function-goes : Led (by_calls called) (called_by local schedule m children places lawful (is_active local m) behind) function
    function-goes =
        subst (λ executed. Led executed (called_by local schedule m children places lawful (is_active local m) behind) function)
        (sym (executed-is called))
        (groups-lead local schedule m children places lawful (done_by schedule called) (called_groups schedule j) (inside j some most)
        new-groups)

    abbrev newly : Node → Bool
    newly x = by_calls (with_called called j) x && not (by_calls called x)

    newly-is : (x : Node) → newly x ≡ (behind x && not (before x))
    newly-is x =
        ap (λ (e : Node → Bool). e x && not (by_calls called x)) (sym behind-is)
        ∙ ap (λ (e : Node → Bool). behind x && not (e x)) (executed-is called)

    function-calls : (k : ℕ) (u : ChildUse) → slice_get local.children k ≡ Some u → is_active local m ≡ true →
        AreCalls (newly_called local h (held local schedule) m called (out j) u) (function.acts k)
    function-calls k u at active =
        let e = child-row local lawful k u at in
        let calls = groups-make local schedule m children lawful active k e.0 u at e.1 (done_by schedule called) (called_groups schedule j)
        (inside j some most) new-groups in (
          calls.functions,
          are-often local lawful k e.0 u at e.1 before behind (λ x is.
              executed-node (with_groups (done_by schedule called) (called_groups schedule j)) x is)
              function calls (λ i. called_in true newly u i) (λ i low high.
              ap (λ (o : Option ℕ). bit (before (node.Call e.0 i)) + bit (is_call_executed o newly i)) e.1
              ∙ ap (λ t. bit (before (node.Call e.0 i)) + bit t) (newly-is (node.Call e.0 i))
              ∙ grown (before (node.Call e.0 i)) (behind (node.Call e.0 i)) (times i calls.functions) (calls.counts i)),
          calls.acts,
        )

    function-acts : (k : ℕ) (u : ChildUse) → slice_get local.children k ≡ Some u →
        AreActs local h (held local schedule) m called (out j) u (function.acts k)
    function-acts k u at =
        either (is_active local m) (AreCalls (newly_called local h (held local schedule) m called (out j) u) (function.acts k))
        (function.acts k ≡ [])
        (function-calls k u at)
        (λ inactive. groups-quiet local schedule m children lawful inactive k (done_by schedule called) (called_groups schedule j))

    function-once : (f : ℕ) (r : LocalRow) → slice_get (code_slots local schedule) f ≡ Some (value r) →
        function.stored [] f ≤ bit (newly (node.Row r.row))
    function-once f r at =
        let once = groups-once local schedule m children places f r at (done_by schedule called) (called_groups schedule j)
        (inside j some most) new-groups in
        let new = ap bit (newly-is (node.Row r.row)) in
        let less = stored-grown (before (node.Row r.row)) (behind (node.Row r.row)) (function.stored [] f) once in
        omega (arith, new, less)

    pub function-adds : Adds local h (held local schedule) m (code_slots local schedule)
        children own (own_steps local h schedule m children) called (out j)
    function-adds =
        adds called (out j) (called_by local schedule m children places lawful (is_active local m) behind)
        function-goes function-acts function-once

  -- ---- The update

  module _ (called : ℕ → Bool) (all : (j : ℕ) → 0 < j → j ≤ length profile.functions → IsTrue (called j)) where
    abbrev executed : Node → Bool
    executed = by_calls called

    abbrev ended : Node → Bool
    ended = with_nodes_at local executed schedule.update

    abbrev last : Account
    last = update_account local m children schedule executed

    all-done : AreAllDone profile schedule (done_by schedule called)
    all-done j g some most calls =
        any-in (λ j. called j && calls_group schedule j g) (range_with_len 1 (length schedule.functions)) j
        (subst (λ n. Contains (range_with_len 1 n) j) (sym has.functions)
        (in-range 1 (length profile.functions) j (omega (arith, some)) (omega (arith, most))))
        (true-both (called j) (calls_group schedule j g) (all j some most) calls)

    end : EndsTick local schedule executed
    end = subst (EndsTick local schedule) (sym (executed-is called))
        (updates_end_ticks local profile schedule emitted (done_by schedule called) all-done)

    new : AreNew local executed schedule.update
    new = next-new local executed schedule.update end.are_next

    update-nodes : (x : Node) → ended x ≡ true → Contains (node_list local) x
    update-nodes x is = elim (one-true (is_among local schedule.update x) (executed x)
        (sym (nodes-more local executed schedule.update x) ∙ is)) [
          | inl among ↦ let n = among-of local schedule.update x among in in-at (node_list local) n.0 x n.2
          | inr before ↦ executed-node (done_by schedule called) x (sym (ap (λ (e : Node → Bool). e x) (executed-is called)) ∙ before)
        ]

    update-calls : (k : ℕ) (u : ChildUse) → slice_get local.children k ≡ Some u → is_active local m ≡ true →
        AreCallsAndUpdate (newly_called local h (held local schedule) m called update u) (last.acts k)
    update-calls k u at active =
        let e = child-row local lawful k u at in
        let calls = nodes-make local schedule m children lawful active k e.0 u at e.1 executed schedule.update new in (
          calls.functions,
          are-often local lawful k e.0 u at e.1 executed ended update-nodes
              (nodes_account local m children executed schedule.update) calls (λ i. called_in true (λ x. not (executed x)) u i)
              (λ i low high.
              ap (λ (o : Option ℕ). bit (executed (node.Call e.0 i)) + bit (is_call_executed o (λ x. not (executed x)) i)) e.1
              ∙ all-grown (executed (node.Call e.0 i)) (ended (node.Call e.0 i))
              (end.all (node.Call e.0 i) (call-in local k e.0 i u at e.1 low high))),
          update-acts local schedule m children lawful k u at executed
              ∙ ap (λ acts. acts ++ ((if is_active local m then update ∷ [] else []) ++ (if is_off local m then reset ∷ [] else [])))
              calls.acts
              ∙ ap (λ t. map out calls.functions ++ ((if t then update ∷ [] else []) ++ (if is_off local m then reset ∷ [] else []))) active
              ∙ ap (λ t. map out calls.functions ++ ((update ∷ []) ++ (if t then reset ∷ [] else [])))
              (active-not-off m.tick.parent local.control m.tick.trigger m.tick.controls active),
        )

    update-rest : (k : ℕ) (u : ChildUse) → slice_get local.children k ≡ Some u → is_active local m ≡ false →
        last.acts k ≡ (if is_off local m then reset ∷ [] else [])
    update-rest k u at inactive =
        update-acts local schedule m children lawful k u at executed
        ∙ ap (λ acts. acts ++ ((if is_active local m then update ∷ [] else []) ++ (if is_off local m then reset ∷ [] else [])))
        (nodes-quiet local schedule m children lawful inactive k executed schedule.update)
        ∙ ap (λ t. (if t then update ∷ [] else []) ++ (if is_off local m then reset ∷ [] else [])) inactive

    update-are : (k : ℕ) (u : ChildUse) → slice_get local.children k ≡ Some u →
        AreActs local h (held local schedule) m called update u (last.acts k)
    update-are k u at =
        either (is_active local m) (AreCallsAndUpdate (newly_called local h (held local schedule) m called update u) (last.acts k))
        (last.acts k ≡ (if is_off local m then reset ∷ [] else [])) (update-calls k u at) (update-rest k u at)

    update-stores : (f : ℕ) (r : LocalRow) → slice_get (code_slots local schedule) f ≡ Some (value r) →
        last.stored [] f ≤ bit (not (executed (node.Row r.row)))
    update-stores f r at =
        stored-new (executed (node.Row r.row)) (ended (node.Row r.row)) (last.stored [] f)
        (update-once local schedule m children places f r at executed new)

    pub update-adds : Adds local h (held local schedule) m (code_slots local schedule) children own (own_steps local h schedule m children)
        called update
    update-adds = adds called update (λ k u. none_called) (update-leads local schedule m children places lawful executed new)
        update-are update-stores

  -- ---- The reset

  none-executed : (x : Node) → by_calls none_called x ≡ false
  none-executed x = none-pass (range_with_len 1 (length profile.functions))
    where
      none-pass : (js : List ℕ) → list_any (λ j. false && held local schedule j x) js ≡ false
      none-pass [] = refl
      none-pass (j ∷ js) = none-pass js

  none-called : (λ (k : ℕ) (u : ChildUse). none_called) ≡ called_by local schedule m children places lawful (is_active local m)
      (by_calls none_called)
  none-called = fun_ext (λ k. fun_ext (λ u. fun_ext (λ j. by (is_active local m) u.header.row j)))
    where
      by : (active : Bool) (row : Option ℕ) (j : ℕ) → false ≡ (active && is_call_executed row (by_calls none_called) j)
      by false row j = refl
      by true None j = refl
      by true (Some e) j = sym (none-executed (node.Call e j))

  pub reset-adds : Adds local h (held local schedule) m (code_slots local schedule) children own (own_steps local h schedule m children)
      none_called reset
  reset-adds =
      adds none_called reset (λ k u. none_called)
      (subst (λ b. Goes local schedule children places b (λ k u. none_called) (reset_account local m children)) none-called
      (reset-leads local schedule m children places lawful))
      (λ k u at. reset-acts local schedule m children lawful k u at)
      (λ f r at. let none = reset-stores local schedule m children places f r at in omega (arith, none))

module _ (fields_have_places : FieldsHavePlaces) (locals_are_lawful : LocalsAreLawful) (groups_stand_first : GroupsStandFirst)
    (updates_end_ticks : UpdatesEndTicks) where
  pub emitted_acts_add : EmittedActsAdd
  emitted_acts_add local profile schedule cycle offers m children is pures numbers called act may = by act may
    where
      lawful : IsLocal local
      lawful = locals_are_lawful is.emitted.resolved local.row local is.emitted.is_resolved is.emitted.is_local

      places : HasFieldPlaces local schedule
      places = fields_have_places local profile schedule is.emitted

      has : HasGroups profile schedule
      has = groups_stand_first local profile schedule is.emitted

      by : (act : Act) → MayCome (own_header local profile) (outer_tick_of local m) called act →
          Adds local (own_header local profile) (held local schedule) m (code_slots local schedule) children
          (emitted_instance local profile schedule offers pures numbers m children)
          (own_steps local (own_header local profile) schedule m children) called act
      by (out j) (active, some, most, fresh) =
          function-adds local profile schedule offers m children is.emitted lawful places has updates_end_ticks pures numbers called j some
          most
      by update (active, all) =
          update-adds local profile schedule offers m children is.emitted lawful places has updates_end_ticks pures numbers called all
      by reset (off, none) =
          subst (λ c. Adds local (own_header local profile) (held local schedule) m (code_slots local schedule) children
          (emitted_instance local profile schedule offers pures numbers m children)
          (own_steps local (own_header local profile) schedule m children) c reset)
          (sym none)
          (reset-adds local profile schedule offers m children is.emitted lawful places has updates_end_ticks pures numbers)
