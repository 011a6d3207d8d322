-- The code of a group executes its nodes, but only once where the group has a counter.
use Rattle.std.specs.Prelude.{◌≡◌, ◌⊎◌, ℕ, suc, ◌+◌, ◌<◌, Bool, true, false, ◌==◌, ◌||◌, if◌then◌else◌, List, map, length, slice_get, Contains, IsTrue, IsFalse, Some, None, ℤ, pos, refl}
use Rattle.std.specs.Option.{option_map, option_map_or}
use Rattle.std.specs.Ordering.{int_eq}
use Rattle.std.specs.List.{AllZip}
use Rattle.std.proofs.Common.{sym, ap, subst, ◌∙◌, arith, inl, inr, true≢false}
use Rattle.std.proofs.lemmas.Bool.{eq-eqb, eqb-true}
use Rattle.std.proofs.lemmas.List.{append-nil}
use Rattle.std.proofs.lemmas.Slice.Eq.{bytes_eq-Decides}
use Rattle.base_core.specs.declared.base.Compare.TheVariants.{Eq}
use Rattle.modules_profile.specs.declared.nodes.Node.{Node}
use Rattle.modules_profile.specs.LocalSystem.{LocalSystem}
use Rattle.modules_profile.proofs.lemmas.Members.{in-at}
use Rattle.modules_schedule.specs.SystemSchedule.{SystemSchedule}
use Rattle.c_syntax.specs.declared.code.Leaf.TheVariants.{Own}
use Rattle.c_syntax.specs.Tree.{literal, read, compare, CondTree, StmtTrees, no_stmts, more_stmts, assign, branch, ParamTree, PureTree, type_at}
use Rattle.c_semantics.specs.Cells.{Cells, number, set_cell, cell_value, number_at}
use Rattle.c_semantics.specs.Values.{gives, is_in_type}
use Rattle.c_semantics.specs.Machine.{Routine, Scope}
use Rattle.c_semantics.specs.RunLaws.{test_in}
use Rattle.emit_row_code.specs.RowCode.{nought}
use Rattle.emit_shape.specs.Names.{counter_name}
use Rattle.emit_shape.specs.Slots.{Slot, value, memory, ring_items, ring_place, ring_taken, trigger, counter, instance, filler}
use Rattle.right_relation.specs.ExecutedNodes.{RowIsNoField, RowIsExecuted, CallIsExecuted}
use Rattle.right_relation.specs.Instances.{InstanceTick, Offer}
use Rattle.right_relation.specs.LocalTicks.{LocalTick}
use Rattle.right_relation.specs.NodeStatements.{IsArgument, stored_once}
use Rattle.right_relation.specs.Standing.{standing_cell, standing_cells}
use Rattle.emit_system_spec.specs.EmittedCode.{joined, counted}
use Rattle.emit_system_spec.specs.Fields.{child_field, counter_slot, counter_field, shared_groups, code_slots}
use Rattle.emit_system_spec.specs.Groups.{group_nodes, own_count}
use Rattle.emit_system_spec.specs.NodeCode.{code_at}
use Rattle.right_system_nodes.specs.Pieces.{AreNodeCodes}
use Rattle.right_system_ticks.specs.Holding.{with_group, executed_in, count_in}
use Rattle.right_system_ticks.specs.CodeAccounts.{Account, takes_steps, nothing_done, stores, and_then}
use Rattle.right_system_ticks.specs.OwnAccounts.{nodes_account, counter_account}
use Rattle.right_system_ticks.specs.PlaceLaws.{HasFieldPlaces}
use Rattle.right_system_ticks.specs.ScheduleLaws.{AreNext}
use Rattle.right_system_ticks.proofs.Tests.{first-place}
use Rattle.right_system_ticks.proofs.DoneGroups.{group-more, count-counts, count-unshared, count-again, count-done, count-not-done, count-other}
use Rattle.right_system_ticks.proofs.CellLists.{cell-stands, cells-set, slot-type}
use Rattle.right_system_ticks.proofs.Sequences.{Does, DoesOne, nothing-does, more-does, does-weaker}
use Rattle.right_system_ticks.proofs.Statements.{branch-does, store-does}
use Rattle.right_system_ticks.proofs.NodeRuns.{IsRunning, body_sees, moved, nodes-run}

-- ---- Counters

-- a group has a counter where functions share it
pub has-counter : (local : LocalSystem) (schedule : SystemSchedule) (g : ℕ) →
    ((counter_field local schedule g ≡ None) × (Contains (shared_groups schedule) g → ⊥))
    ⊎ ((k : ℕ) × (slice_get (shared_groups schedule) k ≡ Some g)
    × (counter_field local schedule g ≡ Some (child_field local (length local.children) + k)))
has-counter local schedule g = elim (first-place (λ i. i == g) 0 (shared_groups schedule)) [
  | inl (none, all) ↦ inl (
    ap (option_map (λ (k : ℕ). child_field local (length local.children) + k)) none,
    λ h. true≢false (sym (eq-eqb g g refl) ∙ all g h),
  )
  | inr (k, x, there, at, passes) ↦
      inr (
        k,
        subst (λ i. slice_get (shared_groups schedule) k ≡ Some i) (eqb-true x g passes) at,
        ap (option_map (λ (k : ℕ). child_field local (length local.children) + k)) there
            ∙ ap (λ n. Some (child_field local (length local.children) + n)) (let e : 0 + k ≡ k = omega arith in e),
      )
]

module _ (local : LocalSystem) (schedule : SystemSchedule) (m : LocalTick) (children : List InstanceTick)
    (places : HasFieldPlaces local schedule) where
  -- setting the counter of a group is one field
  pub counter-set : (executed : Node → Bool) (done : ℕ → Bool) (k g : ℕ) → slice_get (shared_groups schedule) k ≡ Some g →
      standing_cells local m children (code_slots local schedule) executed (count_in schedule (with_group done g))
      ≡ set_cell (standing_cells local m children (code_slots local schedule) executed (count_in schedule done))
      (child_field local (length local.children) + k) (number (pos 1))
  counter-set executed done k g at =
      cells-set (standing_cell local m children executed (count_in schedule done))
      (standing_cell local m children executed (count_in schedule (with_group done g))) (code_slots local schedule)
      (child_field local (length local.children) + k) (counter_slot g) (places.counters k g at) others
      ∙ ap (λ v. set_cell (standing_cells local m children (code_slots local schedule) executed (count_in schedule done))
      (child_field local (length local.children) + k) (number v))
      (count-done schedule (with_group done g) g (in-at (shared_groups schedule) k g at) (ap (λ t. t || done g) (eq-eqb g g refl)))
    where
      others : (i : ℕ) (x : Slot) → slice_get (code_slots local schedule) i ≡ Some x →
          (i ≡ child_field local (length local.children) + k → ⊥) →
          standing_cell local m children executed (count_in schedule (with_group done g)) x
          ≡ standing_cell local m children executed (count_in schedule done) x
      others i (counter name type) there apart =
          let c = places.each i (counter name type) there in
          let other : c.1 ≡ g → ⊥ = λ e. apart (c.3 ∙ ap (λ n. child_field local (length local.children) + n)
          (places.counters_differ c.0 k c.1 g c.2 at ((bytes_eq-Decides (counter_name (suc c.1)) (counter_name (suc g))).1
          (ap (λ n. counter_name (suc n)) e)))) in
          ap number (ap (count_in schedule (with_group done g)) c.4
          ∙ count-other schedule local places done g c.1 (in-at (shared_groups schedule) k g at)
          (in-at (shared_groups schedule) c.0 c.1 c.2) other
          ∙ ap (count_in schedule done) (sym c.4))
      others i _ there apart = refl

-- ---- Groups

module _ (row_is_executed : RowIsExecuted) (call_is_executed : CallIsExecuted) (row_is_no_field : RowIsNoField)
    (local : LocalSystem) (schedule : SystemSchedule) (offers : List Offer) (children : List InstanceTick) (cycle : ℕ)
    (m : LocalTick) (pures : List PureTree) (running : IsRunning local schedule offers children cycle m pures) (own : List Routine)
    (params : List ParamTree) (values : List ℤ)
    (arguments : AllZip (IsArgument local (code_slots local schedule) offers children cycle m params
    (body_sees local schedule offers pures own))
    params values)
    (g : ℕ) (below : g < length schedule.groups) (right : AreNodeCodes local schedule params (group_nodes schedule g))
    (done : ℕ → Bool) where
  abbrev sees : Scope
  sees = body_sees local schedule offers pures own values

  abbrev state : (ℕ → Bool) → Cells
  state groups = standing_cells local m children (code_slots local schedule) (executed_in local schedule groups) (count_in schedule groups)

  -- the nodes were not executed before, and the counter says so by now
  abbrev counted_state : Cells
  counted_state =
      standing_cells local m children (code_slots local schedule) (executed_in local schedule done) (count_in schedule (with_group done g))

  abbrev nodes : StmtTrees
  nodes = joined (map (code_at local (own_count schedule) params) (group_nodes schedule g))

  abbrev new_account : Account
  new_account = and_then (counter_account local m children schedule g)
      (nodes_account local m children (executed_in local schedule done) (group_nodes schedule g))

  abbrev body_account : Bool → Account
  body_account t = and_then (takes_steps 1) (if t then nothing_done else new_account)

  nodes-does : AreNext local (executed_in local schedule done) (group_nodes schedule g) →
      Does sees (moved local schedule offers pures own nodes) counted_state (state (with_group done g))
      (nodes_account local m children (executed_in local schedule done) (group_nodes schedule g))
  nodes-does next =
      subst (λ executed. Does sees (moved local schedule offers pures own nodes) counted_state
      (standing_cells local m children (code_slots local schedule) executed (count_in schedule (with_group done g)))
      (nodes_account local m children (executed_in local schedule done) (group_nodes schedule g)))
      (group-more local schedule done g below)
      (nodes-run row_is_executed call_is_executed row_is_no_field local schedule offers children cycle m pures running own params values
      arguments
      (count_in schedule (with_group done g)) (count-counts schedule (with_group done g)) (executed_in local schedule done)
      (group_nodes schedule g)
      next right)

  -- the counter of the group, at its field
  module _ (k : ℕ) (at : slice_get (shared_groups schedule) k ≡ Some g) where
    abbrev field : ℕ
    field = child_field local (length local.children) + k

    abbrev test : CondTree
    test = compare Eq (read (Own field)) nought

    counts : number_at (state done) field ≡ count_in schedule done (counter_name (suc g))
    counts = ap cell_value (cell-stands (standing_cell local m children (executed_in local schedule done) (count_in schedule done))
        (code_slots local schedule) field (counter_slot g) (running.places.counters k g at))

    tests : (v : ℤ) → count_in schedule done (counter_name (suc g)) ≡ v → (steps : ℕ) →
        test_in sees (state done) 0 steps test ≡ gives (int_eq v (pos 0)) steps
    tests v is steps = ap (λ n. gives (int_eq n (pos 0)) steps) (counts ∙ is)

    fits : is_in_type (type_at sees.types field) (pos 1) ≡ true
    fits = ap (λ t. is_in_type t (pos 1)) (slot-type (code_slots local schedule) field (counter_slot g) (running.places.counters k g at))

    guarded-new : IsFalse (done g) → AreNext local (executed_in local schedule done) (group_nodes schedule g) →
        Does sees (moved local schedule offers pures own (counted (Some field) nodes)) (state done) (state (with_group done g))
        (and_then (and_then (takes_steps 1) (and_then (stores 1 (stored_once field))
        (nodes_account local m children (executed_in local schedule done) (group_nodes schedule g)))) nothing_done)
    guarded-new is next =
        let inner = and_then (stores 1 (stored_once field)) (nodes_account local m children (executed_in local schedule done)
        (group_nodes schedule g)) in
        more-does sees (branch 0 test (more_stmts (assign 0 field (literal (pos 1)))
        (moved local schedule offers pures own nodes)) no_stmts) no_stmts
        (state done) (state (with_group done g)) (state (with_group done g)) (and_then (takes_steps 1) inner) nothing_done
        (branch-does sees test (more_stmts (assign 0 field (literal (pos 1))) (moved local schedule offers pures own nodes)) no_stmts true
        (state done) (state (with_group done g)) inner
        (tests (pos 0) (count-not-done schedule local running.places done g (in-at (shared_groups schedule) k g at) is))
        (more-does sees (assign 0 field (literal (pos 1))) (moved local schedule offers pures own nodes) (state done) counted_state
        (state (with_group done g)) (stores 1 (stored_once field))
        (nodes_account local m children (executed_in local schedule done) (group_nodes schedule g))
        (subst (λ y. DoesOne sees (assign 0 field (literal (pos 1))) (state done) y (stores 1 (stored_once field)))
        (sym (counter-set local schedule m children running.places (executed_in local schedule done) done k g at))
        (store-does sees field (pos 1) (state done) fits))
        (nodes-does next)))
        (nothing-does sees (state (with_group done g)))

    guarded-again : IsTrue (done g) →
        Does sees (moved local schedule offers pures own (counted (Some field) nodes)) (state done) (state (with_group done g))
        (and_then (and_then (takes_steps 1) nothing_done) nothing_done)
    guarded-again is =
        subst (λ y. Does sees (moved local schedule offers pures own (counted (Some field) nodes)) (state done) (state y)
        (and_then (and_then (takes_steps 1) nothing_done) nothing_done))
        (sym (count-again schedule done g is))
        (more-does sees (branch 0 test (more_stmts (assign 0 field (literal (pos 1)))
        (moved local schedule offers pures own nodes)) no_stmts) no_stmts
        (state done) (state done) (state done) (and_then (takes_steps 1) nothing_done) nothing_done
        (branch-does sees test (more_stmts (assign 0 field (literal (pos 1))) (moved local schedule offers pures own nodes)) no_stmts false
        (state done) (state done) nothing_done
        (tests (pos 1) (count-done schedule done g (in-at (shared_groups schedule) k g at) is))
        (nothing-does sees (state done)))
        (nothing-does sees (state done)))

  -- a group that has a counter, or was not executed
  pub group-body-runs : (done g ≡ true → Contains (shared_groups schedule) g) →
      (done g ≡ false → AreNext local (executed_in local schedule done) (group_nodes schedule g)) →
      Does sees (moved local schedule offers pures own (counted (counter_field local schedule g) nodes)) (state done)
      (state (with_group done g))
      (body_account (done g))
  group-body-runs shared next = elim (has-counter local schedule g) [
    | inl (none, unshared) ↦
        subst (λ o. Does sees (moved local schedule offers pures own (counted o nodes)) (state done) (state (with_group done g))
        (body_account (done g)))
        (sym none) (unguarded none unshared (done g) refl)
    | inr (k, at, is) ↦
        subst (λ o. Does sees (moved local schedule offers pures own (counted o nodes)) (state done) (state (with_group done g))
        (body_account (done g)))
        (sym is) (guarded k at is (done g) refl)
  ]
    where
      unguarded : counter_field local schedule g ≡ None → (Contains (shared_groups schedule) g → ⊥) → (t : Bool) → done g ≡ t →
          Does sees (moved local schedule offers pures own nodes) (state done) (state (with_group done g)) (body_account t)
      unguarded none unshared true is = absurd (unshared (shared is))
      unguarded none unshared false is =
          let a = nodes_account local m children (executed_in local schedule done) (group_nodes schedule g) in
          subst (λ o. Does sees (moved local schedule offers pures own nodes) (state done) (state (with_group done g))
          (and_then (takes_steps 1) (and_then (option_map_or (λ f. stores 1 (stored_once f)) o nothing_done) a))) (sym none)
          (subst (λ count. Does sees (moved local schedule offers pures own nodes)
          (standing_cells local m children (code_slots local schedule) (executed_in local schedule done) count) (state (with_group done g))
          (and_then (takes_steps 1) (and_then nothing_done a))) (count-unshared schedule done g unshared)
          (does-weaker sees (moved local schedule offers pures own nodes) counted_state (state (with_group done g)) a
          (and_then (takes_steps 1) (and_then nothing_done a)) (omega arith) refl (λ path field. omega arith) (nodes-does (next is))))

      guarded : (k : ℕ) (at : slice_get (shared_groups schedule) k ≡ Some g) →
          counter_field local schedule g ≡ Some (child_field local (length local.children) + k) → (t : Bool) → done g ≡ t →
          Does sees (moved local schedule offers pures own (counted (Some (child_field local (length local.children) + k)) nodes))
          (state done)
          (state (with_group done g)) (body_account t)
      guarded k at is true e =
          does-weaker sees (moved local schedule offers pures own (counted (Some (child_field local (length local.children) + k)) nodes))
          (state done)
          (state (with_group done g)) (and_then (and_then (takes_steps 1) nothing_done) nothing_done) (body_account true) (omega arith) refl
          (λ path field. omega arith) (guarded-again k at e)
      guarded k at is false e =
          let a = nodes_account local m children (executed_in local schedule done) (group_nodes schedule g) in
          let inner = and_then (stores 1 (stored_once (child_field local (length local.children) + k))) a in
          subst (λ o. Does sees (moved local schedule offers pures own
          (counted (Some (child_field local (length local.children) + k)) nodes)) (state done)
          (state (with_group done g)) (and_then (takes_steps 1)
          (and_then (option_map_or (λ f. stores 1 (stored_once f)) o nothing_done) a))) (sym is)
          (does-weaker sees (moved local schedule offers pures own (counted (Some (child_field local (length local.children) + k)) nodes))
          (state done)
          (state (with_group done g)) (and_then (and_then (takes_steps 1) inner) nothing_done) (and_then (takes_steps 1) inner)
          (omega arith)
          (append-nil a.log) (λ path field. omega arith) (guarded-new k at e (next e)))
