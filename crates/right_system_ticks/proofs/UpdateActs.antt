-- A call of the update does what the instance says.
use Rattle.std.specs.Prelude.{◌≡◌, ℕ, ◌+◌, ◌<◌, ◌≤◌, Bool, true, false, ◌&&◌, if◌then◌else◌, List, [], ◌∷◌, map, filter, drop, length, slice_get, Contains, IsTrue, Some, ℤ, refl}
use Rattle.std.specs.List.{AllZip, enumerate_from, range_with_len}
use Rattle.std.proofs.Common.{sym, ap, subst, ◌∙◌, arith, add-zero}
use Rattle.diagram_meaning.specs.ControlValues.{enable_in, trigger_in}
use Rattle.diagram_meaning.specs.Rows.{is_triggered}
use Rattle.diagram_blocks.specs.Kinds.{is_delay}
use Rattle.modules_profile.specs.declared.local.ChildUse.{ChildUse}
use Rattle.modules_profile.specs.declared.local.LocalRow.{LocalRow}
use Rattle.modules_profile.specs.declared.nodes.Node.{Node}
use Rattle.modules_profile.specs.LocalSystem.{LocalSystem}
use Rattle.modules_profile.specs.SystemProfile.{SystemProfile}
use Rattle.modules_profile.specs.Locals.{own_header}
use Rattle.modules_profile.proofs.lemmas.Members.{in-none, of-filter, below-at, in-range}
use Rattle.modules_schedule.specs.SystemSchedule.{SystemSchedule}
use Rattle.c_syntax.specs.Tree.{StmtTrees, no_stmts, stmts_of_list, ParamTree, ProcedureTree, PureTree}
use Rattle.c_semantics.specs.Cells.{Cells}
use Rattle.c_semantics.specs.Machine.{Routine, Scope, routine_at}
use Rattle.emit_shape.specs.Heads.{update_head}
use Rattle.emit_shape.specs.Relocation.{Relocation}
use Rattle.emit_shape.specs.Slots.{Slot, memory, ring_items, ring_place, ring_taken, trigger, instance}
use Rattle.right_relation.specs.ExecutedNodes.{RowIsNoField, RowIsExecuted, CallIsExecuted, StandingHasSlots}
use Rattle.right_relation.specs.Instances.{update, InstanceTick, Offer, offered_for, Performs}
use Rattle.right_relation.specs.LocalTicks.{LocalTick, is_active, is_off}
use Rattle.right_relation.specs.NodeStatements.{IsArgument}
use Rattle.right_relation.specs.Relation.{children_routines, behind_offers, system_routines}
use Rattle.right_relation.specs.Rings.{EmptiedIsRing, MovedIsRing}
use Rattle.right_relation.specs.Serving.{act_values, own_entry}
use Rattle.right_relation.specs.Standing.{executed_by, outer_tick_of, standing_cells, after_cells}
use Rattle.emit_system_spec.specs.Emitted.{IsEmitted}
use Rattle.emit_system_spec.specs.EmittedCode.{with_body, joined, update_body, system_procedures, system_code}
use Rattle.emit_system_spec.specs.Fields.{child_field, shared_groups, code_slots}
use Rattle.emit_system_spec.specs.Groups.{code_groups, own_count}
use Rattle.emit_system_spec.specs.NodeCode.{code_at, memory_code, trigger_code, update_code, reset_code}
use Rattle.emit_system_spec.specs.Renewing.{counter_stores}
use Rattle.right_system_nodes.specs.Pieces.{HasRightPieces}
use Rattle.right_system_ticks.specs.ActLaws.{emitted_offer, emitted_instance}
use Rattle.right_system_ticks.specs.CodeAccounts.{Account, nothing_done, all_of}
use Rattle.right_system_ticks.specs.Holding.{calls_group, done_by, with_nodes_at, held, counted}
use Rattle.right_system_ticks.specs.OwnAccounts.{nodes_account, memory_account, trigger_account, child_update_account, child_reset_account, counters_account, update_account}
use Rattle.right_system_ticks.specs.OwnInstances.{called_here}
use Rattle.right_system_ticks.specs.PlaceLaws.{HasProcedurePlaces, LogsByName, IsTypedArgument, TakesArguments}
use Rattle.right_system_ticks.specs.ScheduleLaws.{EndsTick, AreAllDone, UpdatesEndTicks, HasGroups}
use Rattle.right_system_ticks.proofs.Tests.{any-in, true-both}
use Rattle.right_system_ticks.proofs.DoneGroups.{called-executed, count-counts}
use Rattle.right_system_ticks.proofs.Sequences.{Does, nothing-does, piece-then}
use Rattle.right_system_ticks.proofs.NodeRuns.{IsRunning, body_sees, moved, nodes-run}
use Rattle.right_system_ticks.proofs.NewFields.{once-rows, once-passed, with_child, with_children}
use Rattle.right_system_ticks.proofs.UpdateStates.{state, Untouched, begins}
use Rattle.right_system_ticks.proofs.UpdateRuns.{off-rests, IsNoMemory, memories-free, memories-run, child-update-run, child-reset-run, children-run, children-free, trigger-run, counters-run}
use Rattle.right_system_ticks.proofs.UpdateEnds.{behind_memories, behind_updates, behind_resets, behind_trigger, behind_all, update-ends}
use Rattle.right_system_ticks.proofs.OwnProcedures.{earlier-at, routine-is, other-at}
use Rattle.right_system_ticks.proofs.OutActs.{routine_here, performs-here}

zip-weaker : {A B : Type 0} (R S : A → B → Type 0) (xs : List A) (ys : List B) → ((x : A) (y : B) → R x y → S x y) → AllZip R xs ys →
    AllZip S xs ys
zip-weaker R S [] [] less all = tt
zip-weaker R S [] (y ∷ ys) less all = absurd all
zip-weaker R S (x ∷ xs) [] less all = absurd all
zip-weaker R S (x ∷ xs) (y ∷ ys) less all = (less x y all.0, zip-weaker R S xs ys less all.1)

-- where a test fails no child adds a field
no-children : (local : LocalSystem) (a : ℕ) (us : List ChildUse) (fields : List ℕ) → with_children local false a us fields ≡ fields
no-children local a [] fields = refl
no-children local a (u ∷ us) fields = no-children local (a + 1) us fields

module _ (row_is_executed : RowIsExecuted) (call_is_executed : CallIsExecuted) (row_is_no_field : RowIsNoField)
    (standing_has_slots : StandingHasSlots) (emptied_is_ring : EmptiedIsRing) (moved_is_ring : MovedIsRing)
    (updates_end_ticks : UpdatesEndTicks)
    (local : LocalSystem) (profile : SystemProfile) (schedule : SystemSchedule) (emitted : IsEmitted local profile schedule)
    (has : HasGroups profile schedule) (places : HasProcedurePlaces local profile schedule) (names : LogsByName local profile schedule)
    (pieces : HasRightPieces local profile schedule)
    (offers : List Offer) (children : List InstanceTick) (cycle : ℕ) (m : LocalTick) (pures : List PureTree)
    (running : IsRunning local schedule offers children cycle m pures) (takes : TakesArguments local profile cycle m) (numbers : ℕ → ℕ)
    (called : ℕ → Bool) (all : (j : ℕ) → 0 < j → j ≤ length profile.functions → IsTrue (called j)) where
  abbrev q : ℕ
  q = length (code_groups schedule) + length profile.functions

  abbrev own : List Routine
  own = (earlier-at local profile schedule has offers pures numbers q).0

  abbrev values : List ℤ
  values = act_values (own_header local profile) cycle (outer_tick_of local m) update

  abbrev params : List ParamTree
  params = (update_head (own_header local profile)).params

  abbrev sees : Scope
  sees = body_sees local schedule offers pures own values

  abbrev mv : Relocation
  mv = behind_offers (code_slots local schedule) offers (own_count schedule)

  abbrev at_first : Node → Bool
  at_first = executed_by (own_header local profile) (held local schedule) called

  abbrev executed : Node → Bool
  executed = with_nodes_at local at_first schedule.update

  abbrev count : List ℕ → ℤ
  count = counted schedule called

  arguments : AllZip (IsArgument local (code_slots local schedule) offers children cycle m params
      (body_sees local schedule offers pures own)) params values
  arguments = zip-weaker (IsTypedArgument local cycle m)
      (IsArgument local (code_slots local schedule) offers children cycle m params
      (body_sees local schedule offers pures own)) params values
      (λ x y is. is.is_argument (code_slots local schedule) offers children params (body_sees local schedule offers pures own)) takes.update

  all-done : AreAllDone profile schedule (done_by schedule called)
  all-done j g some most calls =
      any-in (λ i. called i && calls_group schedule i g) (range_with_len 1 (length schedule.functions)) j
      (subst (λ n. Contains (range_with_len 1 n) j) (sym has.functions)
      (in-range 1 (length profile.functions) j (omega (arith, some)) (omega (arith, most))))
      (true-both (called j) (calls_group schedule j g) (all j some most) calls)

  ends-tick : EndsTick local schedule at_first
  ends-tick =
      subst (EndsTick local schedule) (sym (called-executed local schedule profile called has))
      (updates_end_ticks local profile schedule emitted (done_by schedule called) all-done)

  abbrev now : List ℕ → Cells
  now fields = state standing_has_slots emptied_is_ring moved_is_ring local schedule offers children cycle m pures running executed
      ends-tick.all count
      (count-counts schedule (done_by schedule called)) fields

  abbrev Free : List ℕ → Slot → Type 0
  Free fields x = Untouched standing_has_slots emptied_is_ring moved_is_ring local schedule offers children cycle m pures running executed
      ends-tick.all count
      (count-counts schedule (done_by schedule called)) fields x

  -- the fields after each part
  abbrev memories : List ℕ
  memories = behind_memories standing_has_slots emptied_is_ring moved_is_ring local schedule offers children cycle m pures running
      executed ends-tick.all count
      (count-counts schedule (done_by schedule called))

  abbrev updates : List ℕ
  updates = behind_updates standing_has_slots emptied_is_ring moved_is_ring local schedule offers children cycle m pures running executed
      ends-tick.all count
      (count-counts schedule (done_by schedule called))

  abbrev resets : List ℕ
  resets = behind_resets standing_has_slots emptied_is_ring moved_is_ring local schedule offers children cycle m pures running executed
      ends-tick.all count
      (count-counts schedule (done_by schedule called))

  abbrev triggered : List ℕ
  triggered = behind_trigger standing_has_slots emptied_is_ring moved_is_ring local schedule offers children cycle m pures running
      executed ends-tick.all count
      (count-counts schedule (done_by schedule called))

  abbrev everything : List ℕ
  everything = behind_all standing_has_slots emptied_is_ring moved_is_ring local schedule offers children cycle m pures running executed
      ends-tick.all count
      (count-counts schedule (done_by schedule called))

  abbrev delay_rows : List LocalRow
  delay_rows = filter (λ r. is_delay r.op) local.rows

  are-delays : (r : LocalRow) → Contains delay_rows r → Contains local.rows r × (is_delay r.op ≡ true)
  are-delays r h = of-filter (λ (r : LocalRow). is_delay r.op) local.rows r h

  nothing-free : (x : Slot) → Free [] x
  nothing-free x f h at = in-none f h

  memories-leave : (x : Slot) → ((r : LocalRow) →
      IsNoMemory standing_has_slots emptied_is_ring moved_is_ring local schedule offers children cycle m pures running executed
      ends-tick.all count (count-counts schedule (done_by schedule called)) own params values arguments r x) → Free memories x
  memories-leave x other =
      memories-free standing_has_slots emptied_is_ring moved_is_ring local schedule offers children cycle m pures running executed
      ends-tick.all count
      (count-counts schedule (done_by schedule called)) own params values arguments [] delay_rows x are-delays other (nothing-free x)

  trigger-left : Free memories trigger
  trigger-left = memories-leave trigger (λ r. (
    (λ e. let w : ⊥ = cc e in w),
    (λ e. let w : ⊥ = cc e in w),
    (λ e. let w : ⊥ = cc e in w),
    (λ e. let w : ⊥ = cc e in w),
  ))

  child-left : (k : ℕ) (u : ChildUse) → Free memories (instance k u)
  child-left k u = memories-leave (instance k u)
      (λ r. ((λ e. let w : ⊥ = cc e in w), (λ e. let w : ⊥ = cc e in w), (λ e. let w : ⊥ = cc e in w), (λ e. let w : ⊥ = cc e in w)))

  stand : (i : ℕ) (u : ChildUse) → slice_get local.children i ≡ Some u → slice_get local.children (0 + i) ≡ Some u
  stand i u at = subst (λ n. slice_get local.children n ≡ Some u) (let e : i ≡ 0 + i = omega arith in e) at

  nodes-part : Does sees (moved local schedule offers pures own (joined (map (code_at local (own_count schedule) params) schedule.update)))
      (standing_cells local m children (code_slots local schedule) at_first count) (now [])
      (nodes_account local m children at_first schedule.update)
  nodes-part =
      subst (λ y. Does sees (moved local schedule offers pures own
      (joined (map (code_at local (own_count schedule) params) schedule.update)))
      (standing_cells local m children (code_slots local schedule) at_first count) y
      (nodes_account local m children at_first schedule.update))
      (sym (begins standing_has_slots emptied_is_ring moved_is_ring local schedule offers children cycle m pures running executed
      ends-tick.all count
      (count-counts schedule (done_by schedule called))))
      (nodes-run row_is_executed call_is_executed row_is_no_field local schedule offers children cycle m pures running own params values
      arguments count
      (count-counts schedule (done_by schedule called)) at_first schedule.update ends-tick.are_next pieces.nodes)

  memories-part : Does sees (moved local schedule offers pures own (joined (map (memory_code local params) delay_rows))) (now [])
      (now memories)
      (all_of (map (memory_account local) delay_rows))
  memories-part =
      memories-run standing_has_slots emptied_is_ring moved_is_ring local schedule offers children cycle m pures running executed
      ends-tick.all count
      (count-counts schedule (done_by schedule called)) own params values arguments [] delay_rows
      (once-passed (λ (r : LocalRow). is_delay r.op) local.rows (once-rows local.rows running.works.sound.lawful.rows_differ)) are-delays
      (λ r h. record {
        single = nothing-free (memory r);
        items = nothing-free (ring_items r);
        place = nothing-free (ring_place r);
        taken = nothing-free (ring_taken r);
      })
      (nothing-free trigger) pieces.update

  updates-piece : (fields : List ℕ) (k : ℕ) (u : ChildUse) → slice_get local.children k ≡ Some u →
      (is_active local m ≡ true → Free fields (instance k u)) → Free fields trigger →
      Does sees (moved local schedule offers pures own (update_code local (own_count schedule) params (k, u))) (now fields)
      (now (with_child local (is_active local m) k fields))
      (child_update_account local m children executed (k, u))
  updates-piece =
      child-update-run standing_has_slots emptied_is_ring moved_is_ring local schedule offers children cycle m pures running executed
      ends-tick.all count
      (count-counts schedule (done_by schedule called)) own params values arguments pieces.update

  updates-part : Does sees (moved local schedule offers pures own
      (joined (map (update_code local (own_count schedule) params) (enumerate_from 0 local.children)))) (now memories)
      (now updates) (all_of (map (child_update_account local m children executed) (enumerate_from 0 local.children)))
  updates-part =
      children-run standing_has_slots emptied_is_ring moved_is_ring local schedule offers children cycle m pures running executed
      ends-tick.all count
      (count-counts schedule (done_by schedule called)) own params values arguments (is_active local m)
      (update_code local (own_count schedule) params)
      (child_update_account local m children executed) updates-piece memories 0 local.children stand
      (λ active k u above. child-left k u) trigger-left

  trigger-still : Free updates trigger
  trigger-still =
      children-free standing_has_slots emptied_is_ring moved_is_ring local schedule offers children cycle m pures running executed
      ends-tick.all count
      (count-counts schedule (done_by schedule called)) own params values arguments (is_active local m)
      (update_code local (own_count schedule) params)
      (child_update_account local m children executed) updates-piece memories 0 local.children trigger stand (λ k u e. let w : ⊥ = cc e in
      w) trigger-left

  child-still : is_off local m ≡ true → (k : ℕ) (u : ChildUse) → Free updates (instance k u)
  child-still off k u =
      let rests = off-rests m.tick.parent local.control m.tick.trigger (enable_in local.control m.tick.controls)
      (trigger_in local.control m.tick.controls) off in
      subst (λ t. Free (with_children local t 0 local.children memories) (instance k u)) (sym rests)
      (subst (λ fields. Free fields (instance k u)) (sym (no-children local 0 local.children memories)) (child-left k u))

  resets-piece : (fields : List ℕ) (k : ℕ) (u : ChildUse) → slice_get local.children k ≡ Some u →
      (is_off local m ≡ true → Free fields (instance k u)) → Free fields trigger →
      Does sees (moved local schedule offers pures own (reset_code local (own_count schedule) params (k, u))) (now fields)
      (now (with_child local (is_off local m) k fields))
      (child_reset_account local m children (k, u))
  resets-piece =
      child-reset-run standing_has_slots emptied_is_ring moved_is_ring local schedule offers children cycle m pures running executed
      ends-tick.all count
      (count-counts schedule (done_by schedule called)) own params values arguments pieces.update

  resets-part : Does sees (moved local schedule offers pures own
      (joined (map (reset_code local (own_count schedule) params) (enumerate_from 0 local.children)))) (now updates)
      (now resets) (all_of (map (child_reset_account local m children) (enumerate_from 0 local.children)))
  resets-part =
      children-run standing_has_slots emptied_is_ring moved_is_ring local schedule offers children cycle m pures running executed
      ends-tick.all count
      (count-counts schedule (done_by schedule called)) own params values arguments (is_off local m)
      (reset_code local (own_count schedule) params)
      (child_reset_account local m children) resets-piece updates 0 local.children stand
      (λ off k u above. child-still off k u) trigger-still

  trigger-now : Free resets trigger
  trigger-now =
      children-free standing_has_slots emptied_is_ring moved_is_ring local schedule offers children cycle m pures running executed
      ends-tick.all count
      (count-counts schedule (done_by schedule called)) own params values arguments (is_off local m)
      (reset_code local (own_count schedule) params)
      (child_reset_account local m children) resets-piece updates 0 local.children trigger stand (λ k u e. let w : ⊥ = cc e in
      w) trigger-still

  trigger-part : Does sees (moved local schedule offers pures own
      (if is_triggered local.control then trigger_code local params else no_stmts)) (now resets) (now triggered)
      (trigger_account local)
  trigger-part =
      trigger-run standing_has_slots emptied_is_ring moved_is_ring local schedule offers children cycle m pures running executed
      ends-tick.all count
      (count-counts schedule (done_by schedule called)) own params values arguments pieces.update resets trigger-now
      (is_triggered local.control) refl

  counters-part : Does sees (moved local schedule offers pures own (stmts_of_list (counter_stores local schedule))) (now triggered)
      (now everything)
      (counters_account local m children schedule)
  counters-part =
      counters-run standing_has_slots emptied_is_ring moved_is_ring local schedule offers children cycle m pures running executed
      ends-tick.all count
      (count-counts schedule (done_by schedule called)) own params values arguments triggered (child_field local (length local.children))
      (length (shared_groups schedule))
      (λ i below.
      let g = below-at (shared_groups schedule) i below in
      (g.0, running.places.counters i g.0 g.1))

  abbrev codes : List StmtTrees
  codes =
      joined (map (memory_code local params) delay_rows)
      ∷ joined (map (update_code local (own_count schedule) params) (enumerate_from 0 local.children))
      ∷ joined (map (reset_code local (own_count schedule) params) (enumerate_from 0 local.children))
      ∷ (if is_triggered local.control then trigger_code local params else no_stmts)
      ∷ stmts_of_list (counter_stores local schedule) ∷ []

  abbrev accounts : List Account
  accounts =
      all_of (map (memory_account local) delay_rows)
      ∷ all_of (map (child_update_account local m children executed) (enumerate_from 0 local.children))
      ∷ all_of (map (child_reset_account local m children) (enumerate_from 0 local.children))
      ∷ trigger_account local
      ∷ counters_account local m children schedule ∷ []

  -- what follows the nodes
  others-does : Does sees (moved local schedule offers pures own (joined codes)) (now []) (now everything) (all_of accounts)
  others-does =
      piece-then sees mv (joined (map (memory_code local params) delay_rows)) (drop 1 codes) (now []) (now memories) (now everything)
      (all_of (map (memory_account local) delay_rows)) (all_of (drop 1 accounts)) memories-part
      (piece-then sees mv (joined (map (update_code local (own_count schedule) params) (enumerate_from 0 local.children))) (drop 2 codes)
      (now memories) (now updates) (now everything)
      (all_of (map (child_update_account local m children executed) (enumerate_from 0 local.children)))
      (all_of (drop 2 accounts)) updates-part
      (piece-then sees mv (joined (map (reset_code local (own_count schedule) params) (enumerate_from 0 local.children))) (drop 3 codes)
      (now updates) (now resets) (now everything)
      (all_of (map (child_reset_account local m children) (enumerate_from 0 local.children))) (all_of (drop 3 accounts)) resets-part
      (piece-then sees mv (if is_triggered local.control then trigger_code local params else no_stmts) (drop 4 codes)
      (now resets) (now triggered) (now everything) (trigger_account local) (all_of (drop 4 accounts)) trigger-part
      (piece-then sees mv (stmts_of_list (counter_stores local schedule)) [] (now triggered) (now everything) (now everything)
      (counters_account local m children schedule) nothing_done counters-part (nothing-does sees (now everything))))))

  -- the whole body
  body-does : Does sees (moved local schedule offers pures own (update_body local profile schedule params))
      (standing_cells local m children (code_slots local schedule) at_first count)
      (after_cells local m children (code_slots local schedule))
      (update_account local m children schedule at_first)
  body-does =
      subst (λ y. Does sees (moved local schedule offers pures own (update_body local profile schedule params))
      (standing_cells local m children (code_slots local schedule) at_first count) y (update_account local m children schedule at_first))
      (update-ends standing_has_slots emptied_is_ring moved_is_ring local schedule offers children cycle m pures running executed
      ends-tick.all count
      (count-counts schedule (done_by schedule called)))
      (piece-then sees mv (joined (map (code_at local (own_count schedule) params) schedule.update)) codes
      (standing_cells local m children (code_slots local schedule) at_first count) (now []) (now everything)
      (nodes_account local m children at_first schedule.update) (all_of accounts) nodes-part others-does)

  abbrev procedure : ProcedureTree
  procedure = with_body (update_head (own_header local profile)) (update_body local profile schedule params)

  routine-here : (offered_for (emitted_offer local profile schedule offers pures numbers) update).routine
      ≡ routine_here local profile schedule has offers pures numbers q procedure
  routine-here =
      ap (λ k. routine_at (system_routines pures (code_slots local schedule) offers (system_code local profile schedule) numbers)
      (length (children_routines offers) + k)) places.update
      ∙ routine-is local profile schedule has offers pures numbers q procedure
      (subst (λ k. slice_get (system_procedures local profile schedule) k ≡ Some procedure) (add-zero q)
      (other-at local profile schedule has 0 procedure refl))

  pub update-acts : Performs (offered_for (emitted_offer local profile schedule offers pures numbers) update).routine values
      ((emitted_instance local profile schedule offers pures numbers m children).standing called)
      (emitted_instance local profile schedule offers pures numbers m children).after
      ((emitted_instance local profile schedule offers pures numbers m children).most called update)
      ((emitted_instance local profile schedule offers pures numbers m children).log called update)
      ((emitted_instance local profile schedule offers pures numbers m children).stored called update)
  update-acts =
      performs-here local profile schedule has offers pures numbers
      (offered_for (emitted_offer local profile schedule offers pures numbers) update).routine
      q procedure routine-here values (standing_cells local m children (code_slots local schedule) at_first count)
      (after_cells local m children (code_slots local schedule)) (update_account local m children schedule at_first)
      (map called_here (own_entry (emitted_offer local profile schedule offers pures numbers) update))
      (ap (λ b. if b then called_here (numbers q) ∷ [] else []) names.update ∙ ap (λ k. called_here (numbers k) ∷ []) (sym places.update))
      body-does
