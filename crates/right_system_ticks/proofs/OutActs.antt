-- A call of a function does what the instance says.
use Rattle.std.specs.Prelude.{◌≡◌, ℕ, ◌+◌, ◌-◌, ◌<◌, ◌≤◌, Bool, if◌then◌else◌, List, [], ◌∷◌, ◌++◌, map, length, IsFalse, ℤ}
use Rattle.std.specs.List.{range_with_len}
use Rattle.std.proofs.Common.{sym, ap, subst, ◌∙◌, arith}
use Rattle.std.proofs.lemmas.Option.{get_or_from_slice_get}
use Rattle.modules_profile.specs.LocalSystem.{LocalSystem}
use Rattle.modules_profile.specs.SystemProfile.{SystemProfile}
use Rattle.modules_profile.specs.Locals.{own_header}
use Rattle.modules_profile.proofs.lemmas.Members.{at-map, at-range}
use Rattle.modules_schedule.specs.SystemSchedule.{SystemSchedule}
use Rattle.c_syntax.specs.Tree.{ProcedureTree, PureTree, field_types}
use Rattle.c_semantics.specs.Cells.{Cells}
use Rattle.c_semantics.specs.Values.{functions_of as pure_functions}
use Rattle.c_semantics.specs.Machine.{LoggedCall, Outcome, done, stuck, behind, call_entry, Routine, routine_at, routine_with, run_stmts}
use Rattle.emit_shape.specs.LocalShape.{own_position}
use Rattle.emit_shape.specs.Names.{out_name}
use Rattle.emit_shape.specs.Relocation.{moved_procedure}
use Rattle.emit_shape.specs.Slots.{slot_field}
use Rattle.right_relation.specs.ExecutedNodes.{RowIsNoField, RowIsExecuted, CallIsExecuted}
use Rattle.right_relation.specs.Instances.{out, with_called, InstanceTick, Offered, Offer, nothing_offered, offered_for, OnDone, Leaves, Performs}
use Rattle.right_relation.specs.LocalTicks.{LocalTick}
use Rattle.right_relation.specs.Relation.{children_routines, behind_offers, system_routines}
use Rattle.right_relation.specs.Serving.{act_values, own_entry}
use Rattle.right_relation.specs.Standing.{outer_tick_of, standing_cells}
use Rattle.emit_system_spec.specs.Emitted.{IsEmitted}
use Rattle.emit_system_spec.specs.EmittedCode.{function_procedure, system_code}
use Rattle.emit_system_spec.specs.Fields.{code_slots}
use Rattle.emit_system_spec.specs.Groups.{code_groups, own_count}
use Rattle.right_system_nodes.specs.Pieces.{HasRightPieces}
use Rattle.right_system_ticks.specs.ActLaws.{emitted_offer, emitted_instance}
use Rattle.right_system_ticks.specs.CodeAccounts.{Account}
use Rattle.right_system_ticks.specs.Holding.{called_groups, done_by, executed_in, count_in}
use Rattle.right_system_ticks.specs.OwnAccounts.{function_account}
use Rattle.right_system_ticks.specs.OwnInstances.{called_here}
use Rattle.right_system_ticks.specs.PlaceLaws.{HasProcedurePlaces, LogsByName, TakesArguments, GroupsTakeParameters}
use Rattle.right_system_ticks.specs.ScheduleLaws.{GroupsAreNext, HasGroups}
use Rattle.right_system_ticks.proofs.DoneGroups.{called-executed, function-more}
use Rattle.right_system_ticks.proofs.Sequences.{Ends, Does}
use Rattle.right_system_ticks.proofs.NodeRuns.{IsRunning, body_sees, moved}
use Rattle.right_system_ticks.proofs.FunctionRuns.{groups-called, function-runs}
use Rattle.right_system_ticks.proofs.OwnProcedures.{earlier-at, sees-groups, routine-is, function-at}

-- an outcome after the entry of the call itself
pub with-entry : (entry : List LoggedCall) (o : Outcome) (steps : ℕ) (y : Cells) (a : Account) → Ends o steps y a →
    OnDone (behind entry [] o) (Leaves y (steps + (a.steps + a.inner)) (entry ++ a.log) a.stored)
with-entry entry (done c) steps y a ends = record {
  fields = ends.fields;
  in_time = ends.in_time;
  calls = ap (λ l. entry ++ l) ends.calls;
  stores = ends.stores;
}
with-entry entry (stuck at cells) steps y a ends = ends

-- what a procedure at a place performs, where its body does so
module _ (local : LocalSystem) (profile : SystemProfile) (schedule : SystemSchedule) (has : HasGroups profile schedule)
    (offers : List Offer)
    (pures : List PureTree) (numbers : ℕ → ℕ) where
  abbrev pub routine_here : ℕ → ProcedureTree → Routine
  routine_here q p = routine_with (pure_functions [] pures) (field_types (map slot_field (code_slots local schedule)))
      (children_routines offers ++ (earlier-at local profile schedule has offers pures numbers q).0) (numbers q)
      (moved_procedure (behind_offers (code_slots local schedule) offers (own_count schedule)) p)

  pub performs-here : (r : Routine) (q : ℕ) (p : ProcedureTree) → r ≡ routine_here q p → (values : List ℤ) (x y : Cells) (a : Account)
      (entry : List LoggedCall) → call_entry (numbers q) p.name ≡ entry →
      Does (body_sees local schedule offers pures (earlier-at local profile schedule has offers pures numbers q).0 values)
      (moved local schedule offers pures (earlier-at local profile schedule has offers pures numbers q).0 p.body) x y a →
      Performs r values x y (a.steps + a.inner) (entry ++ a.log) a.stored
  performs-here r q p same values x y a entry logged does steps room =
      let own = (earlier-at local profile schedule has offers pures numbers q).0 in
      let inside = body_sees local schedule offers pures own values in
      let body = moved local schedule offers pures own p.body in
      subst (λ s. OnDone (s.run values x steps) (Leaves y (steps + (a.steps + a.inner)) (entry ++ a.log) a.stored)) (sym same)
      (subst (λ e. OnDone (behind e [] (run_stmts inside body x steps))
      (Leaves y (steps + (a.steps + a.inner)) (entry ++ a.log) a.stored)) (sym logged)
      (with-entry entry (run_stmts inside body x steps) steps y a (does steps room)))

module _ (row_is_executed : RowIsExecuted) (call_is_executed : CallIsExecuted) (row_is_no_field : RowIsNoField)
    (groups_are_next : GroupsAreNext) (groups_take_parameters : GroupsTakeParameters)
    (local : LocalSystem) (profile : SystemProfile) (schedule : SystemSchedule) (emitted : IsEmitted local profile schedule)
    (has : HasGroups profile schedule) (places : HasProcedurePlaces local profile schedule) (names : LogsByName local profile schedule)
    (pieces : HasRightPieces local profile schedule)
    (offers : List Offer) (children : List InstanceTick) (cycle : ℕ) (m : LocalTick) (pures : List PureTree)
    (running : IsRunning local schedule offers children cycle m pures) (takes : TakesArguments local profile cycle m) (numbers : ℕ → ℕ)
    (j : ℕ) (some : 0 < j) (most : j ≤ length profile.functions) (called : ℕ → Bool) (new : IsFalse (called j)) where
  abbrev q : ℕ
  q = length (code_groups schedule) + (j - 1)

  abbrev own : List Routine
  own = (earlier-at local profile schedule has offers pures numbers q).0

  abbrev values : List ℤ
  values = act_values (own_header local profile) cycle (outer_tick_of local m) (out j)

  abbrev state : (ℕ → Bool) → Cells
  state groups = standing_cells local m children (code_slots local schedule) (executed_in local schedule groups) (count_in schedule groups)

  abbrev standing : (ℕ → Bool) → Cells
  standing functions = (emitted_instance local profile schedule offers pures numbers m children).standing functions

  abbrev offered : List ℕ → Offered
  offered name =
      let k = own_position (system_code local profile schedule) name in
      record {
        routine = routine_at (system_routines pures (code_slots local schedule) offers (system_code local profile schedule) numbers)
            (length (children_routines offers) + k);
        number = numbers k;
      }

  stands : (functions : ℕ → Bool) → state (done_by schedule functions) ≡ standing functions
  stands functions = ap (λ executed. standing_cells local m children (code_slots local schedule) executed
      (count_in schedule (done_by schedule functions)))
      (sym (called-executed local schedule profile functions has))

  offered-is : offered_for (emitted_offer local profile schedule offers pures numbers) (out j) ≡ offered (out_name local.row j)
  offered-is =
      let e : 1 + (j - 1) ≡ j = omega arith in
      get_or_from_slice_get (map (λ i. offered (out_name local.row i)) (range_with_len 1 (length profile.functions))) (j - 1)
      (offered (out_name local.row (1 + (j - 1)))) nothing_offered
      (at-map (λ i. offered (out_name local.row i)) (range_with_len 1 (length profile.functions)) (j - 1) (1 + (j - 1))
      (at-range 1 (length profile.functions) (j - 1) (omega arith)))
      ∙ ap (λ i. offered (out_name local.row i)) e

  number-is : (offered_for (emitted_offer local profile schedule offers pures numbers) (out j)).number ≡ numbers q
  number-is = ap (λ (o : Offered). o.number) offered-is ∙ ap numbers (places.outs j some most)

  routine-here : (offered_for (emitted_offer local profile schedule offers pures numbers) (out j)).routine
      ≡ routine_here local profile schedule has offers pures numbers q
      (function_procedure local profile schedule (j, called_groups schedule j))
  routine-here =
      ap (λ (o : Offered). o.routine) offered-is
      ∙ ap (λ k. routine_at (system_routines pures (code_slots local schedule) offers (system_code local profile schedule) numbers)
      (length (children_routines offers) + k)) (places.outs j some most)
      ∙ routine-is local profile schedule has offers pures numbers q
      (function_procedure local profile schedule (j, called_groups schedule j))
      (function-at local profile schedule has j some most)

  pub out-acts : Performs (offered_for (emitted_offer local profile schedule offers pures numbers) (out j)).routine values (standing called)
      (standing (with_called called j)) ((emitted_instance local profile schedule offers pures numbers m children).most called (out j))
      ((emitted_instance local profile schedule offers pures numbers m children).log called (out j))
      ((emitted_instance local profile schedule offers pures numbers m children).stored called (out j))
  out-acts =
      performs-here local profile schedule has offers pures numbers
      (offered_for (emitted_offer local profile schedule offers pures numbers) (out j)).routine
      q (function_procedure local profile schedule (j, called_groups schedule j)) routine-here values (standing called)
      (standing (with_called called j))
      (function_account local m children schedule (done_by schedule called) j)
      (map called_here (own_entry (emitted_offer local profile schedule offers pures numbers) (out j)))
      (ap (λ b. if b then called_here (numbers q) ∷ [] else []) (names.outs j some most) ∙ ap (λ n. called_here n ∷ []) (sym number-is))
      (subst (λ x. Does (body_sees local schedule offers pures own values)
      (moved local schedule offers pures own (function_procedure local profile schedule (j, called_groups schedule j)).body) x
      (standing (with_called called j)) (function_account local m children schedule (done_by schedule called) j)) (stands called)
      (subst (λ y. Does (body_sees local schedule offers pures own values)
      (moved local schedule offers pures own (function_procedure local profile schedule (j, called_groups schedule j)).body)
      (state (done_by schedule called))
      y (function_account local m children schedule (done_by schedule called) j))
      (ap state (groups-called profile schedule called (with_called called j) j
      (λ g. function-more profile schedule called j g has some most)) ∙ stands (with_called called j))
      (function-runs row_is_executed call_is_executed row_is_no_field groups_are_next groups_take_parameters local profile schedule
      emitted has names pieces
      offers children cycle m pures running numbers own (sees-groups local profile schedule has offers pures numbers q
      (omega arith)) j some most values
      (takes.outs j some most) called new)))
