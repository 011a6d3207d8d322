-- The code of nodes, one after another, takes the fields from one set of executed nodes to the next.
use Rattle.std.specs.Prelude.{◌≡◌, ℕ, ◌+◌, ◌≤◌, Bool, true, false, if◌then◌else◌, MatchBool, List, [], ◌∷◌, ◌++◌, map, slice_get, Option, Some, ℤ, refl}
use Rattle.std.specs.Option.{option_map_or}
use Rattle.std.specs.List.{AllZip}
use Rattle.std.proofs.Common.{sym, subst, add-zero}
use Rattle.diagram_blocks.specs.Meaning.{has_value}
use Rattle.modules_profile.specs.declared.local.ChildUse.{ChildUse}
use Rattle.modules_profile.specs.declared.local.LocalRow.{LocalRow}
use Rattle.modules_profile.specs.declared.nodes.Node.{Node}
use Rattle.modules_profile.specs.declared.nodes.Node.TheVariants as node
use Rattle.modules_profile.specs.LocalSystem.{LocalSystem}
use Rattle.modules_profile.proofs.lemmas.Members.{in-first, in-rest, in-at}
use Rattle.modules_schedule.specs.SystemSchedule.{SystemSchedule}
use Rattle.c_syntax.specs.Tree.{StmtTrees, no_stmts, ParamTree, PureTree, field_types}
use Rattle.c_semantics.specs.Cells.{Cells}
use Rattle.c_semantics.specs.Values.{step_limit, functions_of as pure_functions}
use Rattle.c_semantics.specs.Machine.{Routine, Scope, run_stmts}
use Rattle.emit_prelude.specs.Rules.{IsPrelude}
use Rattle.emit_shape.specs.Relocation.{moved_stmts}
use Rattle.emit_shape.specs.Slots.{Slot, slot_field}
use Rattle.right_relation.specs.ExecutedNodes.{IsCounting, IsInTick, IsNextNode, RowIsNoField, RowIsExecuted, CallIsExecuted}
use Rattle.right_relation.specs.Instances.{InstanceTick, instance_at, Offer, out, OnDone, Leaves}
use Rattle.right_relation.specs.LocalTicks.{LocalTick, is_active}
use Rattle.right_relation.specs.NodeCode.{value_steps, call_steps, IsValueCode}
use Rattle.right_relation.specs.NodeStatements.{IsArgument, stored_once}
use Rattle.right_relation.specs.Relation.{children_routines, behind_offers, IsCycleOf}
use Rattle.right_relation.specs.Serving.{IsOfferOf}
use Rattle.right_relation.specs.Standing.{with_node, called_in, standing_cells}
use Rattle.emit_system_spec.specs.declared.node.Place.{Place}
use Rattle.emit_system_spec.specs.declared.node.Place.TheVariants.{Row, Call}
use Rattle.emit_system_spec.specs.EmittedCode.{joined}
use Rattle.emit_system_spec.specs.Fields.{value_field, child_field, code_slots}
use Rattle.emit_system_spec.specs.Groups.{own_count}
use Rattle.emit_system_spec.specs.NodeCode.{code_at}
use Rattle.emit_system_spec.specs.Places.{node_places}
use Rattle.right_system_nodes.specs.Pieces.{IsNodeCode, AreNodeCodes}
use Rattle.right_system_ticks.specs.Holding.{with_node_at, with_nodes_at}
use Rattle.right_system_ticks.specs.CodeAccounts.{Account, takes_steps, nothing_done, stores, calls_child}
use Rattle.right_system_ticks.specs.OwnAccounts.{value_account, call_account, place_account, nodes_account}
use Rattle.right_system_ticks.specs.PlaceLaws.{HasFieldPlaces}
use Rattle.right_system_ticks.specs.ScheduleLaws.{AreNext}
use Rattle.right_system_ticks.proofs.Sequences.{Does, nothing-does, first-piece}
use Rattle.right_system_ticks.proofs.NodePlaces.{IsPlaceOf, place-at}

-- what is said with a number of steps, said with an account
pub gives-does : (s : Scope) (code : StmtTrees) (x y : Cells) (most : ℕ) (a : Account) → a.steps + a.inner ≡ most →
    ((steps : ℕ) → steps + most ≤ step_limit → OnDone (run_stmts s code x steps) (Leaves y (steps + most) a.log a.stored)) →
    Does s code x y a
gives-does s code x y most a same gives =
    subst (λ n. (steps : ℕ) → steps + n ≤ step_limit → OnDone (run_stmts s code x steps) (Leaves y (steps + n) a.log a.stored))
    (sym same) gives

-- A system whose code is in a tick, where its children offer these and serve.
pub record IsRunning (local : LocalSystem) (schedule : SystemSchedule) (offers : List Offer) (children : List InstanceTick) (cycle : ℕ)
    (m : LocalTick) (pures : List PureTree) : Type 0 where
  pub works : IsInTick local (code_slots local schedule) offers children cycle m
  pub places : HasFieldPlaces local schedule
  pub prelude : IsPrelude pures
  pub is_cycle : IsCycleOf local cycle
  pub are_offers : AllZip (λ u o. IsOfferOf u.header o) local.children offers

module _ (local : LocalSystem) (schedule : SystemSchedule) (offers : List Offer) (pures : List PureTree) (own : List Routine) where
  -- what the body of a procedure sees, after which these come
  abbrev pub body_sees : List ℤ → Scope
  body_sees values = record {
    functions = pure_functions [] pures;
    routines = children_routines offers ++ own;
    types = field_types (map slot_field (code_slots local schedule));
    values = values;
  }

  abbrev pub moved : StmtTrees → StmtTrees
  moved code = moved_stmts (behind_offers (code_slots local schedule) offers (own_count schedule)) code

module _ (row_is_executed : RowIsExecuted) (call_is_executed : CallIsExecuted) (row_is_no_field : RowIsNoField)
    (local : LocalSystem) (schedule : SystemSchedule) (offers : List Offer) (children : List InstanceTick) (cycle : ℕ)
    (m : LocalTick) (pures : List PureTree) (running : IsRunning local schedule offers children cycle m pures) (own : List Routine)
    (params : List ParamTree) (values : List ℤ)
    (arguments : AllZip (IsArgument local (code_slots local schedule) offers children cycle m params
    (body_sees local schedule offers pures own))
    params values)
    (counted : List ℕ → ℤ) (counting : IsCounting counted) where
  abbrev slots : List Slot
  slots = code_slots local schedule

  abbrev sees : Scope
  sees = body_sees local schedule offers pures own values

  abbrev at_it : StmtTrees → StmtTrees
  at_it code = moved local schedule offers pures own code

  abbrev cells : (Node → Bool) → Cells
  cells executed = standing_cells local m children slots executed counted

  row-run : (executed : Node → Bool) (p : ℕ) (r : LocalRow) (code : StmtTrees) → slice_get local.rows p ≡ Some r →
      IsNextNode local executed (node.Row r.row) →
      (t : Bool) → has_value r.kind ≡ t →
      MatchBool t (IsValueCode local slots (own_count schedule) params r code) (code ≡ no_stmts) →
      Does sees (at_it code) (cells executed) (cells (with_node executed (node.Row r.row)))
      (if t then stores (value_steps r.op) (stored_once (value_field local r.row)) else nothing_done)
  row-run executed p r code at next true has right =
      gives-does sees (at_it code) (cells executed) (cells (with_node executed (node.Row r.row))) (value_steps r.op)
      (stores (value_steps r.op) (stored_once (value_field local r.row))) (add-zero (value_steps r.op))
      (row_is_executed local slots offers children cycle m running.works params (body_sees local schedule offers pures own) (at_it code)
      (value_steps r.op) (value_field local r.row) r
      (right pures running.prelude cycle running.is_cycle offers running.are_offers m running.works.is_tick running.works.is_typed
      children running.works.serve own)
      (running.places.values r (in-at local.rows p r at) has) executed counted counting next values arguments)
  row-run executed p r code at next false has right =
      subst (λ c. Does sees (at_it c) (cells executed) (cells (with_node executed (node.Row r.row))) nothing_done) (sym right)
      (subst (λ y. Does sees no_stmts (cells executed) y nothing_done)
      (sym (row_is_no_field local slots m children running.works.sound running.works.are_slots executed counted r
      (in-at local.rows p r at) has))
      (nothing-does sees (cells executed)))

  call-run : (executed : Node → Bool) (k j e : ℕ) (u : ChildUse) (code : StmtTrees) → slice_get local.children k ≡ Some u →
      u.header.row ≡ Some e →
      (t : Bool) →
      (let inner = instance_at children k in
      let called = called_in true executed u in
      let gives = λ (most : ℕ) (a : Account).
      ((steps : ℕ) → steps + most ≤ step_limit →
      OnDone (run_stmts sees (at_it code) (cells executed) steps) (Leaves (cells (with_node executed (node.Call e j)))
      (steps + most) a.log a.stored)) in
      MatchBool t (gives (call_steps + inner.most called (out j)) (calls_child call_steps (child_field local k) k inner called (out j)))
      (gives call_steps (takes_steps call_steps))) →
      Does sees (at_it code) (cells executed) (cells (with_node executed (node.Call e j)))
      (if t then calls_child call_steps (child_field local k) k (instance_at children k) (called_in true executed u) (out j)
      else takes_steps call_steps)
  call-run executed k j e u code at is true right = right
  call-run executed k j e u code at is false right = right

  place-run : (executed : Node → Bool) (x : Place) (y : Node) (code : StmtTrees) → IsPlaceOf local x y → IsNextNode local executed y →
      IsNodeCode local schedule params x code →
      Does sees (at_it code) (cells executed) (cells (with_node executed y)) (place_account local m children executed x)
  place-run executed (Row p) y code (r, at, is) next right =
      subst (λ o. Does sees (at_it code) (cells executed) (cells (with_node executed y))
      (option_map_or (value_account local) o nothing_done))
      (sym at)
      (subst (λ z. Does sees (at_it code) (cells executed) (cells (with_node executed z)) (value_account local r)) (sym is)
      (row-run executed p r code at (subst (IsNextNode local executed) is next) (has_value r.kind) refl (right r at)))
  place-run executed (Call k j) y code (u, e, at, is, some, most, named) next right =
      subst (λ o. Does sees (at_it code) (cells executed) (cells (with_node executed y))
      (option_map_or (λ w. call_account local m children executed k w j) o nothing_done))
      (sym at)
      (subst (λ z. Does sees (at_it code) (cells executed) (cells (with_node executed z)) (call_account local m children executed k u j))
      (sym named)
      (call-run executed k j e u code at is (is_active local m)
      (call_is_executed local slots offers children cycle m running.works params (body_sees local schedule offers pures own) (at_it code)
      call_steps (child_field local k) k j e u
      (right (child_field local k) u (running.places.children k u at) pures running.prelude cycle running.is_cycle offers
      running.are_offers m
      running.works.is_tick running.works.is_typed children running.works.serve own)
      (running.places.children k u at) is some most executed counted counting
      (subst (IsNextNode local executed) named next) values arguments)))

  -- nodes whose needs were executed, or come before them
  pub nodes-run : (executed : Node → Bool) (nodes : List ℕ) → AreNext local executed nodes → AreNodeCodes local schedule params nodes →
      Does sees (at_it (joined (map (code_at local (own_count schedule) params) nodes))) (cells executed)
      (cells (with_nodes_at local executed nodes)) (nodes_account local m children executed nodes)
  nodes-run executed [] next right = nothing-does sees (cells executed)
  nodes-run executed (n ∷ nodes) next right =
      let first = next.0 in
      let place = place-at local n first.node first.at in
      let with-first = λ (o : Option Node). option_map_or (with_node executed) o executed in
      first-piece sees (behind_offers slots offers (own_count schedule)) (code_at local (own_count schedule) params) n nodes
      (cells executed)
      (cells (with_node_at local executed n)) (cells (with_nodes_at local (with_node_at local executed n) nodes))
      (option_map_or (place_account local m children executed) (slice_get (node_places local) n) nothing_done)
      (nodes_account local m children (with_node_at local executed n) nodes)
      (subst (λ o. Does sees (at_it (code_at local (own_count schedule) params n)) (cells executed) (cells (with_node_at local executed n))
      (option_map_or (place_account local m children executed) o nothing_done)) (sym place.1)
      (subst (λ o. Does sees (at_it (code_at local (own_count schedule) params n)) (cells executed) (cells (with-first o))
      (place_account local m children executed place.0)) (sym first.at)
      (place-run executed place.0 first.node (code_at local (own_count schedule) params n) place.2 first.next
      (right n place.0 (in-first n nodes) place.1))))
      (nodes-run (with_node_at local executed n) nodes next.1 (λ k x h. right k x (in-rest n k nodes h)))
