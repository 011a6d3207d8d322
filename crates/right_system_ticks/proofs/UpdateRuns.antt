-- The update: memories, children, the trigger and the counters become those of the next tick, one after the other.
use Rattle.std.specs.Prelude.{◌≡◌, ℕ, zero, suc, ◌+◌, ◌<◌, ◌≤◌, Bool, true, false, not, ◌==◌, ◌||◌, ◌&&◌, if◌then◌else◌, MatchBool, List, [], ◌∷◌, map, count_by, slice_get, Contains, IsTrue, Some, ℤ, pos, refl}
use Rattle.std.specs.List.{AllZip, enumerate_from, range_with_len}
use Rattle.std.proofs.Common.{sym, ap, subst, ◌∙◌, arith, add-zero, true≢false}
use Rattle.std.proofs.lemmas.List.Sums.{sum_by-append}
use Rattle.base_core.specs.declared.base.Control.{Control}
use Rattle.base_core.specs.declared.base.Control.TheVariants.{Plain, Enabled, Triggered, Both}
use Rattle.diagram_activity.specs.Activity.{active, off, edge, is_high}
use Rattle.diagram_activity.specs.declared.TrigMem.{TrigMem}
use Rattle.diagram_meaning.specs.ControlValues.{enable_in, trigger_in}
use Rattle.diagram_meaning.specs.Rows.{is_triggered}
use Rattle.diagram_blocks.specs.Kinds.{is_delay}
use Rattle.modules_profile.specs.declared.local.ChildUse.{ChildUse}
use Rattle.modules_profile.specs.declared.local.LocalRow.{LocalRow}
use Rattle.modules_profile.specs.declared.nodes.Node.{Node}
use Rattle.modules_profile.specs.LocalSystem.{LocalSystem}
use Rattle.modules_profile.specs.Locals.{entering}
use Rattle.modules_profile.specs.LocalNodes.{node_list}
use Rattle.modules_profile.proofs.lemmas.Members.{in-first, in-rest}
use Rattle.modules_schedule.specs.SystemSchedule.{SystemSchedule}
use Rattle.c_syntax.specs.Tree.{literal, assign, StmtTrees, no_stmts, stmts_of_list, ParamTree, PureTree}
use Rattle.c_semantics.specs.Cells.{Cells, number, object, cell_fields, fields_at, set_cell}
use Rattle.c_semantics.specs.Machine.{Routine, Scope}
use Rattle.c_semantics.specs.Values.{is_in_type}
use Rattle.emit_shape.specs.Delays.{is_line}
use Rattle.emit_shape.specs.Slots.{Slot, memory, ring_items, ring_place, ring_taken, trigger, instance}
use Rattle.right_relation.specs.ExecutedNodes.{IsCounting, StandingHasSlots}
use Rattle.right_relation.specs.Instances.{update, reset, none_called, InstanceTick, instance_at, Offer}
use Rattle.right_relation.specs.LocalTicks.{LocalTick, is_active, is_off}
use Rattle.right_relation.specs.NodeCode.{memory_steps, ring_steps, trigger_steps, call_steps, IsMemoryCode, IsRingCode}
use Rattle.right_relation.specs.NodeStatements.{IsArgument, IsReady, stored_once, stored_each}
use Rattle.right_relation.specs.Relation.{behind_offers}
use Rattle.right_relation.specs.Rings.{EmptiedIsRing, MovedIsRing}
use Rattle.right_relation.specs.Standing.{called_in, after_cell}
use Rattle.emit_system_spec.specs.EmittedCode.{joined}
use Rattle.emit_system_spec.specs.Fields.{memory_field, ring_field, trigger_field, child_field, counter_slot, code_slots}
use Rattle.emit_system_spec.specs.Groups.{own_count}
use Rattle.emit_system_spec.specs.NodeCode.{memory_code, trigger_code, update_code, reset_code}
use Rattle.emit_system_spec.specs.Renewing.{zero_store}
use Rattle.right_system_nodes.specs.Pieces.{AreUpdateCodes}
use Rattle.right_system_ticks.specs.CodeAccounts.{Account, takes_steps, nothing_done, stores, calls_child, and_then, all_of}
use Rattle.right_system_ticks.specs.OwnAccounts.{ring_places, memory_account, child_update_account, child_reset_account}
use Rattle.right_system_ticks.proofs.Tests.{true-second}
use Rattle.right_system_ticks.proofs.CellLists.{slot-type}
use Rattle.right_system_ticks.proofs.Sequences.{Does, DoesOne, nothing-does, first-piece, does-weaker, more-does}
use Rattle.right_system_ticks.proofs.Statements.{store-does}
use Rattle.right_system_ticks.proofs.NodeRuns.{IsRunning, body_sees, moved}
use Rattle.right_system_ticks.proofs.NewFields.{Once, with_memory, with_memories, with_child, with_children, with_trigger, with_counters}
use Rattle.right_system_ticks.proofs.UpdateStates.{state, Untouched, Touched, one-more, untouched-at, still-untouched, all-called, ready, holds-memory, delay-single}

-- a system that is off is not active
pub off-rests : (parent : Bool) (control : Control) (remembered : TrigMem) (enable level : ℤ) → off parent control enable ≡ true →
    active parent control remembered enable level ≡ false
off-rests parent Plain remembered enable level is = absurd (true≢false (sym is))
off-rests parent (Enabled resets) remembered enable level is = by resets parent (is_high enable) is
  where
    by : (r p h : Bool) → (r && (p && not h)) ≡ true → (p && h) ≡ false
    by true true true e = absurd (true≢false (sym e))
    by true true false e = refl
    by true false h e = refl
    by false p h e = absurd (true≢false (sym e))
off-rests parent (Triggered waits_for) remembered enable level is = absurd (true≢false (sym is))
off-rests parent (Both resets waits_for) remembered enable level is = by resets parent (is_high enable) (edge waits_for remembered level) is
  where
    by : (r p h e : Bool) → (r && (p && not h)) ≡ true → (p && (h && e)) ≡ false
    by true true true e is = absurd (true≢false (sym is))
    by true true false e is = refl
    by true false h e is = refl
    by false p h e is = absurd (true≢false (sym is))

module _ (standing_has_slots : StandingHasSlots) (emptied_is_ring : EmptiedIsRing) (moved_is_ring : MovedIsRing)
    (local : LocalSystem) (schedule : SystemSchedule) (offers : List Offer) (children : List InstanceTick) (cycle : ℕ) (m : LocalTick)
    (pures : List PureTree) (running : IsRunning local schedule offers children cycle m pures)
    (executed : Node → Bool) (everything : (x : Node) → Contains (node_list local) x → IsTrue (executed x))
    (counted : List ℕ → ℤ) (counting : IsCounting counted) (own : List Routine) (params : List ParamTree) (values : List ℤ)
    (arguments : AllZip (IsArgument local (code_slots local schedule) offers children cycle m params
    (body_sees local schedule offers pures own))
    params values) where
  abbrev slots : List Slot
  slots = code_slots local schedule

  abbrev sees : Scope
  sees = body_sees local schedule offers pures own values

  abbrev at_it : StmtTrees → StmtTrees
  at_it code = moved local schedule offers pures own code

  abbrev now : List ℕ → Cells
  now fields = state standing_has_slots emptied_is_ring moved_is_ring local schedule offers children cycle m pures running executed
      everything counted counting fields

  abbrev Free : List ℕ → Slot → Type 0
  Free fields x = Untouched standing_has_slots emptied_is_ring moved_is_ring local schedule offers children cycle m pures running executed
      everything counted counting fields x

  abbrev Made : List ℕ → Slot → Type 0
  Made fields x = Touched standing_has_slots emptied_is_ring moved_is_ring local schedule offers children cycle m pures running executed
      everything counted counting fields x

  set : (fields : List ℕ) (f : ℕ) (x : Slot) → slice_get slots f ≡ Some x → set_cell (now fields) f (after_cell local m children x)
      ≡ now (f ∷ fields)
  set fields f x at = one-more standing_has_slots emptied_is_ring moved_is_ring local schedule offers children cycle m pures running
      executed everything counted counting fields f x at

  free-more : (fields : List ℕ) (f : ℕ) (x s : Slot) → slice_get slots f ≡ Some s → (s ≡ x → ⊥) → Free fields x → Free (f ∷ fields) x
  free-more fields f x s at apart none =
      still-untouched standing_has_slots emptied_is_ring moved_is_ring local schedule offers children cycle m pures running executed
      everything counted counting fields f x s at apart none

  is-ready : (fields : List ℕ) → Free fields trigger → (wires : List ℕ) →
      IsReady local slots offers children cycle m params (body_sees local schedule offers pures own) values (now fields) wires
  is-ready fields still wires =
      ready standing_has_slots emptied_is_ring moved_is_ring local schedule offers children cycle m pures running executed everything
      counted counting
      params (body_sees local schedule offers pures own) values arguments fields still wires

  -- ---- Memories

  pub record MemoryFree (fields : List ℕ) (r : LocalRow) : Type 0 where
    pub single : Free fields (memory r)
    pub items : Free fields (ring_items r)
    pub place : Free fields (ring_place r)
    pub taken : Free fields (ring_taken r)

  memory-run : (fields : List ℕ) (r : LocalRow) (code : StmtTrees) → Contains local.rows r → is_delay r.op ≡ true → MemoryFree fields r →
      Free fields trigger →
      (t : Bool) → is_line r.op ≡ t →
      MatchBool t (IsRingCode local slots (own_count schedule) params r code)
      (IsMemoryCode local slots (own_count schedule) params r code) →
      Does sees (at_it code) (now fields) (now (with_memory local t r fields))
      (if t then stores ring_steps (stored_each (ring_places local r.row)) else stores memory_steps
      (stored_once (memory_field local r.row)))
  memory-run fields r code mine delay free still true line right =
      let f = ring_field local r.row in
      let one = running.places.items r mine line in
      let two = running.places.places r mine line in
      let three = running.places.counts r mine line in
      subst (λ y. Does sees (at_it code) (now fields) y (stores ring_steps (stored_each (ring_places local r.row))))
      (ap (λ y. set_cell (set_cell y (f + 1) (number (pos (m.ring_after r.row).place))) (f + 2) (number (pos (m.ring_after r.row).taken)))
      (set fields f (ring_items r) one)
      ∙ ap (λ y. set_cell y (f + 2) (number (pos (m.ring_after r.row).taken))) (set (f ∷ fields) (f + 1) (ring_place r) two)
      ∙ set ((f + 1) ∷ f ∷ fields) (f + 2) (ring_taken r) three)
      (right pures running.prelude cycle running.is_cycle offers running.are_offers m running.works.is_tick running.works.is_typed children
      running.works.serve own values (now fields) f (f + 1) (f + 2) one two three (is-ready fields still r.inputs)
      (holds-memory standing_has_slots emptied_is_ring moved_is_ring local schedule offers children cycle m pures running executed
      everything counted counting
      params (body_sees local schedule offers pures own) fields r free.single free.items free.place free.taken))
  memory-run fields r code mine delay free still false line right =
      let f = memory_field local r.row in
      let at = running.places.memories r mine (delay-single r.op delay line) in
      subst (λ y. Does sees (at_it code) (now fields) y (stores memory_steps (stored_once f))) (set fields f (memory r) at)
      (right pures running.prelude cycle running.is_cycle offers running.are_offers m running.works.is_tick running.works.is_typed children
      running.works.serve own values (now fields) f at (is-ready fields still r.inputs)
      (holds-memory standing_has_slots emptied_is_ring moved_is_ring local schedule offers children cycle m pures running executed
      everything counted counting
      params (body_sees local schedule offers pures own) fields r free.single free.items free.place free.taken))

  -- a slot that is no memory stays free
  abbrev pub IsNoMemory : LocalRow → Slot → Type 0
  IsNoMemory r x = (memory r ≡ x → ⊥) × (ring_items r ≡ x → ⊥) × (ring_place r ≡ x → ⊥) × (ring_taken r ≡ x → ⊥)

  memory-frees : (fields : List ℕ) (r : LocalRow) (x : Slot) → Contains local.rows r → is_delay r.op ≡ true → IsNoMemory r x →
      Free fields x →
      (t : Bool) → is_line r.op ≡ t → Free (with_memory local t r fields) x
  memory-frees fields r x mine delay other free true line =
      let f = ring_field local r.row in
      free-more ((f + 1) ∷ f ∷ fields) (f + 2) x (ring_taken r) (running.places.counts r mine line) other.3
      (free-more (f ∷ fields) (f + 1) x (ring_place r) (running.places.places r mine line) other.2
      (free-more fields f x (ring_items r) (running.places.items r mine line) other.1 free))
  memory-frees fields r x mine delay other free false line =
      free-more fields (memory_field local r.row) x (memory r) (running.places.memories r mine (delay-single r.op delay line)) other.0 free

  -- that of another row does
  other-memory : (fields : List ℕ) (r q : LocalRow) → Contains local.rows r → is_delay r.op ≡ true → (r ≡ q → ⊥) → MemoryFree fields q →
      MemoryFree (with_memory local (is_line r.op) r fields) q
  other-memory fields r q mine delay apart free = record {
    single = memory-frees fields r (memory q) mine delay (
      (λ e. apart cc),
      (λ e. clash (let w : ⊥ = cc e in w)),
      (λ e. clash (let w : ⊥ = cc e in w)),
      (λ e. clash (let w : ⊥ = cc e in w)),
    ) free.single (is_line r.op) refl;
    items = memory-frees fields r (ring_items q) mine delay (
      (λ e. clash (let w : ⊥ = cc e in w)),
      (λ e. apart cc),
      (λ e. clash (let w : ⊥ = cc e in w)),
      (λ e. clash (let w : ⊥ = cc e in w)),
    ) free.items (is_line r.op) refl;
    place = memory-frees fields r (ring_place q) mine delay (
      (λ e. clash (let w : ⊥ = cc e in w)),
      (λ e. clash (let w : ⊥ = cc e in w)),
      (λ e. apart cc),
      (λ e. clash (let w : ⊥ = cc e in w)),
    ) free.place (is_line r.op) refl;
    taken = memory-frees fields r (ring_taken q) mine delay (
      (λ e. clash (let w : ⊥ = cc e in w)),
      (λ e. clash (let w : ⊥ = cc e in w)),
      (λ e. clash (let w : ⊥ = cc e in w)),
      (λ e. apart cc),
    ) free.taken (is_line r.op) refl;
  }
    where
      clash : ⊥ → ⊥
      clash w = w

  pub memories-free : (fields : List ℕ) (rs : List LocalRow) (x : Slot) →
      ((r : LocalRow) → Contains rs r → Contains local.rows r × (is_delay r.op ≡ true)) → ((r : LocalRow) → IsNoMemory r x) →
      Free fields x →
      Free (with_memories local rs fields) x
  memories-free fields [] x are other free = free
  memories-free fields (r ∷ rs) x are other free =
      let is = are r (in-first r rs) in
      memories-free (with_memory local (is_line r.op) r fields) rs x (λ q h. are q (in-rest r q rs h)) other
      (memory-frees fields r x is.0 is.1 (other r) free (is_line r.op) refl)

  pub memories-run : (fields : List ℕ) (rs : List LocalRow) → Once rs →
      ((r : LocalRow) → Contains rs r → Contains local.rows r × (is_delay r.op ≡ true)) →
      ((r : LocalRow) → Contains rs r → MemoryFree fields r) → Free fields trigger → AreUpdateCodes local schedule params →
      Does sees (at_it (joined (map (memory_code local params) rs))) (now fields) (now (with_memories local rs fields))
      (all_of (map (memory_account local) rs))
  memories-run fields [] once are free still right = nothing-does sees (now fields)
  memories-run fields (r ∷ rs) once are free still right =
      let is = are r (in-first r rs) in
      let next = with_memory local (is_line r.op) r fields in
      first-piece sees (behind_offers slots offers (own_count schedule)) (memory_code local params) r rs (now fields) (now next)
      (now (with_memories local rs next))
      (memory_account local r) (all_of (map (memory_account local) rs))
      (memory-run fields r (memory_code local params r) is.0 is.1 (free r (in-first r rs)) still (is_line r.op) refl
      (right.memories r is.0 is.1))
      (memories-run next rs once.1 (λ q h. are q (in-rest r q rs h))
      (λ q h. other-memory fields r q is.0 is.1 (λ same. once.0 (subst (Contains rs) (sym same) h)) (free q (in-rest r q rs h)))
      (memory-frees fields r trigger is.0 is.1
      ((λ e. let w : ⊥ = cc e in w), (λ e. let w : ⊥ = cc e in w), (λ e. let w : ⊥ = cc e in w), (λ e. let w : ⊥ = cc e in w)) still
      (is_line r.op) refl) right)

  -- ---- Children

  child-stands : (fields : List ℕ) (k : ℕ) (u : ChildUse) (t : Bool) → slice_get local.children k ≡ Some u → is_active local m ≡ t →
      Free fields (instance k u) →
      fields_at (now fields) (child_field local k) ≡ (instance_at children k).standing (called_in t executed u)
  child-stands fields k u t at is free =
      ap cell_fields (untouched-at standing_has_slots emptied_is_ring moved_is_ring local schedule offers children cycle m pures running
      executed everything
      counted counting fields (child_field local k) (instance k u) (running.places.children k u at) free)
      ∙ ap (λ a. (instance_at children k).standing (called_in a executed u)) is

  pub child-update-run : AreUpdateCodes local schedule params → (fields : List ℕ) (k : ℕ) (u : ChildUse) → slice_get local.children k
      ≡ Some u →
      (is_active local m ≡ true → Free fields (instance k u)) → Free fields trigger →
      Does sees (at_it (update_code local (own_count schedule) params (k, u))) (now fields)
      (now (with_child local (is_active local m) k fields))
      (child_update_account local m children executed (k, u))
  child-update-run right fields k u at free still =
      by (is_active local m)
      (right.updates (child_field local k) k u
      (running.places.children k u at) pures running.prelude cycle running.is_cycle offers running.are_offers m
      running.works.is_tick running.works.is_typed children running.works.serve own values (now fields) (called_in true executed u)
      (running.places.children k u at) (is-ready fields still (entering u))
      (λ active. (
        child-stands fields k u true at active (free active),
        (
          active,
          λ j some most.
              all-called standing_has_slots emptied_is_ring moved_is_ring local schedule offers children cycle m pures running executed
              everything counted counting
              k u j at some most,
        ),
      )))
    where
      Made-of : Cells → Account → Type 0
      Made-of y a = Does sees (at_it (update_code local (own_count schedule) params (k, u))) (now fields) y a

      by : (t : Bool) →
          MatchBool t
          (Made-of (set_cell (now fields) (child_field local k) (object (instance_at children k).after))
          (calls_child call_steps (child_field local k) k (instance_at children k) (called_in true executed u) update))
          (Made-of (now fields) (takes_steps call_steps)) →
          Made-of (now (with_child local t k fields))
          (if t then calls_child call_steps (child_field local k) k (instance_at children k)
          (called_in true executed u) update else takes_steps call_steps)
      by true made = subst (λ y. Made-of y (calls_child call_steps (child_field local k) k (instance_at children k)
          (called_in true executed u) update))
          (set fields (child_field local k) (instance k u) (running.places.children k u at)) made
      by false made = made

  pub child-reset-run : AreUpdateCodes local schedule params → (fields : List ℕ) (k : ℕ) (u : ChildUse) → slice_get local.children k
      ≡ Some u →
      (is_off local m ≡ true → Free fields (instance k u)) → Free fields trigger →
      Does sees (at_it (reset_code local (own_count schedule) params (k, u))) (now fields)
      (now (with_child local (is_off local m) k fields))
      (child_reset_account local m children (k, u))
  child-reset-run right fields k u at free still =
      by (is_off local m)
      (right.resets (child_field local k) k u
      (running.places.children k u at) pures running.prelude cycle running.is_cycle offers running.are_offers m
      running.works.is_tick running.works.is_typed children running.works.serve own values (now fields) none_called
      (running.places.children k u at) (is-ready fields still [])
      (λ is. (child-stands fields k u false at (rests is) (free is), (off-around is, refl))))
    where
      rests : is_off local m ≡ true → is_active local m ≡ false
      rests is = off-rests m.tick.parent local.control m.tick.trigger (enable_in local.control m.tick.controls)
          (trigger_in local.control m.tick.controls) is

      off-around : is_off local m ≡ true → (m.tick.is_off_around || is_off local m) ≡ true
      off-around is = true-second m.tick.is_off_around (is_off local m) is

      Made-of : Cells → Account → Type 0
      Made-of y a = Does sees (at_it (reset_code local (own_count schedule) params (k, u))) (now fields) y a

      by : (t : Bool) →
          MatchBool t
          (Made-of (set_cell (now fields) (child_field local k) (object (instance_at children k).after))
          (calls_child call_steps (child_field local k) k (instance_at children k) none_called reset))
          (Made-of (now fields) (takes_steps call_steps)) →
          Made-of (now (with_child local t k fields))
          (if t then calls_child call_steps (child_field local k) k (instance_at children k) none_called reset else takes_steps call_steps)
      by true made = subst (λ y. Made-of y (calls_child call_steps (child_field local k) k (instance_at children k) none_called reset))
          (set fields (child_field local k) (instance k u) (running.places.children k u at)) made
      by false made = made

  -- each child in turn
  module _ (t : Bool) (code : ℕ × ChildUse → StmtTrees) (account : ℕ × ChildUse → Account)
      (piece : (fields : List ℕ) (k : ℕ) (u : ChildUse) → slice_get local.children k ≡ Some u → (t ≡ true → Free fields (instance k u)) →
      Free fields trigger →
      Does sees (at_it (code (k, u))) (now fields) (now (with_child local t k fields)) (account (k, u))) where
    child-frees : (fields : List ℕ) (k : ℕ) (u : ChildUse) (x : Slot) → slice_get local.children k ≡ Some u → (instance k u ≡ x → ⊥) →
        Free fields x →
        (b : Bool) → Free (with_child local b k fields) x
    child-frees fields k u x at apart free true = free-more fields (child_field local k) x (instance k u)
        (running.places.children k u at) apart free
    child-frees fields k u x at apart free false = free

    pub children-run : (fields : List ℕ) (a : ℕ) (us : List ChildUse) →
        ((i : ℕ) (u : ChildUse) → slice_get us i ≡ Some u → slice_get local.children (a + i) ≡ Some u) →
        (t ≡ true → (k : ℕ) (u : ChildUse) → a ≤ k → Free fields (instance k u)) → Free fields trigger →
        Does sees (at_it (joined (map code (enumerate_from a us)))) (now fields) (now (with_children local t a us fields))
        (all_of (map account (enumerate_from a us)))
    children-run fields a [] stand free still = nothing-does sees (now fields)
    children-run fields a (u ∷ us) stand free still =
        let at : slice_get local.children a ≡ Some u = subst (λ n. slice_get local.children n ≡ Some u) (add-zero a) (stand 0 u refl) in
        let next = with_child local t a fields in
        first-piece sees (behind_offers slots offers (own_count schedule)) code (a, u) (enumerate_from (a + 1) us) (now fields) (now next)
        (now (with_children local t (a + 1) us next)) (account (a, u)) (all_of (map account (enumerate_from (a + 1) us)))
        (piece fields a u at (λ is. free is a u (omega arith)) still)
        (children-run next (a + 1) us (λ i w there. subst (λ n. slice_get local.children n ≡ Some w) (omega arith) (stand (suc i) w there))
        (λ is k w above. child-frees fields a u (instance k w) at (λ e. let same : a ≡ k = cc e in absurd (omega (arith, above, same)))
        (free is k w (omega (arith, above))) t)
        (child-frees fields a u trigger at (λ e. let w : ⊥ = cc e in w) still t))

    pub children-free : (fields : List ℕ) (a : ℕ) (us : List ChildUse) (x : Slot) →
        ((i : ℕ) (u : ChildUse) → slice_get us i ≡ Some u → slice_get local.children (a + i) ≡ Some u) →
        ((k : ℕ) (u : ChildUse) → instance k u ≡ x → ⊥) → Free fields x → Free (with_children local t a us fields) x
    children-free fields a [] x stand apart free = free
    children-free fields a (u ∷ us) x stand apart free =
        let at : slice_get local.children a ≡ Some u = subst (λ n. slice_get local.children n ≡ Some u) (add-zero a) (stand 0 u refl) in
        children-free (with_child local t a fields) (a + 1) us x
        (λ i w there. subst (λ n. slice_get local.children n ≡ Some w) (omega arith) (stand (suc i) w there)) apart
        (child-frees fields a u x at (apart a u) free t)

  -- ---- The trigger and the counters

  pub trigger-run : AreUpdateCodes local schedule params → (fields : List ℕ) → Free fields trigger → (t : Bool) →
      is_triggered local.control ≡ t →
      Does sees (at_it (if t then trigger_code local params else no_stmts)) (now fields) (now (with_trigger local t fields))
      (if t then stores trigger_steps (stored_once (trigger_field local)) else nothing_done)
  trigger-run right fields still true is =
      let at = running.places.trigger is in
      subst (λ y. Does sees (at_it (trigger_code local params)) (now fields) y (stores trigger_steps (stored_once (trigger_field local))))
      (set fields (trigger_field local) trigger at)
      (right.trigger is pures running.prelude cycle running.is_cycle offers running.are_offers m running.works.is_tick
      running.works.is_typed children
      running.works.serve own values (now fields) (trigger_field local) at (is-ready fields still []))
  trigger-run right fields still false is = nothing-does sees (now fields)

  one-more-store : (a : ℕ) (rest : List ℕ) (path : List ℕ) (f : ℕ) → stored_once a path f + stored_each rest path f ≤ stored_each
      (a ∷ rest) path f
  one-more-store a rest [] f =
      fits (if f == a then 1 else 0) (count_by (λ g. f == g) rest) (count_by (λ g. f == g) (a ∷ rest))
      (sum_by-append (λ g. if f == g then 1 else 0) (a ∷ []) rest)
    where
      fits : (x y z : ℕ) → z ≡ (0 + x) + y → x + y ≤ z
      fits x y z same = omega arith
  one-more-store a rest (h ∷ path) f = none
    where
      none : 0 + 0 ≤ 0
      none = omega arith

  pub counters-run : (fields : List ℕ) (a n : ℕ) → ((i : ℕ) → i < n → (g : ℕ) × (slice_get slots (a + i) ≡ Some (counter_slot g))) →
      Does sees (at_it (stmts_of_list (map zero_store (range_with_len a n)))) (now fields) (now (with_counters a n fields))
      (stores n (stored_each (range_with_len a n)))
  counters-run fields a zero stand =
      does-weaker sees no_stmts (now fields) (now fields) nothing_done (stores 0 (stored_each [])) (omega arith) refl
      (λ path f. omega arith)
      (nothing-does sees (now fields))
  counters-run fields a (suc n) stand =
      let g = stand 0 (omega arith) in
      let at : slice_get slots a ≡ Some (counter_slot g.0) = subst (λ k. slice_get slots k ≡ Some (counter_slot g.0)) (add-zero a) g.1 in
      does-weaker sees (at_it (stmts_of_list (map zero_store (range_with_len a (suc n))))) (now fields)
      (now (with_counters (a + 1) n (a ∷ fields)))
      (and_then (stores 1 (stored_once a)) (stores n (stored_each (range_with_len (a + 1) n))))
      (stores (suc n) (stored_each (range_with_len a (suc n))))
      (omega arith) refl (one-more-store a (range_with_len (a + 1) n))
      (more-does sees (assign 0 a (literal (pos 0))) (at_it (stmts_of_list (map zero_store (range_with_len (a + 1) n)))) (now fields)
      (now (a ∷ fields))
      (now (with_counters (a + 1) n (a ∷ fields))) (stores 1 (stored_once a)) (stores n (stored_each (range_with_len (a + 1) n)))
      (subst (λ y. DoesOne sees (assign 0 a (literal (pos 0))) (now fields) y (stores 1 (stored_once a)))
      (set fields a (counter_slot g.0) at)
      (store-does sees a (pos 0) (now fields) (ap (λ t. is_in_type t (pos 0)) (slot-type slots a (counter_slot g.0) at))))
      (counters-run (a ∷ fields) (a + 1) n (λ i below.
      let h = stand (suc i) (omega (arith, below)) in
      (h.0, subst (λ k. slice_get slots k ≡ Some (counter_slot h.0)) (omega arith) h.1))))
