-- The reset: memories, the trigger and the children become those of the next tick, where a system around is off.
use Rattle.std.specs.Prelude.{◌≡◌, ◌⊎◌, ℕ, suc, ◌+◌, ◌-◌, ◌^◌, ◌<◌, ◌≤◌, Bool, true, false, not, ◌||◌, ◌&&◌, if◌then◌else◌, List, [], ◌∷◌, ◌++◌, map, flat_map, take, sum_by, length, replicate, slice_get, Contains, IsTrue, Some, ℤ, pos, neg_ℤ, int_lt, unsigned_abs, bytes_eq, refl}
use Rattle.std.specs.List.{AllByRecursion, list_any, enumerate_from, range_with_len}
use Rattle.std.proofs.Common.{sym, ap, subst, ◌∙◌, arith, add-zero, inl, inr, true≢false, le-ltb}
use Rattle.std.proofs.lemmas.List.Elements.{All-contains}
use Rattle.std.proofs.lemmas.Option.{same_Some}
use Rattle.diagram_blocks.specs.declared.op.Op.{Op}
use Rattle.diagram_blocks.specs.declared.op.Op.TheVariants as op
use Rattle.diagram_blocks.specs.Meaning.{has_value, delay_length}
use Rattle.diagram_blocks.specs.Value.{rhs, input}
use Rattle.base_fixed_point.specs.Conversion.{InType}
use Rattle.base_core.specs.declared.base.Control.{Control}
use Rattle.base_core.specs.declared.base.Control.TheVariants.{Plain, Enabled, Triggered, Both}
use Rattle.diagram_activity.specs.declared.TrigMem.{TrigMem}
use Rattle.diagram_activity.specs.declared.TrigMem.TheVariants.{NotYet}
use Rattle.diagram_activity.specs.Activity.{active, memory_number}
use Rattle.diagram_meaning.specs.ControlValues.{is_disabled_by, remembered_by, enable_in, trigger_in}
use Rattle.diagram_meaning.specs.Rows.{is_triggered}
use Rattle.diagram_meaning.specs.Run.{first_of, moved_on}
use Rattle.diagram_blocks.specs.Kinds.{is_delay, is_reset_outport}
use Rattle.diagram_meaning.specs.SampleTimes.{hit}
use Rattle.modules_profile.specs.declared.local.ChildUse.{ChildUse}
use Rattle.modules_profile.specs.declared.local.LocalRow.{LocalRow}
use Rattle.modules_profile.specs.declared.nodes.Node.{Node}
use Rattle.modules_profile.specs.declared.nodes.Node.TheVariants as node
use Rattle.modules_profile.specs.LocalSystem.{LocalSystem}
use Rattle.modules_profile.specs.SystemHeader.{SystemHeader}
use Rattle.modules_profile.specs.Headers.{header_functions}
use Rattle.modules_profile.proofs.lemmas.Members.{in-none, in-first, in-rest, in-cases, of-filter, in-filter}
use Rattle.modules_schedule.specs.SystemSchedule.{SystemSchedule}
use Rattle.c_syntax.specs.declared.code.Target.TheVariants.{Child}
use Rattle.c_syntax.specs.Tree.{literal, neg, no_exprs, StmtTree, assign, call, no_stmts, more_stmts, stmts_append, stmts_of_list, PureTree, type_at}
use Rattle.c_semantics.specs.Cells.{Cell, Cells, number, items, object, cell_fields, fields_at, set_cell}
use Rattle.c_semantics.specs.Machine.{Routine, Scope}
use Rattle.c_semantics.specs.Values.{is_in_type, reads}
use Rattle.emit_row_code.specs.RowCode.{written}
use Rattle.emit_row_code.specs.Laws.{NumbersAreWritten}
use Rattle.emit_shape.specs.Delays.{is_single, is_line}
use Rattle.emit_shape.specs.Names.{container, counter_name}
use Rattle.emit_shape.specs.Relocation.{Relocation, moved_expr, moved_stmt, moved_stmts, moved_number}
use Rattle.emit_shape.specs.RowStarts.{row_start}
use Rattle.emit_shape.specs.Slots.{Slot, value, memory, ring_items, ring_place, ring_taken, trigger, counter, instance, filler}
use Rattle.right_relation.specs.Instances.{reset, none_called, InstanceTick, instance_at, Offer, offer_at, Performs}
use Rattle.right_relation.specs.LocalTicks.{LocalTick, IsLocalTick, IsTypedTick, is_active, is_off, is_disabled, row_runs, row_inputs, value_of, memory_of, ring_of}
use Rattle.right_relation.specs.NodeStatements.{stored_once}
use Rattle.right_relation.specs.Relation.{children_routines, behind_offers, ChildrenServe}
use Rattle.right_relation.specs.Rings.{Ring, emptied_ring, moved_ring}
use Rattle.right_relation.specs.SoundLocals.{IsSoundLocal}
use Rattle.right_relation.specs.Standing.{executed_by, called_in, standing_cell, standing_cells, after_cell, after_cells}
use Rattle.right_relation.proofs.lemmas.Containers.{container-has, bit-fits}
use Rattle.emit_system_spec.specs.Emittable.{IsWritableRow, IsEmittable}
use Rattle.emit_system_spec.specs.Fields.{memory_field, ring_field, trigger_field, child_field, shared_groups, single_rows, line_rows, code_slots}
use Rattle.emit_system_spec.specs.Groups.{own_count}
use Rattle.emit_system_spec.specs.Places.{child_base}
use Rattle.emit_system_spec.specs.Renewing.{zero_store, start_store, ring_stores, single_starts, line_starts, trigger_starts, memory_starts, call_behind, reset_body}
use Rattle.right_system_ticks.specs.CodeAccounts.{Account, nothing_done, stores, calls_child, and_then, all_of}
use Rattle.right_system_ticks.specs.Holding.{calls_group, done_by, held, counted}
use Rattle.right_system_ticks.specs.OwnAccounts.{trigger_reset_account}
use Rattle.right_system_ticks.specs.PlaceLaws.{HasFieldPlaces, IsSlotAt, ResetsStand}
use Rattle.right_system_ticks.proofs.Tests.{any-of, both-true, not-true, true-first}
use Rattle.right_system_ticks.proofs.CellLists.{slot-type}
use Rattle.right_system_ticks.proofs.MixedCells.{is_one_of, one-of, none-of, mixed, mixed-at, mixed-set, mixed-none, mixed-all}
use Rattle.right_system_ticks.proofs.Sequences.{Does, DoesOne, nothing-does, then-does, more-does, does-weaker, moved-append}
use Rattle.right_system_ticks.proofs.Statements.{store-of, store-does, child-call-does}
use Rattle.right_system_ticks.proofs.NodeRuns.{body_sees}
use Rattle.right_system_ticks.proofs.NewFields.{with_children, stays-children, new-child}
use Rattle.right_system_ticks.proofs.UpdateStates.{member, kept, single-delay, serves-at}

-- ---- Statements of lists

pub list-append : (xs ys : List StmtTree) → stmts_of_list (xs ++ ys) ≡ stmts_append (stmts_of_list xs) (stmts_of_list ys)
list-append [] ys = refl
list-append (x ∷ xs) ys = ap (more_stmts x) (list-append xs ys)

pub lists-do : (s : Scope) (mv : Relocation) (xs ys : List StmtTree) (w y z : Cells) (a b : Account) →
    Does s (moved_stmts mv (stmts_of_list xs)) w y a → Does s (moved_stmts mv (stmts_of_list ys)) y z b →
    Does s (moved_stmts mv (stmts_of_list (xs ++ ys))) w z (and_then a b)
lists-do s mv xs ys w y z a b one two =
    subst (λ c. Does s c w z (and_then a b))
    (sym (ap (moved_stmts mv) (list-append xs ys) ∙ moved-append mv (stmts_of_list xs) (stmts_of_list ys)))
    (then-does s (moved_stmts mv (stmts_of_list xs)) (moved_stmts mv (stmts_of_list ys)) w y z a b one two)

written-moved : (mv : Relocation) (v : ℤ) → moved_expr mv (written v) ≡ written v
written-moved mv v = by (int_lt v (pos 0))
  where
    by : (t : Bool) → moved_expr mv (if t then neg (literal (neg_ℤ v)) else literal v) ≡ (if t then neg (literal (neg_ℤ v)) else literal v)
    by true = refl
    by false = refl

single-one : (o : Op) → is_single o ≡ true → delay_length o ≡ 1
single-one (op.Delay initial) single = refl
single-one _ single = absurd (true≢false (sym single))

-- nothing inside a system that isn't called is active, or disabled
rests-inside : (control : Control) (remembered : TrigMem) (enable level : ℤ) → active false control remembered enable level ≡ false
rests-inside Plain remembered enable level = refl
rests-inside (Enabled resets) remembered enable level = refl
rests-inside (Triggered edge) remembered enable level = refl
rests-inside (Both resets edge) remembered enable level = refl

not-disabled : (control : Control) (values : List ℤ) → is_disabled_by false control values ≡ false
not-disabled Plain values = refl
not-disabled (Enabled resets) values = refl
not-disabled (Triggered edge) values = refl
not-disabled (Both resets edge) values = refl

-- ---- The reset

-- A system in a tick in which a system around is off.
pub record IsOffTick (local : LocalSystem) (schedule : SystemSchedule) (offers : List Offer) (children : List InstanceTick) (cycle : ℕ)
    (m : LocalTick) : Type 0 where
  pub sound : IsSoundLocal local
  pub places : HasFieldPlaces local schedule
  pub emittable : IsEmittable local schedule
  pub is_tick : IsLocalTick local m
  pub is_typed : IsTypedTick local m
  pub off_around : IsTrue m.tick.is_off_around
  pub serve : ChildrenServe local m cycle local.children offers children

module _ (numbers_are_written : NumbersAreWritten) (local : LocalSystem) (h : SystemHeader) (schedule : SystemSchedule)
    (offers : List Offer)
    (children : List InstanceTick) (cycle : ℕ) (m : LocalTick) (tick : IsOffTick local schedule offers children cycle m)
    (pures : List PureTree) (own : List Routine) (resets_stand : ResetsStand local offers own) where
  abbrev slots : List Slot
  slots = code_slots local schedule

  abbrev sees : Scope
  sees = body_sees local schedule offers pures own []

  abbrev mv : Relocation
  mv = behind_offers slots offers (own_count schedule)

  abbrev executed : Node → Bool
  executed x = executed_by h (held local schedule) none_called x

  abbrev cell : Slot → Cell
  cell x = standing_cell local m children executed (counted schedule none_called) x

  abbrev after : Slot → Cell
  after x = after_cell local m children x

  abbrev now : List ℕ → Cells
  now fields = mixed cell after (is_one_of fields) slots

  -- ---- Equations

  parent : m.tick.parent ≡ false
  parent = tick.is_tick.at_rest tick.off_around

  inactive : is_active local m ≡ false
  inactive =
      ap (λ p. active p local.control m.tick.trigger (enable_in local.control m.tick.controls)
      (trigger_in local.control m.tick.controls)) parent
      ∙ rests-inside local.control m.tick.trigger (enable_in local.control m.tick.controls) (trigger_in local.control m.tick.controls)

  memory-after : (r : LocalRow) → Contains local.rows r → is_delay r.op ≡ true → m.tick.memory_after r.row ≡ replicate (delay_length r.op)
      (row_start local r)
  memory-after r mine delay =
      kept (λ (q : LocalRow). m.tick.memory_after q.row ≡ memory_of local m q)
      (λ (q : LocalRow). is_delay q.op) local.rows r tick.is_tick.memories mine delay
      ∙ ap (λ t. if t || is_off local m then replicate (delay_length r.op) (row_start local r)
      else (if row_runs local m r then moved_on (m.tick.memory r.row)
      (input (row_inputs local m r) 0) else m.tick.memory r.row)) tick.off_around

  ring-after : (r : LocalRow) → Contains local.rows r → is_line r.op ≡ true → m.ring_after r.row ≡ emptied_ring (m.ring r.row)
  ring-after r mine line =
      kept (λ (q : LocalRow). m.ring_after q.row ≡ ring_of local m q)
      (λ (q : LocalRow). is_line q.op) local.rows r tick.is_tick.rings mine line
      ∙ ap (λ t. if t || is_off local m then emptied_ring (m.ring r.row)
      else (if row_runs local m r then moved_ring (delay_length r.op) (m.ring r.row)
      (input (row_inputs local m r) 0) else m.ring r.row)) tick.off_around

  value-after : (r : LocalRow) → Contains local.rows r → has_value r.kind ≡ true → m.tick.before r.row ≡ m.tick.value r.row
  value-after r mine has =
      sym (member (λ (q : LocalRow). m.tick.value q.row ≡ value_of local m q) local.rows r tick.is_tick.values mine
      ∙ by (has_value r.kind) has (is_reset_outport r.kind) (is_disabled local m)
      (ap (λ p. is_disabled_by p local.control m.tick.controls) parent ∙ not-disabled local.control m.tick.controls)
      (row_runs local m r) (ap (λ a. a && hit r.time m.tick.t) inactive))
    where
      by : (v : Bool) → v ≡ true → (o d : Bool) → d ≡ false → (runs : Bool) → runs ≡ false →
          (if not v then pos 0
          else (if o && d then row_start local r
          else (if runs then rhs r.op (row_inputs local m r) (first_of (m.tick.memory r.row)) else m.tick.before r.row)))
          ≡ m.tick.before r.row
      by false wrong o d e runs f = absurd (true≢false (sym wrong))
      by true v o true wrong runs f = absurd (true≢false wrong)
      by true v true false e true wrong = absurd (true≢false wrong)
      by true v false false e true wrong = absurd (true≢false wrong)
      by true v true false e false f = refl
      by true v false false e false f = refl

  trigger-after : is_triggered local.control ≡ true → memory_number m.tick.trigger_after ≡ pos 0
  trigger-after is =
      ap memory_number (tick.is_tick.trigger is
      ∙ ap (λ t. if t then NotYet else remembered_by m.tick.parent local.control m.tick.trigger m.tick.controls) tick.off_around)

  start-after : (r : LocalRow) → Contains local.rows r → is_single r.op ≡ true → first_of (m.tick.memory_after r.row) ≡ row_start local r
  start-after r mine single =
      ap first_of (memory-after r mine (single-delay r.op single).0 ∙ ap (λ n. replicate n (row_start local r)) (single-one r.op single))

  start-fits : (r : LocalRow) → Contains local.rows r → is_single r.op ≡ true → is_in_type (container r.out) (row_start local r) ≡ true
  start-fits r mine single =
      let all = (kept
      (λ (q : LocalRow). AllByRecursion (InType q.out) (m.tick.memory q.row) × AllByRecursion (InType q.out) (m.tick.memory_after q.row))
      (λ (q : LocalRow). is_delay q.op) local.rows r tick.is_typed.memories mine (single-delay r.op single).0).1 in
      container-has r.out (row_start local r)
      (subst (λ vs. AllByRecursion (InType r.out) vs) (memory-after r mine (single-delay r.op single).0
      ∙ ap (λ n. replicate n (row_start local r)) (single-one r.op single)) all).0

  start-short : (r : LocalRow) → Contains local.rows r → unsigned_abs (row_start local r) < 2 ^ 63
  start-short r mine = (All-contains (IsWritableRow local) local.rows r tick.emittable.rows mine).start

  -- ---- Stores

  set : (fields : List ℕ) (f : ℕ) (x : Slot) (c : Cell) → slice_get slots f ≡ Some x → after x ≡ c → set_cell (now fields) f c
      ≡ now (f ∷ fields)
  set fields f x c at is = ap (set_cell (now fields) f) (sym is) ∙ mixed-set cell after (is_one_of fields) slots f x at

  zero-does : (fields : List ℕ) (f : ℕ) (x : Slot) → slice_get slots f ≡ Some x → after x ≡ number (pos 0) →
      DoesOne sees (moved_stmt mv (zero_store f)) (now fields) (now (f ∷ fields)) (stores 1 (stored_once f))
  zero-does fields f x at is =
      subst (λ y. DoesOne sees (assign 0 f (literal (pos 0))) (now fields) y (stores 1 (stored_once f)))
      (set fields f x (number (pos 0)) at is)
      (store-does sees f (pos 0) (now fields) (bit-fits (type_at sees.types f) (pos 0) (inl refl)))

  start-does : (fields : List ℕ) (r : LocalRow) → Contains local.rows r → is_single r.op ≡ true →
      DoesOne sees (moved_stmt mv (start_store local (memory_field local r.row) r)) (now fields) (now (memory_field local r.row ∷ fields))
      (stores 1 (stored_once (memory_field local r.row)))
  start-does fields r mine single =
      let f = memory_field local r.row in
      let at = tick.places.memories r mine single in
      subst (λ e. DoesOne sees (assign 0 f e) (now fields) (now (f ∷ fields)) (stores 1 (stored_once f)))
      (sym (written-moved mv (row_start local r)))
      (subst (λ y. DoesOne sees (assign 0 f (written (row_start local r))) (now fields) y (stores 1 (stored_once f)))
      (set fields f (memory r) (number (row_start local r)) at (ap number (start-after r mine single)))
      (store-of sees f (written (row_start local r)) (row_start local r) (now fields)
      (λ steps. numbers_are_written (row_start local r) sees.functions (reads [] (now fields)) 0 steps (start-short r mine))
      (ap (λ t. is_in_type t (row_start local r)) (slot-type slots f (memory r) at) ∙ start-fits r mine single)))

  -- ---- Memories and the trigger

  abbrev with_singles : List LocalRow → List ℕ → List ℕ
  with_singles [] fields = fields
  with_singles (r ∷ rs) fields = with_singles rs (memory_field local r.row ∷ fields)

  singles-does : (rs : List LocalRow) (fields : List ℕ) →
      ((r : LocalRow) → Contains rs r → Contains local.rows r × (is_single r.op ≡ true)) →
      Does sees (moved_stmts mv (stmts_of_list (map (λ r. start_store local (memory_field local r.row) r) rs))) (now fields)
      (now (with_singles rs fields))
      (all_of (map (λ r. stores 1 (stored_once (memory_field local r.row))) rs))
  singles-does [] fields are = nothing-does sees (now fields)
  singles-does (r ∷ rs) fields are =
      more-does sees (moved_stmt mv (start_store local (memory_field local r.row) r))
      (moved_stmts mv (stmts_of_list (map (λ q. start_store local (memory_field local q.row) q) rs))) (now fields)
      (now (memory_field local r.row ∷ fields))
      (now (with_singles rs (memory_field local r.row ∷ fields))) (stores 1 (stored_once (memory_field local r.row)))
      (all_of (map (λ q. stores 1 (stored_once (memory_field local q.row))) rs))
      (start-does fields r (are r (in-first r rs)).0 (are r (in-first r rs)).1)
      (singles-does rs (memory_field local r.row ∷ fields) (λ q h. are q (in-rest r q rs h)))

  abbrev with_lines : List LocalRow → List ℕ → List ℕ
  with_lines [] fields = fields
  with_lines (r ∷ rs) fields = with_lines rs ((ring_field local r.row + 2) ∷ (ring_field local r.row + 1) ∷ fields)

  abbrev line_account : LocalRow → Account
  line_account r =
      and_then (stores 1 (stored_once (ring_field local r.row + 1))) (stores 1 (stored_once (ring_field local r.row + 2)))

  lines-does : (rs : List LocalRow) (fields : List ℕ) → ((r : LocalRow) → Contains rs r → Contains local.rows r × (is_line r.op ≡ true)) →
      Does sees (moved_stmts mv (stmts_of_list (flat_map (ring_stores local) rs))) (now fields) (now (with_lines rs fields))
      (all_of (map line_account rs))
  lines-does [] fields are = nothing-does sees (now fields)
  lines-does (r ∷ rs) fields are =
      let f = ring_field local r.row in
      let mine = (are r (in-first r rs)).0 in
      let line = (are r (in-first r rs)).1 in
      let rest = moved_stmts mv (stmts_of_list (flat_map (ring_stores local) rs)) in
      let last = all_of (map line_account rs) in
      does-weaker sees (more_stmts (moved_stmt mv (zero_store (f + 1))) (more_stmts (moved_stmt mv (zero_store (f + 2))) rest)) (now fields)
      (now (with_lines rs ((f + 2) ∷ (f + 1) ∷ fields)))
      (and_then (stores 1 (stored_once (f + 1))) (and_then (stores 1 (stored_once (f + 2))) last)) (and_then (line_account r) last)
      (omega arith) refl (λ path field. omega arith)
      (more-does sees (moved_stmt mv (zero_store (f + 1))) (more_stmts (moved_stmt mv (zero_store (f + 2))) rest) (now fields)
      (now ((f + 1) ∷ fields))
      (now (with_lines rs ((f + 2) ∷ (f + 1) ∷ fields))) (stores 1 (stored_once (f + 1))) (and_then (stores 1 (stored_once (f + 2))) last)
      (zero-does fields (f + 1) (ring_place r) (tick.places.places r mine line)
      (ap (λ ring. number (pos ring.place)) (ring-after r mine line)))
      (more-does sees (moved_stmt mv (zero_store (f + 2))) rest (now ((f + 1) ∷ fields)) (now ((f + 2) ∷ (f + 1) ∷ fields))
      (now (with_lines rs ((f + 2) ∷ (f + 1) ∷ fields))) (stores 1 (stored_once (f + 2))) last
      (zero-does ((f + 1) ∷ fields) (f + 2) (ring_taken r) (tick.places.counts r mine line)
      (ap (λ ring. number (pos ring.taken)) (ring-after r mine line)))
      (lines-does rs ((f + 2) ∷ (f + 1) ∷ fields) (λ q h. are q (in-rest r q rs h)))))

  abbrev with_level : Bool → List ℕ → List ℕ
  with_level true fields = trigger_field local ∷ fields
  with_level false fields = fields

  trigger-does : (fields : List ℕ) (t : Bool) → is_triggered local.control ≡ t →
      Does sees (moved_stmts mv (stmts_of_list (if t then zero_store (trigger_field local) ∷ [] else []))) (now fields)
      (now (with_level t fields))
      (if t then stores 1 (stored_once (trigger_field local)) else nothing_done)
  trigger-does fields true is =
      does-weaker sees (more_stmts (moved_stmt mv (zero_store (trigger_field local))) no_stmts) (now fields)
      (now (trigger_field local ∷ fields))
      (and_then (stores 1 (stored_once (trigger_field local))) nothing_done) (stores 1 (stored_once (trigger_field local)))
      (omega arith) refl
      (λ path field. omega arith)
      (more-does sees (moved_stmt mv (zero_store (trigger_field local))) no_stmts (now fields) (now (trigger_field local ∷ fields))
      (now (trigger_field local ∷ fields))
      (stores 1 (stored_once (trigger_field local))) nothing_done
      (zero-does fields (trigger_field local) trigger (tick.places.trigger is) (ap number (trigger-after is)))
      (nothing-does sees (now (trigger_field local ∷ fields))))
  trigger-does fields false is = nothing-does sees (now fields)

  -- ---- Children

  abbrev Free : List ℕ → Slot → Type 0
  Free fields x = (f : ℕ) → Contains fields f → slice_get slots f ≡ Some x → ⊥

  free-more : (fields : List ℕ) (f : ℕ) (x s : Slot) → slice_get slots f ≡ Some s → (s ≡ x → ⊥) → Free fields x → Free (f ∷ fields) x
  free-more fields f x s at apart none g h there = elim (in-cases f g fields h) [
    | inl same ↦ apart (same_Some s x (sym at ∙ ap (slice_get slots) same ∙ there))
    | inr more ↦ none g more there
  ]

  singles-free : (rs : List LocalRow) (fields : List ℕ) (k : ℕ) (u : ChildUse) →
      ((r : LocalRow) → Contains rs r → Contains local.rows r × (is_single r.op ≡ true)) → Free fields (instance k u) →
      Free (with_singles rs fields) (instance k u)
  singles-free [] fields k u are free = free
  singles-free (r ∷ rs) fields k u are free =
      singles-free rs (memory_field local r.row ∷ fields) k u (λ q h. are q (in-rest r q rs h))
      (free-more fields (memory_field local r.row) (instance k u) (memory r)
      (tick.places.memories r (are r (in-first r rs)).0 (are r (in-first r rs)).1) (λ e. let w : ⊥ = cc e in w) free)

  lines-free : (rs : List LocalRow) (fields : List ℕ) (k : ℕ) (u : ChildUse) →
      ((r : LocalRow) → Contains rs r → Contains local.rows r × (is_line r.op ≡ true)) → Free fields (instance k u) →
      Free (with_lines rs fields) (instance k u)
  lines-free [] fields k u are free = free
  lines-free (r ∷ rs) fields k u are free =
      let f = ring_field local r.row in
      let mine = (are r (in-first r rs)).0 in
      let line = (are r (in-first r rs)).1 in
      lines-free rs ((f + 2) ∷ (f + 1) ∷ fields) k u (λ q h. are q (in-rest r q rs h))
      (free-more ((f + 1) ∷ fields) (f + 2) (instance k u) (ring_taken r) (tick.places.counts r mine line) (λ e. let w : ⊥ = cc e in w)
      (free-more fields (f + 1) (instance k u) (ring_place r) (tick.places.places r mine line) (λ e. let w : ⊥ = cc e in w) free))

  level-free : (fields : List ℕ) (t : Bool) (k : ℕ) (u : ChildUse) → is_triggered local.control ≡ t → Free fields (instance k u) →
      Free (with_level t fields) (instance k u)
  level-free fields true k u is free =
      free-more fields (trigger_field local) (instance k u) trigger (tick.places.trigger is) (λ e. let w : ⊥ = cc e in w) free
  level-free fields false k u is free = free

  abbrev kid_account : ℕ × ChildUse → Account
  kid_account e = calls_child 1 (child_field local e.0) e.0 (instance_at children e.0) none_called reset

  child-does : (fields : List ℕ) (k : ℕ) (u : ChildUse) → slice_get local.children k ≡ Some u → Free fields (instance k u) →
      DoesOne sees (moved_stmt mv (call_behind local (own_count schedule) 2 (k, u))) (now fields) (now (child_field local k ∷ fields))
      (kid_account (k, u))
  child-does fields k u at free =
      let f = child_field local k in
      let i = instance_at children k in
      let there = tick.places.children k u at in
      let serves = serves-at local m cycle local.children offers children k u tick.serve at in
      let stands : fields_at (now fields) f ≡ i.standing none_called =
      ap cell_fields (mixed-at cell after (is_one_of fields) slots f (instance k u) there
      ∙ ap (λ t. if t then after (instance k u) else cell (instance k u)) (none-of fields f (λ h. free f h there)))
      ∙ ap (λ a. i.standing (called_in a executed u)) inactive in
      subst (λ p. DoesOne sees (call 0 p (Child f) no_exprs) (now fields) (now (f ∷ fields)) (kid_account (k, u))) (sym (place k u))
      (subst (λ y. DoesOne sees (call 0 (place_of k u) (Child f) no_exprs) (now fields) y (kid_account (k, u)))
      (set fields f (instance k u) (object i.after) there refl)
      (child-call-does sees (place_of k u) f (now fields) i.after k i none_called reset
      (subst (λ r. Performs r [] (fields_at (now fields) f) i.after (i.most none_called reset) (i.log none_called reset)
      (i.stored none_called reset))
      (sym (resets_stand k u at))
      (subst (λ x. Performs (offer_at offers k).reset.routine [] x i.after (i.most none_called reset) (i.log none_called reset)
      (i.stored none_called reset)) (sym stands)
      (serves.acts none_called reset (true-first m.tick.is_off_around (is_off local m) tick.off_around, refl))))))
    where
      place_of : ℕ → ChildUse → ℕ
      place_of k u = sum_by (λ (v : ChildUse). length (header_functions v.header) + 3) (take k local.children) +
          (length (header_functions u.header) + 2)

      place : (k : ℕ) (u : ChildUse) →
          moved_number mv (child_base local (own_count schedule) k + length (header_functions u.header) + 2) ≡ place_of k u
      place k u =
          let p = child_base local (own_count schedule) k + length (header_functions u.header) + 2 in
          ap (λ b. if b then length (children_routines offers) + p else p - own_count schedule)
          (le-ltb p (own_count schedule) (omega arith))
          ∙ minus (own_count schedule) (sum_by (λ (v : ChildUse). length (header_functions v.header) + 3) (take k local.children))
          (length (header_functions u.header))
        where
          minus : (c s n : ℕ) → c + s + n + 2 - c ≡ s + (n + 2)
          minus c s n = omega arith

  kids-does : (a : ℕ) (us : List ChildUse) (fields : List ℕ) →
      ((i : ℕ) (u : ChildUse) → slice_get us i ≡ Some u → slice_get local.children (a + i) ≡ Some u) →
      ((k : ℕ) (u : ChildUse) → a ≤ k → Free fields (instance k u)) →
      Does sees (moved_stmts mv (stmts_of_list (map (call_behind local (own_count schedule) 2) (enumerate_from a us)))) (now fields)
      (now (with_children local true a us fields)) (all_of (map kid_account (enumerate_from a us)))
  kids-does a [] fields stand free = nothing-does sees (now fields)
  kids-does a (u ∷ us) fields stand free =
      let at : slice_get local.children a ≡ Some u = subst (λ n. slice_get local.children n ≡ Some u) (add-zero a) (stand 0 u refl) in
      more-does sees (moved_stmt mv (call_behind local (own_count schedule) 2 (a, u)))
      (moved_stmts mv (stmts_of_list (map (call_behind local (own_count schedule) 2) (enumerate_from (a + 1) us)))) (now fields)
      (now (child_field local a ∷ fields))
      (now (with_children local true (a + 1) us (child_field local a ∷ fields))) (kid_account (a, u))
      (all_of (map kid_account (enumerate_from (a + 1) us)))
      (child-does fields a u at (free a u (omega arith)))
      (kids-does (a + 1) us (child_field local a ∷ fields) (λ i w there. subst (λ n. slice_get local.children n ≡ Some w) (omega arith)
      (stand (suc i) w there))
      (λ k w above. free-more fields (child_field local a) (instance k w) (instance a u) (tick.places.children a u at)
      (λ e. let same : a ≡ k = cc e in absurd (omega (arith, above, same))) (free k w (omega (arith, above)))))

  -- ---- The whole body

  abbrev singles : List LocalRow
  singles = single_rows local

  abbrev lines : List LocalRow
  lines = line_rows local

  are-singles : (r : LocalRow) → Contains singles r → Contains local.rows r × (is_single r.op ≡ true)
  are-singles r h = of-filter (λ (q : LocalRow). is_single q.op) local.rows r h

  are-lines : (r : LocalRow) → Contains lines r → Contains local.rows r × (is_line r.op ≡ true)
  are-lines r h = of-filter (λ (q : LocalRow). is_line q.op) local.rows r h

  abbrev behind_lines : List ℕ
  behind_lines = with_lines lines (with_singles singles [])

  abbrev behind_level : List ℕ
  behind_level = with_level (is_triggered local.control) behind_lines

  abbrev behind_kids : List ℕ
  behind_kids = with_children local true 0 local.children behind_level

  abbrev code_account : Account
  code_account =
      and_then (and_then (and_then (all_of (map (λ r. stores 1 (stored_once (memory_field local r.row))) singles))
      (all_of (map line_account lines)))
      (trigger_reset_account local)) (all_of (map kid_account (enumerate_from 0 local.children)))

  body-runs : Does sees (moved_stmts mv (stmts_of_list (reset_body local (own_count schedule)))) (now []) (now behind_kids) code_account
  body-runs =
      lists-do sees mv (memory_starts local) (map (call_behind local (own_count schedule) 2) (enumerate_from 0 local.children)) (now [])
      (now behind_level) (now behind_kids)
      (and_then (and_then (all_of (map (λ r. stores 1 (stored_once (memory_field local r.row))) singles))
      (all_of (map line_account lines))) (trigger_reset_account local))
      (all_of (map kid_account (enumerate_from 0 local.children)))
      (lists-do sees mv (single_starts local ++ line_starts local) (trigger_starts local) (now []) (now behind_lines) (now behind_level)
      (and_then (all_of (map (λ r. stores 1 (stored_once (memory_field local r.row))) singles)) (all_of (map line_account lines)))
      (trigger_reset_account local)
      (lists-do sees mv (single_starts local) (line_starts local) (now []) (now (with_singles singles [])) (now behind_lines)
      (all_of (map (λ r. stores 1 (stored_once (memory_field local r.row))) singles)) (all_of (map line_account lines))
      (singles-does singles [] are-singles) (lines-does lines (with_singles singles []) are-lines))
      (trigger-does behind_lines (is_triggered local.control) refl))
      (kids-does 0 local.children behind_level (λ i u at. subst (λ n. slice_get local.children n ≡ Some u)
      (let e : i ≡ 0 + i = omega arith in e) at)
      (λ k u above. level-free behind_lines (is_triggered local.control) k u refl
      (lines-free lines (with_singles singles []) k u are-lines (singles-free singles [] k u are-singles (λ f h at. in-none f h)))))

  -- ---- After the reset

  stays-singles : (rs : List LocalRow) (fields : List ℕ) (f : ℕ) → Contains fields f → Contains (with_singles rs fields) f
  stays-singles [] fields f h = h
  stays-singles (r ∷ rs) fields f h = stays-singles rs (memory_field local r.row ∷ fields) f (in-rest (memory_field local r.row) f fields h)

  new-single : (rs : List LocalRow) (fields : List ℕ) (r : LocalRow) → Contains rs r → Contains (with_singles rs fields)
      (memory_field local r.row)
  new-single [] fields r h = absurd (in-none r h)
  new-single (q ∷ rs) fields r h = elim (in-cases q r rs h) [
    | inl same ↦ stays-singles rs (memory_field local q.row ∷ fields) (memory_field local r.row)
        (subst (λ (p : LocalRow). Contains (memory_field local q.row ∷ fields) (memory_field local p.row)) same
        (in-first (memory_field local q.row) fields))
    | inr more ↦ new-single rs (memory_field local q.row ∷ fields) r more
  ]

  stays-lines : (rs : List LocalRow) (fields : List ℕ) (f : ℕ) → Contains fields f → Contains (with_lines rs fields) f
  stays-lines [] fields f h = h
  stays-lines (r ∷ rs) fields f h =
      stays-lines rs ((ring_field local r.row + 2) ∷ (ring_field local r.row + 1) ∷ fields) f
      (in-rest (ring_field local r.row + 2) f ((ring_field local r.row + 1) ∷ fields) (in-rest (ring_field local r.row + 1) f fields h))

  new-line : (rs : List LocalRow) (fields : List ℕ) (r : LocalRow) → Contains rs r →
      Contains (with_lines rs fields) (ring_field local r.row + 1) × Contains (with_lines rs fields) (ring_field local r.row + 2)
  new-line [] fields r h = absurd (in-none r h)
  new-line (q ∷ rs) fields r h = elim (in-cases q r rs h) [
    | inl same ↦ subst (λ (p : LocalRow). Contains (with_lines rs (more q)) (ring_field local p.row + 1) × Contains
        (with_lines rs (more q)) (ring_field local p.row + 2)) same (
          stays-lines rs (more q) (ring_field local q.row + 1) (in-rest (ring_field local q.row + 2) (ring_field local q.row + 1)
              ((ring_field local q.row + 1) ∷ fields) (in-first (ring_field local q.row + 1) fields)),
          stays-lines rs (more q) (ring_field local q.row + 2)
              (in-first (ring_field local q.row + 2) ((ring_field local q.row + 1) ∷ fields)),
        )
    | inr later ↦ new-line rs (more q) r later
  ]
    where
      more : LocalRow → List ℕ
      more p = (ring_field local p.row + 2) ∷ (ring_field local p.row + 1) ∷ fields

  stays-level : (fields : List ℕ) (t : Bool) (f : ℕ) → Contains fields f → Contains (with_level t fields) f
  stays-level fields true f h = in-rest (trigger_field local) f fields h
  stays-level fields false f h = h

  from-level : (f : ℕ) → Contains behind_level f → Contains behind_kids f
  from-level f h = stays-children local true 0 local.children behind_level f h

  from-lines : (f : ℕ) → Contains behind_lines f → Contains behind_kids f
  from-lines f h = from-level f (stays-level behind_lines (is_triggered local.control) f h)

  nothing-executed : (x : Node) → executed x ≡ false
  nothing-executed x =
      not-true (executed x) (λ some.
      let j = any-of (λ j. none_called j && held local schedule j x) (range_with_len 1 (length (header_functions h))) some in
      true≢false (sym (both-true (none_called j.0) (held local schedule j.0 x) j.2).0))

  nothing-counted : (name : List ℕ) → counted schedule none_called name ≡ pos 0
  nothing-counted name =
      ap (λ t. if t then pos 1 else pos 0)
      (not-true (list_any (λ g. done_by schedule none_called g && bytes_eq (counter_name (suc g)) name) (shared_groups schedule)) (λ some.
      let g = any-of (λ g. done_by schedule none_called g && bytes_eq (counter_name (suc g)) name) (shared_groups schedule) some in
      let done = (both-true (done_by schedule none_called g.0) (bytes_eq (counter_name (suc g.0)) name) g.2).0 in
      let j = any-of (λ j. none_called j && calls_group schedule j g.0) (range_with_len 1 (length schedule.functions)) done in
      true≢false (sym (both-true (none_called j.0) (calls_group schedule j.0 g.0) j.2).0)))

  touched : (f g : ℕ) (x : Slot) → slice_get slots f ≡ Some x → slice_get slots g ≡ Some x → Contains behind_kids g →
      is_one_of behind_kids f ≡ true
  touched f g x at there h = ap (is_one_of behind_kids) (tick.places.differ f g x at there) ∙ one-of behind_kids g h

  each : (f : ℕ) (x : Slot) → slice_get slots f ≡ Some x → IsSlotAt local schedule f x → (is_one_of behind_kids f ≡ true) ⊎
      (cell x ≡ after x)
  each f (value r) at (mine, has) =
      inr (ap number (ap (λ t. if t then m.tick.value r.row else m.tick.before r.row) (nothing-executed (node.Row r.row))
      ∙ value-after r mine has))
  each f (memory r) at (mine, single) =
      inl (touched f (memory_field local r.row) (memory r) at (tick.places.memories r mine single)
      (from-lines (memory_field local r.row) (stays-lines lines (with_singles singles []) (memory_field local r.row)
      (new-single singles [] r (in-filter (λ (q : LocalRow). is_single q.op) local.rows r mine single)))))
  each f (ring_items r) at (mine, line) = inr (ap (λ (ring : Ring). items ring.items) (sym (ring-after r mine line)))
  each f (ring_place r) at (mine, line) =
      inl (touched f (ring_field local r.row + 1) (ring_place r) at (tick.places.places r mine line)
      (from-lines (ring_field local r.row + 1)
      (new-line lines (with_singles singles []) r (in-filter (λ (q : LocalRow). is_line q.op) local.rows r mine line)).0))
  each f (ring_taken r) at (mine, line) =
      inl (touched f (ring_field local r.row + 2) (ring_taken r) at (tick.places.counts r mine line)
      (from-lines (ring_field local r.row + 2)
      (new-line lines (with_singles singles []) r (in-filter (λ (q : LocalRow). is_line q.op) local.rows r mine line)).1))
  each f trigger at is =
      inl (touched f (trigger_field local) trigger at (tick.places.trigger is)
      (from-level (trigger_field local) (subst (λ t. Contains (with_level t behind_lines) (trigger_field local)) (sym is)
      (in-first (trigger_field local) behind_lines))))
  each f (counter name type) at is = inr (ap number (nothing-counted name))
  each f (instance k u) at there =
      inl (touched f (child_field local k) (instance k u) at (tick.places.children k u there)
      (subst (λ n. Contains behind_kids (child_field local n)) (let e : 0 + k ≡ k = omega arith in e)
      (new-child local 0 local.children behind_level k u there)))
  each f filler at is = inr refl

  reset-ends : now behind_kids ≡ after_cells local m children slots
  reset-ends = mixed-all cell after (is_one_of behind_kids) slots (λ f x at. each f x at (tick.places.each f x at))

  reset-begins : now [] ≡ standing_cells local m children slots executed (counted schedule none_called)
  reset-begins = mixed-none cell after slots

  pub reset-runs : Does sees (moved_stmts mv (stmts_of_list (reset_body local (own_count schedule))))
      (standing_cells local m children slots executed (counted schedule none_called)) (after_cells local m children slots) code_account
  reset-runs =
      subst (λ x. Does sees (moved_stmts mv (stmts_of_list (reset_body local (own_count schedule)))) x
      (after_cells local m children slots) code_account) reset-begins
      (subst (λ y. Does sees (moved_stmts mv (stmts_of_list (reset_body local (own_count schedule))))
      (now []) y code_account) reset-ends body-runs)
