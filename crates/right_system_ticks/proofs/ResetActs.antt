-- A call of the reset does what the instance says.
use Rattle.std.specs.Prelude.{◌≡◌, ℕ, ◌+◌, ◌≤◌, Bool, true, false, ◌==◌, if◌then◌else◌, cond, List, [], ◌∷◌, ◌++◌, map, filter, count_by, length, refl}
use Rattle.std.specs.List.{enumerate_from}
use Rattle.std.proofs.Common.{sym, ap, subst, ◌∙◌, arith, true≢false}
use Rattle.std.proofs.lemmas.List.{append-nil}
use Rattle.std.proofs.lemmas.List.Sums.{sum_by-cons}
use Rattle.diagram_blocks.specs.Kinds.{is_delay}
use Rattle.modules_profile.specs.declared.local.ChildUse.{ChildUse}
use Rattle.modules_profile.specs.declared.local.LocalRow.{LocalRow}
use Rattle.modules_profile.specs.LocalSystem.{LocalSystem}
use Rattle.modules_profile.specs.SystemProfile.{SystemProfile}
use Rattle.modules_profile.specs.Locals.{own_header}
use Rattle.modules_schedule.specs.SystemSchedule.{SystemSchedule}
use Rattle.c_syntax.specs.Tree.{stmts_of_list, ProcedureTree, PureTree}
use Rattle.c_semantics.specs.Machine.{Routine, routine_at}
use Rattle.emit_row_code.specs.Laws.{NumbersAreWritten}
use Rattle.emit_shape.specs.Delays.{is_single, is_line}
use Rattle.emit_shape.specs.Heads.{reset_head}
use Rattle.right_relation.specs.Instances.{reset, none_called, InstanceTick, instance_at, Offer, offered_for, Performs}
use Rattle.right_relation.specs.LocalTicks.{LocalTick}
use Rattle.right_relation.specs.NodeStatements.{stored_once, stored_each}
use Rattle.right_relation.specs.Relation.{children_routines, system_routines}
use Rattle.right_relation.specs.Standing.{executed_by, standing_cells, after_cells}
use Rattle.emit_system_spec.specs.EmittedCode.{with_body, system_code}
use Rattle.emit_system_spec.specs.Fields.{memory_field, ring_field, child_field, code_slots}
use Rattle.emit_system_spec.specs.Groups.{code_groups, own_count}
use Rattle.emit_system_spec.specs.Renewing.{reset_body}
use Rattle.right_system_ticks.specs.ActLaws.{emitted_offer, emitted_instance}
use Rattle.right_system_ticks.specs.CodeAccounts.{Account, nothing_done, stores, calls_child, and_then, all_of}
use Rattle.right_system_ticks.specs.Holding.{held, counted}
use Rattle.right_system_ticks.specs.OwnAccounts.{memory_reset_account, trigger_reset_account, reset_account}
use Rattle.right_system_ticks.specs.PlaceLaws.{HasProcedurePlaces, LogsByName, ResetsStand}
use Rattle.right_system_ticks.specs.ScheduleLaws.{HasGroups}
use Rattle.right_system_ticks.proofs.Sequences.{Does, does-weaker}
use Rattle.right_system_ticks.proofs.NodeRuns.{body_sees, moved}
use Rattle.right_system_ticks.proofs.UpdateStates.{single-delay, line-delay}
use Rattle.right_system_ticks.proofs.ResetRuns.{IsOffTick, reset-runs}
use Rattle.right_system_ticks.proofs.OwnProcedures.{earlier-at, routine-is, other-at}
use Rattle.right_system_ticks.proofs.OutActs.{routine_here, performs-here}

-- ---- Accounts of memories, by sort and in the order of rows

-- two accounts together add no more than one, and log nothing
record AreWithin (a b c : Account) : Type 0 where
  steps : (a.steps + a.inner) + (b.steps + b.inner) ≤ c.steps + c.inner
  stored : (path : List ℕ) (field : ℕ) → a.stored path field + b.stored path field ≤ c.stored path field
  first : a.log ≡ []
  second : b.log ≡ []
  third : c.log ≡ []

two-stores : (f g : ℕ) (path : List ℕ) (field : ℕ) → stored_once f path field + stored_once g path field ≤ stored_each
    (f ∷ g ∷ []) path field
two-stores f g [] n =
    by (if n == f then 1 else 0) (if n == g then 1 else 0) (count_by (λ i. n == i) (f ∷ g ∷ [])) (count_by (λ i. n == i) (g ∷ []))
    (sum_by-cons (λ i. if n == i then 1 else 0) f (g ∷ [])) (sum_by-cons (λ i. if n == i then 1 else 0) g [])
  where
    by : (x y s t : ℕ) → s ≡ x + t → t ≡ y + 0 → x + y ≤ s
    by x y s t first second = omega arith
two-stores f g (p ∷ path) n = none
  where
    none : 0 + 0 ≤ 0
    none = omega arith

module _ (local : LocalSystem) where
  abbrev single_of : LocalRow → Account
  single_of r = stores 1 (stored_once (memory_field local r.row))

  abbrev line_of : LocalRow → Account
  line_of r = and_then (stores 1 (stored_once (ring_field local r.row + 1))) (stores 1 (stored_once (ring_field local r.row + 2)))

  within : (rs : List LocalRow) →
      AreWithin (all_of (map single_of (filter (λ r. is_single r.op) rs))) (all_of (map line_of (filter (λ r. is_line r.op) rs)))
      (all_of (map (memory_reset_account local) (filter (λ r. is_delay r.op) rs)))
  within [] = record { steps = omega arith; stored = λ path field. none; first = refl; second = refl; third = refl }
    where
      none : 0 + 0 ≤ 0
      none = omega arith
  within (r ∷ rs) =
      by (is_single r.op) (is_line r.op) (is_delay r.op) (λ is. single-delay r.op is) (λ is. line-delay r.op is) refl (within rs)
    where
      by : (s l d : Bool) → (s ≡ true → (d ≡ true) × (l ≡ false)) → (l ≡ true → d ≡ true) → is_line r.op ≡ l →
          AreWithin (all_of (map single_of (filter (λ q. is_single q.op) rs))) (all_of (map line_of (filter (λ q. is_line q.op) rs)))
          (all_of (map (memory_reset_account local) (filter (λ q. is_delay q.op) rs))) →
          AreWithin (all_of (map single_of (cond s (r ∷ filter (λ q. is_single q.op) rs) (filter (λ q. is_single q.op) rs))))
          (all_of (map line_of (cond l (r ∷ filter (λ q. is_line q.op) rs) (filter (λ q. is_line q.op) rs))))
          (all_of (map (memory_reset_account local) (cond d (r ∷ filter (λ q. is_delay q.op) rs) (filter (λ q. is_delay q.op) rs))))
      by true true d single line is h = absurd (true≢false (single refl).1)
      by true false false single line is h = absurd (true≢false (sym (single refl).0))
      by true false true single line is h =
          subst (λ t. AreWithin (and_then (single_of r) (all_of (map single_of (filter (λ q. is_single q.op) rs))))
          (all_of (map line_of (filter (λ q. is_line q.op) rs)))
          (and_then (if t then stores 2 (stored_each ((ring_field local r.row + 1) ∷ (ring_field local r.row + 2) ∷ [])) else single_of r)
          (all_of (map (memory_reset_account local) (filter (λ q. is_delay q.op) rs))))) (sym is)
          (record {
            steps = let e = h.steps in omega (arith, e);
            stored = λ path field. let e = h.stored path field in omega (arith, e);
            first = h.first;
            second = h.second;
            third = h.third;
          })
      by false true false single line is h = absurd (true≢false (sym (line refl)))
      by false true true single line is h =
          subst (λ t. AreWithin (all_of (map single_of (filter (λ q. is_single q.op) rs)))
          (and_then (line_of r) (all_of (map line_of (filter (λ q. is_line q.op) rs))))
          (and_then (if t then stores 2 (stored_each ((ring_field local r.row + 1) ∷ (ring_field local r.row + 2) ∷ [])) else single_of r)
          (all_of (map (memory_reset_account local) (filter (λ q. is_delay q.op) rs))))) (sym is)
          (record {
            steps = let e = h.steps in omega (arith, e);
            stored = λ path field.
                let e = h.stored path field in
                let two = two-stores (ring_field local r.row + 1) (ring_field local r.row + 2) path field in
                omega (arith, e, two);
            first = h.first;
            second = h.second;
            third = h.third;
          })
      by false false true single line is h =
          subst (λ t. AreWithin (all_of (map single_of (filter (λ q. is_single q.op) rs)))
          (all_of (map line_of (filter (λ q. is_line q.op) rs)))
          (and_then (if t then stores 2 (stored_each ((ring_field local r.row + 1) ∷ (ring_field local r.row + 2) ∷ [])) else single_of r)
          (all_of (map (memory_reset_account local) (filter (λ q. is_delay q.op) rs))))) (sym is)
          (record {
            steps = let e = h.steps in omega (arith, e);
            stored = λ path field. let e = h.stored path field in omega (arith, e);
            first = h.first;
            second = h.second;
            third = h.third;
          })
      by false false false single line is h = h

  -- the trigger logs nothing
  level-log : (t : Bool) (f : ℕ) → (if t then stores 1 (stored_once f) else nothing_done).log ≡ []
  level-log true f = refl
  level-log false f = refl

-- ---- The act

module _ (numbers_are_written : NumbersAreWritten)
    (local : LocalSystem) (profile : SystemProfile) (schedule : SystemSchedule) (has : HasGroups profile schedule)
    (places : HasProcedurePlaces local profile schedule) (names : LogsByName local profile schedule)
    (offers : List Offer) (children : List InstanceTick) (cycle : ℕ) (m : LocalTick)
    (tick : IsOffTick local schedule offers children cycle m) (pures : List PureTree) (numbers : ℕ → ℕ)
    (resets_stand : (own : List Routine) → ResetsStand local offers own) where
  abbrev q : ℕ
  q = length (code_groups schedule) + length profile.functions + 2

  abbrev own : List Routine
  own = (earlier-at local profile schedule has offers pures numbers q).0

  abbrev procedure : ProcedureTree
  procedure = with_body (reset_head (own_header local profile)) (stmts_of_list (reset_body local (own_count schedule)))

  abbrev memories : List LocalRow
  memories = filter (λ r. is_delay r.op) local.rows

  abbrev kids : Account
  kids = all_of (map (λ (e : ℕ × ChildUse). calls_child 1 (child_field local e.0) e.0 (instance_at children e.0) none_called reset)
      (enumerate_from 0 local.children))

  abbrev code_account : Account
  code_account =
      and_then (and_then (and_then (all_of (map (single_of local) (filter (λ r. is_single r.op) local.rows)))
      (all_of (map (line_of local) (filter (λ r. is_line r.op) local.rows)))) (trigger_reset_account local)) kids

  body-does : Does (body_sees local schedule offers pures own []) (moved local schedule offers pures own procedure.body)
      (standing_cells local m children (code_slots local schedule)
      (executed_by (own_header local profile) (held local schedule) none_called) (counted schedule none_called))
      (after_cells local m children (code_slots local schedule)) (reset_account local m children)
  body-does =
      let w = within local local.rows in
      does-weaker (body_sees local schedule offers pures own []) (moved local schedule offers pures own procedure.body)
      (standing_cells local m children (code_slots local schedule)
      (executed_by (own_header local profile) (held local schedule) none_called) (counted schedule none_called))
      (after_cells local m children (code_slots local schedule)) code_account (reset_account local m children)
      (let e = w.steps in omega (arith, e))
      (logs (all_of (map (single_of local) (filter (λ r. is_single r.op) local.rows)))
      (all_of (map (line_of local) (filter (λ r. is_line r.op) local.rows)))
      (trigger_reset_account local) kids (all_of (map (memory_reset_account local) memories)) w.first w.second w.third)
      (λ path field. let e = w.stored path field in omega (arith, e))
      (reset-runs numbers_are_written local (own_header local profile) schedule offers children cycle m tick pures own (resets_stand own))
    where
      logs : (a b t k d : Account) → a.log ≡ [] → b.log ≡ [] → d.log ≡ [] → ((a.log ++ b.log) ++ t.log) ++ k.log
          ≡ d.log ++ (t.log ++ (k.log ++ []))
      logs a b t k d one two three =
          ap (λ l. ((l ++ b.log) ++ t.log) ++ k.log) one ∙ ap (λ l. (l ++ t.log) ++ k.log) two ∙ ap (λ l. t.log ++ l)
          (sym (append-nil k.log))
          ∙ ap (λ l. l ++ (t.log ++ (k.log ++ []))) (sym three)

  routine-here : (offered_for (emitted_offer local profile schedule offers pures numbers) reset).routine
      ≡ routine_here local profile schedule has offers pures numbers q procedure
  routine-here =
      ap (λ k. routine_at (system_routines pures (code_slots local schedule) offers (system_code local profile schedule) numbers)
      (length (children_routines offers) + k)) places.reset
      ∙ routine-is local profile schedule has offers pures numbers q procedure (other-at local profile schedule has 2 procedure refl)

  pub reset-acts : Performs (offered_for (emitted_offer local profile schedule offers pures numbers) reset).routine []
      ((emitted_instance local profile schedule offers pures numbers m children).standing none_called)
      (emitted_instance local profile schedule offers pures numbers m children).after
      ((emitted_instance local profile schedule offers pures numbers m children).most none_called reset)
      ((emitted_instance local profile schedule offers pures numbers m children).log none_called reset)
      ((emitted_instance local profile schedule offers pures numbers m children).stored none_called reset)
  reset-acts =
      performs-here local profile schedule has offers pures numbers
      (offered_for (emitted_offer local profile schedule offers pures numbers) reset).routine
      q procedure routine-here []
      (standing_cells local m children (code_slots local schedule)
      (executed_by (own_header local profile) (held local schedule) none_called) (counted schedule none_called))
      (after_cells local m children (code_slots local schedule)) (reset_account local m children) []
      (ap (λ b. if b then record { path = []; procedure = numbers q } ∷ [] else []) names.reset) body-does
