-- Starts and resets that are wrong from some fields, or store twice, are refused, and a function that gives nothing.
use Rattle.std.specs.Prelude.{◌≡◌, refl, ℕ, ◌+◌, ◌≤◌, ◌==◌, false, List, [], ◌∷◌, pos, nat_abs}
use Rattle.std.specs.Fmt.{digits}
use Rattle.std.proofs.Common.{sym, ap, ◌∙◌, arith, rules, lit<, lit≤, true≢false}
use Rattle.std.proofs.lemmas.Bool.{eq-eqb}
use Rattle.diagram_blocks.specs.declared.Kind.TheVariants.{Inport, Outport, UnitDelay}
use Rattle.base_fixed_point.specs.Types.{int32}
use Rattle.diagram_meaning.specs.RunExamples.{zero_initial}
use Rattle.modules_profile.specs.Locals.{own_header}
use Rattle.c_syntax.specs.Tree.{PureTree}
use Rattle.c_semantics.specs.Cells.{Cell, number, cell_value, Cells, number_at}
use Rattle.c_semantics.specs.Values.{step_limit}
use Rattle.emit_prelude.specs.Rules.{IsPrelude}
use Rattle.emit_shape.specs.SystemTree.{SystemTree}
use Rattle.emit_shape.specs.Slots.{Slot}
use Rattle.right_relation.specs.Budgets.{own_budget}
use Rattle.right_relation.specs.Forms.{HasForms, slot_forms}
use Rattle.right_relation.specs.LocalTicks.{IsLocalTick, IsTypedTick}
use Rattle.right_relation.specs.Instances.{out, update, none_called, with_called, Offered, OnDone}
use Rattle.right_relation.specs.Serving.{MayCome}
use Rattle.right_relation.specs.Standing.{outer_tick_of}
use Rattle.right_relation.specs.Relation.{IsCycleOf, KeepsRelation, Behaves, own_offer}
use Rattle.right_relation.specs.Renewals.{IsStarted, IsReset, AllSlots, RenewsOwn}
use Rattle.right_relation.specs.ResetExamples.{local, profile, slots, high_tick}
use Rattle.right_relation.proofs.RenewedSamples.{makes, takes}
use Rattle.right_relation.specs.RefusedCodes.{midst, start_leaves_values, start_leaves_counter, start_stores_twice, reset_stores_values, empty_reset, idle_function}

midst_has_forms : HasForms (slot_forms [] slots) midst
midst_has_forms = (refl, (refl, (refl, (refl, (refl, tt)))))

few_steps : own_budget local ≤ step_limit
few_steps = lit≤ tt

-- what a procedure that renews the fields makes of these
becomes : (IsSo : Slot → Cell → Cell → Type 0) (q : Offered) → RenewsOwn local slots [] IsSo q →
    OnDone (q.routine.run [] midst 0) (λ a. AllSlots IsSo slots midst a.cells)
becomes = makes local slots midst midst_has_forms few_steps

-- different numbers are different fields
pub apart : (a b : ℕ) → (a == b) ≡ false → number (pos a) ≡ number (pos b) → ⊥
apart a b differ e = true≢false (sym (eq-eqb a b (ap (λ c. nat_abs (cell_value c)) e)) ∙ differ)

-- ---- The tick in which the enable is high

one_cycle : IsCycleOf local 1
one_cycle = record { some = lit< tt; short = lit≤ tt; repeats = (refl, (refl, (refl, (refl, tt)))) }

is_tick : IsLocalTick local high_tick
is_tick = record {
  values = (refl, (refl, (refl, (refl, tt))));
  memories = (refl, tt);
  lengths = (refl, tt);
  ring_holds = tt;
  rings = tt;
  trigger = λ triggered. absurd (true≢false (sym triggered));
  at_rest = λ off. absurd (true≢false (sym off));
}

-- x1 copies its input, the delay passes on its memory, and y1 copies the delay
is_typed : IsTypedTick local high_tick
is_typed = record {
  inputs = (search rules, tt);
  controls = (search rules, tt);
  before = (search rules, (search rules, (search rules, tt)));
  values = (search rules, (search rules, (search rules, tt)));
  memories = (((search rules, tt), (search rules, tt)), tt);
  evaluable = (
    λ runs. record {
      kind = Inport 1;
      types = [];
      out = int32;
      delays = false;
      is_op = refl;
      within_limits = tt;
      has_types = tt;
      narrow = lit≤ tt;
      reads = tt;
      passes = (lit< tt, search rules);
    },
    (
      λ runs. record {
        kind = UnitDelay zero_initial;
        types = int32 ∷ [];
        out = int32;
        delays = false;
        is_op = refl;
        within_limits = tt;
        has_types = tt;
        narrow = lit≤ tt;
        reads = tt;
        passes = search rules;
      },
      (
        λ runs. record {
          kind = Outport 1 false zero_initial;
          types = int32 ∷ [];
          out = int32;
          delays = false;
          is_op = refl;
          within_limits = tt;
          has_types = tt;
          narrow = lit≤ tt;
          reads = tt;
          passes =
              (lit< tt, search rules);
        },
        tt,
      ),
    ),
  );
  children = tt;
  outputs = tt;
}

may_come : MayCome (own_header local profile) (outer_tick_of local high_tick) none_called (out 1)
may_come = (refl, lit< tt, lit≤ tt, refl)

-- ---- What is refused

module _ (pures : List PureTree) (prelude : IsPrelude pures) where
  abbrev start_of : SystemTree → Offered
  start_of code = (own_offer local profile pures slots [] code (λ k. k)).start

  abbrev reset_of : SystemTree → Offered
  reset_of code = (own_offer local profile pures slots [] code (λ k. k)).reset

  abbrev begun : (code : SystemTree) → Behaves local profile slots code →
      RenewsOwn local slots [] (IsStarted local []) (own_offer local profile pures slots [] code (λ k. k)).start
  begun code h = h.starts pures prelude (λ k. k) [] tt [] tt

  abbrev cleared : (code : SystemTree) → Behaves local profile slots code →
      RenewsOwn local slots [] (IsReset local []) (own_offer local profile pures slots [] code (λ k. k)).reset
  cleared code h = h.resets pures prelude (λ k. k) [] tt [] tt

  values_are_left : Behaves local profile slots start_leaves_values → ⊥
  unfolding digits
  values_are_left h = apart 9 0 refl (becomes (IsStarted local []) (start_of start_leaves_values) (begun start_leaves_values h)).0

  counter_is_left : Behaves local profile slots start_leaves_counter → ⊥
  unfolding digits
  counter_is_left h = apart 1 0 refl (becomes (IsStarted local []) (start_of start_leaves_counter) (begun start_leaves_counter h)).1.1.1.1.0

  fields_are_stored_twice : Behaves local profile slots start_stores_twice → ⊥
  unfolding digits
  fields_are_stored_twice h =
      let steps : 10 ≤ 5 =
      takes local slots midst midst_has_forms few_steps (IsStarted local []) (start_of start_stores_twice) (begun start_stores_twice h) in
      omega (arith, steps)

  values_are_stored : Behaves local profile slots reset_stores_values → ⊥
  unfolding digits
  values_are_stored h = apart 0 9 refl (becomes (IsReset local []) (reset_of reset_stores_values) (cleared reset_stores_values h)).0

  nothing_is_reset : Behaves local profile slots empty_reset → ⊥
  unfolding digits
  nothing_is_reset h = apart 5 0 refl (becomes (IsReset local []) (reset_of empty_reset) (cleared empty_reset h)).1.1.1.0

  keeps : (code : SystemTree) (h : Behaves local profile slots code) →
      KeepsRelation local (own_header local profile) slots h.held h.counted 1 high_tick
      (own_offer local profile pures slots [] code (λ k. k)) []
  keeps code h = h.in_ticks pures prelude (λ k. k) 1 one_cycle [] tt high_tick is_tick is_typed [] tt

  -- the call of the first function takes no more steps than the budget
  room : (code : SystemTree) (h : Behaves local profile slots code) → 0 + (keeps code h).own.most none_called (out 1) ≤ step_limit
  room code h =
      let k = keeps code h in
      let most : k.own.most none_called (out 1) ≡ k.steps none_called (out 1) + 0 = (k.adds none_called (out 1) may_come).most in
      let budget : k.steps none_called (out 1) + k.steps (with_called none_called 1) update ≤ 64 =
      k.in_budget.ticks (1 ∷ []) (record { moves = []; below = tt; is = refl }) in
      omega (arith, most, budget)

  -- a function that does nothing leaves the output at the 8 of the tick before, where it should be 5
  nothing_is_given : Behaves local profile slots idle_function → ⊥
  unfolding digits
  nothing_is_given h =
      let k = keeps idle_function h in
      let left : k.own.standing none_called ≡ k.own.standing (with_called none_called 1) =
      (k.serves.acts none_called (out 1) may_come 0 (room idle_function h)).fields in
      let before : number_at (k.own.standing none_called) 2 ≡ pos 8 = k.serves.outputs none_called 0 (lit< tt) in
      let behind : number_at (k.own.standing (with_called none_called 1)) 2 ≡ pos 5 =
      k.serves.outputs (with_called none_called 1) 0 (lit< tt) in
      apart 8 5 refl (ap number (sym before ∙ ap (λ (cells : Cells). number_at cells 2) left ∙ behind))
