-- An instance has its accounts of a tick, where each of its children serves and has its own.
use Rattle.std.specs.Prelude.{◌≡◌, ◌⊎◌, ℕ, ◌<◌, ◌≤◌, Bool, true, false, if◌then◌else◌, List, [], ◌∷◌, length, slice_get, IsPermutation, IsTrue, Option, Some, ℤ, refl}
use Rattle.std.proofs.Common.{sym, ap, subst, ◌∙◌, arith, inl, inr}
use Rattle.std.proofs.lemmas.List.{append-nil}
use Rattle.diagram_meaning.specs.Laws.{Run, IsRunOver}
use Rattle.diagram_meaning.specs.RunLaws.{IsSystemWithin}
use Rattle.modules_profile.specs.declared.ChildUse.{ChildUse}
use Rattle.modules_profile.specs.declared.Node.{Node}
use Rattle.modules_profile.specs.declared.Node.TheVariants.{Row}
use Rattle.modules_profile.specs.LocalSystem.{LocalSystem}
use Rattle.modules_profile.specs.SystemHeader.{SystemHeader}
use Rattle.modules_profile.specs.Headers.{header_functions}
use Rattle.modules_profile.specs.LawfulLocals.{IsLocal}
use Rattle.modules_profile.specs.NodeFacts.{LocalsAreLawful}
use Rattle.modules_profile.proofs.lemmas.Members.{in-at}
use Rattle.emit_shape.specs.Names.{value_name}
use Rattle.emit_shape.specs.Slots.{Slot, instance}
use Rattle.right_relation.specs.Budgets.{spent_along}
use Rattle.right_relation.specs.LocalTicks.{LocalTick, is_active}
use Rattle.right_relation.specs.Instances.{Act, update, reset, none_called, InstanceTick, instance_at, calls_inside}
use Rattle.right_relation.specs.Accounts.{log_along, stored_along, newly_executed, Adds}
use Rattle.right_relation.specs.Relation.{KeepsRelation}
use Rattle.right_relation.specs.Serving.{Serves}
use Rattle.right_relation.specs.Standing.{executed_by, called_in}
use Rattle.right_relation.specs.RunTicks.{Untouched, tick_at}
use Rattle.right_relation.specs.RunTickLaws.{ChildrenMeetTheirTicks}
use Rattle.right_claim.specs.Paths.{place_in}
use Rattle.right_linking.specs.Parts.{Parts, program_of, diagram, all_systems, coded_header, Views}
use Rattle.right_linking.specs.Places.{FieldsAreFound}
use Rattle.right_linking.specs.Offers.{offer_of}
use Rattle.right_linking.specs.Lives.{whole_tick, function_numbers, outer_at, StoredAtMost, IsWhole, IsQuiet, HasAccounts, AccountsFollow}
use Rattle.right_program_costs.proofs.Logs.{none-logged}
use Rattle.right_program_costs.proofs.LeftFunctions.{left-first}
use Rattle.right_program_costs.proofs.Executed.{all-left, none-called}
use Rattle.right_program_costs.proofs.AlongTick.{Sums, one-sum, Whole, whole}
use Rattle.right_linking.proofs.lemmas.SystemsUnder.{IsChildRow}
use Rattle.right_program_costs.proofs.SlotPlaces.{child-of-slot, slot-cases}
use Rattle.right_linking.proofs.lemmas.AssembledPlaces.{all-made}
use Rattle.right_linking.proofs.lemmas.ChildRows.{row-of-child}
use Rattle.right_program_costs.proofs.ChildActs.{CallsRight, KeepsLimits, reset-limits, reset-log, acts-right}
use Rattle.right_program_costs.proofs.InnerAccounts.{calls-in, no-other, stored-in, in-budget, ValueAt, value-at}

module _ (fields : FieldsAreFound) (meet : ChildrenMeetTheirTicks) (lawful_law : LocalsAreLawful)
    (a : Parts) (v : Views a) (s : Option ℕ) (xs : List (List ℤ)) (run : Run) (is_run : IsRunOver (diagram a) s xs run)
    (place : ℕ) (n : Option ℕ) (stands : slice_get (all_systems a) place ≡ Some n) (within : IsSystemWithin (diagram a).rows s n)
    (untouched : Untouched) (t : ℕ) (below : t < length xs) (children : List InstanceTick)
    (kept : KeepsRelation (v.at n).local (coded_header (v.at n)) (v.at n).slots (v.each place n stands).behaves.held
    (v.each place n stands).behaves.counted a.hyper
    (tick_at (diagram a) s xs run n untouched t) (offer_of a v n) children)
    (serve : (k : ℕ) (u : ChildUse) → slice_get (v.at n).local.children k ≡ Some u →
    Serves (coded_header (v.at u.header.row)) (offer_of a v u.header.row) a.hyper (outer_at a v s xs run u.header.row t)
    (instance_at children k))
    (accounts : (k : ℕ) (u : ChildUse) → slice_get (v.at n).local.children k ≡ Some u →
    HasAccounts a v s xs run u.header.row t (instance_at children k)) where
  abbrev local : LocalSystem
  local = (v.at n).local

  abbrev h : SystemHeader
  h = coded_header (v.at n)

  abbrev slots : List Slot
  slots = (v.at n).slots

  abbrev m : LocalTick
  m = tick_at (diagram a) s xs run n untouched t

  abbrev held : ℕ → Node → Bool
  held = (v.each place n stands).behaves.held

  abbrev own : InstanceTick
  own = kept.own

  lawful : IsLocal local
  lawful = lawful_law a.model n local a.can.resolved (v.each place n stands).local

  child-at-slot : (f k : ℕ) (u : ChildUse) → slice_get slots f ≡ Some (instance k u) → slice_get local.children k ≡ Some u
  child-at-slot = child-of-slot local slots (v.each place n stands).shape.slots_right

  no-function : (k : ℕ) (u : ChildUse) → slice_get local.children k ≡ Some u →
      called_in (is_active local m) (executed_by h held none_called) u ≡ none_called
  no-function k u at =
      let e = row-of-child a v place n stands u (in-at local.children k u at) in
      none-called local lawful h held (v.each place n stands).behaves.are_held m k e.0 u at e.1 (is_active local m)

  value-stored : (row : List Act) (most : ℕ) →
      ((f : ℕ) (b : ℕ) → ValueAt fields a v place n stands lawful s xs run t b →
      stored_along own none_called row [] (place_in (program_of a) n (value_name b)) ≤ most) →
      StoredAtMost a v s xs run own row [] n most
  value-stored row most few = all-made _ _ (λ b has. let at = value-at fields a v place n stands lawful s xs run t b has in few at.f b at)

  -- ---- A whole tick

  module _ (parent : IsTrue m.tick.parent) (js : List ℕ) (order : IsPermutation (function_numbers a v n) js) where
    all : Whole local h held m slots children own kept.steps lawful
        (v.each place n stands).behaves.are_held child-at-slot kept.adds none_called js
    all = whole local h held m slots children own kept.steps lawful (v.each place n stands).behaves.are_held child-at-slot kept.adds parent
        js none_called
        (left-first (length (header_functions h)) js order)

    done : (k : ℕ) (u : ChildUse) (e : ℕ) → slice_get local.children k ≡ Some u → u.header.row ≡ Some e →
        CallsRight a v s xs run t e (instance_at children k) (all.sums.acts k) × KeepsLimits a v s xs run t e (instance_at children k)
        (all.sums.acts k) 1
    done k u e at row =
        let child = row-of-child a v place n stands u (in-at local.children k u at) in
        let rows_same : Some child.0 ≡ Some e = sym child.1 ∙ row in
        let same : child.0 ≡ e = cc rows_same in
        acts-right meet a v place n stands lawful s xs run within is_run untouched t below k u at e row
        (subst (λ z. IsChildRow (diagram a).rows n z) same child.2) (instance_at children k)
        (serve k u at) (accounts k u at) held (all.sums.acts k)
        (all-left local lawful h held (v.each place n stands).behaves.are_held m k e u at row) (all.are_acts k u at)

    whole-tick-of : IsWhole a v s xs run n own t js
    whole-tick-of = record {
      calls = all-made _ _ (calls-in fields a v place n stands lawful s xs run t held m children own (whole_tick js)
          (spent_along kept.steps none_called js) all.sums no-function
          (λ k u e at row. (done k u e at row).0));
      no_other = no-other fields a v place n stands lawful s xs run t held m children own (whole_tick js)
          (spent_along kept.steps none_called js) all.sums no-function
          (λ k u e at row. (done k u e at row).0);
      stored = value-stored (whole_tick js) 1 once;
      stored_inside = all-made _ _ (stored-in fields a v place n stands lawful s xs run t held m children own (whole_tick js)
          (spent_along kept.steps none_called js) all.sums no-function
          1 (λ k u e at row. (done k u e at row).1));
      in_time = in-budget fields a v place n stands lawful s xs run t held m children own (whole_tick js)
          (spent_along kept.steps none_called js) all.sums no-function
          1 (λ k u e at row. (done k u e at row).1) (kept.in_budget.ticks js order);
    }
      where
        once : (f b : ℕ) → ValueAt fields a v place n stands lawful s xs run t b →
            stored_along own none_called (whole_tick js) [] (place_in (program_of a) n (value_name b)) ≤ 1
        once f b at =
            let few = all.stored_here at.f at.r at.slot in
            let same = ap (λ g. stored_along own none_called (whole_tick js) [] g) at.is_field in
            bounded (newly_executed local h held m none_called update (Row at.r.row)) _ _ few same
          where
            bounded : (b : Bool) (x y : ℕ) → y ≤ (if b then 1 else 0) → x ≡ y → x ≤ 1
            bounded true x y few same = omega (arith, few, same)
            bounded false x y few same = omega (arith, few, same)

  -- ---- A reset

  module _ (off : IsTrue m.tick.is_off_around) where
    added : Adds local h held m slots children own kept.steps none_called reset
    added = kept.adds none_called reset (off, refl)

    abbrev reset-sum : Sums local h held m slots children own none_called (reset ∷ []) (kept.steps none_called reset)
    reset-sum = one-sum local h held m slots children own kept.steps none_called reset added

    reset-acts : (k : ℕ) (u : ChildUse) → slice_get local.children k ≡ Some u → added.acts k ≡ reset ∷ []
    reset-acts k u at = added.are_acts k u at

    limits : (k : ℕ) (u : ChildUse) (e : ℕ) → slice_get local.children k ≡ Some u → u.header.row ≡ Some e →
        KeepsLimits a v s xs run t e (instance_at children k) (added.acts k) 0
    limits k u e at row =
        let child = row-of-child a v place n stands u (in-at local.children k u at) in
        let rows_same : Some child.0 ≡ Some e = sym child.1 ∙ row in
        let same : child.0 ≡ e = cc rows_same in
        subst (λ acts. KeepsLimits a v s xs run t e (instance_at children k) acts 0) (sym (reset-acts k u at))
        (reset-limits meet a v place n stands lawful s xs run within is_run untouched t below k u at e row
        (subst (λ z. IsChildRow (diagram a).rows n z) same child.2) (instance_at children k)
        (serve k u at) (accounts k u at) off)

    quiet : IsQuiet a v s xs run n own
    quiet = record {
      calls = none-logged (own.log none_called reset) (kept.serves.logged none_called reset (off, refl)) nothing-inside;
      stored = value-stored (reset ∷ []) 0 never;
      stored_inside = all-made _ _ (stored-in fields a v place n stands lawful s xs run t held m children own (reset ∷ [])
          (kept.steps none_called reset) reset-sum no-function 0 limits);
      in_time =
          let few = in-budget fields a v place n stands lawful s xs run t held m children own (reset ∷ [])
          (kept.steps none_called reset) reset-sum no-function 0 limits kept.in_budget.resets in
          omega (arith, few);
    }
      where
        nothing-inside : (f : ℕ) → calls_inside f (own.log none_called reset) ≡ []
        nothing-inside f = by (slot-cases local slots (v.each place n stands).shape.slots_right f)
          where
            by : ((k : ℕ) × (u : ChildUse) × (slice_get slots f ≡ Some (instance k u)))
                ⊎ ((k : ℕ) (u : ChildUse) → slice_get slots f ≡ Some (instance k u) → ⊥) →
                calls_inside f (own.log none_called reset) ≡ []
            by (inl (k, u, at)) =
                let at_child = child-at-slot f k u at in
                let child = row-of-child a v place n stands u (in-at local.children k u at_child) in
                added.log f k u at
                ∙ ap (λ c. log_along (instance_at children k) c (added.acts k)) (no-function k u at_child)
                ∙ ap (log_along (instance_at children k) none_called) (reset-acts k u at_child)
                ∙ append-nil ((instance_at children k).log none_called reset)
                ∙ reset-log meet a v place n stands lawful s xs run within is_run untouched t below k u at_child child.0 child.1 child.2
                (instance_at children k) (serve k u at_child) (accounts k u at_child) off
            by (inr none) = added.no_other_log f none

        never : (f b : ℕ) → ValueAt fields a v place n stands lawful s xs run t b →
            stored_along own none_called (reset ∷ []) [] (place_in (program_of a) n (value_name b)) ≤ 0
        never f b at =
            let few = added.stored_here at.f at.r at.slot in
            let same = ap (λ g. stored_along own none_called (reset ∷ []) [] g) at.is_field in
            omega (arith, few, same)

pub accounts_follow : FieldsAreFound → ChildrenMeetTheirTicks → LocalsAreLawful → AccountsFollow
accounts_follow fields meet lawful_law a v s xs run is_trace is_run place n stands within untouched are_items t below children kept
    serve accounts = record {
      whole = λ parent js order. whole-tick-of fields meet lawful_law a v s xs run is_run place n stands within untouched t below children kept
          serve accounts parent js order;
      resets = λ off. quiet fields meet lawful_law a v s xs run is_run place n stands within untouched t below children kept serve accounts off;
    }
