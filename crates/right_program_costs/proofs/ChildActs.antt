-- What the acts of a tick come to in a child and in all inside it.
use Rattle.std.specs.Prelude.{◌≡◌, ◌⊎◌, ℕ, suc, ◌<◌, ◌≤◌, ◌^◌, Bool, true, false, ◌||◌, ◌&&◌, if◌then◌else◌, MatchBool, List, [], ◌∷◌, map, length, slice_get, Contains, IsPermutation, IsTrue, Option, Some, ℤ, refl}
use Rattle.std.specs.List.{range_with_len}
use Rattle.std.proofs.Common.{sym, ap, subst, ◌∙◌, arith, inl}
use Rattle.std.proofs.lemmas.Bool.{or_right, and_parts}
use Rattle.std.proofs.lemmas.List.{append-nil}
use Rattle.std.proofs.lemmas.List.Elements.{All-contains}
use Rattle.diagram_meaning.specs.Rows.{row_at, row_numbers, is_inside}
use Rattle.diagram_blocks.specs.Kinds.{is_subsystem}
use Rattle.diagram_meaning.specs.Laws.{Run, IsRunOver}
use Rattle.diagram_meaning.specs.RunLaws.{IsSystemWithin}
use Rattle.modules_profile.specs.declared.ChildUse.{ChildUse}
use Rattle.modules_profile.specs.declared.Node.{Node}
use Rattle.modules_profile.specs.SystemHeader.{SystemHeader}
use Rattle.modules_profile.specs.Headers.{header_functions}
use Rattle.modules_profile.specs.LawfulLocals.{IsLocal, IsChild}
use Rattle.modules_profile.specs.Systems.{systems_inside}
use Rattle.modules_profile.proofs.lemmas.Members.{in-at, of-filter, of-range}
use Rattle.right_relation.specs.LocalTicks.{LocalTick, is_active, is_off}
use Rattle.right_relation.specs.Instances.{Act, update, reset, none_called, InstanceTick, calls_at}
use Rattle.right_relation.specs.Accounts.{log_along, most_along, AreCallsAndUpdate, newly_called, AreActs}
use Rattle.right_relation.specs.Serving.{Serves}
use Rattle.right_relation.specs.RunTicks.{Untouched, tick_at}
use Rattle.right_relation.specs.RunTickLaws.{ChildrenMeetTheirTicks}
use Rattle.right_claim.specs.Calls.{IsWholeTick, HasCallsOf}
use Rattle.right_claim.specs.Paths.{path_inside}
use Rattle.right_linking.specs.Parts.{Parts, program_of, diagram, all_systems, coded_header, Views}
use Rattle.right_linking.specs.Offers.{offer_of}
use Rattle.right_linking.specs.Starts.{budget_inside}
use Rattle.right_linking.specs.Lives.{whole_tick, function_numbers, outer_at, is_around_active, StoredAtMost, IsWhole, IsQuiet, HasAccounts}
use Rattle.right_linking.proofs.lemmas.AssembledPlaces.{member, all-made}
use Rattle.right_linking.proofs.lemmas.ChildRows.{rows, nested, child-behind}
use Rattle.right_linking.proofs.lemmas.SystemsUnder.{IsChildRow, inside-under}
use Rattle.right_program_costs.proofs.ProgramNames.{row-is}
use Rattle.right_program_costs.proofs.OutPlaces.{count-is}
use Rattle.right_program_costs.proofs.OwnCalls.{whole-tick}
use Rattle.right_program_costs.proofs.RestingSystems.{under-rests}
use Rattle.right_program_costs.proofs.ChildTicks.{parent-is, off-is}

module _ (a : Parts) (v : Views a) (s : Option ℕ) (xs : List (List ℤ)) (run : Run) (t : ℕ) where
  -- the calls of these acts inside the instance of subsystem e
  pub record CallsRight (e : ℕ) (i : InstanceTick) (acts : List Act) : Type 0 where
    pub own : HasCallsOf (program_of a) (Some e) (is_around_active a v s xs run t e) (calls_at [] (log_along i none_called acts))
    pub inside : (x : ℕ) → Contains (systems_inside (diagram a).rows (Some e)) x →
        HasCallsOf (program_of a) (Some x) (is_around_active a v s xs run t x)
        (calls_at (path_inside (program_of a) (diagram a).rows (Some e) x) (log_along i none_called acts))
    pub no_other : (path : List ℕ) → (calls_at path (log_along i none_called acts) ≡ [])
        ⊎ Contains ([] ∷ map (path_inside (program_of a) (diagram a).rows (Some e)) (systems_inside (diagram a).rows (Some e))) path

  -- their stores there, and their steps
  pub record KeepsLimits (e : ℕ) (i : InstanceTick) (acts : List Act) (most : ℕ) : Type 0 where
    pub here : StoredAtMost a v s xs run i acts [] (Some e) most
    pub inside : (x : ℕ) → Contains (systems_inside (diagram a).rows (Some e)) x →
        StoredAtMost a v s xs run i acts (path_inside (program_of a) (diagram a).rows (Some e) x) (Some x) most
    pub in_time : most_along i none_called acts ≤ budget_inside a v (Some e)

  module _ (e : ℕ) (i : InstanceTick) where
    pub quiet-limits : IsQuiet a v s xs run (Some e) i → KeepsLimits e i (reset ∷ []) 0
    quiet-limits quiet = record {
      here = quiet.stored;
      inside = λ x has. member (λ y. StoredAtMost a v s xs run i (reset ∷ []) (path_inside (program_of a) (diagram a).rows (Some e) y)
          (Some y) 0)
          (systems_inside (diagram a).rows (Some e)) x quiet.stored_inside has;
      in_time = let few = quiet.in_time in omega (arith, few);
    }

    no-limits : KeepsLimits e i [] 0
    no-limits = record {
      here = all-made _ _ (λ b has. omega arith);
      inside = λ x has. all-made _ _ (λ b at. omega arith);
      in_time = omega arith;
    }

    loosened : (acts : List Act) → KeepsLimits e i acts 0 → KeepsLimits e i acts 1
    loosened acts limits = record {
      here = looser [] (Some e) limits.here;
      inside = λ x has. looser (path_inside (program_of a) (diagram a).rows (Some e) x) (Some x) (limits.inside x has);
      in_time = limits.in_time;
    }
      where
        looser : (path : List ℕ) (o : Option ℕ) → StoredAtMost a v s xs run i acts path o 0 → StoredAtMost a v s xs run i acts path o 1
        looser path o few = all-made _ _ (λ b has. let none = member _ _ b few has in omega (arith, none))

    -- where nothing is logged, and nothing is active
    no-calls : (acts : List Act) → log_along i none_called acts ≡ [] → is_around_active a v s xs run t e ≡ false →
        ((x : ℕ) → Contains (systems_inside (diagram a).rows (Some e)) x → is_around_active a v s xs run t x ≡ false) → CallsRight e i acts
    no-calls acts none rests inside = record {
      own = quiet [] (Some e) (is_around_active a v s xs run t e) rests;
      inside = λ x has. quiet (path_inside (program_of a) (diagram a).rows (Some e) x) (Some x) (is_around_active a v s xs run t x)
          (inside x has);
      no_other = λ path. inl (ap (calls_at path) none);
    }
      where
        quiet : (path : List ℕ) (o : Option ℕ) (active : Bool) → active ≡ false →
            HasCallsOf (program_of a) o active (calls_at path (log_along i none_called acts))
        quiet path o active is = subst (λ b. HasCallsOf (program_of a) o b (calls_at path (log_along i none_called acts))) (sym is)
            (ap (calls_at path) none)

    whole-limits : (js : List ℕ) → IsWhole a v s xs run (Some e) i t js → KeepsLimits e i (whole_tick js) 1
    whole-limits js whole = record {
      here = whole.stored;
      inside = λ x has. member (λ y. StoredAtMost a v s xs run i (whole_tick js) (path_inside (program_of a) (diagram a).rows (Some e) y)
          (Some y) 1)
          (systems_inside (diagram a).rows (Some e)) x whole.stored_inside has;
      in_time = whole.in_time;
    }

    whole-calls : (js : List ℕ) → IsWhole a v s xs run (Some e) i t js → is_around_active a v s xs run t e ≡ true →
        IsWholeTick (program_of a) (Some e) (calls_at [] (log_along i none_called (whole_tick js))) → CallsRight e i (whole_tick js)
    whole-calls js whole active own = record {
      own = subst (λ b. HasCallsOf (program_of a) (Some e) b (calls_at [] (log_along i none_called (whole_tick js)))) (sym active) own;
      inside = λ x has. member
          (λ y. HasCallsOf (program_of a) (Some y) (is_around_active a v s xs run t y)
          (calls_at (path_inside (program_of a) (diagram a).rows (Some e) y) (log_along i none_called (whole_tick js))))
          (systems_inside (diagram a).rows (Some e)) x whole.calls has;
      no_other = whole.no_other;
    }

module _ (meet : ChildrenMeetTheirTicks) (a : Parts) (v : Views a) (place : ℕ) (n : Option ℕ)
    (stands : slice_get (all_systems a) place ≡ Some n)
    (lawful : IsLocal (v.at n).local) (s : Option ℕ) (xs : List (List ℤ)) (run : Run)
    (within : IsSystemWithin (rows a v place n stands) s n) (is_run : IsRunOver (diagram a) s xs run)
    (untouched : Untouched) (t : ℕ) (below : t < length xs) (k : ℕ) (u : ChildUse) (at : slice_get (v.at n).local.children k ≡ Some u) (e : ℕ)
    (row : u.header.row ≡ Some e)
    (child : IsChildRow (diagram a).rows n e) (i : InstanceTick)
    (serves : Serves (coded_header (v.at u.header.row)) (offer_of a v u.header.row) a.hyper (outer_at a v s xs run u.header.row t) i)
    (accounts : HasAccounts a v s xs run u.header.row t i) where
  abbrev m : LocalTick
  m = tick_at (diagram a) s xs run n untouched t

  has-child : Contains (v.at n).local.children u
  has-child = in-at (v.at n).local.children k u at

  header-is : u.header ≡ coded_header (v.at (Some e))
  header-is = (child-behind a v place n stands u has-child).header ∙ ap (λ o. coded_header (v.at o)) row

  serves-row : Serves (coded_header (v.at (Some e))) (offer_of a v (Some e)) a.hyper (outer_at a v s xs run (Some e) t) i
  serves-row = subst (λ o. Serves (coded_header (v.at o)) (offer_of a v o) a.hyper (outer_at a v s xs run o t) i) row serves

  accounts-row : HasAccounts a v s xs run (Some e) t i
  accounts-row = subst (λ o. HasAccounts a v s xs run o t i) row accounts

  child-active : is_around_active a v s xs run t e ≡ is_active (v.at n).local m
  child-active = parent-is a v place n stands meet s xs run within is_run untouched t below u has-child e row

  few-functions : suc (length (header_functions (coded_header (v.at (Some e))))) < 2 ^ 64
  few-functions =
      let few = (All-contains IsChild (v.at n).local.children u lawful.are_children has-child).functions in
      let same = ap (λ (h : SystemHeader). length (header_functions h)) header-is in
      omega (arith, few, same)

  -- what is inside rests where the child's parent does
  inside-rests : is_active (v.at n).local m ≡ false → (x : ℕ) → Contains (systems_inside (diagram a).rows (Some e)) x →
      is_around_active a v s xs run t x ≡ false
  inside-rests rests x has =
      let kept = of-filter (λ y. is_subsystem (row_at (diagram a).rows y).kind && is_inside (diagram a).rows (Some e) y)
      (row_numbers (diagram a).rows) x has in
      let high = (of-range 0 (length (diagram a).rows) x kept.0).1 in
      let in_table : x < length (diagram a).rows = omega arith in
      let inside = (and_parts (is_subsystem (row_at (diagram a).rows x).kind) (is_inside (diagram a).rows (Some e) x) kept.1).1 in
      let under = inside-under (diagram a).rows (nested a v place n stands) e (suc x) x (omega arith) in_table inside in
      under-rests (diagram a) (nested a v place n stands) s n within e child _ _ _ under.0 x in_table under.1 (child-active ∙ rests)

  pub reset-limits : IsTrue m.tick.is_off_around → KeepsLimits a v s xs run t e i (reset ∷ []) 0
  reset-limits off = quiet-limits a v s xs run t e i
      (accounts-row.resets (off-is a v place n stands meet s xs run within is_run untouched t below u has-child e row
      ∙ ap (λ b. b || is_off (v.at n).local m) off))

  pub reset-log : IsTrue m.tick.is_off_around → i.log none_called reset ≡ []
  reset-log off = (accounts-row.resets
      (off-is a v place n stands meet s xs run within is_run untouched t below u has-child e row
      ∙ ap (λ b. b || is_off (v.at n).local m) off)).calls

  module _ (held : ℕ → Node → Bool) (acts : List Act) where
    abbrev h : SystemHeader
    h = coded_header (v.at n)

    working : (js : List ℕ) → is_active (v.at n).local m ≡ true → IsPermutation (range_with_len 1 (length (header_functions u.header))) js →
        CallsRight a v s xs run t e i (whole_tick js) × KeepsLimits a v s xs run t e i (whole_tick js) 1
    working js active order =
        let own_order : IsPermutation (function_numbers a v (Some e)) js = subst
        (λ (g : SystemHeader). IsPermutation (range_with_len 1 (length (header_functions g))) js) header-is order in
        let behind = child-behind a v place n stands u has-child in
        let stands_row : slice_get (all_systems a) behind.inner_place ≡ Some (Some e) = behind.stands ∙ ap Some row in
        let whole = accounts-row.whole (child-active ∙ active) js own_order in
        let own = whole-tick (program_of a) (coded_header (v.at (Some e))) a.hyper (outer_at a v s xs run (Some e) t) i serves-row
        (child-active ∙ active) (Some e)
        (row-is a v behind.inner_place (Some e) stands_row) (count-is a v behind.inner_place (Some e) stands_row few-functions) js
        own_order in
        (whole-calls a v s xs run t e i js whole (child-active ∙ active) own, whole-limits a v s xs run t e i js whole)

    resting : (off : Bool) → is_active (v.at n).local m ≡ false → is_off (v.at n).local m ≡ off → acts ≡ (if off then reset ∷ [] else []) →
        CallsRight a v s xs run t e i acts × KeepsLimits a v s xs run t e i acts 1
    resting true rests off is =
        let quiet = accounts-row.resets
        (off-is a v place n stands meet s xs run within is_run untouched t below u has-child e row
        ∙ ap (λ b. m.tick.is_off_around || b) off ∙ or_right m.tick.is_off_around true refl) in
        subst (λ row. CallsRight a v s xs run t e i row × KeepsLimits a v s xs run t e i row 1) (sym is) (
          no-calls a v s xs run t e i (reset ∷ []) (append-nil (i.log none_called reset) ∙ quiet.calls) (child-active ∙ rests)
              (inside-rests rests),
          loosened a v s xs run t e i (reset ∷ []) (quiet-limits a v s xs run t e i quiet),
        )
    resting false rests off is =
        subst (λ row. CallsRight a v s xs run t e i row × KeepsLimits a v s xs run t e i row 1) (sym is) (
          no-calls a v s xs run t e i [] refl (child-active ∙ rests) (inside-rests rests),
          loosened a v s xs run t e i []
              (no-limits a v s xs run t e i),
        )

    pub acts-right : newly_called (v.at n).local h held m none_called update u ≡ range_with_len 1 (length (header_functions u.header)) →
        AreActs (v.at n).local h held m none_called update u acts →
        CallsRight a v s xs run t e i acts × KeepsLimits a v s xs run t e i acts 1
    acts-right left are = by (is_active (v.at n).local m) refl are
      where
        by : (b : Bool) → is_active (v.at n).local m ≡ b →
            MatchBool b (AreCallsAndUpdate (newly_called (v.at n).local h held m none_called update u) acts)
            (acts ≡ (if is_off (v.at n).local m then reset ∷ [] else [])) →
            CallsRight a v s xs run t e i acts × KeepsLimits a v s xs run t e i acts 1
        by true active (js, order, is) =
            subst (λ row. CallsRight a v s xs run t e i row × KeepsLimits a v s xs run t e i row 1) (sym is)
            (working js active (subst (λ l. IsPermutation l js) left order))
        by false rests is = resting (is_off (v.at n).local m) rests refl is
