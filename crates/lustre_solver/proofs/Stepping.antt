-- What one step of a search does.
use Rattle.std.proofs.Common.{◌≡◌, refl, sym, ◌∙◌, ap, subst, ℕ, ◌+◌, ◌-◌, ◌<◌, ℤ, Bool, true, false, not, List, length, arith, Option, Some, None, get_or}
use Rattle.std.specs.List.{slice_set}
use Rattle.std.proofs.lemmas.Grind.{get_or_default_zero}
use Rattle.lustre_flows.specs.declared.stuck.LusWhy.{LusWhy}
use Rattle.lustre_flows.specs.Values.{gives, fails, value_of, value_at}
use Rattle.lustre_flows.specs.FlowLaws.{ValuesStay}
use Rattle.lustre_settling.proofs.lemmas.Monotone.{OutcomeStays}
use Rattle.lustre_evaluation.specs.declared.frames.Frame.{Frame}
use Rattle.lustre_evaluation.specs.declared.outcome.Unmet.TheVariants.{Waits}
use Rattle.lustre_evaluation.specs.Results.{WaitsAlways, IsWaiting as IsUnmet}
use Rattle.lustre_solver.specs.Searching.{comes, Searching, was_tried, waits_at, WaitsOn, IsSearch, GoesOn, work}
use Rattle.lustre_solver.proofs.Staying.{comes-stay}
use Rattle.lustre_solver.proofs.Steps.{entered, enter-room, enter-search, enter-on, enter-nearer, given, give-search, give-on, give-nearer, stopped, stop-search, stop-on, stop-nearer}

-- a search goes on
pub record IsStep (frame : Frame) (s after : Searching) : Type 0 where
  pub search : IsSearch frame after
  pub on : GoesOn frame s after
  pub nearer : work after < work s

pub new-untried : (t : Bool) → not t ≡ true → t ≡ false
new-untried true is = absurd (cc)
new-untried false is = refl

old-tried : (t : Bool) → not t ≡ false → t ≡ true
old-tried true is = refl
old-tried false is = absurd (cc)

module _ (frame : Frame) (s : Searching) (search : IsSearch frame s) (some : 0 < s.depth) (slot : ℕ)
    (last : slot ≡ get_or s.waiting (s.depth - 1) slot) where
  abbrev d : ℕ
  d = s.depth - 1

  deep : s.depth ≡ d + 1
  deep = omega arith

  at-top : slot ≡ waits_at s d
  at-top =
      let room = search.room in
      let size = search.size_waiting in
      last ∙ get_or_default_zero s.waiting d slot (omega arith)

  pub give_step : (v : ℤ) (now : List (Option ℤ)) (after : Searching) → now ≡ s.now → gives v ≡ comes frame now slot →
      after ≡ record { now = slice_set s.now slot (Some v); tried = s.tried; waiting = s.waiting; depth = s.depth - 1 } →
      IsStep frame s after
  give_step v now after same comes-to is =
      let known : comes frame s.now (waits_at s d) ≡ gives v =
      ap (comes frame s.now) (sym at-top) ∙ ap (λ vs. comes frame vs slot) (sym same) ∙ sym comes-to in
      let now-is : given s d v ≡ after =
      ap (λ k. record { now = slice_set s.now k (Some v); tried = s.tried; waiting = s.waiting; depth = d }) (sym at-top) ∙ sym is in
      subst (IsStep frame s) now-is (record {
        search = give-search frame s search d deep v known;
        on = give-on frame s search d deep v known;
        nearer = give-nearer frame s search d deep v known;
      })

  -- the slot that waits last waits for this one
  waits-on : (other : ℕ) (now : List (Option ℤ)) → now ≡ s.now → IsUnmet (λ later. comes frame later slot) now (Waits other) →
      WaitsOn frame s.now (waits_at s d) other
  waits-on other now same unmet =
      subst (λ k. WaitsOn frame s.now k other) at-top
      (λ later stay none. ap value_of (unmet.2 later (subst (λ vs. ValuesStay vs later) (sym same) stay) none))

  none-there : (other : ℕ) (now : List (Option ℤ)) → now ≡ s.now → IsUnmet (λ later. comes frame later slot) now (Waits other) →
      value_at s.now other ≡ None
  none-there other now same unmet = ap (λ vs. value_at vs other) (sym same) ∙ unmet.1

  next-waits : (other : ℕ) (now : List (Option ℤ)) → now ≡ s.now → IsUnmet (λ later. comes frame later slot) now (Waits other) →
      (i : ℕ) → i + 1 ≡ s.depth → WaitsOn frame s.now (waits_at s i) other
  next-waits other now same unmet i is =
      let at : d ≡ i = omega arith in
      subst (λ j. WaitsOn frame s.now (waits_at s j) other) at (waits-on other now same unmet)

  pub step_room : (other : ℕ) (now : List (Option ℤ)) (new : Bool) → now ≡ s.now → IsUnmet (λ later. comes frame later slot) now (Waits other) →
      new ≡ not (was_tried s.tried other) → new ≡ true → s.depth < length s.waiting
  step_room other now new same unmet is fresh =
      enter-room frame s search other (new-untried (was_tried s.tried other) (sym is ∙ fresh)) (next-waits other now same unmet)

  pub enter_step : (other : ℕ) (now : List (Option ℤ)) (new : Bool) (after : Searching) → now ≡ s.now →
      IsUnmet (λ later. comes frame later slot) now (Waits other) → new ≡ not (was_tried s.tried other) → new ≡ true →
      after ≡ entered s other → IsStep frame s after
  enter_step other now new after same unmet is fresh then-is =
      let untried = new-untried (was_tried s.tried other) (sym is ∙ fresh) in
      let next = next-waits other now same unmet in
      subst (IsStep frame s) (sym then-is) (record {
        search = enter-search frame s search other untried next;
        on = enter-on frame s search other untried next;
        nearer = enter-nearer frame s search other untried next;
      })

  stop-step : (other : ℕ) → WaitsOn frame s.now (waits_at s d) other → was_tried s.tried other ≡ true → value_at s.now other ≡ None →
      IsStep frame s (stopped s)
  stop-step other waiting was none = record {
    search = stop-search frame s search d deep other waiting was none;
    on = stop-on frame s search d deep other waiting was none;
    nearer = stop-nearer frame s search d deep other waiting was none;
  }

  pub wait_step : (other : ℕ) (now : List (Option ℤ)) (new : Bool) → now ≡ s.now → IsUnmet (λ later. comes frame later slot) now (Waits other) →
      new ≡ not (was_tried s.tried other) → new ≡ false → IsStep frame s (stopped s)
  wait_step other now new same unmet is no-new =
      stop-step other (waits-on other now same unmet) (old-tried (was_tried s.tried other) (sym is ∙ no-new)) (none-there other now same unmet)

  dead-step : WaitsOn frame s.now (waits_at s d) (waits_at s d) → IsStep frame s (stopped s)
  dead-step waiting =
      stop-step (waits_at s d) waiting (search.waiting_tried d (omega arith)) (search.waiting_none d (omega arith))

  pub never_step : (now : List (Option ℤ)) → now ≡ s.now → WaitsAlways (λ later. comes frame later slot) now → IsStep frame s (stopped s)
  never_step now same waiting =
      dead-step (subst (λ k. WaitsOn frame s.now k k) at-top
      (λ later stay none. ap value_of (waiting later (subst (λ vs. ValuesStay vs later) (sym same) stay))))

  pub fail_step : (why : LusWhy) (now : List (Option ℤ)) → now ≡ s.now → fails why ≡ comes frame now slot → IsStep frame s (stopped s)
  fail_step why now same comes-to =
      dead-step (subst (λ k. WaitsOn frame s.now k k) at-top
      (λ later stay none.
      let known : comes frame s.now slot ≡ fails why = ap (λ vs. comes frame vs slot) (sym same) ∙ sym comes-to in
      ap value_of (subst (λ o. OutcomeStays o (comes frame later slot)) known (comes-stay frame s.now later slot stay))))
