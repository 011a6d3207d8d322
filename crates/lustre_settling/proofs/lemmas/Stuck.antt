-- A tick is stuck exactly where some name has no value.
use Rattle.std.specs.Prelude.{◌≡◌, ⊤, ℕ, zero, suc, ◌<◌, ◌≤◌, ℤ, true, List, [], ◌∷◌, map, take, length, Option, Some, None, option_map, refl}
use Rattle.std.specs.List.{AllByRecursion, flat_map, list_all}
use Rattle.std.proofs.Common.{sym, ap, subst, ◌∙◌, arith, inl, inr, get_or-take, length-take-le}
use Rattle.std.proofs.lemmas.Bool.{and_parts, and_from, cases_lt}
use Rattle.lustre_syntax.specs.Tree.{ExprTree, EquationTree, set, call, NodeTree, node_at, FileTree, given_by, expressions_of}
use Rattle.lustre_syntax.specs.Lawful.{IsWritable, AreNodes}
use Rattle.lustre_flows.specs.Values.{value_of, value_at, evaluate}
use Rattle.lustre_flows.specs.Instances.{Instance, Instances, instance, no_calls, more_calls, values_in, calls_in, first_call, later_calls, has_value, is_complete, are_complete}
use Rattle.lustre_flows.specs.Ticks.{last_place, settled, Look, look_at, look_inside, looks_of, told_of, failure, failures, waiting}
use Rattle.lustre_flows.specs.FlowLaws.{Stays, below, FollowsWhole, StuckExactly}
use Rattle.lustre_settling.specs.Solutions.{EquationsHold, holding_at, holdings_of}
use Rattle.lustre_settling.proofs.lemmas.Unfolded.{AreCallsFrom, lawful-at, last-below, calls-from, look-unfolded, holding-unfolded}
use Rattle.lustre_settling.proofs.lemmas.Forms.{HasForm, HaveForms, parts-of_form, inputs-fit}
use Rattle.lustre_settling.proofs.lemmas.Given.{other-given}
use Rattle.lustre_settling.proofs.lemmas.Ranked.{below-stays}
use Rattle.lustre_settling.proofs.lemmas.Solutions.{settled_is_least}
use Rattle.lustre_settling.proofs.WholeValues.{none-of-both, both-none, neither-place, place-of-none, values-there, all-there, AreWhole, WereWhole, all-append, value-no-failure, arguments-no-failure, arguments-whole, whole-take, given-there, none-waits, given-has}

-- ---- The instances of the tick before

abbrev WasWhole : List NodeTree → ℕ → Option Instance → Type 0
WasWhole nodes k None = ⊤
WasWhole nodes k (Some i) = HasForm nodes k i × (is_complete i ≡ true)

abbrev CallsWereWhole : List NodeTree → List EquationTree → Option Instances → Type 0
CallsWereWhole nodes es None = ⊤
CallsWereWhole nodes es (Some cs) = HaveForms nodes es cs × (are_complete cs ≡ true)

call-was-whole : (nodes : List NodeTree) (line : ℕ) (given : List ℕ) (callee : ℕ) (arguments : List ExprTree) (es : List EquationTree)
    (cb : Option Instances) → CallsWereWhole nodes (call line given callee arguments ∷ es) cb →
    WasWhole nodes callee (option_map first_call cb) × CallsWereWhole nodes es (option_map later_calls cb)
call-was-whole nodes line given callee arguments es None were = (tt, tt)
call-was-whole nodes line given callee arguments es (Some no_calls) were = absurd were.0
call-was-whole nodes line given callee arguments es (Some (more_calls c cs)) were =
    let parts = and_parts (is_complete c) (are_complete cs) were.1 in
    ((were.0.0, parts.0), (were.0.1, parts.1))

module _ (nodes : List NodeTree) (lawful : AreNodes [] nodes) where
  abbrev failed : ℕ → Look
  failed k = look_at (looks_of failures nodes) k

  abbrev waited : ℕ → Look
  waited k = look_at (looks_of waiting nodes) k

  values-were : (k : ℕ) (before : Option Instance) → k < length nodes → WasWhole nodes k before →
      WereWhole (length (node_at nodes k).names) (option_map values_in before)
      × CallsWereWhole nodes (node_at nodes k).equations (option_map calls_in before)
  values-were k None below was = (tt, tt)
  values-were k (Some (instance vs cs)) below was =
      let parts = parts-of_form nodes lawful k vs cs below was.0 in
      let whole = and_parts (list_all has_value vs) (are_complete cs) was.1 in
      ((parts.0, whole.0), (parts.1, whole.1))

  -- ---- Where all names have values, nothing is reported

  abbrev NothingTold : Option Instance → Instance → ℕ → Type 0
  NothingTold before i k = (failed k before i ≡ []) × (waited k before i ≡ [])

  abbrev NothingInside : Option (List (Option ℤ)) → List (Option ℤ) → Option Instances → Instances → List EquationTree → Type 0
  NothingInside before vs cb cs es =
      ((flat_map (failures before vs) es ≡ []) × (flat_map (waiting before vs) es ≡ []))
      × ((look_inside (looks_of failures nodes) cb cs es ≡ []) × (look_inside (looks_of waiting nodes) cb cs es ≡ []))

  equations-told : (k : ℕ) → ((c : ℕ) → c < k → c < length nodes → (before : Option Instance) (inputs : List (Option ℤ)) (i : Instance) →
      HasForm nodes c i → holding_at (holdings_of nodes) c before inputs i → is_complete i ≡ true → NothingTold before i c) →
      (before : Option (List (Option ℤ))) (vs : List (Option ℤ)) (cb : Option Instances) (cs : Instances) (es : List EquationTree) →
      AreCallsFrom nodes k es → HaveForms nodes es cs → AllByRecursion (λ j. j < length vs) (flat_map given_by es) →
      EquationsHold nodes (holdings_of nodes) before vs cb cs es → list_all has_value vs ≡ true → are_complete cs ≡ true →
      NothingInside before vs cb cs es
  equations-told k each before vs cb cs [] calls form within hold whole inner = ((refl, refl), (refl, refl))
  equations-told k each before vs cb cs (set line given value ∷ es) calls form within hold whole inner =
      let rest = equations-told k each before vs cb cs es calls form within.1 hold.1 whole inner in
      let there = values-there vs given whole within.0 in (
        (
          both-none (failures before vs (set line given value)) _
              (both-none (failure line (evaluate before vs value)) []
              (value-no-failure line (evaluate before vs value) (ap has_value (sym hold.0) ∙ there)) refl) rest.0.0,
          both-none (waiting before vs (set line given value)) _
              (none-waits before vs (set line given value) (and_from (has_value (value_at vs given)) true there refl)) rest.0.1,
        ),
        rest.1,
      )
  equations-told k each before vs cb no_calls (call line given callee arguments ∷ es) calls form within hold whole inner = absurd form
  equations-told k each before vs cb (more_calls c cs) (call line given callee arguments ∷ es) calls form within hold whole inner =
      let values = map (λ e. value_of (evaluate before vs e)) arguments in
      let parts = and_parts (is_complete c) (are_complete cs) inner in
      let names = all-append (λ j. j < length vs) given (flat_map given_by es) within in
      let rest = equations-told k each before vs (option_map later_calls cb) cs es calls.1 form.1 names.1 hold.2 whole parts.1 in
      let first = each callee calls.0.earlier calls.0.there (option_map first_call cb) values c form.0 hold.1 parts.0 in (
        (
          both-none (failures before vs (call line given callee arguments)) _
              (arguments-no-failure before vs line arguments
              (inputs-whole callee calls.0.there (option_map first_call cb) values c hold.1 parts.0)) rest.0.0,
          both-none (waiting before vs (call line given callee arguments)) _
              (none-waits before vs (call line given callee arguments) (given-there vs given whole names.0)) rest.0.1,
        ),
        (
          both-none (failed callee (option_map first_call cb) c) _ first.0 rest.1.0,
          both-none (waited callee (option_map first_call cb) c) _ first.1 rest.1.1,
        ),
      )
    where
      inputs-whole : (c : ℕ) → c < length nodes → (before : Option Instance) (inputs : List (Option ℤ)) (i : Instance) →
          holding_at (holdings_of nodes) c before inputs i → is_complete i ≡ true → list_all has_value inputs ≡ true
      inputs-whole c below before inputs (instance vs cs) hold whole =
          let held : (take (node_at nodes c).inputs vs ≡ inputs) × EquationsHold nodes (holdings_of nodes)
          (option_map values_in before) vs (option_map calls_in before) cs (node_at nodes c).equations =
          subst (λ (t : Type 0). t) (holding-unfolded nodes lawful c below before inputs (instance vs cs)) hold in
          subst (λ xs. list_all has_value xs ≡ true) held.0
          (whole-take (node_at nodes c).inputs vs (and_parts (list_all has_value vs) (are_complete cs) whole).0)

  told-none-within : (bound k : ℕ) → k < bound → k < length nodes → (before : Option Instance) (inputs : List (Option ℤ)) (i : Instance) →
      HasForm nodes k i → holding_at (holdings_of nodes) k before inputs i → is_complete i ≡ true → NothingTold before i k
  told-none-within zero k small below before inputs i form hold whole = absurd (omega arith)
  told-none-within (suc bound) k small below before inputs (instance vs cs) form hold whole =
      let n = node_at nodes k in
      let parts = parts-of_form nodes lawful k vs cs below form in
      let both = and_parts (list_all has_value vs) (are_complete cs) whole in
      let held : (take n.inputs vs ≡ inputs) × EquationsHold nodes (holdings_of nodes) (option_map values_in before) vs
      (option_map calls_in before) cs n.equations =
      subst (λ (t : Type 0). t) (holding-unfolded nodes lawful k below before inputs (instance vs cs)) hold in
      let none : NothingInside (option_map values_in before) vs (option_map calls_in before) cs n.equations =
      equations-told k (λ c earlier. told-none-within bound c (omega arith)) (option_map values_in before) vs
      (option_map calls_in before) cs n.equations (calls-from nodes k lawful below) parts.1
      (subst (λ m. AllByRecursion (λ j. j < m) (flat_map given_by n.equations)) (sym parts.0) (lawful-at nodes k lawful below).within)
      held.1 both.0 both.1 in (
        look-unfolded nodes lawful k below failures before (instance vs cs)
            ∙ both-none (flat_map (failures (option_map values_in before) vs) n.equations) _ none.0.0 none.1.0,
        look-unfolded nodes lawful k below waiting before (instance vs cs)
            ∙ both-none (flat_map (waiting (option_map values_in before) vs) n.equations) _ none.0.1 none.1.1,
      )

  -- ---- Where nothing is reported, all names have values

  equations-whole : (k n : ℕ) → ((c : ℕ) → c < k → c < length nodes → (before : Option Instance) (inputs : List (Option ℤ)) (i : Instance) →
      HasForm nodes c i → WasWhole nodes c before → list_all has_value inputs ≡ true → holding_at (holdings_of nodes) c before inputs i →
      NothingTold before i c → is_complete i ≡ true) →
      (before : Option (List (Option ℤ))) (vs : List (Option ℤ)) (cb : Option Instances) (cs : Instances) (es : List EquationTree) →
      AreCallsFrom nodes k es → HaveForms nodes es cs → AllByRecursion (λ e. AllByRecursion (IsWritable n) (expressions_of e)) es →
      EquationsHold nodes (holdings_of nodes) before vs cb cs es → WereWhole n before → AreWhole n vs → CallsWereWhole nodes es cb →
      flat_map (failures before vs) es ≡ [] → look_inside (looks_of failures nodes) cb cs es ≡ [] →
      look_inside (looks_of waiting nodes) cb cs es ≡ [] → are_complete cs ≡ true
  equations-whole k n each before vs cb no_calls [] calls form writable hold were are inner none fail wait = refl
  equations-whole k n each before vs cb (more_calls c cs) [] calls form writable hold were are inner none fail wait = absurd form
  equations-whole k n each before vs cb cs (set line given value ∷ es) calls form writable hold were are inner none fail wait =
      equations-whole k n each before vs cb cs es calls form writable.1 hold.1 were are inner
      (none-of-both (failures before vs (set line given value)) (flat_map (failures before vs) es) none).1 fail wait
  equations-whole k n each before vs cb no_calls (call line given callee arguments ∷ es) calls form writable
      hold were are inner none fail wait =
      absurd form
  equations-whole k n each before vs cb (more_calls c cs) (call line given callee arguments ∷ es) calls form writable
      hold were are inner none fail wait =
      let values = map (λ e. value_of (evaluate before vs e)) arguments in
      let parts = none-of-both (failures before vs (call line given callee arguments)) (flat_map (failures before vs) es) none in
      let failing = none-of-both (failed callee (option_map first_call cb) c) _ fail in
      let waits_told = none-of-both (waited callee (option_map first_call cb) c) _ wait in
      let inside = call-was-whole nodes line given callee arguments es cb inner in
      and_from (is_complete c) (are_complete cs)
      (each callee calls.0.earlier calls.0.there (option_map first_call cb) values c form.0 inside.0
      (arguments-whole n before vs line arguments were are writable.0 parts.0) hold.1 (failing.0, waits_told.0))
      (equations-whole k n each before vs (option_map later_calls cb) cs es calls.1 form.1 writable.1 hold.2 were are inside.1 parts.1
      failing.1 waits_told.1)

  whole-within : (bound k : ℕ) → k < bound → k < length nodes → (before : Option Instance) (inputs : List (Option ℤ)) (i : Instance) →
      HasForm nodes k i → WasWhole nodes k before → list_all has_value inputs ≡ true → holding_at (holdings_of nodes) k before inputs i →
      NothingTold before i k → is_complete i ≡ true
  whole-within zero k small below before inputs i form was given hold none = absurd (omega arith)
  whole-within (suc bound) k small below before inputs (instance vs cs) form was given hold none =
      let n = node_at nodes k in
      let mine = lawful-at nodes k lawful below in
      let parts = parts-of_form nodes lawful k vs cs below form in
      let fit = inputs-fit nodes lawful k below in
      let held : (take n.inputs vs ≡ inputs) × EquationsHold nodes (holdings_of nodes) (option_map values_in before) vs
      (option_map calls_in before) cs n.equations =
      subst (λ (t : Type 0). t) (holding-unfolded nodes lawful k below before inputs (instance vs cs)) hold in
      let were = values-were k before below was in
      let failing = none-of-both (flat_map (failures (option_map values_in before) vs) n.equations) _
      (sym (look-unfolded nodes lawful k below failures before (instance vs cs)) ∙ none.0) in
      let waits_told = none-of-both (flat_map (waiting (option_map values_in before) vs) n.equations) _
      (sym (look-unfolded nodes lawful k below waiting before (instance vs cs)) ∙ none.1) in
      let whole : list_all has_value vs ≡ true =
      all-there vs (λ j inside. value-there n.inputs inputs vs j held.0 given (omega arith) (λ past.
      given-has (option_map values_in before) vs n.equations j
      (λ never. let one = other-given (take k nodes) n mine j past (omega arith) in omega arith) waits_told.0)) in
      and_from (list_all has_value vs) (are_complete cs) whole
      (equations-whole k (length n.names) (λ c earlier. whole-within bound c (omega arith)) (option_map values_in before) vs
      (option_map calls_in before) cs n.equations (calls-from nodes k lawful below) parts.1 mine.writable held.1 were.0
      (parts.0, whole) were.1 failing.0 failing.1 waits_told.1)
    where
      value-there : (m : ℕ) (inputs vs : List (Option ℤ)) (j : ℕ) → take m vs ≡ inputs → list_all has_value inputs ≡ true → m ≤ length vs →
          (m ≤ j → has_value (value_at vs j) ≡ true) → has_value (value_at vs j) ≡ true
      value-there m inputs vs j taken given fit later = elim (cases_lt j m) [
        | inl input ↦
            let many : length inputs ≡ m = ap length (sym taken) ∙ length-take-le m vs fit in
            ap has_value (sym (get_or-take m vs j None input) ∙ ap (λ xs. value_at xs j) taken) ∙ values-there inputs j given (omega arith)
        | inr past ↦ later past
      ]

-- ---- The last node

row-whole : (row : List ℤ) → list_all has_value (map Some row) ≡ true
row-whole [] = refl
row-whole (v ∷ row) = row-whole row

was-whole : (f : FileTree) (before : Option Instance) → FollowsWhole f before → WasWhole f.nodes (last_place f) before
was-whole f None follows = tt
was-whole f (Some i) follows = (subst (λ j. Stays j i) follows.0 (below-stays (λ path k. 0) 0 i), follows.1)

pub stuck_exactly : StuckExactly
stuck_exactly f before row tick =
    let solution = settled_is_least.solution f before row tick in
    let here = last-below f.nodes tick.lawful.last in (
      λ free. whole-within f.nodes tick.lawful.nodes (suc (last_place f)) (last_place f) (omega arith) here before (map Some row)
          (settled f before row) solution.form (was-whole f before tick.follows) (row-whole row) solution.holds
          (neither-place (told_of failures f before (settled f before row)) (told_of waiting f before (settled f before row)) free),
      λ whole. let none = told-none-within f.nodes tick.lawful.nodes (suc (last_place f)) (last_place f) (omega arith) here before
          (map Some row) (settled f before row) solution.form solution.holds whole in
          place-of-none (told_of failures f before (settled f before row)) (told_of waiting f before (settled f before row)) none.0 none.1,
    )
