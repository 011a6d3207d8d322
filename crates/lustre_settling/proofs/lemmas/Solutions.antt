-- The equations of a node hold of an instance exactly where its pass changes nothing.
use Rattle.std.specs.Prelude.{◌≡◌, ℕ, zero, suc, ◌+◌, ◌-◌, ◌<◌, ◌≤◌, ℤ, List, [], ◌∷◌, ◌++◌, map, take, drop, length, slice_set, Option, Some, None, option_map, refl}
use Rattle.std.specs.List.{flat_map}
use Rattle.std.proofs.Common.{sym, ap, ap₂, subst, ◌∙◌, arith, inl, inr, length-take, length-drop, take-append-drop, take_at, get_or-set_same, get_or-drop, ext_get_or}
use Rattle.std.proofs.lemmas.List.{length-map, set-get_or, get_or-append_right, length-take-le}
use Rattle.std.proofs.lemmas.Bool.{cases_lt, cases_eq}
use Rattle.lustre_syntax.specs.Tree.{EquationTree, set, call, NodeTree, node_at, given_by}
use Rattle.lustre_syntax.specs.Lawful.{AreNodes}
use Rattle.lustre_flows.specs.Values.{value_at, value_of, evaluate}
use Rattle.lustre_flows.specs.Instances.{Instance, Instances, instance, no_calls, more_calls, values_in, calls_in, first_call, later_calls, with_items, with_call, outputs_of, Pass, pass_at, pass_equations, passes_of}
use Rattle.lustre_flows.specs.Ticks.{last_place, settled}
use Rattle.lustre_settling.specs.Solutions.{EquationsHold, Holding, holding_at, holdings_of, SettledIsLeast, SettledIsOnly, SolutionsAreKept}
use Rattle.lustre_settling.proofs.lemmas.Order.{stays-both}
use Rattle.lustre_settling.proofs.lemmas.Unfolded.{AreCallsFrom, lawful-at, last-below, calls-from, pass-unfolded, holding-unfolded}
use Rattle.lustre_settling.proofs.lemmas.Forms.{HasForm, HaveForms, parts-of_form, inputs-fit, length-items, length-given}
use Rattle.lustre_settling.proofs.lemmas.Given.{times, times-append, AreOnce, once-first, once-append, given-once, input-not-given, items-not-given, items-given, equations-not-given}
use Rattle.lustre_settling.proofs.lemmas.Settled.{settled-form, settled-kept, least-above}

-- ---- Where the equations hold, nothing changes

items-same : (vs : List (Option ℤ)) (ks : List ℕ) → with_items vs ks (map (value_at vs) ks) ≡ vs
items-same vs [] = refl
items-same vs (k ∷ ks) =
    ap (λ ws. with_items ws ks (map (value_at vs) ks)) (set-get_or vs k None) ∙ items-same vs ks

module _ (nodes : List NodeTree) (lawful : AreNodes [] nodes) where
  abbrev passes : List Pass
  passes = passes_of nodes

  abbrev holds : ℕ → Holding
  holds k = holding_at (holdings_of nodes) k

  holding-equations-kept : (k : ℕ) → ((c : ℕ) → c < k → c < length nodes → (before : Option Instance) (inputs : List (Option ℤ))
      (i : Instance) → HasForm nodes c i → holds c before inputs i → pass_at passes c before inputs i ≡ i) →
      (before : Option (List (Option ℤ))) (cb : Option Instances) (vs : List (Option ℤ)) (cs : Instances) (es : List EquationTree) →
      AreCallsFrom nodes k es → HaveForms nodes es cs → EquationsHold nodes (holdings_of nodes) before vs cb cs es →
      pass_equations nodes passes before cb vs cs es ≡ instance vs cs
  holding-equations-kept k each before cb vs no_calls [] calls form hold = refl
  holding-equations-kept k each before cb vs (more_calls c cs) [] calls form hold = absurd form
  holding-equations-kept k each before cb vs cs (set line given value ∷ es) calls form hold =
      ap (λ ws. pass_equations nodes passes before cb ws cs es)
      (ap (slice_set vs given) (sym hold.0) ∙ set-get_or vs given None)
      ∙ holding-equations-kept k each before cb vs cs es calls form hold.1
  holding-equations-kept k each before cb vs no_calls (call line given callee arguments ∷ es) calls form hold = absurd form
  holding-equations-kept k each before cb vs (more_calls c cs) (call line given callee arguments ∷ es) calls form hold =
      let values = map (λ e. value_of (evaluate before vs e)) arguments in
      let first : pass_at passes callee (option_map first_call cb) values c ≡ c =
      each callee calls.0.earlier calls.0.there (option_map first_call cb) values c form.0 hold.1 in
      let outputs : (i : Instance) → List (Option ℤ) = λ i. outputs_of (node_at nodes callee) i in
      ap₂ with_call first
      (ap (λ i. pass_equations nodes passes before (option_map later_calls cb) (with_items vs given (outputs i)) cs es) first
      ∙ ap (λ ws. pass_equations nodes passes before (option_map later_calls cb) ws cs es)
      (ap (with_items vs given) (sym hold.0) ∙ items-same vs given)
      ∙ holding-equations-kept k each before (option_map later_calls cb) vs cs es calls.1 form.1 hold.2)

  holds-kept-within : (bound k : ℕ) → k < bound → k < length nodes → (before : Option Instance) (inputs : List (Option ℤ))
      (i : Instance) → HasForm nodes k i → holds k before inputs i → pass_at passes k before inputs i ≡ i
  holds-kept-within zero k small below before inputs i form hold = absurd (omega arith)
  holds-kept-within (suc bound) k small below before inputs (instance vs cs) form hold =
      let n = node_at nodes k in
      let parts = parts-of_form nodes lawful k vs cs below form in
      let fit = inputs-fit nodes lawful k below in
      let held : (take n.inputs vs ≡ inputs)
      × EquationsHold nodes (holdings_of nodes) (option_map values_in before) vs (option_map calls_in before) cs n.equations =
      subst (λ (t : Type 0). t) (holding-unfolded nodes lawful k below before inputs (instance vs cs)) hold in
      let many : length inputs ≡ n.inputs = ap length (sym held.0) ∙ length-take-le n.inputs vs (omega arith) in
      let same : inputs ++ drop (length inputs) vs ≡ vs =
      ap (λ m. inputs ++ drop m vs) many ∙ ap (λ xs. xs ++ drop n.inputs vs) (sym held.0) ∙ take-append-drop n.inputs vs in
      pass-unfolded nodes lawful k below before inputs (instance vs cs)
      ∙ ap (λ ws. pass_equations nodes passes (option_map values_in before) (option_map calls_in before) ws cs n.equations) same
      ∙ holding-equations-kept k (λ c earlier. holds-kept-within bound c (omega arith)) (option_map values_in before)
      (option_map calls_in before) vs cs n.equations (calls-from nodes k lawful below) parts.1 held.1

  pub holds-kept : (k : ℕ) → k < length nodes → (before : Option Instance) (inputs : List (Option ℤ)) (i : Instance) →
      HasForm nodes k i → holds k before inputs i → pass_at passes k before inputs i ≡ i
  holds-kept k = holds-kept-within (suc k) k (omega arith)

  -- ---- Where nothing changes, the equations hold

  pub outputs-length : (k : ℕ) (i : Instance) → k < length nodes → HasForm nodes k i →
      length (outputs_of (node_at nodes k) i) ≡ (node_at nodes k).outputs
  outputs-length k (instance vs cs) below form =
      let n = node_at nodes k in
      let names = (parts-of_form nodes lawful k vs cs below form).0 in
      let ports = (lawful-at nodes k lawful below).ports in
      let cut = length-take n.outputs (drop n.inputs vs) in
      let rest = length-drop n.inputs vs in
      omega arith

  parts-of_call : (c d i : Instance) (vs : List (Option ℤ)) (cs : Instances) → with_call c i ≡ instance vs (more_calls d cs) →
      (c ≡ d) × (i ≡ instance vs cs)
  parts-of_call c d (instance ws ds) vs cs same =
      (ap (λ j. first_call (calls_in j)) same, ap (λ j. instance (values_in j) (later_calls (calls_in j))) same)

  kept-equations-hold : (k : ℕ) → ((c : ℕ) → c < k → c < length nodes → (before : Option Instance) (inputs : List (Option ℤ))
      (i : Instance) → length inputs ≡ (node_at nodes c).inputs → HasForm nodes c i → pass_at passes c before inputs i ≡ i →
      holds c before inputs i) →
      (before : Option (List (Option ℤ))) (cb : Option Instances) (vs : List (Option ℤ)) (cs : Instances) (es : List EquationTree) →
      AreCallsFrom nodes k es → HaveForms nodes es cs → AreOnce (length vs) (flat_map given_by es) →
      pass_equations nodes passes before cb vs cs es ≡ instance vs cs → EquationsHold nodes (holdings_of nodes) before vs cb cs es
  kept-equations-hold k each before cb vs cs [] calls form once kept = tt
  kept-equations-hold k each before cb vs cs (set line given value ∷ es) calls form once kept =
      let x = value_of (evaluate before vs value) in
      let first = once-first (length vs) given (flat_map given_by es) once in
      let here : value_at vs given ≡ x =
      ap (λ i. value_at (values_in i) given) (sym kept)
      ∙ equations-not-given nodes passes before cb (slice_set vs given x) cs es given first.1
      ∙ get_or-set_same vs given x None first.0 in
      let same : slice_set vs given x ≡ vs = ap (slice_set vs given) (sym here) ∙ set-get_or vs given None in (
        here,
        kept-equations-hold k each before cb vs cs es calls form first.2
            (ap (λ ws. pass_equations nodes passes before cb ws cs es) (sym same) ∙ kept),
      )
  kept-equations-hold k each before cb vs no_calls (call line given callee arguments ∷ es) calls form once kept = absurd form
  kept-equations-hold k each before cb vs (more_calls c cs) (call line given callee arguments ∷ es) calls form once kept =
      let values = map (λ e. value_of (evaluate before vs e)) arguments in
      let i = pass_at passes callee (option_map first_call cb) values c in
      let os = outputs_of (node_at nodes callee) i in
      let r = pass_equations nodes passes before (option_map later_calls cb) (with_items vs given os) cs es in
      let parts : (i ≡ c) × (r ≡ instance vs cs) = parts-of_call i c r vs cs kept in
      let onces = once-append (length vs) given (flat_map given_by es) once in
      let same : with_items vs given os ≡ vs =
      ext_get_or None (with_items vs given os) vs (length-items vs given os)
      (λ j below. items-kept vs given os (flat_map given_by es) j (once j).0
      (λ none. ap (λ l. value_at (values_in l) j) (sym parts.1)
      ∙ equations-not-given nodes passes before (option_map later_calls cb) (with_items vs given os) cs es j none)) in
      let many : length os ≡ length given =
      ap (λ l. length (outputs_of (node_at nodes callee) l)) parts.0 ∙ outputs-length callee c calls.0.there form.0
      ∙ sym calls.0.outputs in (
        ap (λ ws. map (value_at ws) given) (sym same) ∙ items-given vs given os onces.0 many
            ∙ ap (λ l. outputs_of (node_at nodes callee) l) parts.0,
        each callee calls.0.earlier calls.0.there (option_map first_call cb) values c
            (length-map arguments (λ e. value_of (evaluate before vs e)) ∙ calls.0.inputs) form.0 parts.0,
        kept-equations-hold k each before (option_map later_calls cb) vs cs es calls.1 form.1 onces.1
            (ap (λ ws. pass_equations nodes passes before (option_map later_calls cb) ws cs es) (sym same) ∙ parts.1),
      )
    where
      items-kept : (vs : List (Option ℤ)) (given : List ℕ) (os : List (Option ℤ)) (later : List ℕ) (j : ℕ) →
          times j (given ++ later) ≤ 1 → (times j later ≡ 0 → value_at vs j ≡ value_at (with_items vs given os) j) →
          value_at (with_items vs given os) j ≡ value_at vs j
      items-kept vs given os later j most kept =
          let both = times-append j given later in
          elim (cases_eq (times j given) 0) [
            | inl none ↦ items-not-given vs given os j none
            | inr some ↦ sym (kept (omega arith))
          ]

  kept-holds-within : (bound k : ℕ) → k < bound → k < length nodes → (before : Option Instance) (inputs : List (Option ℤ))
      (i : Instance) → length inputs ≡ (node_at nodes k).inputs → HasForm nodes k i → pass_at passes k before inputs i ≡ i →
      holds k before inputs i
  kept-holds-within zero k small below before inputs i many form kept = absurd (omega arith)
  kept-holds-within (suc bound) k small below before inputs (instance vs cs) many form kept =
      let n = node_at nodes k in
      let mine = lawful-at nodes k lawful below in
      let parts = parts-of_form nodes lawful k vs cs below form in
      let fit = inputs-fit nodes lawful k below in
      let begun = inputs ++ drop (length inputs) vs in
      let run : pass_equations nodes passes (option_map values_in before) (option_map calls_in before) begun cs n.equations
      ≡ instance vs cs = sym (pass-unfolded nodes lawful k below before inputs (instance vs cs)) ∙ kept in
      let same : begun ≡ vs =
      ext_get_or None begun vs (length-given inputs vs (omega arith))
      (λ j inside. inputs-kept inputs vs j
      (λ input. ap (λ l. value_at (values_in l) j) (sym run)
      ∙ equations-not-given nodes passes (option_map values_in before) (option_map calls_in before) begun cs n.equations j
      (input-not-given (take k nodes) n mine j (omega arith)))) in
      let here : take n.inputs vs ≡ inputs = ap (take n.inputs) (sym same) ∙ take_at inputs (drop (length inputs) vs) n.inputs many in
      subst (λ (t : Type 0). t) (sym (holding-unfolded nodes lawful k below before inputs (instance vs cs))) (
        here,
        kept-equations-hold k (λ c earlier. kept-holds-within bound c (omega arith)) (option_map values_in before)
            (option_map calls_in before) vs cs n.equations (calls-from nodes k lawful below) parts.1
            (subst (λ m. AreOnce m (flat_map given_by n.equations)) (sym parts.0) (given-once (take k nodes) n mine))
            (ap (λ ws. pass_equations nodes passes (option_map values_in before) (option_map calls_in before) ws cs n.equations)
            (sym same) ∙ run),
      )
    where
      inputs-kept : (inputs vs : List (Option ℤ)) (j : ℕ) →
          (j < length inputs → value_at vs j ≡ value_at (inputs ++ drop (length inputs) vs) j) →
          value_at (inputs ++ drop (length inputs) vs) j ≡ value_at vs j
      inputs-kept inputs vs j kept = elim (cases_lt j (length inputs)) [
        | inl input ↦ sym (kept input)
        | inr past ↦
            let same : length inputs + (j - length inputs) ≡ j = omega arith in
            get_or-append_right inputs (drop (length inputs) vs) (length inputs) j None refl past
            ∙ get_or-drop (length inputs) vs (j - length inputs) None ∙ ap (value_at vs) same
      ]

  pub kept-holds : (k : ℕ) → k < length nodes → (before : Option Instance) (inputs : List (Option ℤ)) (i : Instance) →
      length inputs ≡ (node_at nodes k).inputs → HasForm nodes k i → pass_at passes k before inputs i ≡ i → holds k before inputs i
  kept-holds k = kept-holds-within (suc k) k (omega arith)

-- ---- The last node

pub solutions_are_kept : SolutionsAreKept
solutions_are_kept f before row i tick form = (
  kept-holds f.nodes tick.lawful.nodes (last_place f) (last-below f.nodes tick.lawful.last) before (map Some row) i
      (length-map row (λ v. Some v) ∙ tick.inputs) form,
  holds-kept f.nodes tick.lawful.nodes (last_place f) (last-below f.nodes tick.lawful.last) before (map Some row) i form,
)

pub settled_is_least : SettledIsLeast
settled_is_least = record {
  solution = λ f before row tick.
      let form = settled-form f before row tick in
      record {
        form = form;
        holds = (solutions_are_kept f before row (settled f before row) tick form).0 (settled-kept f before row tick);
      };
  least = λ f before row i tick solution.
      least-above f before row tick i solution.form ((solutions_are_kept f before row i tick solution.form).1 solution.holds);
}

pub settled_is_only : SettledIsOnly
settled_is_only f before row i tick solution stay =
    stays-both i (settled f before row) stay (settled_is_least.least f before row i tick solution)
