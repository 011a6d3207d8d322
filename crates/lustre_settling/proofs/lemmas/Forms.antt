-- A pass leaves an instance with the names and calls that it had.
use Rattle.std.specs.Prelude.{◌≡◌, ℕ, zero, suc, ◌<◌, ◌≤◌, ℤ, List, [], ◌∷◌, ◌++◌, map, drop, length, replicate, slice_index_or, slice_set, Option, Some, None, option_map, refl}
use Rattle.std.proofs.Common.{sym, ap, ap₂, subst, subst₂, ◌∙◌, arith, length-append, length-drop, length-set}
use Rattle.std.proofs.lemmas.List.{length-map, length-replicate}
use Rattle.lustre_syntax.specs.Tree.{EquationTree, set, call, NodeTree, node_at, FileTree}
use Rattle.lustre_syntax.specs.Lawful.{AreNodes}
use Rattle.lustre_flows.specs.Values.{value_of, evaluate}
use Rattle.lustre_flows.specs.Instances.{Instance, Instances, instance, no_calls, more_calls, values_in, calls_in, first_call, later_calls, no_instance, with_items, outputs_of, fresh_calls, fresh, fresh_instances, pass_at, pass_equations, passes_of}
use Rattle.lustre_flows.specs.Ticks.{last_place, fresh_root, root_pass}
use Rattle.lustre_flows.specs.FlowLaws.{ValuesStay, Stays, AllStay, IsTickOf}
use Rattle.lustre_settling.proofs.lemmas.Order.{values-stay-self, values-stay-length, nothing-stays, with-call-stays}
use Rattle.lustre_settling.proofs.lemmas.Monotone.{passes-stay}
use Rattle.lustre_settling.proofs.lemmas.Unfolded.{AreCallsFrom, lawful-at, last-below, calls-from, fresh-unfolded, pass-unfolded}

-- an instance of the node at a place, whatever values its names have
abbrev pub HasForm : List NodeTree → ℕ → Instance → Type 0
HasForm nodes k i = Stays (slice_index_or (fresh_instances nodes) k no_instance) i

-- instances of the calls among equations
abbrev pub HaveForms : List NodeTree → List EquationTree → Instances → Type 0
HaveForms nodes es cs = AllStay (fresh_calls (fresh_instances nodes) es) cs

pub length-items : (vs : List (Option ℤ)) (ks : List ℕ) (xs : List (Option ℤ)) → length (with_items vs ks xs) ≡ length vs
length-items vs [] xs = refl
length-items vs (k ∷ ks) [] = refl
length-items vs (k ∷ ks) (x ∷ xs) = length-items (slice_set vs k x) ks xs ∙ length-set vs k x

pub length-given : (inputs vs : List (Option ℤ)) → length inputs ≤ length vs → length (inputs ++ drop (length inputs) vs) ≡ length vs
length-given inputs vs fit =
    let both = length-append inputs (drop (length inputs) vs) in
    let rest = length-drop (length inputs) vs in
    omega arith

module _ (nodes : List NodeTree) (lawful : AreNodes [] nodes) where
  pub form-of_parts : (k : ℕ) (vs : List (Option ℤ)) (cs : Instances) → k < length nodes → length vs ≡ length (node_at nodes k).names →
      HaveForms nodes (node_at nodes k).equations cs → HasForm nodes k (instance vs cs)
  form-of_parts k vs cs below names calls =
      subst (λ i. Stays i (instance vs cs)) (sym (fresh-unfolded nodes lawful k below))
      (nothing-stays (length (node_at nodes k).names) vs names, calls)

  pub parts-of_form : (k : ℕ) (vs : List (Option ℤ)) (cs : Instances) → k < length nodes → HasForm nodes k (instance vs cs) →
      (length vs ≡ length (node_at nodes k).names) × HaveForms nodes (node_at nodes k).equations cs
  parts-of_form k vs cs below form =
      let parts : Stays (fresh (fresh_instances nodes) (node_at nodes k)) (instance vs cs) =
      subst (λ i. Stays i (instance vs cs)) (fresh-unfolded nodes lawful k below) form in
      (sym (values-stay-length _ vs parts.0) ∙ length-replicate (length (node_at nodes k).names) None, parts.1)

  pub inputs-fit : (k : ℕ) → k < length nodes → (node_at nodes k).inputs ≤ length (node_at nodes k).names
  inputs-fit k below = let ports = (lawful-at nodes k lawful below).ports in omega arith

  equations-form : (k : ℕ) → ((c : ℕ) → c < k → c < length nodes → (before : Option Instance) (inputs : List (Option ℤ)) (i : Instance) →
      length inputs ≡ (node_at nodes c).inputs → HasForm nodes c i → HasForm nodes c (pass_at (passes_of nodes) c before inputs i)) →
      (before : Option (List (Option ℤ))) (cb : Option Instances) (vs : List (Option ℤ)) (cs : Instances) (es : List EquationTree) (n : ℕ) →
      AreCallsFrom nodes k es → length vs ≡ n → HaveForms nodes es cs →
      Stays (instance (replicate n None) (fresh_calls (fresh_instances nodes) es))
      (pass_equations nodes (passes_of nodes) before cb vs cs es)
  equations-form k each before cb vs cs [] n calls names form = (nothing-stays n vs names, tt)
  equations-form k each before cb vs cs (set line given value ∷ es) n calls names form =
      equations-form k each before cb (slice_set vs given (value_of (evaluate before vs value))) cs es n calls
      (length-set vs given (value_of (evaluate before vs value)) ∙ names) form
  equations-form k each before cb vs no_calls (call line given callee arguments ∷ es) n calls names form = absurd form
  equations-form k each before cb vs (more_calls c cs) (call line given callee arguments ∷ es) n calls names form =
      let values = map (λ e. value_of (evaluate before vs e)) arguments in
      let i = pass_at (passes_of nodes) callee (option_map first_call cb) values c in
      let first : HasForm nodes callee i =
      each callee calls.0.earlier calls.0.there (option_map first_call cb) values c
      (length-map arguments (λ e. value_of (evaluate before vs e)) ∙ calls.0.inputs) form.0 in
      with-call-stays (slice_index_or (fresh_instances nodes) callee no_instance) i
      (instance (replicate n None) (fresh_calls (fresh_instances nodes) es)) _ first
      (equations-form k each before (option_map later_calls cb) (with_items vs given (outputs_of (node_at nodes callee) i)) cs es n
      calls.1 (length-items vs given (outputs_of (node_at nodes callee) i) ∙ names) form.1)

  form-within : (bound k : ℕ) → k < bound → k < length nodes → (before : Option Instance) (inputs : List (Option ℤ)) (i : Instance) →
      length inputs ≡ (node_at nodes k).inputs → HasForm nodes k i → HasForm nodes k (pass_at (passes_of nodes) k before inputs i)
  form-within zero k small below before inputs i many form = absurd (omega arith)
  form-within (suc bound) k small below before inputs (instance vs cs) many form =
      let parts = parts-of_form k vs cs below form in
      let fit = inputs-fit k below in
      subst₂ Stays (sym (fresh-unfolded nodes lawful k below)) (sym (pass-unfolded nodes lawful k below before inputs (instance vs cs)))
      (equations-form k (λ c earlier. form-within bound c (omega arith)) (option_map values_in before) (option_map calls_in before)
      (inputs ++ drop (length inputs) vs) cs (node_at nodes k).equations (length (node_at nodes k).names)
      (calls-from nodes k lawful below) (length-given inputs vs (omega arith) ∙ parts.0) parts.1)

  pub pass-form : (k : ℕ) → k < length nodes → (before : Option Instance) (inputs : List (Option ℤ)) (i : Instance) →
      length inputs ≡ (node_at nodes k).inputs → HasForm nodes k i → HasForm nodes k (pass_at (passes_of nodes) k before inputs i)
  pass-form k = form-within (suc k) k (omega arith)

-- ---- The last node

pub root-pass-stays : (f : FileTree) (before : Option Instance) (row : List ℤ) (i j : Instance) → Stays i j →
    Stays (root_pass f before row i) (root_pass f before row j)
root-pass-stays f before row i j stay =
    passes-stay f.nodes (last_place f) before (map Some row) (map Some row) i j (values-stay-self (map Some row)) stay

pub root-pass-form : (f : FileTree) (before : Option Instance) (row : List ℤ) (i : Instance) → IsTickOf f before row →
    Stays (fresh_root f) i → Stays (fresh_root f) (root_pass f before row i)
root-pass-form f before row i tick form =
    pass-form f.nodes tick.lawful.nodes (last_place f) (last-below f.nodes tick.lawful.last) before (map Some row) i
    (length-map row (λ v. Some v) ∙ tick.inputs) form

-- ---- Forms without values

abbrev mutual
  pub emptied : Instance → Instance
  emptied (instance values calls) = instance (map (λ v. None) values) (all_emptied calls)

  pub all_emptied : Instances → Instances
  all_emptied no_calls = no_calls
  all_emptied (more_calls first rest) = more_calls (emptied first) (all_emptied rest)

values-emptied-stay : (vs : List (Option ℤ)) → ValuesStay (map (λ v. None) vs) vs
values-emptied-stay [] = tt
values-emptied-stay (v ∷ vs) = (tt, values-emptied-stay vs)

mutual
  emptied-stays : (i : Instance) → Stays (emptied i) i
  emptied-stays (instance vs cs) = (values-emptied-stay vs, all-emptied-stay cs)

  all-emptied-stay : (cs : Instances) → AllStay (all_emptied cs) cs
  all-emptied-stay no_calls = tt
  all-emptied-stay (more_calls c cs) = (emptied-stays c, all-emptied-stay cs)

values-emptied-same : (vs ws : List (Option ℤ)) → ValuesStay vs ws →
    map {B = Option ℤ} (λ (v : Option ℤ). None) vs ≡ map (λ (v : Option ℤ). None) ws
values-emptied-same [] [] stay = refl
values-emptied-same [] (w ∷ ws) stay = absurd stay
values-emptied-same (v ∷ vs) [] stay = absurd stay
values-emptied-same (v ∷ vs) (w ∷ ws) stay = ap {B = List (Option ℤ)} (λ xs. None ∷ xs) (values-emptied-same vs ws stay.1)

mutual
  emptied-same : (i j : Instance) → Stays i j → emptied i ≡ emptied j
  emptied-same (instance vs cs) (instance ws ds) stay =
      ap₂ instance (values-emptied-same vs ws stay.0) (all-emptied-same cs ds stay.1)

  all-emptied-same : (cs ds : Instances) → AllStay cs ds → all_emptied cs ≡ all_emptied ds
  all-emptied-same no_calls no_calls stay = refl
  all-emptied-same no_calls (more_calls d ds) stay = absurd stay
  all-emptied-same (more_calls c cs) no_calls stay = absurd stay
  all-emptied-same (more_calls c cs) (more_calls d ds) stay = ap₂ more_calls (emptied-same c d stay.0) (all-emptied-same cs ds stay.1)

nothing-emptied : (n : ℕ) → map {B = Option ℤ} (λ (v : Option ℤ). None) (replicate n None) ≡ replicate n None
nothing-emptied zero = refl
nothing-emptied (suc n) = ap {B = List (Option ℤ)} (λ xs. None ∷ xs) (nothing-emptied n)

module _ (nodes : List NodeTree) (lawful : AreNodes [] nodes) where
  fresh-calls-emptied : (k : ℕ) (es : List EquationTree) → AreCallsFrom nodes k es →
      ((c : ℕ) → c < k → c < length nodes → emptied (slice_index_or (fresh_instances nodes) c no_instance)
      ≡ slice_index_or (fresh_instances nodes) c no_instance) →
      all_emptied (fresh_calls (fresh_instances nodes) es) ≡ fresh_calls (fresh_instances nodes) es
  fresh-calls-emptied k [] calls each = refl
  fresh-calls-emptied k (set line given value ∷ es) calls each = fresh-calls-emptied k es calls each
  fresh-calls-emptied k (call line given callee arguments ∷ es) calls each =
      ap₂ more_calls (each callee calls.0.earlier calls.0.there) (fresh-calls-emptied k es calls.1 each)

  fresh-emptied : (bound k : ℕ) → k < bound → k < length nodes →
      emptied (slice_index_or (fresh_instances nodes) k no_instance) ≡ slice_index_or (fresh_instances nodes) k no_instance
  fresh-emptied zero k small below = absurd (omega arith)
  fresh-emptied (suc bound) k small below =
      subst (λ i. emptied i ≡ i) (sym (fresh-unfolded nodes lawful k below))
      (ap₂ instance (nothing-emptied (length (node_at nodes k).names))
      (fresh-calls-emptied k (node_at nodes k).equations (calls-from nodes k lawful below)
      (λ c earlier. fresh-emptied bound c (omega arith))))

  -- what stays in an instance of a node is one
  pub form-below : (k : ℕ) (i j : Instance) → k < length nodes → HasForm nodes k j → Stays i j → HasForm nodes k i
  form-below k i j below form stay =
      subst (λ e. Stays e i)
      (emptied-same i j stay ∙ sym (emptied-same _ j form) ∙ fresh-emptied (suc k) k (omega arith) below)
      (emptied-stays i)
