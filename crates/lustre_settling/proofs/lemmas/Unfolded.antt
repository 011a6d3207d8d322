-- What each node of a lawful file comes to, in terms of what all nodes come to.
use Rattle.std.specs.Prelude.{◌≡◌, ⊤, ℕ, zero, suc, ◌+◌, ◌-◌, ◌<◌, ◌≤◌, ℤ, true, List, [], ◌∷◌, ◌++◌, map, take, drop, length, slice_get, slice_index_or, slice_set, Option, Some, None, option_map, refl}
use Rattle.std.specs.List.{AllByRecursion, flat_map}
use Rattle.std.proofs.Common.{unwrap_or, sym, ap, ap₂, subst, ◌∙◌, arith, get_or, length-append, length-take, take_all, take-take, take_at, get_or-take, length-drop, append_assoc, append-nil, replicate}
use Rattle.std.proofs.lemmas.List.{get_or_at, length-map}
use Rattle.std.proofs.lemmas.Bool.{and_parts}
use Rattle.lustre_syntax.specs.Tree.{ValueType, ExprTree, EquationTree, set, call, NodeTree, no_node, node_at, types_of}
use Rattle.lustre_syntax.specs.Typing.{input_types, output_types, all_fit, have_types}
use Rattle.lustre_syntax.specs.Lawful.{Agrees, IsLawfulNode, AreNodes, EndsWithInts}
use Rattle.lustre_flows.specs.declared.stuck.LusStuck.{LusStuck}
use Rattle.lustre_flows.specs.Values.{value_of, value_at, evaluate}
use Rattle.lustre_flows.specs.Instances.{by_node, Instance, Instances, instance, more_calls, values_in, calls_in, first_call, later_calls, no_instance, with_items, with_call, outputs_of, fresh_calls, fresh, fresh_instances, Pass, pass_at, pass_equations, pass_of, passes_of}
use Rattle.lustre_flows.specs.Ticks.{Look, look_at, look_inside, look_of, looks_of}
use Rattle.lustre_settling.specs.Solutions.{Holding, holding_at, EquationsHold, holding_of, holdings_of}

-- ---- What is made node by node

module _ {ℓ} {A : Type ℓ} (of : List A → NodeTree → A) where
  by-node-begins : (earlier : List A) (ns : List NodeTree) → take (length earlier) (by_node of earlier ns) ≡ earlier
  by-node-begins earlier [] = take_all (length earlier) earlier (omega arith)
  by-node-begins earlier (n ∷ ns) =
      let all = earlier ++ of earlier n ∷ [] in
      let longer : length all ≡ length earlier + 1 = length-append earlier (of earlier n ∷ []) in
      sym (take-take (length earlier) (length all) (by_node of all ns) (omega arith))
      ∙ ap (take (length earlier)) (by-node-begins all ns) ∙ take_at earlier (of earlier n ∷ []) (length earlier) refl

  by-node-from : (earlier : List A) (ns : List NodeTree) (k : ℕ) (d : A) → k < length ns →
      get_or (by_node of earlier ns) (length earlier + k) d ≡ of (take (length earlier + k) (by_node of earlier ns)) (node_at ns k)
  by-node-from earlier [] k d below = absurd (omega arith)
  by-node-from earlier (n ∷ ns) zero d below =
      let all = earlier ++ of earlier n ∷ [] in
      let longer : length all ≡ length earlier + 1 = length-append earlier (of earlier n ∷ []) in
      let here : length earlier + 0 ≡ length earlier = omega arith in
      subst (λ k. get_or (by_node of all ns) k d ≡ of (take k (by_node of all ns)) n) (sym here)
      (sym (get_or-take (length all) (by_node of all ns) (length earlier) d (omega arith))
      ∙ ap (λ xs. get_or xs (length earlier) d) (by-node-begins all ns)
      ∙ get_or_at earlier (of earlier n) [] d (length earlier) refl
      ∙ ap (λ xs. of xs n) (sym (by-node-begins earlier (n ∷ ns))))
  by-node-from earlier (n ∷ ns) (suc k) d below =
      let all = earlier ++ of earlier n ∷ [] in
      let longer : length all ≡ length earlier + 1 = length-append earlier (of earlier n ∷ []) in
      let here : length all + k ≡ length earlier + suc k = omega arith in
      subst (λ j. get_or (by_node of all ns) j d ≡ of (take j (by_node of all ns)) (node_at ns k)) here
      (by-node-from all ns k d (omega arith))

  pub by-node-at : (nodes : List NodeTree) (k : ℕ) (d : A) → k < length nodes →
      get_or (by_node of [] nodes) k d ≡ of (take k (by_node of [] nodes)) (node_at nodes k)
  by-node-at nodes k d below =
      let here : 0 + k ≡ k = omega arith in
      subst (λ j. get_or (by_node of [] nodes) j d ≡ of (take j (by_node of [] nodes)) (node_at nodes k)) here
      (by-node-from [] nodes k d below)

-- ---- Lawful nodes

nodes-from : (earlier ns : List NodeTree) (k : ℕ) → AreNodes earlier ns → k < length ns →
    IsLawfulNode (earlier ++ take k ns) (node_at ns k)
nodes-from earlier [] k lawful below = absurd (omega arith)
nodes-from earlier (n ∷ ns) zero lawful below = subst (λ xs. IsLawfulNode xs n) (sym (append-nil earlier)) lawful.0
nodes-from earlier (n ∷ ns) (suc k) lawful below =
    subst (λ xs. IsLawfulNode xs (node_at ns k)) (append_assoc earlier (n ∷ []) (take k ns))
    (nodes-from (earlier ++ n ∷ []) ns k lawful.1 (omega arith))

-- each node is lawful after those before it
pub lawful-at : (nodes : List NodeTree) (k : ℕ) → AreNodes [] nodes → k < length nodes → IsLawfulNode (take k nodes) (node_at nodes k)
lawful-at nodes k lawful below = nodes-from [] nodes k lawful below

pub last-below : (nodes : List NodeTree) → EndsWithInts nodes → length nodes - 1 < length nodes
last-below [] ends = absurd ends
last-below (n ∷ ns) ends = omega arith

-- a call of a node whose place is k
pub record IsCallFrom (nodes : List NodeTree) (k : ℕ) (given : List ℕ) (callee : ℕ) (arguments : List ExprTree) : Type 0 where
  pub earlier : callee < k
  pub there : callee < length nodes
  pub inputs : length arguments ≡ (node_at nodes callee).inputs
  pub outputs : length given ≡ (node_at nodes callee).outputs

earlier-node : (nodes : List NodeTree) (k c : ℕ) (n : NodeTree) → slice_get (take k nodes) c ≡ Some n →
    (c < k) × (c < length nodes) × (node_at nodes c ≡ n)
earlier-node [] zero c n is = grind arith
earlier-node [] (suc k) c n is = grind arith
earlier-node (m ∷ ms) zero c n is = grind arith
earlier-node (m ∷ ms) (suc k) zero n is = (omega arith, omega arith, ap (λ o. unwrap_or o no_node) is)
earlier-node (m ∷ ms) (suc k) (suc c) n is =
    let rest = earlier-node ms k c n is in
    (omega arith, omega arith, rest.2)

fit-length : (type : ℕ → Option ValueType) (es : List ExprTree) (ts : List ValueType) → all_fit type es ts ≡ true → length es ≡ length ts
fit-length type [] [] is = refl
fit-length type [] (t ∷ ts) is = grind arith
fit-length type (e ∷ es) [] is = grind arith
fit-length type (e ∷ es) (t ∷ ts) is = ap suc (fit-length type es ts (and_parts _ _ is).1)

have-length : (types : List ValueType) (ks : List ℕ) (ts : List ValueType) → have_types types ks ts ≡ true → length ks ≡ length ts
have-length types [] [] is = refl
have-length types [] (t ∷ ts) is = grind arith
have-length types (k ∷ ks) [] is = grind arith
have-length types (k ∷ ks) (t ∷ ts) is = ap suc (have-length types ks ts (and_parts _ _ is).1)

length-of_inputs : (n : NodeTree) → n.inputs + n.outputs ≤ length n.names → length (input_types n) ≡ n.inputs
length-of_inputs n ports =
    let cut = length-take n.inputs (types_of n.names) in
    let all = length-map n.names (λ x. x.type) in
    omega arith

length-of_outputs : (n : NodeTree) → n.inputs + n.outputs ≤ length n.names → length (output_types n) ≡ n.outputs
length-of_outputs n ports =
    let cut = length-take n.outputs (drop n.inputs (types_of n.names)) in
    let rest = length-drop n.inputs (types_of n.names) in
    let all = length-map n.names (λ x. x.type) in
    omega arith

pub call-facts : (nodes : List NodeTree) (k : ℕ) (n : NodeTree) (line : ℕ) (given : List ℕ) (callee : ℕ) (arguments : List ExprTree) →
    AreNodes [] nodes → Agrees (take k nodes) n (call line given callee arguments) → IsCallFrom nodes k given callee arguments
call-facts nodes k n line given callee arguments lawful (of, found, gives, takes) =
    let place = earlier-node nodes k callee of found in
    let ports : of.inputs + of.outputs ≤ length of.names =
    subst (λ m. m.inputs + m.outputs ≤ length m.names) place.2 (lawful-at nodes callee lawful place.1).ports in
    record {
      earlier = place.0;
      there = place.1;
      inputs = fit-length (slice_get (types_of n.names)) arguments (input_types of) takes ∙ length-of_inputs of ports
          ∙ ap (λ m. m.inputs) (sym place.2);
      outputs = have-length (types_of n.names) given (output_types of) gives ∙ length-of_outputs of ports
          ∙ ap (λ m. m.outputs) (sym place.2);
    }

-- the calls among equations
abbrev pub AreCallsFrom : List NodeTree → ℕ → List EquationTree → Type 0
AreCallsFrom nodes k [] = ⊤
AreCallsFrom nodes k (set line given value ∷ es) = AreCallsFrom nodes k es
AreCallsFrom nodes k (call line given callee arguments ∷ es) = IsCallFrom nodes k given callee arguments × AreCallsFrom nodes k es

calls-among : (nodes : List NodeTree) (k : ℕ) (n : NodeTree) (es : List EquationTree) → AreNodes [] nodes →
    AllByRecursion (Agrees (take k nodes) n) es → AreCallsFrom nodes k es
calls-among nodes k n [] lawful agree = tt
calls-among nodes k n (set line given value ∷ es) lawful agree = calls-among nodes k n es lawful agree.1
calls-among nodes k n (call line given callee arguments ∷ es) lawful agree =
    (call-facts nodes k n line given callee arguments lawful agree.0, calls-among nodes k n es lawful agree.1)

pub calls-from : (nodes : List NodeTree) (k : ℕ) → AreNodes [] nodes → k < length nodes → AreCallsFrom nodes k (node_at nodes k).equations
calls-from nodes k lawful below = calls-among nodes k (node_at nodes k) _ lawful (lawful-at nodes k lawful below).typed

-- ---- What a node comes to depends on the nodes that it calls alone

module _ (nodes : List NodeTree) (k : ℕ) where
  pass-equations-same : (ps qs : List Pass) → ((c : ℕ) → c < k → pass_at ps c ≡ pass_at qs c) → (before : Option (List (Option ℤ)))
      (cb : Option Instances) (vs : List (Option ℤ)) (cs : Instances) (es : List EquationTree) → AreCallsFrom nodes k es →
      pass_equations nodes ps before cb vs cs es ≡ pass_equations nodes qs before cb vs cs es
  pass-equations-same ps qs same before cb vs cs [] calls = refl
  pass-equations-same ps qs same before cb vs cs (set line given value ∷ es) calls =
      pass-equations-same ps qs same before cb (slice_set vs given (value_of (evaluate before vs value))) cs es calls
  pass-equations-same ps qs same before cb vs cs (call line given callee arguments ∷ es) calls =
      let values = map (λ e. value_of (evaluate before vs e)) arguments in
      let next : Instance → List (Option ℤ) = λ i. with_items vs given (outputs_of (node_at nodes callee) i) in
      let first : pass_at ps callee (option_map first_call cb) values (first_call cs)
      ≡ pass_at qs callee (option_map first_call cb) values (first_call cs) =
      ap (λ (p : Pass). p (option_map first_call cb) values (first_call cs)) (same callee calls.0.earlier) in
      ap₂ with_call first
      (ap (λ i. pass_equations nodes ps before (option_map later_calls cb) (next i) (later_calls cs) es) first
      ∙ pass-equations-same ps qs same before (option_map later_calls cb) _ (later_calls cs) es calls.1)

  fresh-calls-same : (is js : List Instance) → ((c : ℕ) → c < k → slice_index_or is c no_instance ≡ slice_index_or js c no_instance) →
      (es : List EquationTree) → AreCallsFrom nodes k es → fresh_calls is es ≡ fresh_calls js es
  fresh-calls-same is js same [] calls = refl
  fresh-calls-same is js same (set line given value ∷ es) calls = fresh-calls-same is js same es calls
  fresh-calls-same is js same (call line given callee arguments ∷ es) calls =
      ap₂ more_calls (same callee calls.0.earlier) (fresh-calls-same is js same es calls.1)

  look-inside-same : (ls ms : List Look) → ((c : ℕ) → c < k → look_at ls c ≡ look_at ms c) → (before : Option Instances)
      (cs : Instances) (es : List EquationTree) → AreCallsFrom nodes k es → look_inside ls before cs es ≡ look_inside ms before cs es
  look-inside-same ls ms same before cs [] calls = refl
  look-inside-same ls ms same before cs (set line given value ∷ es) calls = look-inside-same ls ms same before cs es calls
  look-inside-same ls ms same before cs (call line given callee arguments ∷ es) calls =
      ap₂ {C = List LusStuck} (λ x y. x ++ y)
      (ap (λ (look : Look). look (option_map first_call before) (first_call cs)) (same callee calls.0.earlier))
      (look-inside-same ls ms same (option_map later_calls before) (later_calls cs) es calls.1)

  equations-hold-same : (hs gs : List Holding) → ((c : ℕ) → c < k → holding_at hs c ≡ holding_at gs c) → (before : Option (List (Option ℤ)))
      (vs : List (Option ℤ)) (cb : Option Instances) (cs : Instances) (es : List EquationTree) → AreCallsFrom nodes k es →
      EquationsHold nodes hs before vs cb cs es ≡ EquationsHold nodes gs before vs cb cs es
  equations-hold-same hs gs same before vs cb cs [] calls = refl
  equations-hold-same hs gs same before vs cb cs (set line given value ∷ es) calls =
      ap (λ (rest : Type 0). (value_at vs given ≡ value_of (evaluate before vs value)) × rest)
      (equations-hold-same hs gs same before vs cb cs es calls)
  equations-hold-same hs gs same before vs cb cs (call line given callee arguments ∷ es) calls =
      ap₂ (λ (h : Holding) (rest : Type 0).
      (map (value_at vs) given ≡ outputs_of (node_at nodes callee) (first_call cs))
      × h (option_map first_call cb) (map (λ e. value_of (evaluate before vs e)) arguments) (first_call cs) × rest)
      (same callee calls.0.earlier)
      (equations-hold-same hs gs same before vs (option_map later_calls cb) (later_calls cs) es calls.1)

-- ---- What each node comes to

module _ (nodes : List NodeTree) (lawful : AreNodes [] nodes) (k : ℕ) (below : k < length nodes) where
  pub fresh-unfolded : slice_index_or (fresh_instances nodes) k no_instance ≡ fresh (fresh_instances nodes) (node_at nodes k)
  fresh-unfolded =
      by-node-at fresh nodes k no_instance below
      ∙ ap (instance (replicate (length (node_at nodes k).names) None))
      (fresh-calls-same nodes k (take k (fresh_instances nodes)) (fresh_instances nodes)
      (λ c earlier. get_or-take k (fresh_instances nodes) c no_instance earlier) (node_at nodes k).equations
      (calls-from nodes k lawful below))

  pub pass-unfolded : (before : Option Instance) (inputs : List (Option ℤ)) (i : Instance) →
      pass_at (passes_of nodes) k before inputs i ≡ pass_of nodes (passes_of nodes) (node_at nodes k) before inputs i
  pass-unfolded before inputs (instance vs cs) =
      ap (λ (p : Pass). p before inputs (instance vs cs)) (by-node-at (pass_of nodes) nodes k (λ before inputs i. i) below)
      ∙ pass-equations-same nodes k (take k (passes_of nodes)) (passes_of nodes)
      (λ c earlier. get_or-take k (passes_of nodes) c (λ before inputs i. i) earlier)
      (option_map values_in before) (option_map calls_in before) _ cs (node_at nodes k).equations (calls-from nodes k lawful below)

  pub look-unfolded : (told : Option (List (Option ℤ)) → List (Option ℤ) → EquationTree → List LusStuck) (before : Option Instance)
      (i : Instance) → look_at (looks_of told nodes) k before i ≡ look_of told (looks_of told nodes) (node_at nodes k) before i
  look-unfolded told before (instance vs cs) =
      ap (λ (look : Look). look before (instance vs cs)) (by-node-at (look_of told) nodes k (λ before i. []) below)
      ∙ ap {B = List LusStuck} (λ rest. flat_map (told (option_map values_in before) vs) (node_at nodes k).equations ++ rest)
      (look-inside-same nodes k (take k (looks_of told nodes)) (looks_of told nodes)
      (λ c earlier. get_or-take k (looks_of told nodes) c (λ before i. []) earlier) (option_map calls_in before) cs
      (node_at nodes k).equations (calls-from nodes k lawful below))

  pub holding-unfolded : (before : Option Instance) (inputs : List (Option ℤ)) (i : Instance) →
      holding_at (holdings_of nodes) k before inputs i ≡ holding_of nodes (holdings_of nodes) (node_at nodes k) before inputs i
  holding-unfolded before inputs (instance vs cs) =
      ap (λ (h : Holding). h before inputs (instance vs cs)) (by-node-at (holding_of nodes) nodes k (λ before inputs i. ⊥) below)
      ∙ ap (λ (rest : Type 0). (take (node_at nodes k).inputs vs ≡ inputs) × rest)
      (equations-hold-same nodes k (take k (holdings_of nodes)) (holdings_of nodes)
      (λ c earlier. get_or-take k (holdings_of nodes) c (λ before inputs i. ⊥) earlier) (option_map values_in before) vs
      (option_map calls_in before) cs (node_at nodes k).equations (calls-from nodes k lawful below))
