-- The call of a function in an instance gives what is called.
use Rattle.std.specs.Prelude.{◌≡◌, ℕ, zero, suc, ◌<◌, ◌≤◌, ℤ, true, List, [], ◌∷◌, map, length, slice_get, slice_index_or, Option, Some, option_map, refl}
use Rattle.std.proofs.Common.{sym, ap, subst, ◌∙◌, arith, inl, inr, true≢false}
use Rattle.std.proofs.lemmas.Bool.{cases_lt}
use Rattle.std.proofs.lemmas.List.{length-map}
use Rattle.std.proofs.lemmas.Option.{get_or_from_slice_get}
use Rattle.modules_profile.proofs.lemmas.Members.{at-map, map-at}
use Rattle.c_syntax.specs.Tree.{PureTree}
use Rattle.emit_prelude.specs.Bodies.{function_trees}
use Rattle.lustre_syntax.specs.Names.{is_lustre_name}
use Rattle.lustre_syntax.specs.Tree.{ExprTree, EquationTree, set, call, NodeTree, no_node, node_at, FileTree, node_texts}
use Rattle.lustre_syntax.specs.Named.{NamedExpr, NamedNode, renamed, renamed_equation, place_of}
use Rattle.lustre_syntax.specs.Lawful.{AreNodes}
use Rattle.lustre_flows.specs.Values.{value_at, value_of, evaluate}
use Rattle.lustre_flows.specs.Instances.{Instance, instance, values_in, calls_in, call_at, outputs_of}
use Rattle.lustre_flows.specs.Ticks.{inside}
use Rattle.lustre_settling.specs.Solutions.{holding_at, holdings_of}
use Rattle.lustre_settling.proofs.lemmas.Forms.{HasForm}
use Rattle.lustre_settling.proofs.lemmas.Unfolded.{AreCallsFrom, lawful-at, calls-from}
use Rattle.lustre_system.specs.Functions.{function_name, function_node}
use Rattle.lustre_system.specs.FunctionRules.{called}
use Rattle.lustre_right.specs.Paths.{node_place}
use Rattle.lustre_rows.proofs.lemmas.NamePlaces.{text-there}
use Rattle.lustre_instances.proofs.NamedValues.{map-twice}
use Rattle.lustre_instances.proofs.FunctionNodes.{tree_at, function_at, gives-the-called}
use Rattle.lustre_instances.proofs.FileNodes.{IsNodeAt}
use Rattle.lustre_instances.proofs.Opened.{placed, place, IsOpened, opened, some-call, value_in, outcome_in, IsOpenedAt, outcomes-are}

mapped-at : {A B : Type 0} (g : A → B) (xs : List A) (k : ℕ) (d : B) (e : A) → k < length xs →
    slice_index_or (map g xs) k d ≡ g (slice_index_or xs k e)
mapped-at g [] k d e below = absurd (omega arith)
mapped-at g (x ∷ xs) zero d e below = refl
mapped-at g (x ∷ xs) (suc k) d e below = mapped-at g xs k d e (omega arith)

pub name-of_function : (k : ℕ) → k < 8 → function_name k ≡ (tree_at k).name
name-of_function k few = mapped-at (λ (p : PureTree). p.name) function_trees k [] _ few

pub no-more : (k : ℕ) → 8 ≤ k → function_name k ≡ []
no-more zero many = absurd (omega arith)
no-more (suc zero) many = absurd (omega arith)
no-more (suc (suc zero)) many = absurd (omega arith)
no-more (suc (suc (suc zero))) many = absurd (omega arith)
no-more (suc (suc (suc (suc zero)))) many = absurd (omega arith)
no-more (suc (suc (suc (suc (suc zero))))) many = absurd (omega arith)
no-more (suc (suc (suc (suc (suc (suc zero)))))) many = absurd (omega arith)
no-more (suc (suc (suc (suc (suc (suc (suc zero))))))) many = absurd (omega arith)
no-more (suc (suc (suc (suc (suc (suc (suc (suc k)))))))) many = refl

-- ---- No call is of a node without a name

callee-below : (nodes : List NodeTree) (k : ℕ) (es : List EquationTree) (m line : ℕ) (given : List ℕ) (callee : ℕ)
    (arguments : List ExprTree) → AreCallsFrom nodes k es → slice_get es m ≡ Some (call line given callee arguments) →
    callee < length nodes
callee-below nodes k [] m line given callee arguments calls at = absurd (let wrong : ⊥ = cc at in wrong)
callee-below nodes k (set l g x ∷ es) zero line given callee arguments calls at = absurd (let wrong : ⊥ = cc at in wrong)
callee-below nodes k (set l g x ∷ es) (suc m) line given callee arguments calls at =
    callee-below nodes k es m line given callee arguments calls at
callee-below nodes k (call l g c xs ∷ es) zero line given callee arguments calls at =
    let same : c ≡ callee = cc at in subst (λ j. j < length nodes) same calls.0.there
callee-below nodes k (call l g c xs ∷ es) (suc m) line given callee arguments calls at =
    callee-below nodes k es m line given callee arguments calls.1 at

all-named : (nodes : List NodeTree) → AreNodes [] nodes → place_of (node_texts nodes) [] < length nodes → ⊥
all-named nodes lawful below =
    let text_of : NodeTree → List ℕ = λ (n : NodeTree). n.text in
    let p = place_of (node_texts nodes) [] in
    let count = length-map nodes text_of in
    let there = text-there (node_texts nodes) [] (omega arith) in
    let n = map-at text_of nodes p [] there in
    let node : node_at nodes p ≡ n.0 = get_or_from_slice_get nodes p n.0 no_node n.1 in
    let named : is_lustre_name [] ≡ true =
    subst (λ (t : List ℕ). is_lustre_name t ≡ true) (ap text_of node ∙ n.2) (lawful-at nodes p lawful below).named in
    true≢false (sym named)

-- ---- Calls of functions

module _ (f : FileTree) (lawful : AreNodes [] f.nodes) (functions : (k : ℕ) → k < 8 → IsNodeAt f k (function_node (tree_at k))) where
  opened-gives : (k : ℕ) → k < 8 → (numbers : List ℤ) (before : Option Instance) (i : Instance) →
      IsOpened f (function_node (tree_at k)) before (map Some numbers) i →
      outputs_of (function_at (node_texts f.nodes) k) i ≡ called f.nodes k numbers ∷ []
  opened-gives k few numbers before (instance vs cs) o =
      gives-the-called f.nodes lawful (node_texts f.nodes) k few numbers before vs cs (functions k few).below (functions k few).node o.names
      (o.takes, o.equations)

  function-gives : (k : ℕ) → k < 8 → (numbers : List ℤ) (before : Option Instance) (i : Instance) → HasForm f.nodes k i →
      holding_at (holdings_of f.nodes) k before (map Some numbers) i →
      outputs_of (node_at f.nodes k) i ≡ called f.nodes k numbers ∷ []
  function-gives k few numbers before i form hold =
      ap (λ (n : NodeTree). outputs_of n i) (functions k few).node
      ∙ opened-gives k few numbers before i
      (opened f (function_node (tree_at k)) lawful k before (map Some numbers) i (functions k few) form hold)

  module _ (before : Option Instance) (left : Instance) (path : List ℕ) (n : NamedNode) (at : ℕ) (is_node : IsNodeAt f at n)
      (inputs : List (Option ℤ)) (o : IsOpenedAt f before left path n inputs)
      (m line : ℕ) (texts : List (List ℕ)) (callee : List ℕ) (arguments : List NamedExpr)
      (there : slice_get n.equations m ≡ Some (call line texts callee arguments)) where
    pub named-callee : callee ≡ [] → ⊥
    named-callee none =
        let calls : AreCallsFrom f.nodes at (placed f n).equations =
        subst (λ (c : NodeTree). AreCallsFrom f.nodes at c.equations) is_node.node (calls-from f.nodes at lawful is_node.below) in
        all-named f.nodes lawful
        (subst (λ (t : List ℕ). node_place f t < length f.nodes) none
        (callee-below f.nodes at (placed f n).equations m line (map (place f n) texts) (node_place f callee)
        (map (renamed (place f n)) arguments) calls
        (at-map (renamed_equation (place f n) (place_of (node_texts f.nodes))) n.equations m (call line texts callee arguments) there)))

    pub function-called : (k : ℕ) (numbers : List ℤ) (v : ℤ) → callee ≡ function_name k →
        map (outcome_in f before left path n) arguments ≡ map Some numbers → called f.nodes k numbers ≡ Some v →
        map (value_in f before left path n) texts ≡ Some v ∷ []
    function-called k numbers v is known gives = elim (cases_lt k 8) [
      | inr past ↦ absurd (named-callee (is ∙ no-more k past))
      | inl few ↦
          let b = option_map (inside path) before in
          let i = inside path left in
          let found = some-call f n b inputs i o m line texts callee arguments there in
          let inner = call_at (calls_in i) found.0 in
          let was = option_map (λ c. call_at c found.0) (option_map calls_in b) in
          let k_is : node_place f callee ≡ k =
          ap (node_place f) (is ∙ name-of_function k few) ∙ (functions k few).place in
          let form : HasForm f.nodes k inner = subst (λ j. HasForm f.nodes j inner) k_is found.2.form in
          let hold : holding_at (holdings_of f.nodes) k was (map Some numbers) inner =
          subst (λ xs. holding_at (holdings_of f.nodes) k was xs inner) (outcomes-are f before left path n arguments ∙ known)
          (subst (λ j. holding_at (holdings_of f.nodes) j was
          (map (λ e. value_of (evaluate (option_map values_in b) (values_in i) e)) (map (renamed (place f n)) arguments)) inner) k_is
          found.2.holds) in
          sym (map-twice (place f n) (value_at (values_in i)) texts) ∙ found.2.outputs
          ∙ ap (λ j. outputs_of (node_at f.nodes j) inner) k_is
          ∙ function-gives k few numbers was inner form hold
          ∙ ap (λ (w : Option ℤ). w ∷ []) gives
    ]
