-- The calls of an instance by their places and names; those of functions are whole.
use Rattle.std.specs.Prelude.{◌≡◌, ℕ, ◌<◌, ℤ, true, List, [], map, flat_map, length, slice_get, Option, Some, option_map}
use Rattle.std.specs.List.{AllByRecursion, list_all}
use Rattle.std.proofs.Common.{sym, ap, subst, ◌∙◌, inl, inr}
use Rattle.std.proofs.lemmas.Bool.{cases_lt}
use Rattle.modules_profile.proofs.lemmas.Members.{at-in, at-map, map-at}
use Rattle.lustre_syntax.specs.Tree.{ExprTree, set, call, NodeTree, node_at, FileTree, node_texts, given_by}
use Rattle.lustre_syntax.specs.Named.{NamedExpr, NamedEquation, NamedNode, renamed, renamed_equation, place_of}
use Rattle.lustre_syntax.specs.Lawful.{AreNodes}
use Rattle.lustre_flows.specs.Values.{value_at, value_of, evaluate}
use Rattle.lustre_flows.specs.Instances.{Instance, values_in, calls_in, call_at, outputs_of, has_value, is_complete}
use Rattle.lustre_flows.specs.Ticks.{inside}
use Rattle.lustre_settling.specs.Solutions.{holding_at, holdings_of}
use Rattle.lustre_settling.proofs.lemmas.Forms.{HasForm}
use Rattle.lustre_settling.proofs.lemmas.Unfolded.{lawful-at}
use Rattle.lustre_system.specs.Functions.{function_name, function_node}
use Rattle.lustre_right.specs.Paths.{node_place, callees}
use Rattle.lustre_instances.proofs.NamedValues.{valued-mapped}
use Rattle.lustre_instances.proofs.Calls.{CallBehind, call-behind}
use Rattle.lustre_instances.proofs.FunctionNodes.{tree_at}
use Rattle.lustre_instances.proofs.FileNodes.{IsNodeAt}
use Rattle.lustre_instances.proofs.Opened.{placed, place, opened, outcome_in, IsOpenedAt, outcomes-are}
use Rattle.lustre_instances.proofs.FunctionCalls.{name-of_function, no-more, named-callee}
use Rattle.lustre_instances.proofs.WholeValues.{all-at, all-joined-at, whole-at, function-complete}

-- An instance at a path, of the node that n stands for.
module _ (f : FileTree) (before : Option Instance) (left : Instance) (path : List ℕ) (n : NamedNode) where
  abbrev i : Instance
  i = inside path left

  abbrev b : Option Instance
  b = option_map (inside path) before

  abbrev CallOf : ℕ → Type 0
  CallOf j =
      CallBehind f.nodes (option_map values_in b) (values_in i) (option_map calls_in b) (calls_in i) (placed f n).equations j

  -- its call at a place
  pub record IsNamedCall (j : ℕ) : Type 0 where
    pub m : ℕ
    pub line : ℕ
    pub texts : List (List ℕ)
    pub callee : List ℕ
    pub arguments : List NamedExpr
    pub equation : slice_get n.equations m ≡ Some (call line texts callee arguments)
    pub named : slice_get (callees (placed f n)) j ≡ Some (node_place f callee)
    pub outputs : map (value_at (values_in i)) (map (place f n) texts)
        ≡ outputs_of (node_at f.nodes (node_place f callee)) (call_at (calls_in i) j)
    pub was : Option Instance
    pub holds : holding_at (holdings_of f.nodes) (node_place f callee) was (map (outcome_in f before left path n) arguments)
        (call_at (calls_in i) j)
    pub form : HasForm f.nodes (node_place f callee) (call_at (calls_in i) j)

  by-names : (j : ℕ) (c : CallOf j) (x : NamedEquation) → slice_get n.equations c.place ≡ Some x →
      renamed_equation (place f n) (place_of (node_texts f.nodes)) x ≡ call c.line c.given c.callee c.arguments → IsNamedCall j
  by-names j c (set line text e) there same = absurd (let wrong : ⊥ = cc same in wrong)
  by-names j c (call line texts callee arguments) there same =
      let given : c.given ≡ map (place f n) texts = cc same in
      let node : c.callee ≡ node_place f callee = cc same in
      let expressions : c.arguments ≡ map (renamed (place f n)) arguments = cc same in
      let was = option_map (λ cs. call_at cs j) (option_map calls_in b) in
      let inner = call_at (calls_in i) j in
      let read : ExprTree → Option ℤ = λ (e : ExprTree). value_of (evaluate (option_map values_in b) (values_in i) e) in
      record {
        m = c.place;
        line = line;
        texts = texts;
        callee = callee;
        arguments = arguments;
        equation = there;
        named = c.named ∙ ap Some node;
        outputs = ap (map (value_at (values_in i))) (sym given) ∙ c.is_call.outputs
            ∙ ap (λ k. outputs_of (node_at f.nodes k) inner) node;
        was = was;
        holds = subst (λ xs. holding_at (holdings_of f.nodes) (node_place f callee) was xs inner)
            (ap (map read) expressions ∙ outcomes-are f before left path n arguments)
            (subst (λ k. holding_at (holdings_of f.nodes) k was (map read c.arguments) inner) node c.is_call.holds);
        form = subst (λ k. HasForm f.nodes k inner) node c.is_call.form;
      }

  pub named-call : (inputs : List (Option ℤ)) → IsOpenedAt f before left path n inputs → (j : ℕ) → j < length (callees (placed f n)) →
      IsNamedCall j
  named-call inputs o j low =
      let c : CallOf j =
      call-behind f.nodes (option_map values_in b) (values_in i) (option_map calls_in b) (calls_in i) (placed f n).equations j
      o.equations o.forms low in
      let x = map-at (renamed_equation (place f n) (place_of (node_texts f.nodes))) n.equations c.place
      (call c.line c.given c.callee c.arguments) c.equation in
      by-names j c x.0 x.1 x.2

  -- ---- Calls of functions

  module _ (lawful : AreNodes [] f.nodes) (functions : (k : ℕ) → k < 8 → IsNodeAt f k (function_node (tree_at k))) (at : ℕ)
      (is_node : IsNodeAt f at n) (inputs : List (Option ℤ)) (o : IsOpenedAt f before left path n inputs) where
    -- the names that a call gives are names of the node
    given-whole : list_all has_value (values_in i) ≡ true → (m line : ℕ) (texts : List (List ℕ)) (callee : List ℕ)
        (arguments : List NamedExpr) → slice_get n.equations m ≡ Some (call line texts callee arguments) →
        list_all has_value (map (value_at (values_in i)) (map (place f n) texts)) ≡ true
    given-whole whole m line texts callee arguments there =
        let within =
        all-joined-at (λ p. p < length (placed f n).names) given_by (placed f n).equations m
        (call line (map (place f n) texts) (node_place f callee) (map (renamed (place f n)) arguments))
        (subst (λ (t : NodeTree). AllByRecursion (λ p. p < length t.names) (flat_map given_by t.equations)) is_node.node
        (lawful-at f.nodes at lawful is_node.below).within)
        (at-map (renamed_equation (place f n) (place_of (node_texts f.nodes))) n.equations m (call line texts callee arguments) there) in
        whole-at (values_in i) (map (place f n) texts) (length (placed f n).names) whole o.names within

    pub function-whole : list_all has_value (values_in i) ≡ true → (j : ℕ) (c : IsNamedCall j) →
        AllByRecursion (λ e. (v : ℤ) × (outcome_in f before left path n e ≡ Some v)) c.arguments → (k : ℕ) →
        c.callee ≡ function_name k → is_complete (call_at (calls_in i) j) ≡ true
    function-whole whole j c valued k named = elim (cases_lt k 8) [
      | inr past ↦
          absurd (named-callee f lawful functions before left path n at is_node inputs o c.m c.line c.texts c.callee c.arguments c.equation
          (named ∙ no-more k past))
      | inl few ↦
          let inner = call_at (calls_in i) j in
          let outcomes = map (outcome_in f before left path n) c.arguments in
          let k_is : node_place f c.callee ≡ k = ap (node_place f) (named ∙ name-of_function k few) ∙ (functions k few).place in
          let function =
          opened f (function_node (tree_at k)) lawful k c.was outcomes inner (functions k few)
          (subst (λ m. HasForm f.nodes m inner) k_is c.form)
          (subst (λ m. holding_at (holdings_of f.nodes) m c.was outcomes inner) k_is c.holds) in
          let given = valued-mapped (outcome_in f before left path n) c.arguments
          (λ e h. let (m, there) = at-in c.arguments e h in
          all-at (λ x. (v : ℤ) × (outcome_in f before left path n x ≡ Some v)) c.arguments m e valued there) in
          function-complete f k c.was outcomes inner function given
          (ap (λ (m : NodeTree). list_all has_value (outputs_of m inner)) (sym (functions k few).node)
          ∙ ap (λ m. list_all has_value (outputs_of (node_at f.nodes m) inner)) (sym k_is)
          ∙ ap (list_all has_value) (sym c.outputs) ∙ given-whole whole c.m c.line c.texts c.callee c.arguments c.equation)
    ]
