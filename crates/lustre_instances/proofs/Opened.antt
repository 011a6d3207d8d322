-- What the equations of a node, by names, say of an instance at a path.
use Rattle.std.specs.Prelude.{◌≡◌, ℕ, ◌≤◌, ℤ, List, [], ◌∷◌, ◌++◌, map, take, length, slice_get, Option, Some, option_map}
use Rattle.std.proofs.Common.{sym, ap, subst, subst₂, ◌∙◌}
use Rattle.modules_profile.proofs.lemmas.Members.{at-map}
use Rattle.lustre_syntax.specs.Tree.{set, call, NodeTree, node_at, FileTree, node_texts, texts_of}
use Rattle.lustre_syntax.specs.Named.{NamedExpr, NamedNode, renamed, renamed_equation, place_of, all_names, placed_node}
use Rattle.lustre_syntax.specs.Lawful.{AreDistinct, AreNodes}
use Rattle.lustre_flows.specs.Values.{value_at, value_of, evaluate}
use Rattle.lustre_flows.specs.Instances.{Instance, instance, values_in, calls_in, outputs_of}
use Rattle.lustre_flows.specs.Ticks.{inside}
use Rattle.lustre_settling.specs.Solutions.{EquationsHold, holding_at, holding_of, holdings_of}
use Rattle.lustre_settling.proofs.lemmas.Forms.{HasForm, HaveForms, parts-of_form}
use Rattle.lustre_settling.proofs.lemmas.Given.{times}
use Rattle.lustre_settling.proofs.lemmas.Unfolded.{lawful-at, holding-unfolded}
use Rattle.lustre_right.specs.Paths.{node_place, callees, call_place}
use Rattle.lustre_rows.proofs.lemmas.NamePlaces.{AreApart, distinct-apart}
use Rattle.lustre_instances.proofs.NamedValues.{map-twice}
use Rattle.lustre_instances.proofs.Calls.{IsCallAt, set-found, call-found, called-place}
use Rattle.lustre_instances.proofs.FileNodes.{IsNodeAt}
use Rattle.lustre_instances.proofs.SystemPaths.{inside-longer, was-longer, was-values}

module _ (f : FileTree) (n : NamedNode) where
  -- the node that n stands for
  abbrev pub placed : NodeTree
  placed = placed_node (node_texts f.nodes) n

  abbrev pub place : List ℕ → ℕ
  place text = place_of (texts_of (all_names n)) text

  -- an instance of it, with these inputs, of which its equations hold
  pub record IsOpened (before : Option Instance) (inputs : List (Option ℤ)) (i : Instance) : Type 0 where
    pub apart : AreApart (texts_of (all_names n))
    pub names : length (values_in i) ≡ length (all_names n)
    pub forms : HaveForms f.nodes placed.equations (calls_in i)
    pub takes : take (length n.inputs) (values_in i) ≡ inputs
    pub equations : EquationsHold f.nodes (holdings_of f.nodes) (option_map values_in before) (values_in i)
        (option_map calls_in before) (calls_in i) placed.equations

  pub opened : AreNodes [] f.nodes → (k : ℕ) (before : Option Instance) (inputs : List (Option ℤ)) (i : Instance) → IsNodeAt f k n →
      HasForm f.nodes k i → holding_at (holdings_of f.nodes) k before inputs i → IsOpened before inputs i
  opened lawful k before inputs (instance vs cs) at form hold =
      let parts : (length vs ≡ length placed.names) × HaveForms f.nodes placed.equations cs =
      subst (λ (m : NodeTree). (length vs ≡ length m.names) × HaveForms f.nodes m.equations cs) at.node
      (parts-of_form f.nodes lawful k vs cs at.below form) in
      let held : holding_of f.nodes (holdings_of f.nodes) placed before inputs (instance vs cs) =
      subst (λ (m : NodeTree). holding_of f.nodes (holdings_of f.nodes) m before inputs (instance vs cs)) at.node
      (subst (λ (t : Type 0). t) (holding-unfolded f.nodes lawful k at.below before inputs (instance vs cs)) hold) in
      record {
        apart = distinct-apart (texts_of (all_names n))
            (subst (λ (m : NodeTree). AreDistinct (texts_of m.names)) at.node (lawful-at f.nodes k lawful at.below).names);
        names = parts.0;
        forms = parts.1;
        takes = held.0;
        equations = held.1;
      }

  -- ---- Its calls

  abbrev pub IsCallIn : Option Instance → Instance → List (List ℕ) → List ℕ → List NamedExpr → ℕ → Type 0
  IsCallIn before i texts callee arguments j =
      IsCallAt f.nodes (option_map values_in before) (values_in i) (option_map calls_in before) (calls_in i) (map place texts)
      (node_place f callee) (map (renamed place) arguments) j

  module _ (before : Option Instance) (inputs : List (Option ℤ)) (i : Instance) (o : IsOpened before inputs i) where
    pub some-call : (m line : ℕ) (texts : List (List ℕ)) (callee : List ℕ) (arguments : List NamedExpr) →
        slice_get n.equations m ≡ Some (call line texts callee arguments) →
        (j : ℕ) × (slice_get (callees placed) j ≡ Some (node_place f callee)) × IsCallIn before i texts callee arguments j
    some-call m line texts callee arguments there =
        call-found f.nodes (option_map values_in before) (values_in i) (option_map calls_in before) (calls_in i) placed.equations m line
        (map place texts) (node_place f callee) (map (renamed place) arguments) o.equations o.forms
        (at-map (renamed_equation place (place_of (node_texts f.nodes))) n.equations m (call line texts callee arguments) there)

    pub one-call : (m line : ℕ) (texts : List (List ℕ)) (callee : List ℕ) (arguments : List NamedExpr) →
        slice_get n.equations m ≡ Some (call line texts callee arguments) → times (node_place f callee) (callees placed) ≤ 1 →
        IsCallIn before i texts callee arguments (call_place placed (node_place f callee))
    one-call m line texts callee arguments there once =
        let call_in = some-call m line texts callee arguments there in
        subst (IsCallIn before i texts callee arguments) (sym (called-place placed call_in.0 (node_place f callee) once call_in.1))
        call_in.2

-- ---- Instances at paths

module _ (f : FileTree) (before : Option Instance) (left : Instance) where
  -- the value of a name of an instance of the node n, and that of an expression
  abbrev pub value_in : List ℕ → NamedNode → List ℕ → Option ℤ
  value_in path n text = value_at (values_in (inside path left)) (place_of (texts_of (all_names n)) text)

  abbrev pub outcome_in : List ℕ → NamedNode → NamedExpr → Option ℤ
  outcome_in path n e =
      value_of
      (evaluate (option_map (λ i. values_in (inside path i)) before) (values_in (inside path left))
      (renamed (place_of (texts_of (all_names n))) e))

  abbrev pub IsOpenedAt : List ℕ → NamedNode → List (Option ℤ) → Type 0
  IsOpenedAt path n inputs = IsOpened f n (option_map (inside path) before) inputs (inside path left)

  pub set-at : (path : List ℕ) (n : NamedNode) (inputs : List (Option ℤ)) (m line : ℕ) (text : List ℕ) (e : NamedExpr) →
      IsOpenedAt path n inputs → slice_get n.equations m ≡ Some (set line text e) → value_in path n text ≡ outcome_in path n e
  set-at path n inputs m line text e o there =
      let b = option_map (inside path) before in
      let i = inside path left in
      set-found f.nodes (option_map values_in b) (values_in i) (option_map calls_in b) (calls_in i) (placed f n).equations m line
      (place f n text) (renamed (place f n) e) o.equations
      (at-map (renamed_equation (place f n) (place_of (node_texts f.nodes))) n.equations m (set line text e) there)
      ∙ ap (λ (was : Option (List (Option ℤ))). value_of (evaluate was (values_in i) (renamed (place f n) e))) (was-values path before)

  pub outcomes-are : (path : List ℕ) (n : NamedNode) (arguments : List NamedExpr) →
      map (λ e. value_of (evaluate (option_map values_in (option_map (inside path) before)) (values_in (inside path left)) e))
      (map (renamed (place f n)) arguments)
      ≡ map (outcome_in path n) arguments
  outcomes-are path n arguments =
      let vs = values_in (inside path left) in
      ap (λ (was : Option (List (Option ℤ))). map (λ e. value_of (evaluate was vs e)) (map (renamed (place f n)) arguments))
      (was-values path before)
      ∙ map-twice (renamed (place f n)) (λ e. value_of (evaluate (option_map (λ i. values_in (inside path i)) before) vs e)) arguments

  -- the instance at a path is that of a call of this node
  pub record IsCalled (path callee : List ℕ) (given arguments : List (Option ℤ)) : Type 0 where
    pub outputs : given ≡ outputs_of (node_at f.nodes (node_place f callee)) (inside path left)
    pub holds : holding_at (holdings_of f.nodes) (node_place f callee) (option_map (inside path) before) arguments (inside path left)
    pub form : HasForm f.nodes (node_place f callee) (inside path left)

  pub called-at : (path : List ℕ) (k : ℕ) (n : NamedNode) (texts : List (List ℕ)) (callee : List ℕ) (arguments : List NamedExpr)
      (whole : List ℕ) → whole ≡ path ++ k ∷ [] →
      IsCallIn f n (option_map (inside path) before) (inside path left) texts callee arguments k →
      IsCalled whole callee (map (value_in path n) texts) (map (outcome_in path n) arguments)
  called-at path k n texts callee arguments whole goes_on is_call =
      let at = sym (inside-longer path k left) in
      let given = map (value_in path n) texts in
      let outcomes = map (outcome_in path n) arguments in
      subst (λ (p : List ℕ). IsCalled p callee given outcomes) (sym goes_on)
      (record {
        outputs = sym (map-twice (place f n) (value_at (values_in (inside path left))) texts) ∙ is_call.outputs
            ∙ ap (outputs_of (node_at f.nodes (node_place f callee))) at;
        holds = subst (λ xs. holding_at (holdings_of f.nodes) (node_place f callee) (option_map (inside (path ++ k ∷ [])) before) xs
            (inside (path ++ k ∷ []) left)) (outcomes-are path n arguments)
            (subst₂ (λ (b : Option Instance) (i : Instance). holding_at (holdings_of f.nodes) (node_place f callee) b
            (map (λ e. value_of (evaluate (option_map values_in (option_map (inside path) before)) (values_in (inside path left)) e))
            (map (renamed (place f n)) arguments)) i) (sym (was-longer path k before)) at is_call.holds);
        form = subst (HasForm f.nodes (node_place f callee)) at is_call.form;
      })
