-- The equations of a file hold of an instance exactly where the slots that it lays out have the values to which they come.
use Rattle.std.proofs.Common.{◌≡◌, ◌↔◌, refl, sym, ◌∙◌, ap, ap₂, subst, ℕ, zero, suc, ◌+◌, ◌<◌, ◌≤◌, ℤ, List, [], ◌∷◌, ◌++◌, length, take, drop, map, arith, slice_get, slice_index, Option, Some, None}
use Rattle.std.specs.Prelude.{option_map, option_and_then}
use Rattle.std.specs.List.{AllByRecursion, flat_map}
use Rattle.std.proofs.lemmas.Grind.{flat_map-append}
use Rattle.std.proofs.lemmas.List.{drop_more, drop-drop, take-take}
use Rattle.lustre_syntax.specs.Lawful.{IsLawful}
use Rattle.lustre_syntax.specs.Tree.{ExprTree, EquationTree, set, call, node_at, FileTree, given_by, expressions_of}
use Rattle.lustre_flows.specs.Values.{value_of, value_at, evaluate}
use Rattle.lustre_flows.specs.Instances.{Instance, Instances, instance, values_in, first_call, later_calls, outputs_of, fresh_instances}
use Rattle.lustre_flows.specs.Ticks.{last_place, last_node, fresh_root}
use Rattle.lustre_settling.specs.Solutions.{HoldsAtTick, holding_at, EquationsHold, holdings_of}
use Rattle.lustre_settling.proofs.lemmas.Unfolded.{IsCallFrom, AreCallsFrom, calls-from, lawful-at, holding-unfolded}
use Rattle.lustre_slots.specs.declared.placed.Placed.{Placed}
use Rattle.lustre_slots.specs.declared.placed.Source.TheVariants.{Expression, Slot}
use Rattle.lustre_slots.specs.Layout.{calls_size, sizes_of, calls_from, calls_in as calls_placed, IsThere, with_inside, root_of, instances_of}
use Rattle.lustre_slots.specs.Sources.{Link, argument_links, output_links, equation_links, links_of}
use Rattle.lustre_slot_laws.specs.Laid.{laid}
use Rattle.lustre_slot_laws.specs.Outcomes.{names_of, expression_at, outcome_of, outcome, Keeps}
use Rattle.lustre_slot_laws.proofs.lemmas.Laying.{shape_at, placed-at, name-value, piece, value-read, equation-there, laid-calls, before-of, later-laid, first-before, later-before, values-before, calls-before}
use Rattle.lustre_slots.proofs.lemmas.Layouts.{size-is, inside-is, root-there, all-append, all-front, all-back}

-- ---- Equations and links

-- a link gives its slot what it has
abbrev pub Kept : FileTree → (before : Option (List (Option ℤ))) → List (Option ℤ) → Link → Type 0
Kept f before now l = Keeps f before now l.slot l.source

module _ (f : FileTree) (lawful : IsLawful f) (before : Option (List (Option ℤ))) (now : List (Option ℤ)) where
  abbrev Before : Placed → Option Instance
  Before p = before-of f before p

  module _ (p : Placed) where
    abbrev vals : List (Option ℤ)
    vals = names_of f p now

    abbrev past : Option (List (Option ℤ))
    past = option_map (names_of f p) before

    arguments-kept : (i at k : ℕ) (es : List ExprTree) →
        ((j : ℕ) (e : ExprTree) → slice_get es j ≡ Some e → expression_at f p.node i (k + j) ≡ Some e) →
        at + length es ≤ length now →
        AllByRecursion (Kept f before now) (argument_links p i at k es) ↔ (take (length es) (drop at now) ≡ map (λ e. value_of (evaluate past vals e)) es)
    arguments-kept i at k [] there room = (λ _. refl, λ _. tt)
    arguments-kept i at k (e ∷ es) there room =
        let here : expression_at f p.node i k ≡ Some e =
        let zero-more : k + 0 ≡ k = omega arith in
        ap (expression_at f p.node i) (sym zero-more) ∙ there 0 e refl in
        let gives : value_of (outcome f before now at (Expression p i k)) ≡ value_of (evaluate past vals e) =
        ap (λ o. value_of (outcome_of past vals o)) here in
        let cells : drop at now ≡ value_at now at ∷ drop (at + 1) now = drop_more now at None (omega arith) in
        let rest = arguments-kept i (at + 1) (k + 1) es
        (λ j x is. let same : (k + 1) + j ≡ k + suc j = omega arith in
        ap (expression_at f p.node i) same ∙ there (suc j) x is) (omega arith) in (
          λ kept. ap (take (suc (length es))) cells ∙ ap₂ {C = List (Option ℤ)} (λ x xs. x ∷ xs) (kept.0 ∙ gives) (rest.0 kept.1),
          λ same.
              let both : value_at now at ∷ take (length es) (drop (at + 1) now)
              ≡ value_of (evaluate past vals e) ∷ map (λ e. value_of (evaluate past vals e)) es =
              sym (ap (take (suc (length es))) cells) ∙ same in
              let first : value_at now at ≡ value_of (evaluate past vals e) = ap (λ xs. value_at xs 0) both in
              let others : take (length es) (drop (at + 1) now) ≡ map (λ e. value_of (evaluate past vals e)) es = ap (drop 1) both in
              (first ∙ sym gives, rest.1 others),
        )

    outputs-kept : (at : ℕ) (ks : List ℕ) → AllByRecursion (λ k. k < length (node_at f.nodes p.node).names) ks →
        at + length ks ≤ length now →
        AllByRecursion (Kept f before now) (output_links p at ks) ↔ (map (value_at vals) ks ≡ take (length ks) (drop at now))
    outputs-kept at [] small room = (λ _. refl, λ _. tt)
    outputs-kept at (k ∷ ks) small room =
        let here : value_at vals k ≡ value_at now (p.base + k) = name-value f p now k small.0 in
        let gives : value_of (outcome f before now (p.base + k) (Slot at)) ≡ value_at now at = value-read (value_at now at) in
        let cells : drop at now ≡ value_at now at ∷ drop (at + 1) now = drop_more now at None (omega arith) in
        let rest = outputs-kept (at + 1) ks small.1 (omega arith) in (
          λ kept. ap₂ {C = List (Option ℤ)} (λ x xs. x ∷ xs) (here ∙ kept.0 ∙ gives) (rest.0 kept.1) ∙ sym (ap (take (suc (length ks))) cells),
          λ same.
              let both : value_at vals k ∷ map (value_at vals) ks ≡ value_at now at ∷ take (length ks) (drop (at + 1) now) =
              same ∙ ap (take (suc (length ks))) cells in
              let first : value_at vals k ≡ value_at now at = ap (λ xs. value_at xs 0) both in
              let others : map (value_at vals) ks ≡ take (length ks) (drop (at + 1) now) = ap (drop 1) both in
              (sym here ∙ first ∙ sym gives, rest.1 others),
        )

  -- what is shown of an instance
  abbrev pub Solved : Placed → Type 0
  Solved p = (inputs : List (Option ℤ)) →
      holding_at (holdings_of f.nodes) p.node (Before p) inputs (laid (drop p.base now) (shape_at f p.node))
      ↔ ((take (node_at f.nodes p.node).inputs (names_of f p now) ≡ inputs)
      × AllByRecursion (Kept f before now) (flat_map (links_of f) (with_inside f p)))

  -- ---- The equations of one instance, where all earlier nodes are solved

  module _ (p : Placed) (there : IsThere f p)
      (inner : (q : Placed) → q.node < p.node → IsThere f q → q.base + slice_index (sizes_of f) q.node ≤ length now → Solved q) where
    abbrev shapes : List Instance
    shapes = fresh_instances f.nodes

    -- the inputs and the outputs of a call
    module _ (at : ℕ) (given : List ℕ) (callee : ℕ) (arguments : List ExprTree) (from : IsCallFrom f.nodes p.node given callee arguments) where
      abbrev child : Placed
      child = record { node = callee; base = at }

      ports : (node_at f.nodes callee).inputs + (node_at f.nodes callee).outputs ≤ length (node_at f.nodes callee).names
      ports = (lawful-at f.nodes callee lawful.nodes from.there).ports

      inputs-are : take (node_at f.nodes callee).inputs (names_of f child now) ≡ take (length arguments) (drop at now)
      inputs-are =
          let room = ports in
          take-take (node_at f.nodes callee).inputs (length (node_at f.nodes callee).names) (drop at now) (omega arith)
          ∙ ap (λ k. take k (drop at now)) (sym from.inputs)

      outputs-are : outputs_of (node_at f.nodes callee) (laid (drop at now) (shape_at f callee))
          ≡ take (length given) (drop (at + (node_at f.nodes callee).inputs) now)
      outputs-are =
          let n = node_at f.nodes callee in
          ap (λ i. take n.outputs (drop n.inputs (values_in i))) (placed-at f child now lawful from.there)
          ∙ piece n.outputs n.inputs (length n.names) at now ports
          ∙ ap (λ k. take k (drop (at + n.inputs) now)) (sym from.outputs)

    equations-kept : (i at : ℕ) (es : List EquationTree) → drop i (node_at f.nodes p.node).equations ≡ es →
        AreCallsFrom f.nodes p.node es →
        AllByRecursion (λ k. k < length (node_at f.nodes p.node).names) (flat_map given_by es) →
        at + calls_size (sizes_of f) es ≤ length now →
        EquationsHold f.nodes (holdings_of f.nodes) (past p) (vals p) (option_map (laid-calls f at es) before) (laid-calls f at es now) es
        ↔ (AllByRecursion (Kept f before now) (equation_links f p i at es)
        × AllByRecursion (Kept f before now) (flat_map (links_of f) (flat_map (with_inside f) (calls_from (sizes_of f) at es))))
    equations-kept i at [] is calls small room = (λ _. (tt, tt), λ _. tt)
    equations-kept i at (set line given value ∷ es) is calls small room =
        let next : drop (i + 1) (node_at f.nodes p.node).equations ≡ es =
        sym (drop-drop 1 i (node_at f.nodes p.node).equations) ∙ ap (drop 1) is in
        let here : value_at (vals p) given ≡ value_at now (p.base + given) = name-value f p now given small.0 in
        let e : expression_at f p.node i 0 ≡ Some value =
        ap (option_and_then (λ e. slice_get (expressions_of e) 0))
        (equation-there (node_at f.nodes p.node).equations i (set line given value) es is) in
        let gives : value_of (outcome f before now (p.base + given) (Expression p i 0)) ≡ value_of (evaluate (past p) (vals p) value) =
        ap (λ o. value_of (outcome_of (past p) (vals p) o)) e in
        let rest = equations-kept (i + 1) at es next calls small.1 room in (
          λ h. let others = rest.0 h.1 in ((sym here ∙ h.0 ∙ sym gives, others.0), others.1),
          λ kept. (here ∙ kept.0.0 ∙ gives, rest.1 (kept.0.1, kept.1)),
        )
    equations-kept i at (call line given callee arguments ∷ es) is calls small room =
        let sizes = sizes_of f in
        let n = node_at f.nodes callee in
        let q = child at given callee arguments calls.0 in
        let next : drop (i + 1) (node_at f.nodes p.node).equations ≡ es =
        sym (drop-drop 1 i (node_at f.nodes p.node).equations) ∙ ap (drop 1) is in
        let e : (j : ℕ) (x : ExprTree) → slice_get arguments j ≡ Some x → expression_at f p.node i (0 + j) ≡ Some x =
        λ j x found.
        let same : 0 + j ≡ j = omega arith in
        ap (expression_at f p.node i) same
        ∙ ap (option_and_then (λ e. slice_get (expressions_of e) j))
        (equation-there (node_at f.nodes p.node).equations i (call line given callee arguments) es is) ∙ found in
        let size = size-is f callee lawful calls.0.there in
        let ports-fit = ports at given callee arguments calls.0 in
        let facts = calls.0 in
        let args = arguments-kept p i at 0 arguments e (omega (arith, facts.inputs)) in
        let outs = outputs-kept p (at + n.inputs) given
        (all-front (λ k. k < length (node_at f.nodes p.node).names) given (flat_map given_by es) small)
        (omega (arith, facts.outputs)) in
        let solved = inner q calls.0.earlier calls.0.there (omega arith)
        (map (λ e. value_of (evaluate (past p) (vals p) e)) arguments) in
        let rest = equations-kept (i + 1) (at + slice_index sizes callee) es next calls.1
        (all-back (λ k. k < length (node_at f.nodes p.node).names) given (flat_map given_by es) small) (omega arith) in
        let before-first : option_map first_call (option_map (laid-calls f at (call line given callee arguments ∷ es)) before) ≡ Before q =
        first-before f before at line given callee arguments es in
        let before-later : option_map later_calls (option_map (laid-calls f at (call line given callee arguments ∷ es)) before)
        ≡ option_map (laid-calls f (at + slice_index sizes callee) es) before =
        later-before f before at line given callee arguments es in
        let now-later : later_calls (laid-calls f at (call line given callee arguments ∷ es) now)
        ≡ laid-calls f (at + slice_index sizes callee) es now = later-laid f at callee es now in
        let holding : Option Instance → Type 0 = λ b. holding_at (holdings_of f.nodes) callee b
        (map (λ e. value_of (evaluate (past p) (vals p) e)) arguments) (laid (drop at now) (shape_at f callee)) in
        let holds-later : Option Instances → Instances → Type 0 =
        λ b c. EquationsHold f.nodes (holdings_of f.nodes) (past p) (vals p) b c es in
        let inside-links = flat_map-append (links_of f) (with_inside f q)
        (flat_map (with_inside f) (calls_from sizes (at + slice_index sizes callee) es)) in
        let own-links : List Link = argument_links p i at 0 arguments in
        let given-links : List Link = output_links p (at + n.inputs) given in
        let later-links : List Link = equation_links f p (i + 1) (at + slice_index sizes callee) es in
        let child-links : List Link = flat_map (links_of f) (with_inside f q) in
        let others-links : List Link = flat_map (links_of f) (flat_map (with_inside f) (calls_from sizes (at + slice_index sizes callee) es)) in (
          λ h.
              let below = solved.0 (subst holding before-first h.1) in
              let others = rest.0 (subst (holds-later (option_map (laid-calls f (at + slice_index sizes callee) es) before)) now-later
              (subst (λ b. holds-later b (later_calls (laid-calls f at (call line given callee arguments ∷ es) now))) before-later h.2)) in
              let args-hold : AllByRecursion (Kept f before now) own-links =
              args.1 (sym (inputs-are at given callee arguments calls.0) ∙ below.0) in
              let outs-hold : AllByRecursion (Kept f before now) given-links =
              outs.1 (h.0 ∙ outputs-are at given callee arguments calls.0) in (
                all-append (Kept f before now) own-links (given-links ++ later-links) args-hold (all-append (Kept f before now) given-links later-links outs-hold others.0),
                subst (AllByRecursion (Kept f before now)) (sym inside-links) (all-append (Kept f before now) child-links others-links below.1 others.1),
              ),
          λ kept.
              let split = subst (AllByRecursion (Kept f before now)) inside-links kept.1 in
              let args-hold = args.0 (all-front (Kept f before now) own-links (given-links ++ later-links) kept.0) in
              let after-args = all-back (Kept f before now) own-links (given-links ++ later-links) kept.0 in
              let outs-hold = outs.0 (all-front (Kept f before now) given-links later-links after-args) in (
                outs-hold ∙ sym (outputs-are at given callee arguments calls.0),
                subst holding (sym before-first)
                    (solved.1 (inputs-are at given callee arguments calls.0 ∙ args-hold, all-front (Kept f before now) child-links others-links split)),
                subst (λ b. holds-later b (later_calls (laid-calls f at (call line given callee arguments ∷ es) now))) (sym before-later)
                    (subst (holds-later (option_map (laid-calls f (at + slice_index sizes callee) es) before)) (sym now-later)
                    (rest.1 (all-back (Kept f before now) given-links later-links after-args, all-back (Kept f before now) child-links others-links split))),
              ),
        )

    -- an instance, by its equations
    node-solved : p.base + slice_index (sizes_of f) p.node ≤ length now → Solved p
    node-solved room inputs =
        let n = node_at f.nodes p.node in
        let at = p.base + length n.names in
        let good = lawful-at f.nodes p.node lawful.nodes there in
        let size = size-is f p.node lawful there in
        let shape = placed-at f p now lawful there in
        let equations = equations-kept 0 at n.equations refl (calls-from f.nodes p.node lawful.nodes there) good.within (omega arith) in
        let all-links : flat_map (links_of f) (with_inside f p)
        ≡ links_of f p ++ flat_map (links_of f) (flat_map (with_inside f) (calls_placed f p)) =
        ap (flat_map (links_of f)) (inside-is f p lawful there) in
        let own-links : List Link = links_of f p in
        let inner-links : List Link = flat_map (links_of f) (flat_map (with_inside f) (calls_placed f p)) in
        let same : holding_at (holdings_of f.nodes) p.node (Before p) inputs (laid (drop p.base now) (shape_at f p.node))
        ≡ ((take n.inputs (names_of f p now) ≡ inputs)
        × EquationsHold f.nodes (holdings_of f.nodes) (past p) (vals p) (option_map (laid-calls f at n.equations) before)
        (laid-calls f at n.equations now) n.equations) =
        ap (holding_at (holdings_of f.nodes) p.node (Before p) inputs) shape
        ∙ holding-unfolded f.nodes lawful.nodes p.node there (Before p) inputs (instance (vals p) (laid-calls f at n.equations now))
        ∙ ap₂ (λ (v : Option (List (Option ℤ))) (c : Option Instances). (take n.inputs (names_of f p now) ≡ inputs)
        × EquationsHold f.nodes (holdings_of f.nodes) v (vals p) c (laid-calls f at n.equations now) n.equations)
        (values-before f before p lawful there) (calls-before f before p lawful there) in (
          λ h.
              let parts = subst (λ (T : Type 0). T) same h in
              let kept = equations.0 parts.1 in
              (parts.0, subst (AllByRecursion (Kept f before now)) (sym all-links) (all-append (Kept f before now) own-links inner-links kept.0 kept.1)),
          λ kept.
              let split = subst (AllByRecursion (Kept f before now)) all-links kept.1 in
              subst (λ (T : Type 0). T) (sym same)
              (kept.0, equations.1 (all-front (Kept f before now) own-links inner-links split, all-back (Kept f before now) own-links inner-links split)),
        )

  -- each instance, by the instances of its calls
  solved-below : (k : ℕ) (p : Placed) → p.node < k → IsThere f p → p.base + slice_index (sizes_of f) p.node ≤ length now → Solved p
  solved-below zero p less there room = absurd (omega arith)
  solved-below (suc k) p less there room = node-solved p there (λ q smaller. solved-below k q (omega arith)) room

  pub solved : (p : Placed) → IsThere f p → p.base + slice_index (sizes_of f) p.node ≤ length now → Solved p
  solved p there room = solved-below (suc p.node) p (omega arith) there room

-- ---- The last node's instance

-- the equations of a file hold of what is laid out exactly where its inputs are the row and its links give what is there
pub root-solved : (f : FileTree) (before : Option (List (Option ℤ))) (now : List (Option ℤ)) (row : List ℤ) (lawful : IsLawful f) →
    slice_index (sizes_of f) (last_place f) ≤ length now →
    HoldsAtTick f (option_map (λ v. laid v (fresh_root f)) before) row (laid now (fresh_root f))
    ↔ ((take (last_node f).inputs now ≡ map Some row) × AllByRecursion (Kept f before now) (flat_map (links_of f) (instances_of f)))
root-solved f before now row lawful room =
    let good = lawful-at f.nodes (last_place f) lawful.nodes (root-there f lawful) in
    let ports = good.ports in
    let whole = solved f lawful before now (root_of f) (root-there f lawful) (omega arith) (map Some row) in
    let first : take (last_node f).inputs (names_of f (root_of f) now) ≡ take (last_node f).inputs now =
    take-take (last_node f).inputs (length (last_node f).names) now (omega arith) in
    (λ h. let kept = whole.0 h in (sym first ∙ kept.0, kept.1), λ kept. whole.1 (first ∙ kept.0, kept.1))
