-- The eight nodes give what the eight functions give.
use Rattle.std.proofs.Common.{◌≡◌, refl, ap, ap₂, ◌∙◌, ℕ, zero, suc, ◌+◌, ◌-◌, ◌^◌, ◌<◌, nat_lt, if◌then◌else◌, List, [], ◌∷◌, ◌++◌, length, map, take, slice_index_or, codes, Option, Some, None, ℤ, pos, ◌+ℤ◌, ◌-ℤ◌, int_lt, arith}
use Rattle.std.specs.Prelude.{Contains, option_and_then}
use Rattle.std.specs.Int.{int_rem_euclid}
use Rattle.base_fixed_point.specs.declared.Case.{Case}
use Rattle.base_fixed_point.specs.declared.FixType.{FixType}
use Rattle.base_fixed_point.specs.declared.Over.{Over}
use Rattle.base_fixed_point.specs.declared.Over.TheVariants.{Saturate, Wrap}
use Rattle.base_fixed_point.specs.declared.Round.{Round}
use Rattle.base_fixed_point.specs.Rounding.{rounded}
use Rattle.base_fixed_point.specs.Conversion.{conv, all_cases, least_of, greatest_of}
use Rattle.c_syntax.specs.declared.Why.TheVariants.{Steps}
use Rattle.c_syntax.specs.Tree.{PureTree}
use Rattle.c_semantics.specs.Cells.{no_cells}
use Rattle.c_semantics.specs.Values.{Function, gives, stuck_at, step_limit, function_at, function_of, functions_of, reads, eval}
use Rattle.emit_prelude.specs.Bodies.{function_with, zero_body, function_trees}
use Rattle.emit_prelude.specs.Rules.{params, rounding_position}
use Rattle.emit_prelude.specs.Rules as c
use Rattle.emit_prelude.proofs.lemmas.PreludeLaws.{prelude_is}
use Rattle.lustre_syntax.specs.Tree.{ExprTree, NodeTree, node_at}
use Rattle.lustre_syntax.specs.Named.{renamed, place_of, NamedNode}
use Rattle.lustre_flows.specs.Values.{value_at, value_of, evaluate}
use Rattle.lustre_flows.specs.Instances.{Instance, no_instance, outputs_of, fresh, fresh_instances, Pass, pass_of, passes_of}
use Rattle.lustre_settling.proofs.lemmas.Unfolded.{by-node-at}
use Rattle.lustre_system.specs.FromC.{value_from}
use Rattle.lustre_system.specs.Functions.{param_name, function_name}
use Rattle.lustre_system.specs.FunctionRules.{called, cast_call, Converts, AreFunctions}
use Rattle.lustre_functions.specs.FromCLaws.{HasNames}
use Rattle.lustre_functions.specs.FunctionLaws.{nodes_before, NodesGiveTheSame, NodesAreFunctions}
use Rattle.lustre_functions.proofs.lemmas.Given.{given-first, given-if}
use Rattle.lustre_functions.proofs.lemmas.FromC.{number-is}
use Rattle.lustre_functions.proofs.lemmas.RoundingPlaces.{place-of_rounding}
use Rattle.lustre_functions.proofs.BodyNames.{floor-names, ceiling-names, zero-names, nearest-names, away-names, even-names, clamp-names, wrap-names}

-- ---- Functions of C

-- the body of a function gives what a call gives
body-gives : (earlier : List Function) (p : PureTree) (arguments : List ℤ) (steps end : ℕ) (v : ℤ) →
    function_of earlier p arguments steps ≡ gives v end → eval earlier (reads arguments no_cells) p.line p.body (steps + 1) ≡ gives v end
body-gives earlier p arguments steps end v is =
    (given-if (nat_lt steps step_limit) (eval earlier (reads arguments no_cells) p.line p.body (steps + 1)) (stuck_at p.line Steps)
    v end is).1

-- the functions before position k, and the tree there
abbrev before : ℕ → List Function
before k = functions_of [] (take k function_trees)

abbrev tree_at : ℕ → PureTree
tree_at k = slice_index_or function_trees k (function_with [] [] zero_body)

-- ---- Lists of arguments

by-two : (P : List ℤ → Type 0) → ((x y : ℤ) → P (x ∷ y ∷ [])) → (xs : List ℤ) → length xs ≡ 2 → P xs
by-two P each [] many = absurd (omega arith)
by-two P each (x ∷ []) many = absurd (omega arith)
by-two P each (x ∷ y ∷ []) many = each x y
by-two P each (x ∷ y ∷ z ∷ xs) many = absurd (omega arith)

by-three : (P : List ℤ → Type 0) → ((x y z : ℤ) → P (x ∷ y ∷ z ∷ [])) → (xs : List ℤ) → length xs ≡ 3 → P xs
by-three P each [] many = absurd (omega arith)
by-three P each (x ∷ []) many = absurd (omega arith)
by-three P each (x ∷ y ∷ []) many = absurd (omega arith)
by-three P each (x ∷ y ∷ z ∷ []) many = each x y z
by-three P each (x ∷ y ∷ z ∷ w ∷ xs) many = absurd (omega arith)

-- ---- Nodes

-- what a node gives in one pass, of these arguments
abbrev passed : List NodeTree → ℕ → List ℤ → Option ℤ
passed nodes k arguments =
    value_at
    (outputs_of (node_at nodes k)
    (pass_of nodes (take k (passes_of nodes)) (node_at nodes k) None (map Some arguments)
    (fresh (take k (fresh_instances nodes)) (node_at nodes k)))) 0

called-is : (nodes : List NodeTree) (k : ℕ) (arguments : List ℤ) → k < length nodes → called nodes k arguments ≡ passed nodes k arguments
called-is nodes k arguments below =
    ap₂ {C = Option ℤ} (λ (pass : Pass) (i : Instance). value_at (outputs_of (node_at nodes k) (pass None (map Some arguments) i)) 0)
    (by-node-at (pass_of nodes) nodes k (λ before inputs i. i) below) (by-node-at fresh nodes k no_instance below)

-- the Lustre of a function's body
abbrev translated : PureTree → ExprTree
translated p = renamed (place_of (p.params ++ codes "r" ∷ [])) (value_from (param_name p.params) function_name (λ n. []) 0 p.body)

-- the value of the body of a function with these arguments
abbrev evaluated : PureTree → List ℤ → Option ℤ
evaluated p arguments = value_of (evaluate None (map Some arguments ++ None ∷ []) (translated p))

module _ (more : List NamedNode) where
  abbrev nodes : List NodeTree
  nodes = nodes_before more

  abbrev functions : List Function
  functions = functions_of [] function_trees

  same-by : (k : ℕ) (earlier : List Function) (p : PureTree) (arguments : List ℤ) (v : ℤ) (steps end : ℕ) → k < length nodes →
      passed nodes k arguments ≡ evaluated p arguments →
      HasNames earlier (reads arguments no_cells) p.line (map Some arguments ++ None ∷ []) (param_name p.params) (λ n. [])
      (place_of (p.params ++ codes "r" ∷ [])) 0 p.body →
      function_of earlier p arguments steps ≡ gives v end → called nodes k arguments ≡ Some v
  same-by k earlier p arguments v steps end below same names is =
      called-is nodes k arguments below ∙ same
      ∙ ap value_of
      (number-is earlier (reads arguments no_cells) p.line None (map Some arguments ++ None ∷ []) (param_name p.params) function_name
      (λ n. []) (place_of (p.params ++ codes "r" ∷ [])) 0 p.body names (steps + 1) end v (body-gives earlier p arguments steps end v is))

  -- the function and the node at a place give the same of arguments
  abbrev Same : (k steps end : ℕ) → ℤ → List ℤ → Type 0
  Same k steps end v arguments = function_at functions k arguments steps ≡ gives v end → called nodes k arguments ≡ Some v

  each : (k steps end : ℕ) (arguments : List ℤ) (v : ℤ) → k < length params → length arguments ≡ length (slice_index_or params k []) →
      Same k steps end v arguments
  each zero steps end arguments v below many =
      by-two (Same 0 steps end v)
      (λ x y is. same-by 0 (before 0) (tree_at 0) (x ∷ y ∷ []) v steps end (omega arith) refl (floor-names (before 0) 0 x y) is)
      arguments many
  each (suc zero) steps end arguments v below many =
      by-two (Same 1 steps end v)
      (λ x y is. same-by 1 (before 1) (tree_at 1) (x ∷ y ∷ []) v steps end (omega arith) refl (ceiling-names (before 1) 0 x y) is)
      arguments many
  each (suc (suc zero)) steps end arguments v below many =
      by-two (Same 2 steps end v)
      (λ x y is. same-by 2 (before 2) (tree_at 2) (x ∷ y ∷ []) v steps end (omega arith) refl (zero-names (before 2) 0 x y) is)
      arguments many
  each (suc (suc (suc zero))) steps end arguments v below many =
      by-two (Same 3 steps end v)
      (λ x y is. same-by 3 (before 3) (tree_at 3) (x ∷ y ∷ []) v steps end (omega arith) refl (nearest-names (before 3) 0 x y) is)
      arguments many
  each (suc (suc (suc (suc zero)))) steps end arguments v below many =
      by-two (Same 4 steps end v)
      (λ x y is. same-by 4 (before 4) (tree_at 4) (x ∷ y ∷ []) v steps end (omega arith) refl (away-names (before 4) 0 x y) is)
      arguments many
  each (suc (suc (suc (suc (suc zero))))) steps end arguments v below many =
      by-two (Same 5 steps end v)
      (λ x y is. same-by 5 (before 5) (tree_at 5) (x ∷ y ∷ []) v steps end (omega arith) refl (even-names (before 5) 0 x y) is)
      arguments many
  each (suc (suc (suc (suc (suc (suc zero)))))) steps end arguments v below many =
      by-three (Same 6 steps end v)
      (λ x y z is. same-by 6 (before 6) (tree_at 6) (x ∷ y ∷ z ∷ []) v steps end (omega arith) refl (clamp-names (before 6) 0 x y z) is)
      arguments many
  each (suc (suc (suc (suc (suc (suc (suc zero))))))) steps end arguments v below many =
      by-three (Same 7 steps end v)
      (λ x y z is. same-by 7 (before 7) (tree_at 7) (x ∷ y ∷ z ∷ []) v steps end (omega arith) refl (wrap-names (before 7) 0 x y z) is)
      arguments many
  each (suc (suc (suc (suc (suc (suc (suc (suc k)))))))) steps end arguments v below many = absurd (omega arith)

  -- ---- What they are for

  rounding-same : (r : Round) (v d w : ℤ) (steps end : ℕ) → Same (rounding_position r) steps end w (v ∷ d ∷ [])
  rounding-same r v d w steps end =
      let there = place-of_rounding r in each (rounding_position r) steps end (v ∷ d ∷ []) w there.0 there.1

  cast-same : (over : Over) (t : FixType) (q w : ℤ) (steps end : ℕ) →
      c.cast_call functions over t (q ∷ []) steps ≡ gives w end → cast_call nodes over t q ≡ Some w
  cast-same Saturate t q w steps end is = each 6 steps end (q ∷ least_of t ∷ greatest_of t ∷ []) w (omega arith) refl is
  cast-same Wrap t q w steps end is = each 7 steps end (q ∷ least_of t ∷ pos (2 ^ t.bits) ∷ []) w (omega arith) refl is

  converts : (case : Case) → Contains all_cases case → Converts nodes case
  converts case among t v f signed some few small =
      let d = pos (2 ^ (f - t.frac)) in
      let w = conv v f t case.round case.over in
      let go = λ (q : ℤ) (count : ℕ). c.cast_call functions case.over t (q ∷ []) count in
      let (q, mid, first, after) = given-first (function_at functions (rounding_position case.round) (v ∷ d ∷ []) 0) go w 2
      (prelude_is.converts case among t v f 0 signed some few small (omega arith)) in
      ap (option_and_then (cast_call nodes case.over t)) (rounding-same case.round v d q 0 mid first)
      ∙ cast-same case.over t q w mid 2 after

  are_functions : AreFunctions nodes
  are_functions = record {
    inputs = refl;
    outputs = refl;
    stateless = (refl, (refl, (refl, (refl, (refl, (refl, (refl, (refl, tt))))))));
    rounds = λ r v k some few small. rounding-same r v (pos (2 ^ k)) (rounded r v (2 ^ k)) 0 1
        (prelude_is.rounds r v k 0 some few small (omega arith));
    clamps = λ v lo hi. each 6 0 1 (v ∷ lo ∷ hi ∷ []) (if int_lt v lo then lo else if int_lt hi v then hi else v) (omega arith) refl
        (prelude_is.clamps v lo hi 0 (omega arith));
    wraps = λ v lo w some few low high small. each 7 0 1 (v ∷ lo ∷ pos (2 ^ w) ∷ []) (lo +ℤ int_rem_euclid (v -ℤ lo) (pos (2 ^ w)))
        (omega arith) refl (prelude_is.wraps v lo w 0 some few low high small (omega arith));
    converts = converts;
  }

pub nodes_give_the_same : NodesGiveTheSame
nodes_give_the_same more k steps end arguments v below many is = each more k steps end arguments v below many is

pub nodes_are_functions : NodesAreFunctions
nodes_are_functions more = are_functions more
