-- What is told of instances of nodes on other lines: the same, lines aside.
use Rattle.std.proofs.Common.{◌≡◌, ℕ, zero, suc, List, [], ◌∷◌, ◌++◌, Bool, true, false, map, refl, sym, ap, ◌∙◌, Option, option_map, ℤ}
use Rattle.std.specs.Prelude.{flat_map, if◌then◌else◌, slice_index_or}
use Rattle.std.specs.List.{list_all}
use Rattle.std.proofs.lemmas.List.{map-append}
use Rattle.lustre_syntax.specs.Tree.{ExprTree, EquationTree, set, call, NodeTree, equation_without_lines, node_without_lines}
use Rattle.lustre_flows.specs.declared.stuck.LusStuck.{LusStuck}
use Rattle.lustre_flows.specs.declared.stuck.LusWhy.{LusWhy}
use Rattle.lustre_flows.specs.declared.stuck.LusWhy.TheVariants.{Cycle}
use Rattle.lustre_flows.specs.Values.{Outcome, gives, waits, fails, value_at, evaluate}
use Rattle.lustre_flows.specs.Instances.{by_node, Instance, Instances, instance, values_in, calls_in, first_call, later_calls, has_value}
use Rattle.lustre_flows.specs.Ticks.{Look, look_at, look_inside, look_of, looks_of, stuck_at, failure, failures, waiting}

-- the causes of what is told
abbrev pub whys : List LusStuck → List LusWhy
whys told = map (λ (s : LusStuck). s.why) told

-- and of what looks tell
abbrev pub causes : Look → Option Instance → Instance → List LusWhy
causes look before i = whys (look before i)

abbrev pub Told : Type 0
Told = Option (List (Option ℤ)) → List (Option ℤ) → EquationTree → List LusStuck

abbrev pub IsAside : Told → Type 0
IsAside told = (before : Option (List (Option ℤ))) (values : List (Option ℤ)) (e : EquationTree) →
    whys (told before values (equation_without_lines e)) ≡ whys (told before values e)

abbrev no-causes : Option Instance → Instance → List LusWhy
no-causes before i = []

abbrev why_of : LusStuck → LusWhy
why_of s = s.why

looks-at : (looks : List Look) (k : ℕ) → causes (look_at looks k) ≡ slice_index_or (map causes looks) k no-causes
looks-at [] k = refl
looks-at (l ∷ ls) zero = refl
looks-at (l ∷ ls) (suc k) = looks-at ls k

-- ---- One equation

failure-aside : (l m : ℕ) (o : Outcome) → whys (failure l o) ≡ whys (failure m o)
failure-aside l m (gives value) = refl
failure-aside l m waits = refl
failure-aside l m (fails why) = refl

all-failures-aside : (l m : ℕ) (of : ExprTree → Outcome) (xs : List ExprTree) →
    whys (flat_map (λ x. failure l (of x)) xs) ≡ whys (flat_map (λ x. failure m (of x)) xs)
all-failures-aside l m of [] = refl
all-failures-aside l m of (x ∷ xs) =
    map-append why_of (failure l (of x)) (flat_map (λ y. failure l (of y)) xs)
    ∙ (λ i. failure-aside l m (of x) i ++ all-failures-aside l m of xs i)
    ∙ sym (map-append why_of (failure m (of x)) (flat_map (λ y. failure m (of y)) xs))

pub failures-aside : IsAside failures
failures-aside before values (set line given value) = all-failures-aside 0 line (evaluate before values) (value ∷ [])
failures-aside before values (call line given callee arguments) = all-failures-aside 0 line (evaluate before values) arguments

waits-aside : (l m : ℕ) (t : Bool) → whys (if t then [] else (stuck_at l Cycle ∷ [])) ≡ whys (if t then [] else (stuck_at m Cycle ∷ []))
waits-aside l m true = refl
waits-aside l m false = refl

pub waiting-aside : IsAside waiting
waiting-aside before values (set line given value) =
    waits-aside 0 line (list_all (λ k. has_value (value_at values k)) (given ∷ []))
waiting-aside before values (call line given callee arguments) =
    waits-aside 0 line (list_all (λ k. has_value (value_at values k)) given)

-- ---- All equations

module _ (told : Told) (aside : IsAside told) where
  told-aside : (before : Option (List (Option ℤ))) (values : List (Option ℤ)) (es : List EquationTree) →
      whys (flat_map (told before values) (map equation_without_lines es)) ≡ whys (flat_map (told before values) es)
  told-aside before values [] = refl
  told-aside before values (e ∷ es) =
      map-append why_of (told before values (equation_without_lines e))
      (flat_map (told before values) (map equation_without_lines es))
      ∙ (λ i. aside before values e i ++ told-aside before values es i)
      ∙ sym (map-append why_of (told before values e) (flat_map (told before values) es))

  -- with looks of the nodes before that tell the same
  module _ (looks ons : List Look) (same : map causes ons ≡ map causes looks) where
    look-same : (k : ℕ) (before : Option Instance) (i : Instance) → whys (look_at ons k before i) ≡ whys (look_at looks k before i)
    look-same k before i =
        let both = looks-at ons k ∙ ap (λ cs. slice_index_or cs k no-causes) same ∙ sym (looks-at looks k) in
        λ j. both j before i

    inside-aside : (before : Option Instances) (calls : Instances) (es : List EquationTree) →
        whys (look_inside ons before calls (map equation_without_lines es)) ≡ whys (look_inside looks before calls es)
    inside-aside before calls [] = refl
    inside-aside before calls (set line given value ∷ es) = inside-aside before calls es
    inside-aside before calls (call line given callee arguments ∷ es) =
        let first = option_map first_call before in
        let later = option_map later_calls before in
        map-append why_of (look_at ons callee first (first_call calls))
        (look_inside ons later (later_calls calls) (map equation_without_lines es))
        ∙ (λ i. look-same callee first (first_call calls) i ++ inside-aside later (later_calls calls) es i)
        ∙ sym (map-append why_of (look_at looks callee first (first_call calls)) (look_inside looks later (later_calls calls) es))

    node-aside : (n : NodeTree) (before : Option Instance) (i : Instance) →
        whys (look_of told ons (node_without_lines n) before i) ≡ whys (look_of told looks n before i)
    node-aside n before (instance values calls) =
        let around = option_map values_in before in
        let inner = option_map calls_in before in
        map-append why_of (flat_map (told around values) (map equation_without_lines n.equations))
        (look_inside ons inner calls (map equation_without_lines n.equations))
        ∙ (λ i. told-aside around values n.equations i ++ inside-aside inner calls n.equations i)
        ∙ sym (map-append why_of (flat_map (told around values) n.equations) (look_inside looks inner calls n.equations))

  all-aside : (looks ons : List Look) → map causes ons ≡ map causes looks → (ns : List NodeTree) →
      map causes (by_node (look_of told) ons (map node_without_lines ns)) ≡ map causes (by_node (look_of told) looks ns)
  all-aside looks ons same [] = same
  all-aside looks ons same (n ∷ ns) =
      all-aside (looks ++ look_of told looks n ∷ []) (ons ++ look_of told ons (node_without_lines n) ∷ [])
      (map-append causes ons (look_of told ons (node_without_lines n) ∷ [])
      ∙ (λ i. same i ++ (λ before left. node-aside looks ons same n before left i) ∷ [])
      ∙ sym (map-append causes looks (look_of told looks n ∷ []))) ns

  -- what the nodes' looks tell at a place
  pub looks-aside : (ns : List NodeTree) (k : ℕ) (before : Option Instance) (i : Instance) →
      whys (look_at (looks_of told (map node_without_lines ns)) k before i) ≡ whys (look_at (looks_of told ns) k before i)
  looks-aside ns k before i =
      look-same (looks_of told ns) (looks_of told (map node_without_lines ns)) (all-aside [] [] refl ns) k before i
