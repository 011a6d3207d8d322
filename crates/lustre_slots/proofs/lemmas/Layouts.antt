-- Where the instances of a lawful file have their slots.
use Rattle.std.proofs.Common.{◌≡◌, refl, sym, ◌∙◌, ap, ap₂, subst, ℕ, zero, suc, ◌+◌, ◌<◌, ◌≤◌, List, [], ◌∷◌, ◌++◌, length, take, drop, map, reverse, arith, slice_index, slice_index_or, get_or, get_or-take, length-take, length-append, append_assoc}
use Rattle.std.specs.Prelude.{⊤}
use Rattle.std.specs.List.{AllByRecursion, flat_map}
use Rattle.std.proofs.lemmas.Grind.{flat_map-append}
use Rattle.std.proofs.lemmas.List.{reverse-append, reverse-reverse, drop_more, drop-map}
use Rattle.lustre_syntax.specs.declared.code.LusEq.{LusEq}
use Rattle.lustre_syntax.specs.Plain.{equation_tree}
use Rattle.lustre_syntax.specs.Lawful.{IsLawful, AreNodes}
use Rattle.lustre_syntax.specs.Tree.{ExprTree, EquationTree, set, call, NodeTree, node_at, FileTree}
use Rattle.lustre_flows.specs.Instances.{by_node}
use Rattle.lustre_flows.specs.Ticks.{last_place}
use Rattle.lustre_settling.proofs.lemmas.Unfolded.{by-node-at, AreCallsFrom, calls-from, last-below}
use Rattle.lustre_slots.specs.declared.placed.Placed.{Placed}
use Rattle.lustre_slots.specs.Layout.{calls_size, node_size, sizes_of, calls_from, calls_in, IsThere, Inside, inside_at, inside_node, insides_of, with_inside, root_of, instances_of}

-- ---- Sizes

module _ (nodes : List NodeTree) (k : ℕ) where
  calls_size-same : (xs ys : List ℕ) → ((c : ℕ) → c < k → slice_index xs c ≡ slice_index ys c) → (es : List EquationTree) →
      AreCallsFrom nodes k es → calls_size xs es ≡ calls_size ys es
  calls_size-same xs ys same [] calls = refl
  calls_size-same xs ys same (set line given value ∷ es) calls = calls_size-same xs ys same es calls
  calls_size-same xs ys same (call line given callee values ∷ es) calls =
      ap₂ (λ x y. x + y) (same callee calls.0.earlier) (calls_size-same xs ys same es calls.1)

-- the slots of an instance are those of its names and of its calls
pub size-is : (f : FileTree) (k : ℕ) → IsLawful f → k < length f.nodes →
    slice_index (sizes_of f) k ≡ length (node_at f.nodes k).names + calls_size (sizes_of f) (node_at f.nodes k).equations
size-is f k lawful there =
    by-node-at node_size f.nodes k 0 there
    ∙ ap (λ n. length (node_at f.nodes k).names + n)
    (calls_size-same f.nodes k (take k (sizes_of f)) (sizes_of f) (λ c h. get_or-take k (sizes_of f) c 0 h)
    (node_at f.nodes k).equations (calls-from f.nodes k lawful.nodes there))

-- some of the calls have no more slots than all
pub calls_size-less : (sizes : List ℕ) (k : ℕ) (es : List EquationTree) → calls_size sizes (drop k es) ≤ calls_size sizes es
calls_size-less sizes zero es = omega arith
calls_size-less sizes (suc k) [] = omega arith
calls_size-less sizes (suc k) (set line given value ∷ es) = calls_size-less sizes k es
calls_size-less sizes (suc k) (call line given callee values ∷ es) = omega (arith, calls_size-less sizes k es)

-- ---- Instances inside an instance

by-node-length : {A : Type 0} (of : List A → NodeTree → A) (earlier : List A) (ns : List NodeTree) →
    length (by_node of earlier ns) ≡ length earlier + length ns
by-node-length of earlier [] = omega arith
by-node-length of earlier (n ∷ ns) =
    omega (arith, by-node-length of (earlier ++ of earlier n ∷ []) ns, length-append earlier (of earlier n ∷ []))

module _ (nodes : List NodeTree) (sizes : List ℕ) (k : ℕ) where
  inside-same : (xs ys : List Inside) →
      ((c : ℕ) → c < k → slice_index_or xs c (λ base. []) ≡ slice_index_or ys c (λ base. [])) → (at : ℕ) (es : List EquationTree) →
      AreCallsFrom nodes k es → flat_map (inside_at xs) (calls_from sizes at es) ≡ flat_map (inside_at ys) (calls_from sizes at es)
  inside-same xs ys same at [] calls = refl
  inside-same xs ys same at (set line given value ∷ es) calls = inside-same xs ys same at es calls
  inside-same xs ys same at (call line given callee values ∷ es) calls =
      ap₂ {C = List Placed} (λ x y. x ++ y) (ap (λ (i : Inside). i at) (same callee calls.0.earlier))
      (inside-same xs ys same (at + slice_index sizes callee) es calls.1)

  pub calls-there : (at : ℕ) (es : List EquationTree) → AreCallsFrom nodes k es →
      AllByRecursion (λ (p : Placed). p.node < length nodes) (calls_from sizes at es)
  calls-there at [] calls = tt
  calls-there at (set line given value ∷ es) calls = calls-there at es calls
  calls-there at (call line given callee values ∷ es) calls =
      (calls.0.there, calls-there (at + slice_index sizes callee) es calls.1)

-- an instance with those inside it begins with it, and then has those of its calls
pub inside-is : (f : FileTree) (p : Placed) → IsLawful f → IsThere f p →
    with_inside f p ≡ p ∷ flat_map (with_inside f) (calls_in f p)
inside-is f p lawful there =
    let n = node_at f.nodes p.node in
    let before : List Inside = take p.node (insides_of f) in
    let count : length before ≡ p.node =
    let all = by-node-length (inside_node (sizes_of f)) [] f.nodes in
    let cut = length-take p.node (insides_of f) in
    omega arith in
    ap (λ (i : Inside). i p.base) (by-node-at (inside_node (sizes_of f)) f.nodes p.node (λ base. []) there)
    ∙ ap₂ {C = List Placed} (λ x y. x ∷ y) (ap (λ k. record { node = k; base = p.base }) count)
    (inside-same f.nodes (sizes_of f) p.node before (insides_of f)
    (λ c h. get_or-take p.node (insides_of f) c (λ base. []) h) (p.base + length n.names) n.equations
    (calls-from f.nodes p.node lawful.nodes there))

pub in-there : (f : FileTree) (p : Placed) → IsLawful f → IsThere f p → AllByRecursion (IsThere f) (calls_in f p)
in-there f p lawful there =
    calls-there f.nodes (sizes_of f) p.node (p.base + length (node_at f.nodes p.node).names) (node_at f.nodes p.node).equations
    (calls-from f.nodes p.node lawful.nodes there)

pub root-there : (f : FileTree) → IsLawful f → IsThere f (root_of f)
root-there f lawful = last-below f.nodes lawful.last

-- ---- What holds of each item

pub all-append : {A : Type 0} (P : A → Type 0) (xs ys : List A) → AllByRecursion P xs → AllByRecursion P ys → AllByRecursion P (xs ++ ys)
all-append P [] ys a b = b
all-append P (x ∷ xs) ys a b = (a.0, all-append P xs ys a.1 b)

pub all-front : {A : Type 0} (P : A → Type 0) (xs ys : List A) → AllByRecursion P (xs ++ ys) → AllByRecursion P xs
all-front P [] ys a = tt
all-front P (x ∷ xs) ys a = (a.0, all-front P xs ys a.1)

pub all-back : {A : Type 0} (P : A → Type 0) (xs ys : List A) → AllByRecursion P (xs ++ ys) → AllByRecursion P ys
all-back P [] ys a = a
all-back P (x ∷ xs) ys a = all-back P xs ys a.1
