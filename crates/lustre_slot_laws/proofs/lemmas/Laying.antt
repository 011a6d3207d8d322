-- The values of slots as those of instances.
use Rattle.std.proofs.Common.{◌≡◌, refl, sym, ◌∙◌, ap, ap₂, ℕ, zero, suc, ◌+◌, ◌-◌, ◌<◌, ◌≤◌, ℤ, List, [], ◌∷◌, ◌++◌, length, take, drop, map, arith, slice_get, slice_index, slice_index_or, Option, Some, None}
use Rattle.std.specs.Prelude.{option_map}
use Rattle.std.proofs.Math.ListN.{get_or-map}
use Rattle.std.proofs.lemmas.List.{drop-drop, take-take, get_or-drop, get_or-take, length-replicate, map-append, drop-take}
use Rattle.lustre_syntax.specs.Lawful.{IsLawful}
use Rattle.lustre_syntax.specs.Tree.{ExprTree, EquationTree, set, call, NodeTree, node_at, FileTree}
use Rattle.lustre_flows.specs.Values.{value_of, value_at, read}
use Rattle.lustre_flows.specs.Instances.{by_node, Instance, Instances, instance, values_in, calls_in, first_call, later_calls, no_instance, fresh, fresh_calls, fresh_instances, name_count, name_counts}
use Rattle.lustre_settling.proofs.lemmas.Unfolded.{fresh-unfolded}
use Rattle.lustre_slots.specs.declared.placed.Placed.{Placed}
use Rattle.lustre_slots.specs.Layout.{calls_size, node_size, sizes_of, IsThere}
use Rattle.lustre_slot_laws.specs.Laid.{laid, all_laid}
use Rattle.lustre_slot_laws.specs.Outcomes.{names_of}

-- ---- Options

pub maps : {A B C : Type 0} (g : B → C) (h : A → B) (k : A → C) (o : Option A) → ((x : A) → g (h x) ≡ k x) →
    option_map g (option_map h o) ≡ option_map k o
maps g h k None same = refl
maps g h k (Some x) same = ap Some (same x)

-- ---- Sizes

calls-counted : (earlier : List Instance) (es : List EquationTree) →
    calls_size (map name_count earlier) es ≡ name_counts (fresh_calls earlier es)
calls-counted earlier [] = refl
calls-counted earlier (set line given value ∷ es) = calls-counted earlier es
calls-counted earlier (call line given callee values ∷ es) =
    ap₂ (λ x y. x + y) (get_or-map name_count earlier callee no_instance) (calls-counted earlier es)

sizes-counted : (earlier : List Instance) (ns : List NodeTree) →
    by_node node_size (map name_count earlier) ns ≡ map name_count (by_node fresh earlier ns)
sizes-counted earlier [] = refl
sizes-counted earlier (n ∷ ns) =
    let here : node_size (map name_count earlier) n ≡ name_count (fresh earlier n) =
    ap₂ (λ x y. x + y) (sym (length-replicate (length n.names) None)) (calls-counted earlier n.equations) in
    ap (λ sizes. by_node node_size sizes ns)
    (ap (λ k. map name_count earlier ++ k ∷ []) here ∙ sym (map-append name_count earlier (fresh earlier n ∷ [])))
    ∙ sizes-counted (earlier ++ fresh earlier n ∷ []) ns

-- an instance of the node at a place, where no name has a value
abbrev pub shape_at : FileTree → ℕ → Instance
shape_at f k = slice_index_or (fresh_instances f.nodes) k no_instance

-- its slots are as many as its names and those of its calls
pub size-counted : (f : FileTree) (k : ℕ) → slice_index (sizes_of f) k ≡ name_count (shape_at f k)
size-counted f k =
    ap (λ sizes. slice_index sizes k) (sizes-counted [] f.nodes) ∙ get_or-map name_count (fresh_instances f.nodes) k no_instance

-- ---- Values laid out

pub laid-at : (f : FileTree) (k : ℕ) (v : List (Option ℤ)) → IsLawful f → k < length f.nodes →
    laid v (shape_at f k) ≡ instance (take (length (node_at f.nodes k).names) v)
    (all_laid (drop (length (node_at f.nodes k).names) v) (fresh_calls (fresh_instances f.nodes) (node_at f.nodes k).equations))
laid-at f k v lawful there =
    let n = node_at f.nodes k in
    ap (laid v) (fresh-unfolded f.nodes lawful.nodes k there)
    ∙ ap (λ m. instance (take m v) (all_laid (drop m v) (fresh_calls (fresh_instances f.nodes) n.equations)))
    (length-replicate (length n.names) None)

pub placed-at : (f : FileTree) (p : Placed) (v : List (Option ℤ)) → IsLawful f → IsThere f p →
    laid (drop p.base v) (shape_at f p.node) ≡ instance (names_of f p v)
    (all_laid (drop (p.base + length (node_at f.nodes p.node).names) v)
    (fresh_calls (fresh_instances f.nodes) (node_at f.nodes p.node).equations))
placed-at f p v lawful there =
    let n = node_at f.nodes p.node in
    laid-at f p.node (drop p.base v) lawful there
    ∙ ap (λ vs. instance (names_of f p v) (all_laid vs (fresh_calls (fresh_instances f.nodes) n.equations)))
    (drop-drop (length n.names) p.base v)

-- the value of a name of an instance
pub name-value : (f : FileTree) (p : Placed) (v : List (Option ℤ)) (k : ℕ) → k < length (node_at f.nodes p.node).names →
    value_at (names_of f p v) k ≡ value_at v (p.base + k)
name-value f p v k small = get_or-take (length (node_at f.nodes p.node).names) (drop p.base v) k None small ∙ get_or-drop p.base v k None

-- some values of an instance, after others
pub piece : {A : Type 0} (o i n a : ℕ) (v : List A) → i + o ≤ n → take o (drop i (take n (drop a v))) ≡ take o (drop (a + i) v)
piece o i n a v room =
    let whole : n ≡ i + (n - i) = omega arith in
    ap (λ m. take o (drop i (take m (drop a v)))) whole
    ∙ ap (take o) (drop-take i (n - i) (drop a v))
    ∙ take-take o (n - i) (drop i (drop a v)) (omega arith) ∙ ap (take o) (drop-drop i a v)

pub value-read : (o : Option ℤ) → value_of (read o) ≡ o
value-read None = refl
value-read (Some v) = refl

-- an equation that is there
pub equation-there : (es : List EquationTree) (i : ℕ) (e : EquationTree) (rest : List EquationTree) → drop i es ≡ e ∷ rest → slice_get es i ≡ Some e
equation-there [] zero e rest is = absurd (cc)
equation-there [] (suc i) e rest is = absurd (cc)
equation-there (x ∷ es) zero e rest is = let same : x ≡ e = cc in ap Some same
equation-there (x ∷ es) (suc i) e rest is = equation-there es i e rest is

-- ---- The same at the tick before, if there was one

abbrev pub laid-calls : FileTree → ℕ → List EquationTree → List (Option ℤ) → Instances
laid-calls f at es v = all_laid (drop at v) (fresh_calls (fresh_instances f.nodes) es)

abbrev pub before-of : FileTree → Option (List (Option ℤ)) → Placed → Option Instance
before-of f before p = option_map (λ v. laid (drop p.base v) (shape_at f p.node)) before

module _ (f : FileTree) where
  -- the calls after the first
  pub later-laid : (at c : ℕ) (es : List EquationTree) (v : List (Option ℤ)) →
      all_laid (drop (name_count (shape_at f c)) (drop at v)) (fresh_calls (fresh_instances f.nodes) es)
      ≡ laid-calls f (at + slice_index (sizes_of f) c) es v
  later-laid at c es v =
      ap (λ xs. all_laid xs (fresh_calls (fresh_instances f.nodes) es))
      (drop-drop (name_count (shape_at f c)) at v ∙ ap (λ k. drop (at + k) v) (sym (size-counted f c)))

  module _ (before : Option (List (Option ℤ))) where
    pub first-before : (at line : ℕ) (given : List ℕ) (c : ℕ) (arguments : List ExprTree) (es : List EquationTree) →
        option_map first_call (option_map (laid-calls f at (call line given c arguments ∷ es)) before)
        ≡ before-of f before (record { node = c; base = at })
    first-before at line given c arguments es =
        maps first_call (laid-calls f at (call line given c arguments ∷ es)) (λ v. laid (drop at v) (shape_at f c)) before (λ v. refl)

    pub later-before : (at line : ℕ) (given : List ℕ) (c : ℕ) (arguments : List ExprTree) (es : List EquationTree) →
        option_map later_calls (option_map (laid-calls f at (call line given c arguments ∷ es)) before)
        ≡ option_map (laid-calls f (at + slice_index (sizes_of f) c) es) before
    later-before at line given c arguments es =
        maps later_calls (laid-calls f at (call line given c arguments ∷ es)) (laid-calls f (at + slice_index (sizes_of f) c) es) before
        (λ v. later-laid at c es v)

    pub values-before : (p : Placed) → IsLawful f → IsThere f p →
        option_map values_in (before-of f before p) ≡ option_map (names_of f p) before
    values-before p lawful there =
        maps values_in (λ v. laid (drop p.base v) (shape_at f p.node)) (names_of f p) before (λ v. ap values_in (placed-at f p v lawful there))

    pub calls-before : (p : Placed) → IsLawful f → IsThere f p → option_map calls_in (before-of f before p)
        ≡ option_map (laid-calls f (p.base + length (node_at f.nodes p.node).names) (node_at f.nodes p.node).equations) before
    calls-before p lawful there =
        maps calls_in (λ v. laid (drop p.base v) (shape_at f p.node))
        (laid-calls f (p.base + length (node_at f.nodes p.node).names) (node_at f.nodes p.node).equations) before
        (λ v. ap calls_in (placed-at f p v lawful there))
