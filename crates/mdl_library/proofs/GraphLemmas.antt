-- The sources of a library as a graph, place by place.
use Rattle.std.proofs.Common.{◌≡◌, refl, sym, ◌∙◌, ap, subst, ℕ, zero, suc, ◌+◌, ◌<◌, ◌≤◌, Bool, true, false, cond, nat_lt, List, [], ◌∷◌, ◌++◌, length, drop, slice_get, drop_of_length-le, append_assoc, append-nil, map, flat_map, filter_map, find, position, Option, Some, None, option_map, option_and_then, is_some, true≢false, arith}
use Rattle.std.specs.Prelude.{unwrap_or, bytes_eq}
use Rattle.std.specs.Option.{option_map_or}
use Rattle.std.specs.List.{enumerate_from, position_or_len, cons_option, AllByRecursion}
use Rattle.std.proofs.lemmas.Bool.Decides.{Decides-ltb}
use Rattle.base_graph.specs.NeedsGraph.{NeedsGraph, IsGraph}
use Rattle.base_graph.specs.Reaching.{HasNoCycle}
use Rattle.mdl_tree.specs.Spelling.{Items}
use Rattle.mdl_tree.specs.Walks.{SectionTree}
use Rattle.mdl_library.specs.Given.{Given, source_given}
use Rattle.mdl_library.specs.Library.{Library, Source, named_by}
use Rattle.mdl_library.specs.References.{references_inside, needs_by, needs_of, needs_at, source_graph, needs_itself, circular_line}
use Rattle.mdl_library.proofs.SelfNeeds.{walk_from_itself}

-- ---- The sources one after another

enumerated : {X : Type 0} (start : ℕ) (xs : List X) (k : ℕ) (x : X) → slice_get xs k ≡ Some x →
    drop k (enumerate_from start xs) ≡ (start + k, x) ∷ drop (suc k) (enumerate_from start xs)
enumerated start [] k x e = absurd (true≢false (sym (ap is_some e)))
enumerated start (y ∷ ys) zero x e =
    ap (λ z. (start, z) ∷ enumerate_from (start + 1) ys) (ap (λ o. unwrap_or o x) e)
    ∙ ap (λ n. (n, x) ∷ enumerate_from (start + 1) ys) (no_more start)
  where
    no_more : (start : ℕ) → start ≡ start + 0
    no_more start = omega arith
enumerated start (y ∷ ys) (suc k) x e =
    enumerated (start + 1) ys k x e ∙ ap (λ n. (n, x) ∷ drop (suc k) (enumerate_from (start + 1) ys)) (one_more start k)
  where
    one_more : (start k : ℕ) → start + 1 + k ≡ start + suc k
    one_more start k = omega arith

-- a place that is there
pub get-some : {X : Type 0} (xs : List X) (k : ℕ) → k < length xs → slice_get xs k ≡ None → ⊥
get-some [] k h e = omega (arith, h)
get-some (x ∷ xs) zero h e = true≢false (ap is_some e)
get-some (x ∷ xs) (suc k) h e = get-some xs k (omega (arith, h)) e

-- one source more
pub edges_more : (library : Library) (k : ℕ) → k < length library.sources → (olds news whole : List (ℕ × ℕ)) →
    news ≡ olds ++ needs_at library k →
    olds ++ flat_map (needs_of library) (drop k (enumerate_from 0 library.sources)) ≡ whole →
    news ++ flat_map (needs_of library) (drop (k + 1) (enumerate_from 0 library.sources)) ≡ whole
edges_more library k h olds news whole added all = by_source (slice_get library.sources k) refl
  where
    rest : List (ℕ × ℕ)
    rest = flat_map (needs_of library) (drop (k + 1) (enumerate_from 0 library.sources))

    numbers : (k : ℕ) → 0 + k ≡ k
    numbers k = omega arith

    one_more : (k : ℕ) → suc k ≡ k + 1
    one_more k = omega arith

    by_source : (o : Option Source) → slice_get library.sources k ≡ o → news ++ rest ≡ whole
    by_source None e = absurd (get-some library.sources k h e)
    by_source (Some source) e =
        ap (λ ys. ys ++ rest) (added
        ∙ ap (λ o. olds ++ option_map_or (λ (source : Source). needs_of library (k, source)) o []) e)
        ∙ append_assoc olds (needs_of library (k, source)) rest
        ∙ ap (λ ys. olds ++ flat_map (needs_of library) ys) (sym (enumerated 0 library.sources k source e
        ∙ ap (λ n. (n, source) ∷ drop (suc k) (enumerate_from 0 library.sources)) (numbers k)
        ∙ ap (λ n. (k, source) ∷ drop n (enumerate_from 0 library.sources)) (one_more k)))
        ∙ all

length-enumerated : {X : Type 0} (start : ℕ) (xs : List X) → length (enumerate_from start xs) ≡ length xs
length-enumerated start [] = refl
length-enumerated start (x ∷ xs) = ap suc (length-enumerated (start + 1) xs)

pub edges_end : (library : Library) (k : ℕ) → length library.sources ≤ k → (olds whole : List (ℕ × ℕ)) →
    olds ++ flat_map (needs_of library) (drop k (enumerate_from 0 library.sources)) ≡ whole → olds ≡ whole
edges_end library k h olds whole all =
    sym (append-nil olds)
    ∙ ap (λ ys. olds ++ flat_map (needs_of library) ys)
    (sym (drop_of_length-le (enumerate_from 0 library.sources) (subst (λ n. n ≤ k) (sym (length-enumerated 0 library.sources)) h)))
    ∙ all

-- ---- Edges lead from source to source

position-below : {X : Type 0} (test : X → Bool) (xs : List X) (k : ℕ) → position test xs ≡ Some k → k < length xs
position-below test xs k e = by_test (nat_lt (position_or_len test xs) (length xs)) refl e
  where
    by_test : (t : Bool) → nat_lt (position_or_len test xs) (length xs) ≡ t →
        cond t (Some (position_or_len test xs)) None ≡ Some k → k < length xs
    by_test true below e =
        subst (λ n. n < length xs) (ap (λ o. unwrap_or o k) e) ((Decides-ltb (position_or_len test xs) (length xs)).0 below)
    by_test false below e = absurd (true≢false (sym (ap is_some e)))

pub named-below : (sources : List Source) (given : Given) (block : Items) (k : ℕ) → named_by sources given block ≡ Some k → k < length sources
named-below sources given block k e = by_text (source_given given block) e
  where
    by_text : (o : Option (List ℕ)) →
        option_and_then (λ text. position (λ (source : Source). bytes_eq text source.0) sources) o ≡ Some k → k < length sources
    by_text None e = absurd (true≢false (sym (ap is_some e)))
    by_text (Some text) e = position-below (λ (source : Source). bytes_eq text source.0) sources k e

abbrev Inside : ℕ → ℕ × ℕ → Type 0
Inside n edge = (edge.0 < n) × (edge.1 < n)

all-append : (n : ℕ) (xs ys : List (ℕ × ℕ)) → AllByRecursion (Inside n) xs → AllByRecursion (Inside n) ys → AllByRecursion (Inside n) (xs ++ ys)
all-append n [] ys h k = k
all-append n (x ∷ xs) ys h k = (h.0, all-append n xs ys h.1 k)

needs-inside : (library : Library) (place : ℕ) (references : List SectionTree) → place < length library.sources →
    AllByRecursion (Inside (length library.sources)) (needs_by library place references)
needs-inside library place [] h = tt
needs-inside library place (r ∷ rest) h =
    by_named (named_by library.sources library.given r.items) (named-below library.sources library.given r.items) (needs-inside library place rest h)
  where
    n : ℕ
    n = length library.sources

    by_named : (o : Option ℕ) → ((k : ℕ) → o ≡ Some k → k < n) → AllByRecursion (Inside n) (needs_by library place rest) →
        AllByRecursion (Inside n)
        (map (λ named. (named, place))
        (cons_option o (filter_map (λ (s : SectionTree). named_by library.sources library.given s.items) rest)))
    by_named None below more = more
    by_named (Some k) below more = ((below k refl, h), more)

sources-inside : (library : Library) (start : ℕ) (xs : List Source) → start + length xs ≤ length library.sources →
    AllByRecursion (Inside (length library.sources)) (flat_map (needs_of library) (enumerate_from start xs))
sources-inside library start [] h = tt
sources-inside library start (source ∷ xs) h =
    all-append (length library.sources) (needs_of library (start, source)) (flat_map (needs_of library) (enumerate_from (start + 1) xs))
    (needs-inside library start (references_inside source.1.items) (omega (arith, h)))
    (sources-inside library (start + 1) xs (omega (arith, h)))

pub is_graph : (library : Library) → IsGraph (source_graph library)
is_graph library = sources-inside library 0 library.sources (no_front (length library.sources))
  where
    no_front : (n : ℕ) → 0 + n ≤ n
    no_front n = omega arith

-- ---- The first that needs itself

-- those from a place on
abbrev pub circular_from : Library → ℕ → Option ℕ
circular_from library k =
    option_map (λ (source : ℕ × Source). source.1.1.line)
    (find (λ (source : ℕ × Source). needs_itself (source_graph library) source.0) (drop k (enumerate_from 0 library.sources)))

circular-at : (library : Library) (k : ℕ) (source : Source) → slice_get library.sources k ≡ Some source →
    circular_from library k
    ≡ option_map (λ (source : ℕ × Source). source.1.1.line)
    (cond (needs_itself (source_graph library) k) (Some (k, source))
    (find (λ (source : ℕ × Source). needs_itself (source_graph library) source.0) (drop (k + 1) (enumerate_from 0 library.sources))))
circular-at library k source e =
    ap (λ ys. option_map (λ (source : ℕ × Source). source.1.1.line)
    (find (λ (source : ℕ × Source). needs_itself (source_graph library) source.0) ys))
    (enumerated 0 library.sources k source e
    ∙ ap (λ n. (n, source) ∷ drop (suc k) (enumerate_from 0 library.sources)) (numbers k)
    ∙ ap (λ n. (k, source) ∷ drop n (enumerate_from 0 library.sources)) (one_more k))
  where
    numbers : (k : ℕ) → 0 + k ≡ k
    numbers k = omega arith

    one_more : (k : ℕ) → suc k ≡ k + 1
    one_more k = omega arith

pub circular_pass : (library : Library) (k : ℕ) → k < length library.sources → needs_itself (source_graph library) k ≡ false →
    (whole : Option ℕ) → circular_from library k ≡ whole → circular_from library (k + 1) ≡ whole
circular_pass library k h plain whole all = by_source (slice_get library.sources k) refl
  where
    by_source : (o : Option Source) → slice_get library.sources k ≡ o → circular_from library (k + 1) ≡ whole
    by_source None e = absurd (get-some library.sources k h e)
    by_source (Some source) e =
        sym (circular-at library k source e ∙ ap (λ t. option_map (λ (source : ℕ × Source). source.1.1.line)
        (cond t (Some (k, source))
        (find (λ (source : ℕ × Source). needs_itself (source_graph library) source.0) (drop (k + 1) (enumerate_from 0 library.sources)))))
        plain) ∙ all

pub circular_here : (library : Library) (k : ℕ) → k < length library.sources → needs_itself (source_graph library) k ≡ true →
    (whole : Option ℕ) → circular_from library k ≡ whole →
    option_map (λ (source : Source). source.1.line) (slice_get library.sources k) ≡ whole
circular_here library k h needs whole all = by_source (slice_get library.sources k) refl
  where
    by_source : (o : Option Source) → slice_get library.sources k ≡ o → option_map (λ (source : Source). source.1.line) o ≡ whole
    by_source None e = absurd (get-some library.sources k h e)
    by_source (Some source) e =
        sym (circular-at library k source e ∙ ap (λ t. option_map (λ (source : ℕ × Source). source.1.1.line)
        (cond t (Some (k, source))
        (find (λ (source : ℕ × Source). needs_itself (source_graph library) source.0) (drop (k + 1) (enumerate_from 0 library.sources)))))
        needs) ∙ all

pub circular_end : (library : Library) (k : ℕ) → length library.sources ≤ k → (whole : Option ℕ) →
    circular_from library k ≡ whole → None ≡ whole
circular_end library k h whole all =
    sym (ap (λ ys. option_map (λ (source : ℕ × Source). source.1.1.line)
    (find (λ (source : ℕ × Source). needs_itself (source_graph library) source.0) ys))
    (drop_of_length-le (enumerate_from 0 library.sources) (subst (λ n. n ≤ k) (sym (length-enumerated 0 library.sources)) h))) ∙ all

-- where none needs itself there is none
pub circular_none : (library : Library) → ((k : ℕ) → needs_itself (source_graph library) k ≡ false) → None ≡ circular_line library
circular_none library plain = go (enumerate_from 0 library.sources)
  where
    go : (xs : List (ℕ × Source)) →
        None ≡ option_map (λ (source : ℕ × Source). source.1.1.line)
        (find (λ (source : ℕ × Source). needs_itself (source_graph library) source.0) xs)
    go [] = refl
    go (x ∷ xs) =
        go xs ∙ sym (ap (λ t. option_map (λ (source : ℕ × Source). source.1.1.line)
        (cond t (Some x) (find (λ (source : ℕ × Source). needs_itself (source_graph library) source.0) xs))) (plain x.0))

-- without a cycle no node needs itself
pub no_circle : (g : NeedsGraph) → HasNoCycle g → (k : ℕ) → needs_itself g k ≡ false
no_circle g none k = by_test (needs_itself g k) refl
  where
    by_test : (t : Bool) → needs_itself g k ≡ t → t ≡ false
    by_test true e = absurd (let walk = walk_from_itself g k e in none (k ∷ walk.0) walk.1)
    by_test false e = refl
