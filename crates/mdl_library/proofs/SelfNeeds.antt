-- A node needs itself by its flag exactly where a walk along needs leads from it back to it.
use Rattle.std.proofs.Common.{◌≡◌, refl, sym, ◌∙◌, ap, subst, ℕ, zero, suc, ◌+◌, ◌<◌, ◌≤◌, inl, inr, Bool, true, false, true≢false, ◌||◌, cond, eqb, List, [], ◌∷◌, length, slice_index_or, Contains, map, filter, arith}
use Rattle.std.specs.List.{list_any, range_with_len}
use Rattle.std.specs.Fn.{iterate}
use Rattle.std.proofs.lemmas.Bool.{or_cases, eqb-true, eq-eqb}
use Rattle.std.proofs.lemmas.List.Elements.{All-contains, All-from_recursion}
use Rattle.std.proofs.lemmas.List.FromFn.{get_or-map-range_with_len}
use Rattle.base_graph.specs.NeedsGraph.{NeedsGraph, IsGraph}
use Rattle.base_graph.specs.Reaching as graph
use Rattle.diagram_meaning.specs.Walk.{Walk}
use Rattle.diagram_meaning.proofs.lemmas.ShortWalks.{short-walk}
use Rattle.mdl_library.specs.References.{needed_by, needing, further, needs_itself}

-- ---- Elements

-- an element that passes a test
pub any_at : {X : Type 0} (test : X → Bool) (xs : List X) (x : X) → Contains xs x → test x ≡ true → list_any test xs ≡ true
any_at test [] x (k, h, e) t = absurd (omega (arith, h))
any_at test (y ∷ ys) x (zero, h, e) t = ap (λ b. b || list_any test ys) (ap test e ∙ t)
any_at test (y ∷ ys) x (suc k, h, e) t = by_first (test y) (any_at test ys x (k, omega (arith, h), e) t)
  where
    by_first : (b : Bool) → list_any test ys ≡ true → (b || list_any test ys) ≡ true
    by_first true more = refl
    by_first false more = more

pub any_there : {X : Type 0} (test : X → Bool) (xs : List X) → list_any test xs ≡ true → (x : X) × Contains xs x × (test x ≡ true)
any_there test [] e = absurd (true≢false (sym e))
any_there test (y ∷ ys) e = elim (or_cases (test y) (list_any test ys) e) [
  | inl here ↦ (y, (0, omega arith, refl), here)
  | inr there ↦
      let found = any_there test ys there in
      (found.0, (suc found.1.0, omega (arith, found.1.1), found.1.2), found.2)
]

-- ---- What a node needs

to-edge : (edges : List (ℕ × ℕ)) (b a : ℕ) → Contains (map (λ (edge : ℕ × ℕ). edge.0) (filter (λ (edge : ℕ × ℕ). eqb edge.1 b) edges)) a →
    Contains edges (a, b)
to-edge [] b a (k, h, e) = absurd (omega (arith, h))
to-edge (edge ∷ edges) b a c = by_test (eqb edge.1 b) refl (to-edge edges b a) c
  where
    later : Contains edges (a, b) → Contains (edge ∷ edges) (a, b)
    later (k, h, e) = (suc k, omega (arith, h), e)

    by_test : (t : Bool) → eqb edge.1 b ≡ t →
        (Contains (map (λ (edge : ℕ × ℕ). edge.0) (filter (λ (edge : ℕ × ℕ). eqb edge.1 b) edges)) a → Contains edges (a, b)) →
        Contains (map (λ (edge : ℕ × ℕ). edge.0) (cond t (edge ∷ filter (λ (edge : ℕ × ℕ). eqb edge.1 b) edges)
        (filter (λ (edge : ℕ × ℕ). eqb edge.1 b) edges))) a →
        Contains (edge ∷ edges) (a, b)
    by_test true same more (zero, h, e) = (0, omega arith, λ i. (e i, eqb-true edge.1 b same i))
    by_test true same more (suc k, h, e) = later (more (k, omega (arith, h), e))
    by_test false same more c = later (more c)

from-edge : (edges : List (ℕ × ℕ)) (b a : ℕ) → Contains edges (a, b) →
    Contains (map (λ (edge : ℕ × ℕ). edge.0) (filter (λ (edge : ℕ × ℕ). eqb edge.1 b) edges)) a
from-edge [] b a (k, h, e) = absurd (omega (arith, h))
from-edge (edge ∷ edges) b a (zero, h, e) =
    subst (λ t. Contains (map (λ (edge : ℕ × ℕ). edge.0) (cond t (edge ∷ filter (λ (edge : ℕ × ℕ). eqb edge.1 b) edges)
    (filter (λ (edge : ℕ × ℕ). eqb edge.1 b) edges))) a) (sym (eq-eqb edge.1 b (ap (λ (x : ℕ × ℕ). x.1) e)))
    (0, omega arith, ap (λ (x : ℕ × ℕ). x.0) e)
from-edge (edge ∷ edges) b a (suc k, h, e) = by_test (eqb edge.1 b) (from-edge edges b a (k, omega (arith, h), e))
  where
    by_test : (t : Bool) → Contains (map (λ (edge : ℕ × ℕ). edge.0) (filter (λ (edge : ℕ × ℕ). eqb edge.1 b) edges)) a →
        Contains (map (λ (edge : ℕ × ℕ). edge.0) (cond t (edge ∷ filter (λ (edge : ℕ × ℕ). eqb edge.1 b) edges)
        (filter (λ (edge : ℕ × ℕ). eqb edge.1 b) edges))) a
    by_test true (k, h, e) = (suc k, omega (arith, h), e)
    by_test false c = c

to-walk : (g : NeedsGraph) (b : ℕ) (path : List ℕ) (a : ℕ) → graph.Walk g b path a → Walk (needed_by g) b path a
to-walk g b [] a w = from-edge g.edges b a w
to-walk g b (c ∷ path) a w = (from-edge g.edges b c w.0, to-walk g c path a w.1)

from-walk : (g : NeedsGraph) (b : ℕ) (path : List ℕ) (a : ℕ) → Walk (needed_by g) b path a → graph.Walk g b path a
from-walk g b [] a w = to-edge g.edges b a w
from-walk g b (c ∷ path) a w = (to-edge g.edges b c w.0, from-walk g c path a w.1)

-- ---- Flags

-- a flag that is set is as the node has it
flag-from : (f : ℕ → Bool) (start n a : ℕ) → slice_index_or (map f (range_with_len start n)) a false ≡ true → f (start + a) ≡ true
flag-from f start zero a e = absurd (true≢false (sym e))
flag-from f start (suc n) zero e = ap f (no_more start) ∙ e
  where
    no_more : (start : ℕ) → start + 0 ≡ start
    no_more start = omega arith
flag-from f start (suc n) (suc a) e = ap f (one_more start a) ∙ flag-from f (start + 1) n a e
  where
    one_more : (start a : ℕ) → start + suc a ≡ start + 1 + a
    one_more start a = omega arith

at-flag : (f : ℕ → Bool) (n a : ℕ) → slice_index_or (map f (range_with_len 0 n)) a false ≡ true → f a ≡ true
at-flag f n a e = ap f (no_front a) ∙ flag-from f 0 n a e
  where
    no_front : (a : ℕ) → a ≡ 0 + a
    no_front a = omega arith

module _ (g : NeedsGraph) (k : ℕ) where
  -- each flag is of a node from which a walk leads to k
  abbrev Sound : List Bool → Type 0
  Sound flags = (a : ℕ) → slice_index_or flags a false ≡ true → (path : List ℕ) × Walk (needed_by g) a path k

  -- each node from which a walk over so many nodes leads to k has a flag
  abbrev Covers : ℕ → List Bool → Type 0
  Covers n flags = (a : ℕ) (path : List ℕ) → Walk (needed_by g) a path k → length path ≤ n → slice_index_or flags a false ≡ true

  sound-first : Sound (needing g k)
  sound-first a e =
      let found = any_there (λ b. eqb b k) (needed_by g a) (at-flag (λ b. list_any (λ c. eqb c k) (needed_by g b)) g.n a e) in
      ([], subst (λ b. Contains (needed_by g a) b) (eqb-true found.0 k found.2) found.1)

  sound-further : (flags : List Bool) → Sound flags → Sound (further g flags)
  sound-further flags sound a e =
      elim (or_cases (slice_index_or flags a false) (list_any (λ b. slice_index_or flags b false) (needed_by g a))
      (at-flag (λ b. slice_index_or flags b false || list_any (λ c. slice_index_or flags c false) (needed_by g b)) g.n a e)) [
        | inl here ↦ sound a here
        | inr there ↦
            let found = any_there (λ b. slice_index_or flags b false) (needed_by g a) there in
            let walk = sound found.0 found.2 in
            (found.0 ∷ walk.0, (found.1, walk.1))
      ]

  sound-all : (n : ℕ) (flags : List Bool) → Sound flags → Sound (iterate (further g) n flags)
  sound-all zero flags sound = sound
  sound-all (suc n) flags sound = sound-all n (further g flags) (sound-further flags sound)

  module _ (inside : IsGraph g) where
    bounded : (b c : ℕ) → Contains (needed_by g b) c → b < g.n
    bounded b c h =
        (All-contains (λ (e : ℕ × ℕ). (e.0 < g.n) × (e.1 < g.n)) g.edges (c, b)
        (All-from_recursion (λ (e : ℕ × ℕ). (e.0 < g.n) × (e.1 < g.n)) g.edges inside) (to-edge g.edges b c h)).1

    flag-at : (f : ℕ → Bool) (a : ℕ) → a < g.n → f a ≡ true → slice_index_or (map f (range_with_len 0 g.n)) a false ≡ true
    flag-at f a h e = get_or-map-range_with_len f 0 g.n a a false h (no_front a) ∙ e
      where
        no_front : (a : ℕ) → 0 + a ≡ a
        no_front a = omega arith

    covers-first : Covers 0 (needing g k)
    covers-first a [] w h =
        flag-at (λ b. list_any (λ c. eqb c k) (needed_by g b)) a (bounded a k w)
        (any_at (λ c. eqb c k) (needed_by g a) k w (eq-eqb k k refl))
    covers-first a (b ∷ path) w h = absurd (omega (arith, h))

    covers-further : (n : ℕ) (flags : List Bool) → Covers n flags → Covers (suc n) (further g flags)
    covers-further n flags covers a [] w h =
        flag-at (λ b. slice_index_or flags b false || list_any (λ c. slice_index_or flags c false) (needed_by g b)) a (bounded a k w)
        (ap (λ t. t || list_any (λ c. slice_index_or flags c false) (needed_by g a)) (covers a [] w (omega arith)))
    covers-further n flags covers a (b ∷ path) w h =
        flag-at (λ b. slice_index_or flags b false || list_any (λ c. slice_index_or flags c false) (needed_by g b)) a (bounded a b w.0)
        (by_own (slice_index_or flags a false)
        (any_at (λ c. slice_index_or flags c false) (needed_by g a) b w.0 (covers b path w.1 (omega (arith, h)))))
      where
        by_own : (t : Bool) → list_any (λ c. slice_index_or flags c false) (needed_by g a) ≡ true →
            (t || list_any (λ c. slice_index_or flags c false) (needed_by g a)) ≡ true
        by_own true more = refl
        by_own false more = more

    covers-all : (m n : ℕ) (flags : List Bool) → Covers n flags → Covers (m + n) (iterate (further g) m flags)
    covers-all zero n flags covers = subst (λ x. Covers x flags) (no_front n) covers
      where
        no_front : (n : ℕ) → n ≡ 0 + n
        no_front n = omega arith
    covers-all (suc m) n flags covers =
        subst (λ x. Covers x (iterate (further g) m (further g flags))) (more m n)
        (covers-all m (suc n) (further g flags) (covers-further n flags covers))
      where
        more : (m n : ℕ) → m + suc n ≡ suc m + n
        more m n = omega arith

    pub itself_from_walk : (path : List ℕ) → graph.Walk g k path k → needs_itself g k ≡ true
    itself_from_walk path w =
        let short = short-walk (needed_by g) k g.n bounded k path (to-walk g k path k w) in
        covers-all g.n 0 (needing g k) covers-first k short.0 short.1 (omega (arith, short.2))

  pub walk_from_itself : needs_itself g k ≡ true → (path : List ℕ) × graph.Walk g k path k
  walk_from_itself e =
      let walk = sound-all g.n (needing g k) sound-first k e in (walk.0, from-walk g k walk.0 k walk.1)
