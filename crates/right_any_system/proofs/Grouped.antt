-- Nodes with any sets of functions have groups: their different sets, sorted.
use Rattle.std.specs.Prelude.{◌⊎◌, ℕ, zero, suc, ◌<◌, ◌≤◌, ⊤, List, [], ◌∷◌, map, count_ones, IsPermutation, refl}
use Rattle.std.specs.List.{AllByRecursion}
use Rattle.std.proofs.Common.{arith, inl, inr}
use Rattle.std.proofs.lemmas.Bool.{cases_lt}
use Rattle.std.proofs.lemmas.List.Elements.{All-from_recursion, recursion_from_All}
use Rattle.std.proofs.lemmas.List.Sorted.{IsPermutation-refl, IsPermutation-sym, IsPermutation-cons, IsPermutation-trans, IsPermutation-middle, All-permutation}
use Rattle.base_core.specs.Interface.{different}
use Rattle.modules_clusters.specs.Classes.{place_of}
use Rattle.modules_clusters.specs.Grouping.{ComesBefore, AreInOrder, AreGroups}
use Rattle.modules_clusters.specs.NodeGroups.{NodeGroups}
use Rattle.modules_clusters.proofs.lemmas.Sets.{Rising, rising-different}

module _ (holds : List ℕ) where
  -- each comes before those after it
  abbrev InOrder : List ℕ → Type 0
  InOrder [] = ⊤
  InOrder (x ∷ xs) = AllByRecursion (ComesBefore holds x) xs × InOrder xs

  abbrev IsLater : ℕ → ℕ → Type 0
  IsLater x y = place_of holds x < place_of holds y

  permuted : (P : ℕ → Type 0) (xs ys : List ℕ) → IsPermutation xs ys → AllByRecursion P xs → AllByRecursion P ys
  permuted P xs ys same all = recursion_from_All P ys (All-permutation P xs ys same (All-from_recursion P xs all))

  -- a set with no fewer functions than one comes before it where its place is less
  before : (x y : ℕ) → count_ones y ≤ count_ones x → IsLater x y → ComesBefore holds x y
  before x y most later = elim (cases_lt (count_ones y) (count_ones x)) [
    | inl fewer ↦ inl fewer
    | inr as_many ↦ inr (omega arith, later)
  ]

  no-more : (x y : ℕ) → ComesBefore holds x y → count_ones y ≤ count_ones x
  no-more x y (inl fewer) = omega arith
  no-more x y (inr (same, later)) = omega arith

  before-all : (x y : ℕ) (ys : List ℕ) → count_ones y ≤ count_ones x → AllByRecursion (ComesBefore holds y) ys →
      AllByRecursion (IsLater x) ys → AllByRecursion (ComesBefore holds x) ys
  before-all x y [] most all later = tt
  before-all x y (z ∷ ys) most all later =
      let fewer = no-more y z all.0 in
      (before x z (omega arith) later.0, before-all x y ys most all.1 later.1)

  abbrev Inserted : ℕ → List ℕ → Type 0
  Inserted x ys = (zs : List ℕ) × InOrder zs × IsPermutation (x ∷ ys) zs

  insert : (x : ℕ) (ys : List ℕ) → AllByRecursion (IsLater x) ys → InOrder ys → Inserted x ys
  insert x [] later ordered = (x ∷ [], (tt, tt), IsPermutation-refl (x ∷ []))
  insert x (y ∷ ys) later ordered = by (cases_lt (count_ones x) (count_ones y)) (insert x ys later.1 ordered.1)
    where
      by : (count_ones x < count_ones y) ⊎ (count_ones y ≤ count_ones x) → Inserted x ys → Inserted x (y ∷ ys)
      by (inl fewer) (zs, sorted, same) = (
        y ∷ zs,
        (permuted (ComesBefore holds y) (x ∷ ys) zs same (inl fewer, ordered.0), sorted),
        IsPermutation-trans (x ∷ y ∷ ys) (y ∷ x ∷ ys) (y ∷ zs)
            (IsPermutation-sym (y ∷ x ∷ ys) (x ∷ y ∷ ys) (IsPermutation-middle (y ∷ []) x ys))
            (IsPermutation-cons y (x ∷ ys) zs same),
      )
      by (inr most) rest = (
        x ∷ y ∷ ys,
        ((before x y most later.0, before-all x y ys most ordered.0 later.1), ordered),
        IsPermutation-refl (x ∷ y ∷ ys),
      )

  sort : (xs : List ℕ) → Rising (place_of holds) xs → (zs : List ℕ) × InOrder zs × IsPermutation xs zs
  sort [] rising = ([], tt, IsPermutation-refl [])
  sort (x ∷ xs) rising =
      let rest = sort xs rising.1 in
      let put = insert x rest.0 (permuted (IsLater x) xs rest.0 rest.2 rising.0) rest.1 in (
        put.0,
        put.1,
        IsPermutation-trans (x ∷ xs) (x ∷ rest.0) put.0 (IsPermutation-cons x xs rest.0 rest.2) put.2,
      )

  in-order : (xs : List ℕ) → InOrder xs → AreInOrder holds xs
  in-order [] ordered i j less below = absurd (omega arith)
  in-order (x ∷ xs) ordered i zero less below = absurd (omega arith)
  in-order (x ∷ xs) ordered zero (suc j) less below = All-from_recursion (ComesBefore holds x) xs ordered.0 j 0 (omega arith)
  in-order (x ∷ xs) ordered (suc i) (suc j) less below = in-order xs ordered.1 i j (omega arith) (omega arith)

  pub groups-there : (groups : NodeGroups) × AreGroups holds groups
  groups-there =
      let sorted = sort (different holds) (rising-different holds) in (
        record { of = map (place_of sorted.0) holds; holds = sorted.0 },
        record { sets = sorted.2; in_order = in-order sorted.0 sorted.1; of = refl },
      )
