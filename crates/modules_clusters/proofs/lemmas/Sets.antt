-- Sets by falling number of functions: those with as many are in the order of their first places.
use Rattle.std.proofs.Common.{◌≡◌, ℕ, zero, suc, ◌+◌, ◌<◌, ◌≤◌, ◌&&◌, Bool, true, false, cond, not, eqb, List, [], ◌∷◌, length, get_or, filter, Some, None, is_some, count_ones, refl, sym, ap, subst, ◌∙◌, arith, inl, inr, nat_cmp, is_lt, option_map}
use Rattle.std.specs.Prelude.{unwrap_or, ⊤, Option}
use Rattle.std.specs.List.{AllByRecursion, position_from}
use Rattle.std.specs.List.Sorted.{IsSortedBy, IsStableBy, ties}
use Rattle.std.proofs.lemmas.Bool.{cases_lt, eqb-true, eq-eqb, ne_eqb, false≢true}
use Rattle.std.proofs.lemmas.Bool.Decides.{nat_tests}
use Rattle.std.proofs.lemmas.Cmp.{nat_cmp_total}
use Rattle.std.proofs.lemmas.List.Sorted.{ranks_by, IsStrictWeakOrder-flip, sorted_far}
use Rattle.std.proofs.lemmas.Map.Views.{any-filter_same}
use Rattle.base_core.specs.Interface.{different}
use Rattle.modules_clusters.specs.Classes.{place_of}
use Rattle.modules_clusters.specs.Grouping.{AreInOrder, AreDifferent}
use Rattle.base_core.proofs.lemmas.Different.{has, has-different}
use Rattle.modules_clusters.proofs.Members.{has-head, has-tail, is_some-position}

-- ---- Lists along which a number rises

module _ (m : ℕ → ℕ) where
  abbrev pub Rising : List ℕ → Type 0
  Rising [] = ⊤
  Rising (x ∷ xs) = AllByRecursion (λ y. m x < m y) xs × Rising xs

  kept-head : (P : ℕ → Type 0) (x : ℕ) (xs : List ℕ) (r : Bool) → P x → AllByRecursion P xs → AllByRecursion P (cond r (x ∷ xs) xs)
  kept-head P x xs true p all = (p, all)
  kept-head P x xs false p all = all

  kept-all : (P : ℕ → Type 0) (t : ℕ → Bool) (xs : List ℕ) → AllByRecursion P xs → AllByRecursion P (filter t xs)
  kept-all P t [] all = tt
  kept-all P t (x ∷ xs) all = kept-head P x (filter t xs) (t x) all.0 (kept-all P t xs all.1)

  rising-head : (x : ℕ) (xs : List ℕ) (r : Bool) → AllByRecursion (λ y. m x < m y) xs → Rising xs → Rising (cond r (x ∷ xs) xs)
  rising-head x xs true all up = (all, up)
  rising-head x xs false all up = up

  pub rising-kept : (t : ℕ → Bool) (xs : List ℕ) → Rising xs → Rising (filter t xs)
  rising-kept t [] up = tt
  rising-kept t (x ∷ xs) up = rising-head x (filter t xs) (t x) (kept-all (λ y. m x < m y) t xs up.0) (rising-kept t xs up.1)

  all-rest : (P : ℕ → Type 0) (x : ℕ) (xs : List ℕ) (r : Bool) → AllByRecursion P (cond r (x ∷ xs) xs) → AllByRecursion P xs
  all-rest P x xs true all = all.1
  all-rest P x xs false all = all

  passed : (P : ℕ → Type 0) (t : ℕ → Bool) (xs : List ℕ) (j : ℕ) → AllByRecursion P (filter t xs) → j < length xs →
      t (get_or xs j 0) ≡ true → P (get_or xs j 0)
  passed P t [] j all below passes = absurd (omega arith)
  passed P t (x ∷ xs) zero all below passes = (subst (λ r. AllByRecursion P (cond r (x ∷ filter t xs) (filter t xs))) passes all).0
  passed P t (x ∷ xs) (suc j) all below passes = passed P t xs j (all-rest P x (filter t xs) (t x) all) (omega arith) passes

  rising-rest : (x : ℕ) (xs : List ℕ) (r : Bool) → Rising (cond r (x ∷ xs) xs) → Rising xs
  rising-rest x xs true up = up.1
  rising-rest x xs false up = up

  -- of members that pass, the number of an earlier one is below that of a later one
  pub rises : (t : ℕ → Bool) (xs : List ℕ) (i j : ℕ) → Rising (filter t xs) → i < j → j < length xs →
      t (get_or xs i 0) ≡ true → t (get_or xs j 0) ≡ true → m (get_or xs i 0) < m (get_or xs j 0)
  rises t [] i j up before below one other = absurd (omega arith)
  rises t (x ∷ xs) i zero up before below one other = absurd (omega arith)
  rises t (x ∷ xs) zero (suc j) up before below one other =
      passed (λ y. m x < m y) t xs j (subst (λ r. Rising (cond r (x ∷ filter t xs) (filter t xs))) one up).0 (omega arith) other
  rises t (x ∷ xs) (suc i) (suc j) up before below one other =
      rises t xs i j (rising-rest x (filter t xs) (t x) up) (omega arith) (omega arith) one other

rising-along : (m n : ℕ → ℕ) (xs : List ℕ) → AllByRecursion (λ y. n y ≡ suc (m y)) xs → Rising m xs → Rising n xs
rising-along m n [] same up = tt
rising-along m n (x ∷ xs) same up = (on xs same.1 up.0, rising-along m n xs same.1 up.1)
  where
    on : (ys : List ℕ) → AllByRecursion (λ y. n y ≡ suc (m y)) ys → AllByRecursion (λ y. m x < m y) ys → AllByRecursion (λ y. n x < n y) ys
    on [] e all = tt
    on (y ∷ ys) e all = (let e₁ = e.0 in let e₀ = same.0 in let l = all.0 in omega arith, on ys e.1 all.1)

pub all-members : (P : ℕ → Type 0) (xs : List ℕ) → ((x : ℕ) → has xs x ≡ true → P x) → AllByRecursion P xs
all-members P [] each = tt
all-members P (x ∷ xs) each = (each x (has-head xs x), all-members P xs (λ y there. each y (has-tail xs x y there)))

-- ---- The different members rise by their first places

shifted : (t : ℕ → Bool) (i : ℕ) (xs : List ℕ) → position_from t (i + 1) xs ≡ option_map suc (position_from t i xs)
shifted t i [] = refl
shifted t i (x ∷ xs) = by (t x) (shifted t (i + 1) xs)
  where
    one : i + 1 ≡ suc i
    one = omega arith

    by : (r : Bool) → position_from t (i + 1 + 1) xs ≡ option_map suc (position_from t (i + 1) xs) →
        cond r (Some (i + 1)) (position_from t (i + 1 + 1) xs) ≡ option_map suc (cond r (Some i) (position_from t (i + 1) xs))
    by true rest = ap Some one
    by false rest = rest

later-place : (x : ℕ) (xs : List ℕ) (y : ℕ) → eqb x y ≡ false → has xs y ≡ true → place_of (x ∷ xs) y ≡ suc (place_of xs y)
later-place x xs y other there =
    ap (λ r. unwrap_or (cond r (Some 0) (position_from (λ z. eqb z y) 1 xs)) 0) other
    ∙ ap (λ o. unwrap_or o 0) (shifted (λ z. eqb z y) 0 xs)
    ∙ by (position_from (λ z. eqb z y) 0 xs) (is_some-position (λ z. eqb z y) 0 xs ∙ there)
  where
    by : (o : Option ℕ) → is_some o ≡ true → unwrap_or (option_map suc o) 0 ≡ suc (unwrap_or o 0)
    by None e = absurd (false≢true e)
    by (Some k) e = refl

pub rising-different : (xs : List ℕ) → Rising (place_of xs) (different xs)
rising-different [] = tt
rising-different (x ∷ xs) = (
  all-members (λ y. place_of (x ∷ xs) x < place_of (x ∷ xs) y) others (λ y there. let e = later y there in let z = first in omega arith),
  rising-along (place_of xs) (place_of (x ∷ xs)) others (all-members (λ y. place_of (x ∷ xs) y ≡ suc (place_of xs y)) others later)
      (rising-kept (place_of xs) (λ y. not (eqb y x)) (different xs) (rising-different xs)),
)
  where
    others : List ℕ
    others = filter (λ y. not (eqb y x)) (different xs)

    first : place_of (x ∷ xs) x ≡ 0
    first = ap (λ r. unwrap_or (cond r (Some 0) (position_from (λ z. eqb z x) 1 xs)) 0) (eq-eqb x x refl)

    later : (y : ℕ) → has others y ≡ true → place_of (x ∷ xs) y ≡ suc (place_of xs y)
    later y there = later-place x xs y other inside
      where
        both : (not (eqb y x) && has (different xs) y) ≡ true
        both = sym
            (any-filter_same (λ z. eqb z y) (λ z. not (eqb z x)) (not (eqb y x))
            (λ k same. ap (λ z. not (eqb z x)) (eqb-true k y same)) (different xs)) ∙ there

        apart : (r : Bool) → eqb y x ≡ r → (not r && has (different xs) y) ≡ true → (y ≡ x → ⊥) × (has (different xs) y ≡ true)
        apart true e b = absurd (false≢true b)
        apart false e b = (λ same. false≢true (sym e ∙ eq-eqb y x same), b)

        parts : (y ≡ x → ⊥) × (has (different xs) y ≡ true)
        parts = apart (eqb y x) refl both

        other : eqb x y ≡ false
        other = ne_eqb x y (λ same. parts.0 (sym same))

        inside : has xs y ≡ true
        inside = sym (has-different xs y) ∙ parts.1

-- ---- Sorted sets

-- whether the first has more members
abbrev pub has_more : ℕ → ℕ → Bool
has_more a b = is_lt (nat_cmp (count_ones b) (count_ones a))

tie-from_counts : (a b : ℕ) → count_ones a ≡ count_ones b → ties has_more a b ≡ true
tie-from_counts a b same = counted (count_ones a) (count_ones b) same
  where
    counted : (m n : ℕ) → m ≡ n → (not (is_lt (nat_cmp n m)) && not (is_lt (nat_cmp m n))) ≡ true
    counted m n e = grind (arith, nat_tests)

at_least : (m n : ℕ) → is_lt (nat_cmp m n) ≡ false → n ≤ m
at_least m n e = grind (arith, nat_tests)

pub sorted_sets : (holds sets : List ℕ) → IsSortedBy has_more sets → IsStableBy has_more (different holds) sets → AreInOrder holds sets
sorted_sets holds sets sorted stable i j before below =
    elim (cases_lt (count_ones (get_or sets j 0)) (count_ones (get_or sets i 0))) [
      | inl fewer ↦ inl fewer
      | inr most ↦ let same : count_ones (get_or sets i 0) ≡ count_ones (get_or sets j 0) = omega (arith, no_more) in
          inr (
            same,
            rises (place_of holds) (ties has_more (get_or sets i 0)) sets i j rising before below
                (tie-from_counts (get_or sets i 0) (get_or sets i 0) refl) (tie-from_counts (get_or sets i 0) (get_or sets j 0) same),
          )
    ]
  where
    no_more : count_ones (get_or sets j 0) ≤ count_ones (get_or sets i 0)
    no_more = at_least (count_ones (get_or sets i 0)) (count_ones (get_or sets j 0))
        (sorted_far has_more (IsStrictWeakOrder-flip (λ a b. is_lt (nat_cmp (count_ones a) (count_ones b)))
        (ranks_by nat_cmp_total count_ones)) sets sorted i j 0 (omega arith) below)

    rising : Rising (place_of holds) (filter (ties has_more (get_or sets i 0)) sets)
    rising =
        subst (Rising (place_of holds)) (sym (stable (get_or sets i 0)))
        (rising-kept (place_of holds) (ties has_more (get_or sets i 0)) (different holds) (rising-different holds))

pub different_sets : (holds sets : List ℕ) → AreInOrder holds sets → AreDifferent sets
different_sets holds sets ordered i j before below same = elim (ordered i j before below) [
  | inl fewer ↦ absurd (let e : count_ones (get_or sets i 0) ≡ count_ones (get_or sets j 0) = ap count_ones same in omega arith)
  | inr (counts, places) ↦
      absurd (let e : place_of holds (get_or sets i 0) ≡ place_of holds (get_or sets j 0) = ap (place_of holds) same in
      omega arith)
]
