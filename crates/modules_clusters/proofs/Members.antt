-- The different members of a list and their places, for one member more.
use Rattle.std.proofs.Common.{◌≡◌, ℕ, suc, ◌+◌, ◌-◌, ◌<◌, ◌≤◌, ◌||◌, Bool, true, false, cond, not, eqb, List, [], ◌∷◌, ◌++◌, map, length, get_or, filter, Some, None, is_some, refl, sym, ap, ap₂, ◌∙◌, arith, inl, inr, length-append, append-nil, take, set}
use Rattle.std.specs.Prelude.{unwrap_or}
use Rattle.std.specs.List.{list_any, position_from}
use Rattle.std.proofs.lemmas.Bool.{eqb-true, eq-eqb, false≢true}
use Rattle.std.proofs.lemmas.Bool.Decides.{eqb_tells}
use Rattle.std.proofs.lemmas.List.{map-append, get_or-map, get_or-take, take_more, take_more_set}
use Rattle.std.proofs.lemmas.List.Elements.{filter-append}
use Rattle.std.proofs.lemmas.List.Filters.{length-filter_both}
use Rattle.base_core.specs.Interface.{different}
use Rattle.base_core.proofs.lemmas.Different.{has, has-different}
use Rattle.modules_clusters.specs.Classes.{place_of, classes_of, class_count}

-- ---- First places

module _ (t : ℕ → Bool) where
  -- whether there is one
  pub is_some-position : (i : ℕ) (xs : List ℕ) → is_some (position_from t i xs) ≡ list_any t xs
  is_some-position i [] = refl
  is_some-position i (x ∷ xs) = by (t x) (is_some-position (i + 1) xs)
    where
      by : (r : Bool) → is_some (position_from t (i + 1) xs) ≡ list_any t xs →
          is_some (cond r (Some i) (position_from t (i + 1) xs)) ≡ (r || list_any t xs)
      by true e = refl
      by false e = e

  -- one that is there stays
  pub position-kept : (i : ℕ) (xs ys : List ℕ) → list_any t xs ≡ true → position_from t i (xs ++ ys) ≡ position_from t i xs
  position-kept i [] ys there = absurd (false≢true there)
  position-kept i (x ∷ xs) ys there = by (t x) (position-kept (i + 1) xs ys) there
    where
      by : (r : Bool) → (list_any t xs ≡ true → position_from t (i + 1) (xs ++ ys) ≡ position_from t (i + 1) xs) →
          (r || list_any t xs) ≡ true →
          cond r (Some i) (position_from t (i + 1) (xs ++ ys)) ≡ cond r (Some i) (position_from t (i + 1) xs)
      by true rest e = refl
      by false rest e = rest e

  -- that of a new member
  pub position-new : (i : ℕ) (xs : List ℕ) (y : ℕ) → list_any t xs ≡ false → t y ≡ true →
      position_from t i (xs ++ y ∷ []) ≡ Some (i + length xs)
  position-new i [] y none passes = ap (λ r. cond r (Some i) None) passes ∙ ap Some (let e : i ≡ i + 0 = omega arith in e)
  position-new i (x ∷ xs) y none passes = by (t x) (λ e. position-new (i + 1) xs y e passes) none
    where
      by : (r : Bool) → (list_any t xs ≡ false → position_from t (i + 1) (xs ++ y ∷ []) ≡ Some (i + 1 + length xs)) →
          (r || list_any t xs) ≡ false →
          cond r (Some i) (position_from t (i + 1) (xs ++ y ∷ [])) ≡ Some (i + suc (length xs))
      by true rest e = absurd (false≢true (sym e))
      by false rest e = rest e ∙ ap Some (let same : i + 1 + length xs ≡ i + suc (length xs) = omega arith in same)

  -- a member that doesn't pass changes nothing
  pub position-other : (i : ℕ) (xs : List ℕ) (y : ℕ) → t y ≡ false → position_from t i (xs ++ y ∷ []) ≡ position_from t i xs
  position-other i [] y fails = ap (λ r. cond r (Some i) None) fails
  position-other i (x ∷ xs) y fails = ap (λ r. cond (t x) (Some i) r) (position-other (i + 1) xs y fails)

  -- what is at a first place passes
  pub found-at : (i : ℕ) (xs : List ℕ) (j : ℕ) → position_from t i xs ≡ Some j →
      (i ≤ j) × (j < i + length xs) × (t (get_or xs (j - i) 0) ≡ true)
  found-at i [] j e = absurd (let wrong : ⊥ = cc e in wrong)
  found-at i (x ∷ xs) j e = by (t x) refl e (found-at (i + 1) xs j)
    where
      later : (j : ℕ) → i + 1 ≤ j → get_or (x ∷ xs) (j - i) 0 ≡ get_or xs (j - (i + 1)) 0
      later j above = ap (λ k. get_or (x ∷ xs) k 0) (let e : j - i ≡ suc (j - (i + 1)) = omega arith in e)

      by : (r : Bool) → t x ≡ r → cond r (Some i) (position_from t (i + 1) xs) ≡ Some j →
          (position_from t (i + 1) xs ≡ Some j → (i + 1 ≤ j) × (j < i + 1 + length xs) × (t (get_or xs (j - (i + 1)) 0) ≡ true)) →
          (i ≤ j) × (j < i + suc (length xs)) × (t (get_or (x ∷ xs) (j - i) 0) ≡ true)
      by true p e rest = let here : i ≡ j = cc e in
          (omega arith, omega arith, ap (λ k. t (get_or (x ∷ xs) k 0)) (let none : j - i ≡ 0 = omega arith in none) ∙ p)
      by false p e rest = let r = rest e in ((let a = r.0 in omega arith), (let a = r.1 in omega arith), ap t (later j r.0) ∙ r.2)

-- ---- Members

eqb-sym : (x y : ℕ) → eqb x y ≡ eqb y x
eqb-sym x y = elim (eqb_tells x y) [
  | inl (t, e) ↦ t ∙ sym (eq-eqb y x (sym e))
  | inr (f, ne) ↦ elim (eqb_tells y x) [
    | inl (t, e) ↦ absurd (ne (sym e))
    | inr (g, other) ↦ f ∙ sym g
  ]
]

pub has-head : (xs : List ℕ) (x : ℕ) → has (x ∷ xs) x ≡ true
has-head xs x = ap (λ r. r || has xs x) (eq-eqb x x refl)

pub has-tail : (xs : List ℕ) (x y : ℕ) → has xs y ≡ true → has (x ∷ xs) y ≡ true
has-tail xs x y there = by (eqb x y)
  where
    by : (r : Bool) → (r || has xs y) ≡ true
    by true = refl
    by false = there

-- ---- Different members

-- one more
pub different-more : (xs : List ℕ) (m : ℕ) → different (xs ++ m ∷ []) ≡ cond (has xs m) (different xs) (different xs ++ m ∷ [])
different-more [] m = refl
different-more (x ∷ xs) m =
    ap (λ ys. x ∷ filter (λ y. not (eqb y x)) ys) (different-more xs m) ∙ by (has xs m) (eqb x m) (ap not (eqb-sym m x))
  where
    kept : List ℕ
    kept = filter (λ y. not (eqb y x)) (different xs)

    pushed : (q : Bool) → not (eqb m x) ≡ q → filter (λ y. not (eqb y x)) (different xs ++ m ∷ []) ≡ kept ++ cond q (m ∷ []) []
    pushed q e = filter-append (λ y. not (eqb y x)) (different xs) (m ∷ []) ∙ ap (λ r. kept ++ cond r (m ∷ []) []) e

    by : (there here : Bool) → not (eqb m x) ≡ not here →
        x ∷ filter (λ y. not (eqb y x)) (cond there (different xs) (different xs ++ m ∷ []))
        ≡ cond (here || there) (x ∷ kept) ((x ∷ kept) ++ m ∷ [])
    by true true e = refl
    by true false e = refl
    by false true e = ap (λ ys. x ∷ ys) (pushed false e ∙ append-nil kept)
    by false false e = ap (λ ys. x ∷ ys) (pushed true e)

-- a list has at least as many members
pub length-different : (xs : List ℕ) → length (different xs) ≤ length xs
length-different [] = omega arith
length-different (x ∷ xs) = let few = length-different xs in let fewer =
    length-filter_both (λ y. not (eqb y x)) (λ y. not (not (eqb y x))) (λ y. refl) (different xs) in omega arith

-- ---- Places

module _ (ds : List ℕ) where
  pub place-kept : (ys : List ℕ) (x : ℕ) → has ds x ≡ true → place_of (ds ++ ys) x ≡ place_of ds x
  place-kept ys x there = ap (λ o. unwrap_or o 0) (position-kept (λ y. eqb y x) 0 ds ys there)

  pub place-new : (m : ℕ) → has ds m ≡ false → place_of (ds ++ m ∷ []) m ≡ length ds
  place-new m none = ap (λ o. unwrap_or o 0) (position-new (λ y. eqb y m) 0 ds m none (eq-eqb m m refl))
      ∙ (let e : 0 + length ds ≡ length ds = omega arith in e)

  pub places-kept : (ys xs : List ℕ) → ((x : ℕ) → has xs x ≡ true → has ds x ≡ true) → map (place_of (ds ++ ys)) xs ≡ map (place_of ds) xs
  places-kept ys [] inside = refl
  places-kept ys (x ∷ xs) inside =
      ap₂ ◌∷◌ (place-kept ys x (inside x (has-head xs x)))
      (places-kept ys xs (λ y there. inside y (has-tail xs x y there)))

-- ---- Classes of one output more

module _ (xs : List ℕ) (m : ℕ) where
  classes-by : (ds : List ℕ) → different (xs ++ m ∷ []) ≡ ds → classes_of (xs ++ m ∷ []) ≡ map (place_of ds) xs ++ place_of ds m ∷ []
  classes-by ds e = ap (λ (es : List ℕ). map (place_of es) (xs ++ m ∷ [])) e ∙ map-append (place_of ds) xs (m ∷ [])

  module _ (none : has xs m ≡ false) where
    with-new : different (xs ++ m ∷ []) ≡ different xs ++ m ∷ []
    with-new = different-more xs m ∙ ap (λ r. cond r (different xs) (different xs ++ m ∷ [])) none

    pub classes-new : classes_of (xs ++ m ∷ []) ≡ classes_of xs ++ class_count xs ∷ []
    classes-new = classes-by (different xs ++ m ∷ []) with-new
        ∙ ap₂ (λ (front : List ℕ) (last : ℕ). front ++ last ∷ [])
        (places-kept (different xs) (m ∷ []) xs (λ x there. has-different xs x ∙ there))
        (place-new (different xs) m (has-different xs m ∙ none))

    pub count-new : class_count (xs ++ m ∷ []) ≡ class_count xs + 1
    count-new = ap length with-new ∙ length-append (different xs) (m ∷ [])

  module _ (j : ℕ) (found : position_from (λ y. eqb y m) 0 xs ≡ Some j) where
    there : has xs m ≡ true
    there = sym (is_some-position (λ y. eqb y m) 0 xs) ∙ ap is_some found

    same : different (xs ++ m ∷ []) ≡ different xs
    same = different-more xs m ∙ ap (λ r. cond r (different xs) (different xs ++ m ∷ [])) there

    pub found-below : j < length xs
    found-below = let f = (found-at (λ y. eqb y m) 0 xs j found).1 in omega arith

    equal : get_or xs j 0 ≡ m
    equal = ap (λ k. get_or xs k 0) (let e : j ≡ j - 0 = omega arith in e)
        ∙ eqb-true (get_or xs (j - 0) 0) m (found-at (λ y. eqb y m) 0 xs j found).2

    pub classes-old : classes_of (xs ++ m ∷ []) ≡ classes_of xs ++ get_or (classes_of xs) j 0 ∷ []
    classes-old = classes-by (different xs) same
        ∙ ap (λ (last : ℕ). classes_of xs ++ last ∷ [])
        (sym (get_or-map (place_of (different xs)) xs j 0 0 found-below ∙ ap (place_of (different xs)) equal))

    pub count-old : class_count (xs ++ m ∷ []) ≡ class_count xs
    count-old = ap length same

-- ---- A step of the loop over outputs

module _ (masks into : List ℕ) (k : ℕ) (within : k < length masks) (len : length into ≡ length masks)
    (so_far : take k into ≡ classes_of (take k masks)) where
  next : take (k + 1) masks ≡ take k masks ++ get_or masks k 0 ∷ []
  next = take_more masks k 0 within

  written : (c : ℕ) → take (k + 1) (set into k c) ≡ classes_of (take k masks) ++ c ∷ []
  written c = take_more_set into k c (omega arith) ∙ ap (λ front. front ++ c ∷ []) so_far

  pub old_class : (j : ℕ) → j < k → position_from (λ y. eqb y (get_or masks k 0)) 0 (take k masks) ≡ Some j →
      (take (k + 1) (set into k (get_or into j 0)) ≡ classes_of (take (k + 1) masks))
      × (class_count (take k masks) ≡ class_count (take (k + 1) masks))
  old_class j earlier found = (
    written (get_or into j 0)
        ∙ ap (λ (last : ℕ). classes_of (take k masks) ++ last ∷ []) (sym (get_or-take k into j 0 earlier)
        ∙ ap (λ (xs : List ℕ). get_or xs j 0) so_far)
        ∙ sym (ap classes_of next ∙ classes-old (take k masks) (get_or masks k 0) j found),
    sym (ap class_count next ∙ count-old (take k masks) (get_or masks k 0) j found),
  )

  pub new_class : position_from (λ y. eqb y (get_or masks k 0)) 0 (take k masks) ≡ None →
      (take (k + 1) (set into k (class_count (take k masks))) ≡ classes_of (take (k + 1) masks))
      × (class_count (take k masks) + 1 ≡ class_count (take (k + 1) masks))
  new_class found = (
    written (class_count (take k masks)) ∙ sym (ap classes_of next ∙ classes-new (take k masks) (get_or masks k 0) none),
    sym (ap class_count next ∙ count-new (take k masks) (get_or masks k 0) none),
  )
    where
      none : has (take k masks) (get_or masks k 0) ≡ false
      none = sym (is_some-position (λ y. eqb y (get_or masks k 0)) 0 (take k masks)) ∙ ap is_some found
