-- Steps of the loops over sets: one that was not seen is kept, and each has its place.
use Rattle.std.proofs.Common.{◌≡◌, ℕ, ◌+◌, ◌-◌, ◌<◌, ◌||◌, ◌⊎◌, ◌≢◌, Bool, true, false, cond, eqb, List, [], ◌∷◌, ◌++◌, length, get_or, take, Some, None, is_some, refl, sym, ap, ◌∙◌, arith, inl, inr, nat_cmp, is_eq, Option}
use Rattle.std.specs.List.{position_from}
use Rattle.std.proofs.lemmas.Bool.{cases_eq, eqb-true, eq-eqb, ne_eqb}
use Rattle.std.proofs.lemmas.Bool.Decides.{nat_tests}
use Rattle.std.proofs.lemmas.List.{take_more, get_or-take, length-take-le}
use Rattle.std.proofs.lemmas.List.Folds.{list_any-append}
use Rattle.base_core.specs.Interface.{different}
use Rattle.modules_clusters.specs.Grouping.{AreDifferent}
use Rattle.base_core.proofs.lemmas.Different.{has}
use Rattle.modules_clusters.proofs.Members.{is_some-position, position-new, position-other, found-at, different-more}

same_tests : (x y : ℕ) → is_eq (nat_cmp x y) ≡ eqb x y
same_tests x y = grind (arith, nat_tests)

module _ (xs : List ℕ) (k : ℕ) (within : k < length xs) where
  next : take (k + 1) xs ≡ take k xs ++ get_or xs k 0 ∷ []
  next = take_more xs k 0 within

  pub has-more : (x : ℕ) → has (take (k + 1) xs) x ≡ cond (is_eq (nat_cmp (get_or xs k 0) x)) true (has (take k xs) x)
  has-more x = ap (λ ys. has ys x) next ∙ list_any-append (λ y. eqb y x) (take k xs) (get_or xs k 0 ∷ [])
      ∙ by (has (take k xs) x) (eqb (get_or xs k 0) x) ∙ ap (λ r. cond r true (has (take k xs) x)) (sym (same_tests (get_or xs k 0) x))
    where
      by : (r q : Bool) → (r || (q || false)) ≡ cond q true r
      by true true = refl
      by true false = refl
      by false true = refl
      by false false = refl

  pub different-next : different (take (k + 1) xs)
      ≡ cond (has (take k xs) (get_or xs k 0)) (different (take k xs)) (different (take k xs) ++ get_or xs k 0 ∷ [])
  different-next = ap different next ∙ different-more (take k xs) (get_or xs k 0)

  module _ (apart : AreDifferent xs) where
    absent : position_from (λ y. eqb y (get_or xs k 0)) 0 (take k xs) ≡ None
    absent = by (position_from (λ y. eqb y (get_or xs k 0)) 0 (take k xs)) refl
      where
        len : length (take k xs) ≡ k
        len = length-take-le k xs (omega arith)

        by : (o : Option ℕ) → position_from (λ y. eqb y (get_or xs k 0)) 0 (take k xs) ≡ o → o ≡ None
        by None e = refl
        by (Some j) e =
            let f = found-at (λ y. eqb y (get_or xs k 0)) 0 (take k xs) j e in
            let low : j < k = (let b = f.1 in let l = len in omega arith) in
            let here : j - 0 ≡ j = omega arith in
            absurd (apart j k low within (sym (ap (λ i. get_or (take k xs) i 0) here ∙ get_or-take k xs j 0 low)
            ∙ eqb-true (get_or (take k xs) (j - 0) 0) (get_or xs k 0) f.2))

    -- the place of each, where there is one set more
    pub place-more : (x : ℕ) →
        cond (is_eq (nat_cmp (get_or xs k 0) x)) (Some k) (position_from (λ y. eqb y x) 0 (take k xs))
        ≡ position_from (λ y. eqb y x) 0 (take (k + 1) xs)
    place-more x = sym (ap (position_from (λ y. eqb y x) 0) next ∙ by (cases_eq (get_or xs k 0) x))
      where
        test : Bool → Option ℕ
        test r = cond r (Some k) (position_from (λ y. eqb y x) 0 (take k xs))

        by : (get_or xs k 0 ≡ x) ⊎ (get_or xs k 0 ≢ x) →
            position_from (λ y. eqb y x) 0 (take k xs ++ get_or xs k 0 ∷ []) ≡ test (is_eq (nat_cmp (get_or xs k 0) x))
        by (inl same) =
            position-new (λ y. eqb y x) 0 (take k xs) (get_or xs k 0)
            (sym (is_some-position (λ y. eqb y x) 0 (take k xs))
            ∙ ap is_some (ap (λ z. position_from (λ y. eqb y z) 0 (take k xs)) (sym same) ∙ absent))
            (eq-eqb (get_or xs k 0) x same)
            ∙ ap Some (let len = length-take-le k xs (omega arith) in let e : 0 + length (take k xs) ≡ k = omega arith in e)
            ∙ ap test (sym (same_tests (get_or xs k 0) x ∙ eq-eqb (get_or xs k 0) x same))
        by (inr other) =
            position-other (λ y. eqb y x) 0 (take k xs) (get_or xs k 0) (ne_eqb (get_or xs k 0) x other)
            ∙ ap test (sym (same_tests (get_or xs k 0) x ∙ ne_eqb (get_or xs k 0) x other))
