-- What passes one of two tests.
use Rattle.std.specs.Prelude.{◌≡◌, ◌⊎◌, Bool, true, false, ◌||◌, cond, List, [], ◌∷◌, ◌++◌, filter, IsPermutation, refl}
use Rattle.std.specs.List.{list_any}
use Rattle.std.proofs.Common.{sym, ap, ◌∙◌, inl, inr, true≢false}
use Rattle.std.proofs.lemmas.List.Sorted.{IsPermutation-refl, IsPermutation-sym, IsPermutation-trans, IsPermutation-cons, IsPermutation-middle}

-- what passes p passes exactly one of q and r
abbrev pub Splits : Bool → Bool → Bool → Type 0
Splits p q r = ((p ≡ false) × (q ≡ false) × (r ≡ false))
    ⊎ (((p ≡ true) × (q ≡ true) × (r ≡ false)) ⊎ ((p ≡ true) × (q ≡ false) × (r ≡ true)))

module _ {A : Type 0} (p q r : A → Bool) where
  pub split : (xs : List A) → ((x : A) → Splits (p x) (q x) (r x)) → IsPermutation (filter p xs) (filter q xs ++ filter r xs)
  split [] each = IsPermutation-refl []
  split (x ∷ xs) each = by (p x) (q x) (r x) (each x) (split xs each)
    where
      by : (s t u : Bool) → Splits s t u → IsPermutation (filter p xs) (filter q xs ++ filter r xs) →
          IsPermutation (cond s (x ∷ filter p xs) (filter p xs))
          (cond t (x ∷ filter q xs) (filter q xs) ++ cond u (x ∷ filter r xs) (filter r xs))
      by false false false which rest = rest
      by true true false which rest = IsPermutation-cons x (filter p xs) (filter q xs ++ filter r xs) rest
      by true false true which rest =
          IsPermutation-trans (x ∷ filter p xs) (x ∷ (filter q xs ++ filter r xs)) (filter q xs ++ x ∷ filter r xs)
          (IsPermutation-cons x (filter p xs) (filter q xs ++ filter r xs) rest)
          (IsPermutation-sym (filter q xs ++ x ∷ filter r xs) (x ∷ (filter q xs ++ filter r xs))
          (IsPermutation-middle (filter q xs) x (filter r xs)))
      by false false true which rest = absurd (wrong which)
        where
          wrong : Splits false false true → ⊥
          wrong (inl none) = true≢false none.2
          wrong (inr (inl one)) = true≢false (sym one.0)
          wrong (inr (inr two)) = true≢false (sym two.0)
      by false true u which rest = absurd (wrong which)
        where
          wrong : Splits false true u → ⊥
          wrong (inl none) = true≢false none.1
          wrong (inr (inl one)) = true≢false (sym one.0)
          wrong (inr (inr two)) = true≢false (sym two.0)
      by true false false which rest = absurd (wrong which)
        where
          wrong : Splits true false false → ⊥
          wrong (inl none) = true≢false none.0
          wrong (inr (inl one)) = true≢false (sym one.1)
          wrong (inr (inr two)) = true≢false (sym two.2)
      by true true true which rest = absurd (wrong which)
        where
          wrong : Splits true true true → ⊥
          wrong (inl none) = true≢false none.0
          wrong (inr (inl one)) = true≢false one.2
          wrong (inr (inr two)) = true≢false two.1

module _ {A : Type 0} (p : A → Bool) where
  pub all-kept : (xs : List A) → ((x : A) → p x ≡ true) → filter p xs ≡ xs
  all-kept [] each = refl
  all-kept (x ∷ xs) each = ap (λ t. cond t (x ∷ filter p xs) (filter p xs)) (each x) ∙ ap (λ ys. x ∷ ys) (all-kept xs each)

  pub any-never : (xs : List A) → ((x : A) → p x ≡ false) → list_any p xs ≡ false
  any-never [] each = refl
  any-never (x ∷ xs) each = ap (λ t. t || list_any p xs) (each x) ∙ any-never xs each

module _ {A : Type 0} (p q : A → Bool) where
  pub any-more : (xs : List A) → ((x : A) → p x ≡ true → q x ≡ true) → list_any p xs ≡ true → list_any q xs ≡ true
  any-more [] each is = is
  any-more (x ∷ xs) each is = by (p x) (q x) refl refl (any-more xs each) is
    where
      by : (s t : Bool) → p x ≡ s → q x ≡ t → (list_any p xs ≡ true → list_any q xs ≡ true) → (s || list_any p xs) ≡ true →
          (t || list_any q xs) ≡ true
      by s true e f later is = refl
      by true false e f later is = absurd (true≢false (sym (each x e) ∙ f))
      by false false e f later is = later is
