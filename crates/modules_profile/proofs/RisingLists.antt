-- Lists along which a number rises: two of them with the same members are one.
use Rattle.std.specs.Prelude.{◌≡◌, ℕ, zero, suc, ◌+◌, ◌<◌, Bool, true, false, cond, List, [], ◌∷◌, ◌++◌, map, filter, Contains, refl, ⊤}
use Rattle.std.specs.List.{range_with_len}
use Rattle.std.proofs.Common.{sym, ap, ap₂, subst, ◌∙◌, arith, inl, inr}
use Rattle.std.proofs.lemmas.List.Elements.{Contains-append_cases}
use Rattle.modules_profile.proofs.lemmas.Members.{in-none, in-first, in-rest, in-cases, of-map, of-filter, of-range}

module _ {A : Type 0} (m : A → ℕ) where
  -- the number of x is below that of each member
  abbrev pub IsBelow : A → List A → Type 0
  IsBelow x xs = (y : A) → Contains xs y → m x < m y

  abbrev pub Rising : List A → Type 0
  Rising [] = ⊤
  Rising (x ∷ xs) = IsBelow x xs × Rising xs

  pub rising-append : (xs ys : List A) → Rising xs → Rising ys → ((x y : A) → Contains xs x → Contains ys y → m x < m y) → Rising (xs ++ ys)
  rising-append [] ys up other below = other
  rising-append (x ∷ xs) ys up other below = (
    λ y h. elim (Contains-append_cases xs ys y h) [
      | inl left ↦ up.0 y left
      | inr right ↦ below x y (in-first x xs) right
    ],
    rising-append xs ys up.1 other (λ z y left right. below z y (in-rest x z xs left) right),
  )

  kept : (t : A → Bool) (x : A) (xs : List A) (b : Bool) → IsBelow x xs → Rising (filter t xs) →
      Rising (cond b (x ∷ filter t xs) (filter t xs))
  kept t x xs true low up = (λ y h. low y (of-filter t xs y h).0, up)
  kept t x xs false low up = up

  pub rising-filter : (t : A → Bool) (xs : List A) → Rising xs → Rising (filter t xs)
  rising-filter t [] up = tt
  rising-filter t (x ∷ xs) up = kept t x xs (t x) up.0 (rising-filter t xs up.1)

  first-same : (x y : A) (xs ys : List A) → IsBelow x xs → IsBelow y ys → Contains (y ∷ ys) x → Contains (x ∷ xs) y → y ≡ x
  first-same x y xs ys low other h k = elim (in-cases y x ys h) [
    | inl same ↦ same
    | inr more ↦ elim (in-cases x y xs k) [
      | inl same ↦ sym same
      | inr less ↦ absurd (let a = other x more in let b = low y less in omega (arith, a, b))
    ]
  ]

  in-later : (x y z : A) (xs ys : List A) → y ≡ x → IsBelow x xs → Contains (y ∷ ys) z → Contains xs z → Contains ys z
  in-later x y z xs ys same low h k = elim (in-cases y z ys h) [
    | inl head ↦ absurd (let up = low z k in let e : m x ≡ m z = ap m (sym same ∙ head) in omega (arith, up, e))
    | inr more ↦ more
  ]

  pub one-list : (xs ys : List A) → Rising xs → Rising ys → ((x : A) → Contains xs x → Contains ys x) →
      ((y : A) → Contains ys y → Contains xs y) → xs ≡ ys
  one-list [] [] up other to from = refl
  one-list [] (y ∷ ys) up other to from = absurd (in-none y (from y (in-first y ys)))
  one-list (x ∷ xs) [] up other to from = absurd (in-none x (to x (in-first x xs)))
  one-list (x ∷ xs) (y ∷ ys) up other to from =
      let same : y ≡ x = first-same x y xs ys up.0 other.0 (to x (in-first x xs)) (from y (in-first y ys)) in
      ap₂ ◌∷◌ (sym same) (
      one-list xs ys up.1 other.1
      (λ z h. in-later x y z xs ys same up.0 (to z (in-rest x z xs h)) h)
      (λ z h. in-later y x z ys xs (sym same) other.0 (from z (in-rest y z ys h)) h)
      )

pub rising-range : (a n : ℕ) → Rising (λ (k : ℕ). k) (range_with_len a n)
rising-range a zero = tt
rising-range a (suc n) = (λ b h. let low = (of-range (a + 1) n b h).0 in omega (arith, low), rising-range (a + 1) n)

module _ {A B : Type 0} (f : A → B) (m : A → ℕ) (n : B → ℕ) (keeps : (x y : A) → m x < m y → n (f x) < n (f y)) where
  pub rising-map : (xs : List A) → Rising m xs → Rising n (map f xs)
  rising-map [] up = tt
  rising-map (x ∷ xs) up = (
    λ y h. let from = of-map f xs y h in subst (λ z. n (f x) < n z) from.2 (keeps x from.0 (up.0 from.0 from.1)),
    rising-map xs up.1,
  )
