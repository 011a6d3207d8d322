-- Sums over lists.
use Rattle.std.specs.Prelude.{◌≡◌, ℕ, zero, suc, ◌+◌, ◌*◌, ◌≤◌, Bool, true, false, cond, List, [], ◌∷◌, map, filter, sum_by, slice_get, Contains, Some}
use Rattle.std.proofs.Common.{refl, ap, ap₂, ◌∙◌, arith}
use Rattle.std.proofs.lemmas.Option.{none-some, same_Some}
use Rattle.std.proofs.lemmas.List.Sums.{sum_by-cons}
use Rattle.modules_profile.proofs.lemmas.Members.{in-first, in-rest, at-in}

-- the sum of f over a list
abbrev pub total : {A : Type 0} → (A → ℕ) → List A → ℕ
total f [] = 0
total f (x ∷ xs) = f x + total f xs

pub total-is : {A : Type 0} (f : A → ℕ) (xs : List A) → sum_by f xs ≡ total f xs
total-is f [] = refl
total-is f (x ∷ xs) = sum_by-cons f x xs ∙ ap (λ n. f x + n) (total-is f xs)

pub total-map : {A B : Type 0} (f : B → ℕ) (g : A → B) (xs : List A) → total f (map g xs) ≡ total (λ x. f (g x)) xs
total-map f g [] = refl
total-map f g (x ∷ xs) = ap (λ n. f (g x) + n) (total-map f g xs)

pub total-add : {A : Type 0} (f g : A → ℕ) (xs : List A) → total (λ x. f x + g x) xs ≡ total f xs + total g xs
total-add f g [] = refl
total-add f g (x ∷ xs) = let rest = total-add f g xs in omega (arith, rest)

-- a sum over those that pass is one in which the others count 0
pub total-kept : {A : Type 0} (f : A → ℕ) (test : A → Bool) (xs : List A) → total f (filter test xs) ≡ total (λ x. cond (test x) (f x) 0) xs
total-kept f test [] = refl
total-kept {A} f test (x ∷ xs) = by (test x) ∙ ap (λ n. cond (test x) (f x) 0 + n) (total-kept f test xs)
  where
    by : (r : Bool) → total f (cond r (x ∷ filter test xs) (filter test xs)) ≡ cond r (f x) 0 + total f (filter test xs)
    by true = refl
    by false = omega arith

-- a member counts
pub counted-at : {A : Type 0} (f : A → ℕ) (xs : List A) (k : ℕ) (x : A) → slice_get xs k ≡ Some x → f x ≤ total f xs
counted-at f [] k x at = absurd (none-some x at)
counted-at f (y ∷ xs) zero x at = let same = ap f (same_Some y x at) in omega (arith, same)
counted-at f (y ∷ xs) (suc k) x at = let rest = counted-at f xs k x at in omega (arith, rest)

pub total-le : {A : Type 0} (f g : A → ℕ) (xs : List A) → ((x : A) → Contains xs x → f x ≤ g x) → total f xs ≤ total g xs
total-le f g [] h = omega arith
total-le f g (x ∷ xs) h = let one = h x (in-first x xs) in let rest = total-le f g xs (λ y at. h y (in-rest x y xs at)) in omega arith

total-none : {A : Type 0} (f : A → ℕ) (xs : List A) → ((x : A) → Contains xs x → f x ≡ 0) → total f xs ≡ 0
total-none f [] none = refl
total-none f (x ∷ xs) none =
    let here = none x (in-first x xs) in let rest = total-none f xs (λ y h. none y (in-rest x y xs h)) in omega (arith, here, rest)

abbrev pub one-if : Bool → ℕ
one-if t = cond t 1 0

-- where what passes is at one place
pub at-most-one : {A : Type 0} (test : A → Bool) (xs : List A) →
    ((i k : ℕ) (x y : A) → slice_get xs i ≡ Some x → slice_get xs k ≡ Some y → test x ≡ true → test y ≡ true → i ≡ k) →
    total (λ x. one-if (test x)) xs ≤ 1
at-most-one test [] one = omega arith
at-most-one {A} test (x ∷ xs) one =
    by (test x) refl
    (at-most-one test xs (λ i k y z a b s t. let same : suc i ≡ suc k = one (suc i) (suc k) y z a b s t in omega (arith, same)))
  where
    others : test x ≡ true → total (λ y. one-if (test y)) xs ≡ 0
    others passes = total-none (λ y. one-if (test y)) xs (λ y h. none y (at-in xs y h) (test y) refl)
      where
        none : (y : A) → (k : ℕ) × (slice_get xs k ≡ Some y) → (t : Bool) → test y ≡ t → one-if t ≡ 0
        none y (k, at) true e = absurd (never k (one 0 (suc k) x y refl at passes e))
          where
            never : (k : ℕ) → 0 ≡ suc k → ⊥
            never k same = omega (arith, same)
        none y (k, at) false e = refl

    by : (t : Bool) → test x ≡ t → total (λ y. one-if (test y)) xs ≤ 1 → one-if t + total (λ y. one-if (test y)) xs ≤ 1
    by true e few = let none = others e in omega (arith, none)
    by false e few = omega (arith, few)

-- ---- Each element has one owner at most

module _ {A S : Type 0} (owns : A → S → Bool) (f : A → ℕ) (owners : List S) where
  weighed : (x : A) (ss : List S) → total (λ s. cond (owns x s) (f x) 0) ss ≡ f x * total (λ s. cond (owns x s) 1 0) ss
  weighed x [] = omega arith
  weighed x (s ∷ ss) = ap₂ (λ a b. a + b) (by (owns x s)) (weighed x ss) ∙ omega arith
    where
      by : (r : Bool) → cond r (f x) 0 ≡ f x * cond r 1 0
      by true = omega arith
      by false = omega arith

  at_most : (x : A) → total (λ s. cond (owns x s) 1 0) owners ≤ 1 → total (λ s. cond (owns x s) (f x) 0) owners ≤ f x
  at_most x one = by (total (λ s. cond (owns x s) 1 0) owners) one (weighed x owners)
    where
      by : (n : ℕ) → n ≤ 1 → total (λ s. cond (owns x s) (f x) 0) owners ≡ f x * n → total (λ s. cond (owns x s) (f x) 0) owners ≤ f x
      by zero h e = omega arith
      by (suc zero) h e = omega arith
      by (suc (suc n)) h e = absurd (omega arith)

  noughts : (ss : List S) → total (λ s. 0) ss ≡ 0
  noughts [] = refl
  noughts (s ∷ ss) = let none = noughts ss in omega arith

  -- so what is summed owner by owner is no more than what is summed once
  pub by-owner : (xs : List A) → ((x : A) → Contains xs x → total (λ s. cond (owns x s) 1 0) owners ≤ 1) →
      total (λ s. total (λ x. cond (owns x s) (f x) 0) xs) owners ≤ total f xs
  by-owner [] one = let none = noughts owners in omega arith
  by-owner (y ∷ ys) one =
      let split = total-add (λ s. cond (owns y s) (f y) 0) (λ s. total (λ x. cond (owns x s) (f x) 0) ys) owners in
      let first = at_most y (one y (in-first y ys)) in
      let rest = by-owner ys (λ x at. one x (in-rest y x ys at)) in
      omega arith
