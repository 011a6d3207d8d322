-- Weights of the members of a list that pass a test: how they grow where more pass.
use Rattle.std.specs.Prelude.{◌≡◌, ℕ, zero, suc, ◌+◌, ◌<◌, ◌≤◌, Bool, true, false, if◌then◌else◌, List, [], ◌∷◌, length, sum_by, slice_get, Contains, Some, refl}
use Rattle.std.specs.List.{range_with_len}
use Rattle.std.proofs.Common.{sym, ap, ◌∙◌, arith, inl, inr}
use Rattle.std.proofs.lemmas.List.Sums.{sum_by-cons}
use Rattle.modules_profile.proofs.lemmas.Members.{in-none, in-first, in-rest, in-cases}
use Rattle.right_system_ticks.specs.ScheduleLaws.{AreRising}
use Rattle.right_system_ticks.proofs.Tests.{true-false}

module _ {A : Type 0} (weight : A → ℕ) where
  abbrev pub weighed : (A → Bool) → A → ℕ
  weighed test x = if test x then weight x else 0

  -- the weight of those that pass
  abbrev pub passing_weight : (A → Bool) → List A → ℕ
  passing_weight test xs = sum_by (weighed test) xs

  one-more : (p q : A → Bool) (x : A) → (p x ≡ true → q x ≡ true) → weighed p x ≤ weighed q x
  one-more p q x more = by (p x) (q x) more
    where
      by : (s t : Bool) → (s ≡ true → t ≡ true) → (if s then weight x else 0) ≤ (if t then weight x else 0)
      by true true more = omega arith
      by true false more = absurd (true-false false (more refl) refl)
      by false t more = omega arith

  pub weight-grows : (p q : A → Bool) (xs : List A) → ((x : A) → p x ≡ true → q x ≡ true) → passing_weight p xs ≤ passing_weight q xs
  weight-grows p q [] more = omega arith
  weight-grows p q (x ∷ xs) more =
      let a = sum_by-cons (weighed p) x xs in
      let b = sum_by-cons (weighed q) x xs in
      let here = one-more p q x (more x) in
      let rest = weight-grows p q xs more in
      omega (arith, a, b, here, rest)

  -- a member that passes now and didn't before
  pub weight-gains : (p q : A → Bool) (xs : List A) (y : A) → ((x : A) → p x ≡ true → q x ≡ true) → Contains xs y → p y ≡ false →
      q y ≡ true →
      passing_weight p xs + weight y ≤ passing_weight q xs
  weight-gains p q [] y more h before behind = absurd (in-none y h)
  weight-gains p q (x ∷ xs) y more h before behind =
      let a = sum_by-cons (weighed p) x xs in
      let b = sum_by-cons (weighed q) x xs in
      elim (in-cases x y xs h) [
        | inl same ↦
            let none = weighs-none x (p x) (ap p same ∙ before) in
            let all = weighs-all x (q x) (ap q same ∙ behind) in
            let is = ap weight same in
            let rest = weight-grows p q xs more in
            omega (arith, a, b, none, all, is, rest)
        | inr later ↦
            let here = one-more p q x (more x) in
            let rest = weight-gains p q xs y more later before behind in
            omega (arith, a, b, here, rest)
      ]
    where
      weighs-none : (x : A) (t : Bool) → t ≡ false → (if t then weight x else 0) ≡ 0
      weighs-none x true e = absurd (true-false true refl e)
      weighs-none x false e = refl

      weighs-all : (x : A) (t : Bool) → t ≡ true → (if t then weight x else 0) ≡ weight x
      weighs-all x true e = refl
      weighs-all x false e = absurd (true-false true refl (sym e))

  pub weight-most : (p : A → Bool) (xs : List A) → passing_weight p xs ≤ sum_by weight xs
  weight-most p [] = omega arith
  weight-most p (x ∷ xs) =
      let a = sum_by-cons (weighed p) x xs in
      let b = sum_by-cons weight x xs in
      let here = by (p x) in
      let rest = weight-most p xs in
      omega (arith, a, b, here, rest)
    where
      by : (t : Bool) → (if t then weight x else 0) ≤ weight x
      by true = omega arith
      by false = omega arith

-- a sum by places is one by what is there
pub sum-places : {A : Type 0} (g : ℕ → ℕ) (f : A → ℕ) (a : ℕ) (xs : List A) →
    ((i : ℕ) (x : A) → slice_get xs i ≡ Some x → g (a + i) ≡ f x) →
    sum_by g (range_with_len a (length xs)) ≡ sum_by f xs
sum-places g f a [] each = refl
sum-places g f a (x ∷ xs) each =
    let one = sum_by-cons g a (range_with_len (a + 1) (length xs)) in
    let two = sum_by-cons f x xs in
    let here : g a ≡ f x = ap g (let e : a ≡ a + 0 = omega arith in e) ∙ each 0 x refl in
    let rest = sum-places g f (a + 1) xs (λ i y at. ap g (let e : a + 1 + i ≡ a + suc i = omega arith in e) ∙ each (suc i) y at) in
    omega (arith, one, two, here, rest)

-- numbers that rise below a limit are no more than it
pub rising-few : (a n : ℕ) (xs : List ℕ) → AreRising xs → ((x : ℕ) → Contains xs x → a ≤ x) → ((x : ℕ) → Contains xs x → x < a + n) →
    length xs ≤ n
rising-few a n [] rises low high = omega arith
rising-few a zero (x ∷ xs) rises low high =
    absurd (let least = low x (in-first x xs) in let most = high x (in-first x xs) in omega (arith, least, most))
rising-few a (suc n) (x ∷ xs) rises low high =
    let first = low x (in-first x xs) in
    let rest = rising-few (a + 1) n xs rises.1 (λ y h. let less = rises.0 y h in omega (arith, first, less))
    (λ y h. let most = high y (in-rest x y xs h) in omega (arith, most)) in
    omega (arith, rest)
