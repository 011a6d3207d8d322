-- Sums over lists.
use Rattle.std.specs.Prelude.{◌≡◌, ℕ, zero, suc, ◌+◌, ◌*◌, ◌<◌, ◌≤◌, max, Bool, true, false, cond, List, [], ◌∷◌, map, filter, sum_by, slice_get, Contains, Some, refl}
use Rattle.std.specs.List.{fold, range_with_len}
use Rattle.std.proofs.Common.{sym, ap, ap₂, subst, ◌∙◌, arith}
use Rattle.std.proofs.lemmas.List.Sums.{sum_by-cons}
use Rattle.modules_profile.proofs.lemmas.Members.{in-first, in-rest, at-in, range-at}

-- the sum of f over a list
abbrev pub total : {A : Type 0} → (A → ℕ) → List A → ℕ
total f [] = 0
total f (x ∷ xs) = f x + total f xs

pub total-is : {A : Type 0} (f : A → ℕ) (xs : List A) → sum_by f xs ≡ total f xs
total-is f [] = refl
total-is f (x ∷ xs) = sum_by-cons f x xs ∙ ap (λ n. f x + n) (total-is f xs)

pub total-map : {A B : Type 0} (f : B → ℕ) (g : A → B) (xs : List A) → total f (map g xs) ≡ total (λ x. f (g x)) xs
total-map f g [] = refl
total-map f g (x ∷ xs) = ap (λ n. f (g x) + n) (total-map f g xs)

pub total-le : {A : Type 0} (f g : A → ℕ) (xs : List A) → ((x : A) → Contains xs x → f x ≤ g x) → total f xs ≤ total g xs
total-le f g [] h = omega arith
total-le f g (x ∷ xs) h =
    let one = h x (in-first x xs) in let rest = total-le f g xs (λ y at. h y (in-rest x y xs at)) in omega (arith, one, rest)

pub total-add : {A : Type 0} (f g : A → ℕ) (xs : List A) → total (λ x. f x + g x) xs ≡ total f xs + total g xs
total-add f g [] = refl
total-add f g (x ∷ xs) = ap (λ n. f x + g x + n) (total-add f g xs) ∙ omega arith

-- a sum over those that pass is one in which the others count 0
pub total-kept : {A : Type 0} (f : A → ℕ) (test : A → Bool) (xs : List A) → total f (filter test xs) ≡ total (λ x. cond (test x) (f x) 0) xs
total-kept f test [] = refl
total-kept {A} f test (x ∷ xs) = by (test x) ∙ ap (λ n. cond (test x) (f x) 0 + n) (total-kept f test xs)
  where
    by : (r : Bool) → total f (cond r (x ∷ filter test xs) (filter test xs)) ≡ cond r (f x) 0 + total f (filter test xs)
    by true = refl
    by false = omega arith

-- fewer sum to less
pub kept-less : {A : Type 0} (f : A → ℕ) (test : A → Bool) (xs : List A) → total f (filter test xs) ≤ total f xs
kept-less f test xs =
    let kept = total-kept f test xs in
    let each = total-le (λ x. cond (test x) (f x) 0) f xs (λ x at. less (test x) (f x)) in
    omega (arith, kept, each)
  where
    less : (t : Bool) (n : ℕ) → cond t n 0 ≤ n
    less true n = omega arith
    less false n = omega arith

total-none : {A : Type 0} (f : A → ℕ) (xs : List A) → ((x : A) → Contains xs x → f x ≡ 0) → total f xs ≡ 0
total-none f [] none = refl
total-none f (x ∷ xs) none =
    let here = none x (in-first x xs) in let rest = total-none f xs (λ y h. none y (in-rest x y xs h)) in omega (arith, here, rest)

-- a member counts
pub counted : {A : Type 0} (f : A → ℕ) (xs : List A) (x : A) → Contains xs x → f x ≤ total f xs
counted {A} f xs x has = let at = at-in xs x has in by xs at.0 at.1
  where
    by : (ys : List A) (k : ℕ) → slice_get ys k ≡ Some x → f x ≤ total f ys
    by [] k e = absurd (let wrong : ⊥ = cc e in wrong)
    by (y ∷ ys) zero e = let same : y ≡ x = cc e in let value = ap f same in omega (arith, value)
    by (y ∷ ys) (suc k) e = let rest = by ys k e in omega (arith, rest)

abbrev one_if : Bool → ℕ
one_if t = cond t 1 0

-- where what passes is at one place
at-most-one : {A : Type 0} (test : A → Bool) (xs : List A) →
    ((i k : ℕ) (x y : A) → slice_get xs i ≡ Some x → slice_get xs k ≡ Some y → test x ≡ true → test y ≡ true → i ≡ k) →
    total (λ x. cond (test x) 1 0) xs ≤ 1
at-most-one test [] one = omega arith
at-most-one {A} test (x ∷ xs) one =
    by (test x) refl
    (at-most-one test xs (λ i k y z a b s t. let same : suc i ≡ suc k = one (suc i) (suc k) y z a b s t in omega (arith, same)))
  where
    others : test x ≡ true → total (λ y. one_if (test y)) xs ≡ 0
    others passes = total-none (λ y. one_if (test y)) xs (λ y h. none y (at-in xs y h) (test y) refl)
      where
        none : (y : A) → (k : ℕ) × (slice_get xs k ≡ Some y) → (t : Bool) → test y ≡ t → one_if t ≡ 0
        none y (k, at) true e = absurd (let same : 0 ≡ suc k = one 0 (suc k) x y refl at passes e in omega (arith, same))
        none y (k, at) false e = refl

    by : (t : Bool) → test x ≡ t → total (λ y. cond (test y) 1 0) xs ≤ 1 → cond t 1 0 + total (λ y. cond (test y) 1 0) xs ≤ 1
    by true e few = let none = others e in omega (arith, none)
    by false e few = omega (arith, few)

-- no two numbers that pass differ
pub one-number : (test : ℕ → Bool) (n : ℕ) →
    ((x y : ℕ) → x < n → y < n → test x ≡ true → test y ≡ true → x ≡ y) → total (λ x. cond (test x) 1 0) (range_with_len 0 n) ≤ 1
one-number test n one = at-most-one test (range_with_len 0 n) (λ i k x y here there s t.
    let first = range-at 0 n i x here in
    let second = range-at 0 n k y there in
    let low = first.0 in
    let high = second.0 in
    let a = first.1 in
    let b = second.1 in
    let same = one x y (omega (arith, low, a)) (omega (arith, high, b)) s t in
    omega (arith, a, b, same))

-- ---- Each element has one owner at most

module _ {A S : Type 0} (owns : A → S → Bool) (f : A → ℕ) (owners : List S) where
  weighed : (x : A) (ss : List S) → total (λ s. cond (owns x s) (f x) 0) ss ≡ f x * total (λ s. cond (owns x s) 1 0) ss
  weighed x [] = omega arith
  weighed x (s ∷ ss) = ap₂ (λ a b. a + b) (by (owns x s)) (weighed x ss) ∙ omega arith
    where
      by : (r : Bool) → cond r (f x) 0 ≡ f x * cond r 1 0
      by true = omega arith
      by false = omega arith

  at_most : (x : A) → total (λ s. cond (owns x s) 1 0) owners ≤ 1 → total (λ s. cond (owns x s) (f x) 0) owners ≤ f x
  at_most x one = by (total (λ s. cond (owns x s) 1 0) owners) one (weighed x owners)
    where
      by : (n : ℕ) → n ≤ 1 → total (λ s. cond (owns x s) (f x) 0) owners ≡ f x * n → total (λ s. cond (owns x s) (f x) 0) owners ≤ f x
      by zero h e = omega arith
      by (suc zero) h e = omega arith
      by (suc (suc n)) h e = absurd (omega arith)

  -- so what is summed owner by owner is no more than what is summed once
  pub by-owner : (xs : List A) → ((x : A) → Contains xs x → total (λ s. cond (owns x s) 1 0) owners ≤ 1) →
      total (λ s. total f (filter (λ x. owns x s) xs)) owners ≤ total f xs
  by-owner xs one = subst (λ n. n ≤ total f xs) (sym (same owners)) (all xs one)
    where
      same : (ss : List S) → total (λ s. total f (filter (λ x. owns x s) xs)) ss ≡ total (λ s. total (λ x. cond (owns x s) (f x) 0) xs) ss
      same [] = refl
      same (s ∷ ss) = ap₂ (λ a b. a + b) (total-kept f (λ x. owns x s) xs) (same ss)

      noughts : (ss : List S) → total (λ s. 0) ss ≡ 0
      noughts [] = refl
      noughts (s ∷ ss) = let none = noughts ss in omega arith

      all : (ys : List A) → ((x : A) → Contains ys x → total (λ s. cond (owns x s) 1 0) owners ≤ 1) →
          total (λ s. total (λ x. cond (owns x s) (f x) 0) ys) owners ≤ total f ys
      all [] one = let none = noughts owners in omega arith
      all (y ∷ ys) one =
          let split = total-add (λ s. cond (owns y s) (f y) 0) (λ s. total (λ x. cond (owns x s) (f x) 0) ys) owners in
          let first = at_most y (one y (in-first y ys)) in
          let rest = all ys (λ x at. one x (in-rest y x ys at)) in
          omega (arith, split, first, rest)

-- ---- Greatest numbers

pub fold-below : (xs : List ℕ) (a m : ℕ) → a ≤ m → ((x : ℕ) → Contains xs x → x ≤ m) → fold max a xs ≤ m
fold-below [] a m first h = first
fold-below (x ∷ xs) a m first h = fold-below xs (max a x) m (let one = h x (in-first x xs) in omega arith) (λ y at. h y (in-rest x y xs at))
