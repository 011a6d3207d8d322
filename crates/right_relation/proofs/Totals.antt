-- Sums over lists, and over the rows of systems, of which each row has one.
use Rattle.std.specs.Prelude.{◌≡◌, ℕ, zero, suc, ◌+◌, ◌*◌, ◌<◌, ◌≤◌, max, Bool, true, false, cond, ◌==◌, List, [], ◌∷◌, map, filter, filter_map, length, sum_by, Contains, Option, Some, None}
use Rattle.std.specs.List.{fold, cons_option, range_with_len}
use Rattle.std.proofs.Common.{refl, sym, ap, ap₂, subst, ◌∙◌, arith}
use Rattle.std.proofs.lemmas.Bool.{eqb-true, ne_eqb}
use Rattle.std.proofs.lemmas.List.Sums.{sum_by-cons}
use Rattle.diagram_meaning.specs.Rows.{same_system}
use Rattle.right_relation.proofs.Lists.{in-first, in-rest}

-- the sum of f over a list
abbrev pub total : {A : Type 0} → (A → ℕ) → List A → ℕ
total f [] = 0
total f (x ∷ xs) = f x + total f xs

pub total-is : {A : Type 0} (f : A → ℕ) (xs : List A) → sum_by f xs ≡ total f xs
total-is f [] = refl
total-is f (x ∷ xs) = sum_by-cons f x xs ∙ ap (λ n. f x + n) (total-is f xs)

pub total-cons : {A : Type 0} (f : A → ℕ) (x : A) (xs : List A) → total f (x ∷ xs) ≡ f x + total f xs
total-cons f x xs = refl

pub total-map : {A B : Type 0} (f : B → ℕ) (g : A → B) (xs : List A) → total f (map g xs) ≡ total (λ x. f (g x)) xs
total-map f g [] = refl
total-map f g (x ∷ xs) = ap (λ n. f (g x) + n) (total-map f g xs)

pub total-le : {A : Type 0} (f g : A → ℕ) (xs : List A) → ((x : A) → Contains xs x → f x ≤ g x) → total f xs ≤ total g xs
total-le f g [] h = omega arith
total-le f g (x ∷ xs) h = let one = h x (in-first x xs) in let rest = total-le f g xs (λ y at. h y (in-rest x y xs at)) in omega arith

pub total-add : {A : Type 0} (f g : A → ℕ) (xs : List A) → total (λ x. f x + g x) xs ≡ total f xs + total g xs
total-add f g [] = refl
total-add f g (x ∷ xs) = ap (λ n. f x + g x + n) (total-add f g xs) ∙ omega arith

pub total-times : {A : Type 0} (k : ℕ) (f : A → ℕ) (xs : List A) → total (λ x. k * f x) xs ≡ k * total f xs
total-times k f [] = omega arith
total-times k f (x ∷ xs) = ap (λ n. k * f x + n) (total-times k f xs) ∙ omega arith

pub total-one : {A : Type 0} (xs : List A) → total (λ x. 1) xs ≡ length xs
total-one [] = refl
total-one (x ∷ xs) = let rest = total-one xs in omega arith

-- a sum over those that pass is one in which the others count 0
pub total-kept : {A : Type 0} (f : A → ℕ) (test : A → Bool) (xs : List A) → total f (filter test xs) ≡ total (λ x. cond (test x) (f x) 0) xs
total-kept f test [] = refl
total-kept {A} f test (x ∷ xs) = by (test x) ∙ ap (λ n. cond (test x) (f x) 0 + n) (total-kept f test xs)
  where
    by : (r : Bool) → total f (cond r (x ∷ filter test xs) (filter test xs)) ≡ cond r (f x) 0 + total f (filter test xs)
    by true = refl
    by false = omega arith

-- ---- Each element has one owner at most

module _ {A S : Type 0} (owns : A → S → Bool) (f : A → ℕ) (owners : List S) (one : (x : A) →
    total (λ s. cond (owns x s) 1 0) owners ≤ 1) where
  weighed : (x : A) (ss : List S) → total (λ s. cond (owns x s) (f x) 0) ss ≡ f x * total (λ s. cond (owns x s) 1 0) ss
  weighed x [] = omega arith
  weighed x (s ∷ ss) = ap₂ (λ a b. a + b) (by (owns x s)) (weighed x ss) ∙ omega arith
    where
      by : (r : Bool) → cond r (f x) 0 ≡ f x * cond r 1 0
      by true = omega arith
      by false = omega arith

  at_most : (x : A) → total (λ s. cond (owns x s) (f x) 0) owners ≤ f x
  at_most x = by (total (λ s. cond (owns x s) 1 0) owners) (one x) (weighed x owners)
    where
      by : (n : ℕ) → n ≤ 1 → total (λ s. cond (owns x s) (f x) 0) owners ≡ f x * n → total (λ s. cond (owns x s) (f x) 0) owners ≤ f x
      by zero h e = omega arith
      by (suc zero) h e = omega arith
      by (suc (suc n)) h e = absurd (omega arith)

  -- so what is summed owner by owner is no more than what is summed once
  pub by-owner : (xs : List A) → total (λ s. total f (filter (λ x. owns x s) xs)) owners ≤ total f xs
  by-owner xs = subst (λ n. n ≤ total f xs) (sym (same owners)) (all xs)
    where
      same : (ss : List S) → total (λ s. total f (filter (λ x. owns x s) xs)) ss ≡ total (λ s. total (λ x. cond (owns x s) (f x) 0) xs) ss
      same [] = refl
      same (s ∷ ss) = ap₂ (λ a b. a + b) (total-kept f (λ x. owns x s) xs) (same ss)

      noughts : (ss : List S) → total (λ s. 0) ss ≡ 0
      noughts [] = refl
      noughts (s ∷ ss) = let none = noughts ss in omega arith

      all : (ys : List A) → total (λ s. total (λ x. cond (owns x s) (f x) 0) ys) owners ≤ total f ys
      all [] = let none = noughts owners in omega arith
      all (y ∷ ys) =
          let split = total-add (λ s. cond (owns y s) (f y) 0) (λ s. total (λ x. cond (owns x s) (f x) 0) ys) owners in
          let first = at_most y in
          let rest = all ys in
          omega arith

-- ---- The owners of rows: no two of these systems are one

none-later : (o a n : ℕ) (test : ℕ → Bool) → o < a →
    total (λ s. cond (same_system (Some o) s) 1 0) (map Some (filter test (range_with_len a n))) ≡ 0
none-later o a zero test less = refl
none-later o a (suc n) test less = by (test a) (none-later o (a + 1) n test (omega arith))
  where
    by : (r : Bool) → total (λ s. cond (same_system (Some o) s) 1 0) (map Some (filter test (range_with_len (a + 1) n))) ≡ 0 →
        total (λ s. cond (same_system (Some o) s) 1 0)
        (map Some (cond r (a ∷ filter test (range_with_len (a + 1) n)) (filter test (range_with_len (a + 1) n))))
        ≡ 0
    by true rest =
        ap (λ q. cond q 1 0 + total (λ s. cond (same_system (Some o) s) 1 0)
        (map Some (filter test (range_with_len (a + 1) n)))) (ne_eqb a o (λ e. omega arith))
        ∙ (let none = rest in omega arith)
    by false rest = rest

pub one-subsystem : (o a n : ℕ) (test : ℕ → Bool) →
    total (λ s. cond (same_system (Some o) s) 1 0) (map Some (filter test (range_with_len a n))) ≤ 1
one-subsystem o a zero test = omega arith
one-subsystem o a (suc n) test = by (test a) (a == o) refl (one-subsystem o (a + 1) n test)
  where
    rest : ℕ
    rest = total (λ s. cond (same_system (Some o) s) 1 0) (map Some (filter test (range_with_len (a + 1) n)))

    by : (r q : Bool) → (a == o) ≡ q → rest ≤ 1 →
        total (λ s. cond (same_system (Some o) s) 1 0)
        (map Some (cond r (a ∷ filter test (range_with_len (a + 1) n)) (filter test (range_with_len (a + 1) n))))
        ≤ 1
    by false q is few = few
    by true true is few =
        let e = eqb-true a o is in
        let none = none-later o (a + 1) n test (omega arith) in
        subst (λ x. cond x 1 0 + rest ≤ 1) (sym is) (omega arith)
    by true false is few = subst (λ x. cond x 1 0 + rest ≤ 1) (sym is) (let no_more = few in omega arith)

no-root : (es : List ℕ) → total (λ s. cond (same_system None s) 1 0) (map Some es) ≡ 0
no-root [] = refl
no-root (e ∷ es) = let none = no-root es in omega arith

-- the root, and those of some rows in order
pub one-owner : (o : Option ℕ) (n : ℕ) (test : ℕ → Bool) →
    total (λ s. cond (same_system o s) 1 0) (None ∷ map Some (filter test (range_with_len 0 n))) ≤ 1
one-owner None n test = let none = no-root (filter test (range_with_len 0 n)) in omega arith
one-owner (Some o) n test = let few = one-subsystem o 0 n test in omega arith

-- ---- Lengths and greatest numbers

pub kept-shorter : {A : Type 0} (test : A → Bool) (xs : List A) → length (filter test xs) ≤ length xs
kept-shorter test [] = omega arith
kept-shorter {A} test (x ∷ xs) = by (test x) (kept-shorter test xs)
  where
    by : (r : Bool) → length (filter test xs) ≤ length xs → length (cond r (x ∷ filter test xs) (filter test xs)) ≤ suc (length xs)
    by true less = omega arith
    by false less = omega arith

pub chosen-shorter : {A B : Type 0} (f : A → Option B) (xs : List A) → length (filter_map f xs) ≤ length xs
chosen-shorter f [] = omega arith
chosen-shorter {A} {B} f (x ∷ xs) = by (f x) (chosen-shorter f xs)
  where
    by : (o : Option B) → length (filter_map f xs) ≤ length xs → length (cons_option o (filter_map f xs)) ≤ suc (length xs)
    by None less = omega arith
    by (Some y) less = omega arith

pub length-range : (a n : ℕ) → length (range_with_len a n) ≡ n
length-range a zero = refl
length-range a (suc n) = ap suc (length-range (a + 1) n)

fold-above : (xs : List ℕ) (a : ℕ) → a ≤ fold max a xs
fold-above [] a = omega arith
fold-above (x ∷ xs) a = let more = fold-above xs (max a x) in omega arith

pub fold-has : (xs : List ℕ) (a x : ℕ) → Contains xs x → x ≤ fold max a xs
fold-has [] a x (k, below, is) = absurd (omega arith)
fold-has (y ∷ xs) a x (zero, below, is) = let more = fold-above xs (max a y) in omega (arith, is)
fold-has (y ∷ xs) a x (suc k, below, is) = fold-has xs (max a y) x (k, omega arith, is)

pub fold-below : (xs : List ℕ) (a m : ℕ) → a ≤ m → ((x : ℕ) → Contains xs x → x ≤ m) → fold max a xs ≤ m
fold-below [] a m first h = first
fold-below (x ∷ xs) a m first h = fold-below xs (max a x) m (let one = h x (in-first x xs) in omega arith) (λ y at. h y (in-rest x y xs at))
