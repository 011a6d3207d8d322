-- Tests on lists: which members pass.
use Rattle.std.specs.Prelude.{◌≡◌, ◌⊎◌, ℕ, suc, ◌+◌, Bool, true, false, cond, if◌then◌else◌, ◌||◌, ◌&&◌, List, [], ◌∷◌, slice_get, Contains, Option, Some, None, refl}
use Rattle.std.specs.List.{list_any, position_from}
use Rattle.std.proofs.Common.{sym, ap, ◌∙◌, arith, inl, inr, true≢false}
use Rattle.modules_profile.proofs.lemmas.Members.{in-none, in-first, in-rest, in-cases}

-- two tests with the same answer yes are one
pub same-test : (a b : Bool) → (a ≡ true → b ≡ true) → (b ≡ true → a ≡ true) → a ≡ b
same-test true true there back = refl
same-test true false there back = sym (there refl)
same-test false true there back = back refl
same-test false false there back = refl

pub both-true : (a b : Bool) → (a && b) ≡ true → (a ≡ true) × (b ≡ true)
both-true true b h = (refl, h)
both-true false b h = absurd (true≢false (sym h))

pub true-both : (a b : Bool) → a ≡ true → b ≡ true → (a && b) ≡ true
true-both true b one two = two
true-both false b one two = one

pub one-true : (a b : Bool) → (a || b) ≡ true → (a ≡ true) ⊎ (b ≡ true)
one-true true b h = inl refl
one-true false b h = inr h

pub true-first : (a b : Bool) → a ≡ true → (a || b) ≡ true
true-first true b h = refl
true-first false b h = absurd (true≢false (sym h))

pub true-second : (a b : Bool) → b ≡ true → (a || b) ≡ true
true-second true b h = refl
true-second false b h = h

-- what is not yes is no
pub not-true : (a : Bool) → (a ≡ true → ⊥) → a ≡ false
not-true true not = absurd (not refl)
not-true false not = refl

pub true-false : (a : Bool) → a ≡ true → a ≡ false → ⊥
true-false a one other = true≢false (sym one ∙ other)

-- what a test chooses
pub if-yes : {A : Type 0} (t : Bool) (x y : A) → t ≡ true → (if t then x else y) ≡ x
if-yes true x y e = refl
if-yes false x y e = absurd (true-false true refl (sym e))

pub if-not : {A : Type 0} (t : Bool) (x y : A) → t ≡ false → (if t then x else y) ≡ y
if-not true x y e = absurd (true-false true refl e)
if-not false x y e = refl

pub any-in : {A : Type 0} (test : A → Bool) (xs : List A) (x : A) → Contains xs x → test x ≡ true → list_any test xs ≡ true
any-in test [] x h passes = absurd (in-none x h)
any-in test (y ∷ ys) x h passes = elim (in-cases y x ys h) [
  | inl same ↦ true-first (test y) (list_any test ys) (ap test same ∙ passes)
  | inr more ↦ true-second (test y) (list_any test ys) (any-in test ys x more passes)
]

-- a member that passes
pub any-of : {A : Type 0} (test : A → Bool) (xs : List A) → list_any test xs ≡ true → (x : A) × Contains xs x × (test x ≡ true)
any-of test [] h = absurd (true≢false (sym h))
any-of test (y ∷ ys) h = elim (one-true (test y) (list_any test ys) h) [
  | inl first ↦ (y, in-first y ys, first)
  | inr more ↦ let rest = any-of test ys more in (rest.0, in-rest y rest.0 ys rest.1, rest.2)
]

-- tests that agree on the members
pub any-same : {A : Type 0} (p q : A → Bool) (xs : List A) → ((x : A) → Contains xs x → p x ≡ q x) → list_any p xs ≡ list_any q xs
any-same p q [] same = refl
any-same p q (x ∷ xs) same =
    ap (λ t. t || list_any p xs) (same x (in-first x xs)) ∙ ap (λ t. q x || t) (any-same p q xs (λ y h. same y (in-rest x y xs h)))

-- the first place of a member that passes, or none does
pub first-place : {A : Type 0} (test : A → Bool) (i : ℕ) (xs : List A) →
    ((position_from test i xs ≡ None) × ((x : A) → Contains xs x → test x ≡ false))
    ⊎ ((k : ℕ) × (x : A) × (position_from test i xs ≡ Some (i + k)) × (slice_get xs k ≡ Some x) × (test x ≡ true))
first-place test i [] = inl (refl, λ x h. absurd (in-none x h))
first-place {A} test i (y ∷ ys) = by (test y) refl (first-place test (i + 1) ys)
  where
    Found : Option ℕ → Type 0
    Found o = ((o ≡ None) × ((x : A) → Contains (y ∷ ys) x → test x ≡ false))
        ⊎ ((k : ℕ) × (x : A) × (o ≡ Some (i + k)) × (slice_get (y ∷ ys) k ≡ Some x) × (test x ≡ true))

    fails : test y ≡ false → ((x : A) → Contains ys x → test x ≡ false) → (x : A) → Contains (y ∷ ys) x → test x ≡ false
    fails is none x h = elim (in-cases y x ys h) [ inl same ↦ ap test (sym same) ∙ is | inr more ↦ none x more ]

    by : (t : Bool) → test y ≡ t →
        ((position_from test (i + 1) ys ≡ None) × ((x : A) → Contains ys x → test x ≡ false))
        ⊎ ((k : ℕ) × (x : A) × (position_from test (i + 1) ys ≡ Some (i + 1 + k)) × (slice_get ys k ≡ Some x) × (test x ≡ true)) →
        Found (cond t (Some i) (position_from test (i + 1) ys))
    by true is later = inr (0, y, ap Some (let e : i ≡ i + 0 = omega arith in e), refl, is)
    by false is (inl (none, all)) = inl (none, fails is all)
    by false is (inr (k, x, there, at, passes)) =
        inr (suc k, x, there ∙ ap Some (let e : i + 1 + k ≡ i + suc k = omega arith in e), at, passes)
