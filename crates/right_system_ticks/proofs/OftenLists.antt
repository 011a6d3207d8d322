-- How often a number occurs in a list, and lists in which each occurs as often.
use Rattle.std.specs.Prelude.{◌≡◌, ◌⊎◌, ℕ, zero, suc, ◌+◌, ◌<◌, ◌≤◌, Bool, true, false, ◌==◌, if◌then◌else◌, cond, List, [], ◌∷◌, ◌++◌, filter, count_by, slice_get, IsPermutation, Some, refl}
use Rattle.std.specs.List.{remove, range_with_len}
use Rattle.std.proofs.Common.{sym, ap, ◌∙◌, arith, inl, inr}
use Rattle.std.proofs.lemmas.Bool.{cases_eq, eq-eqb, ne_eqb}
use Rattle.std.proofs.lemmas.List.Sums.{sum_by-cons, sum_by-append}
use Rattle.std.proofs.lemmas.List.Sorted.{IsPermutation-refl, IsPermutation-sym, IsPermutation-cons, IsPermutation-trans, IsPermutation-remove, sum_by-IsPermutation}
use Rattle.std.proofs.lemmas.Option.{get_or_from_slice_get}
use Rattle.modules_profile.proofs.lemmas.Members.{at-below}

-- ---- Lists with the same members, as often

abbrev pub bit : Bool → ℕ
bit t = if t then 1 else 0

abbrev pub times : ℕ → List ℕ → ℕ
times j xs = count_by (λ i. i == j) xs

pub times-cons : (j x : ℕ) (xs : List ℕ) → times j (x ∷ xs) ≡ bit (x == j) + times j xs
times-cons j x xs = sum_by-cons (λ i. cond (i == j) 1 0) x xs

pub times-append : (j : ℕ) (xs ys : List ℕ) → times j (xs ++ ys) ≡ times j xs + times j ys
times-append j xs ys = sum_by-append (λ i. cond (i == j) 1 0) xs ys

bit-yes : (x j : ℕ) → x ≡ j → bit (x == j) ≡ 1
bit-yes x j same = ap bit (eq-eqb x j same)

bit-no : (x j : ℕ) → (x ≡ j → ⊥) → bit (x == j) ≡ 0
bit-no x j apart = ap bit (ne_eqb x j apart)

-- what is in a list has a place
pub some-place : (j : ℕ) (xs : List ℕ) → 1 ≤ times j xs → (i : ℕ) × (slice_get xs i ≡ Some j)
some-place j [] some = absurd (omega (arith, some))
some-place j (x ∷ xs) some = by (cases_eq x j) (some-place j xs)
  where
    by : (x ≡ j) ⊎ (x ≡ j → ⊥) → (1 ≤ times j xs → (i : ℕ) × (slice_get xs i ≡ Some j)) → (i : ℕ) × (slice_get (x ∷ xs) i ≡ Some j)
    by (inl same) later = (0, ap Some same)
    by (inr apart) later =
        let step = times-cons j x xs in
        let none = bit-no x j apart in
        let i = later (omega (arith, step, none, some)) in
        (suc i.0, i.1)

-- lists in which each number occurs as often are permutations
pub as-often : (xs ys : List ℕ) → ((j : ℕ) → times j xs ≡ times j ys) → IsPermutation xs ys
as-often [] [] same = IsPermutation-refl []
as-often [] (y ∷ ys) same = absurd (
    let none = same y in
    let step = times-cons y y ys in
    let one = bit-yes y y refl in
    omega (arith, none, step, one))
as-often (x ∷ xs) ys same =
    let some = same x in
    let step = times-cons x x xs in
    let one = bit-yes x x refl in
    let i = some-place x ys (omega (arith, some, step, one)) in
    let out = IsPermutation-remove ys i.0 x (at-below ys i.0 x i.1) (sym (get_or_from_slice_get ys i.0 x x i.1)) in
    let rest = as-often xs (remove ys i.0) (λ j.
    let a = same j in
    let b = times-cons j x xs in
    let c = times-cons j x (remove ys i.0) in
    let d = sum_by-IsPermutation (λ k. cond (k == j) 1 0) ys (x ∷ remove ys i.0) out in
    omega (arith, a, b, c, d)) in
    IsPermutation-trans (x ∷ xs) (x ∷ remove ys i.0) ys (IsPermutation-cons x xs (remove ys i.0) rest)
    (IsPermutation-sym ys (x ∷ remove ys i.0) out)

-- how often a number occurs among those kept
pub kept-below : (p : ℕ → Bool) (a n j : ℕ) → j < a → times j (filter p (range_with_len a n)) ≡ 0
kept-below p a zero j low = refl
kept-below p a (suc n) j low = by (p a) (kept-below p (a + 1) n j (omega (arith, low)))
  where
    by : (t : Bool) → times j (filter p (range_with_len (a + 1) n)) ≡ 0 →
        times j (cond t (a ∷ filter p (range_with_len (a + 1) n)) (filter p (range_with_len (a + 1) n))) ≡ 0
    by true none =
        let step = times-cons j a (filter p (range_with_len (a + 1) n)) in
        let other = bit-no a j (λ same. let e : a ≡ j = same in omega (arith, e, low)) in
        omega (arith, step, other, none)
    by false none = none

pub kept-outside : (p : ℕ → Bool) (a n j : ℕ) → a + n ≤ j → times j (filter p (range_with_len a n)) ≡ 0
kept-outside p a zero j high = refl
kept-outside p a (suc n) j high = by (p a) (kept-outside p (a + 1) n j (omega (arith, high)))
  where
    by : (t : Bool) → times j (filter p (range_with_len (a + 1) n)) ≡ 0 →
        times j (cond t (a ∷ filter p (range_with_len (a + 1) n)) (filter p (range_with_len (a + 1) n))) ≡ 0
    by true none =
        let step = times-cons j a (filter p (range_with_len (a + 1) n)) in
        let other = bit-no a j (λ same. let e : a ≡ j = same in omega (arith, e, high)) in
        omega (arith, step, other, none)
    by false none = none

pub kept-once : (p : ℕ → Bool) (a n j : ℕ) → a ≤ j → j < a + n → times j (filter p (range_with_len a n)) ≡ bit (p j)
kept-once p a zero j low high = absurd (omega (arith, low, high))
kept-once p a (suc n) j low high =
    by (p a) refl (cases_eq a j) (λ other. kept-once p (a + 1) n j (omega (arith, low, other)) (omega (arith, high)))
  where
    rest : List ℕ
    rest = filter p (range_with_len (a + 1) n)

    by : (t : Bool) → p a ≡ t → (a ≡ j) ⊎ (a ≡ j → ⊥) → ((a ≡ j → ⊥) → times j rest ≡ bit (p j)) →
        times j (cond t (a ∷ rest) rest) ≡ bit (p j)
    by true is (inl same) later =
        let step = times-cons j a rest in
        let here = bit-yes a j same in
        let none = kept-below p (a + 1) n j (omega (arith, same)) in
        let passes = ap bit (ap p (sym same) ∙ is) in
        omega (arith, step, here, none, passes)
    by false is (inl same) later =
        let none = kept-below p (a + 1) n j (omega (arith, same)) in
        let fails = ap bit (ap p (sym same) ∙ is) in
        omega (arith, none, fails)
    by true is (inr apart) later =
        let step = times-cons j a rest in
        let other = bit-no a j apart in
        let more = later apart in
        omega (arith, step, other, more)
    by false is (inr apart) later = later apart
