-- Lengths and places in lists.
use Rattle.std.specs.Prelude.{◌≡◌, ℕ, zero, suc, ◌+◌, ◌≤◌, ◌==◌, Bool, true, false, not, cond, List, [], ◌∷◌, ◌++◌, filter, filter_map, length, slice_get, slice_index_or, count_by, All, Contains, Option, Some, None, refl}
use Rattle.std.specs.List.{AllZip, cons_option, enumerate_from, position_from, range_with_len}
use Rattle.std.proofs.Common.{sym, ap, subst, ◌∙◌, arith}
use Rattle.std.proofs.lemmas.List.Sums.{sum_by-cons}
use Rattle.std.proofs.lemmas.Option.{same_Some, none-some}
use Rattle.base_core.specs.Interface.{different}
use Rattle.modules_profile.proofs.lemmas.Members.{in-first, in-rest}

-- ---- Lengths

pub kept-shorter : {A : Type 0} (test : A → Bool) (xs : List A) → length (filter test xs) ≤ length xs
kept-shorter test [] = omega arith
kept-shorter {A} test (x ∷ xs) = by (test x) (kept-shorter test xs)
  where
    by : (r : Bool) → length (filter test xs) ≤ length xs → length (cond r (x ∷ filter test xs) (filter test xs)) ≤ suc (length xs)
    by true less = omega arith
    by false less = omega arith

pub length-range : (a n : ℕ) → length (range_with_len a n) ≡ n
length-range a zero = refl
length-range a (suc n) = ap suc (length-range (a + 1) n)

pub length-enumerated : {A : Type 0} (n : ℕ) (xs : List A) → length (enumerate_from n xs) ≡ length xs
length-enumerated n [] = refl
length-enumerated n (x ∷ xs) = ap suc (length-enumerated (n + 1) xs)

pub chosen-shorter : {A B : Type 0} (f : A → Option B) (xs : List A) → length (filter_map f xs) ≤ length xs
chosen-shorter f [] = omega arith
chosen-shorter {A} {B} f (x ∷ xs) = by (f x) (chosen-shorter f xs)
  where
    by : (o : Option B) → length (filter_map f xs) ≤ length xs → length (cons_option o (filter_map f xs)) ≤ suc (length xs)
    by None less = omega arith
    by (Some y) less = omega arith

pub count-kept : {A : Type 0} (test : A → Bool) (xs : List A) → length (filter test xs) ≡ count_by test xs
count-kept test [] = refl
count-kept {A} test (x ∷ xs) = by (test x) (count-kept test xs) ∙ sym (sum_by-cons (λ x. cond (test x) 1 0) x xs)
  where
    by : (t : Bool) → length (filter test xs) ≡ count_by test xs →
        length (cond t (x ∷ filter test xs) (filter test xs)) ≡ cond t 1 0 + count_by test xs
    by true e = omega (arith, e)
    by false e = omega (arith, e)

pub different-shorter : (xs : List ℕ) → length (different xs) ≤ length xs
different-shorter [] = omega arith
different-shorter (x ∷ xs) =
    let kept = kept-shorter (λ y. not (y == x)) (different xs) in
    let rest = different-shorter xs in omega (arith, kept, rest)

pub length-zip : {A B : Type 0} (R : A → B → Type 0) (xs : List A) (ys : List B) → AllZip R xs ys → length xs ≡ length ys
length-zip R [] [] h = refl
length-zip R [] (y ∷ ys) h = absurd h
length-zip R (x ∷ xs) [] h = absurd h
length-zip R (x ∷ xs) (y ∷ ys) h = ap suc (length-zip R xs ys h.1)

-- ---- Members and places

pub all-of : {A : Type 0} (P : A → Type 0) (xs : List A) → ((x : A) → Contains xs x → P x) → All P xs
all-of P [] h k d below = absurd (omega (arith, below))
all-of P (x ∷ xs) h zero d below = h x (in-first x xs)
all-of P (x ∷ xs) h (suc k) d below = all-of P xs (λ y m. h y (in-rest x y xs m)) k d (omega (arith, below))

pub at-index : {A : Type 0} (xs : List A) (k : ℕ) (other x : A) → slice_get xs k ≡ Some x → slice_index_or xs k other ≡ x
at-index [] k other x e = absurd (none-some x e)
at-index (y ∷ xs) zero other x e = same_Some y x e
at-index (y ∷ xs) (suc k) other x e = at-index xs k other x e

-- a search goes on after what doesn't pass
pub position-behind : {A : Type 0} (test : A → Bool) (front behind : List A) (i : ℕ) → ((x : A) → Contains front x → test x ≡ false) →
    position_from test i (front ++ behind) ≡ position_from test (i + length front) behind
position-behind test [] behind i none = let same : i ≡ i + 0 = omega arith in ap (λ k. position_from test k behind) same
position-behind test (x ∷ front) behind i none =
    ap (λ t. cond t (Some i) (position_from test (i + 1) (front ++ behind))) (none x (in-first x front))
    ∙ position-behind test front behind (i + 1) (λ y h. none y (in-rest x y front h))
    ∙ (let same : i + 1 + length front ≡ i + suc (length front) = omega arith in ap (λ k. position_from test k behind) same)

pub zip-at : {A B : Type 0} (R : A → B → Type 0) (xs : List A) (ys : List B) → AllZip R xs ys → (k : ℕ) (x : A) → slice_get xs k ≡ Some x →
    (y : B) × (slice_get ys k ≡ Some y) × R x y
zip-at R [] ys h k x at = absurd (none-some x at)
zip-at R (a ∷ xs) [] h k x at = absurd h
zip-at {B = B} R (a ∷ xs) (b ∷ ys) h zero x at = subst (λ z. (y : B) × (Some b ≡ Some y) × R z y) (same_Some a x at) (b, refl, h.0)
zip-at R (a ∷ xs) (b ∷ ys) h (suc k) x at = zip-at R xs ys h.1 k x at
