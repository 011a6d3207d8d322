-- Where a search finds the first that passes, in lists that are put together from the last part to the first.
use Rattle.std.specs.Prelude.{◌≡◌, ◌⊎◌, ℕ, zero, suc, ◌+◌, ◌-◌, ◌<◌, Bool, true, false, cond, List, [], ◌∷◌, ◌++◌, map, flat_map, reverse, drop, length, sum_by, slice_index_or, Contains, Some, refl}
use Rattle.std.specs.List.{position_from, range_with_len, AllByRecursion}
use Rattle.std.proofs.Common.{sym, ap, ap₂, subst, ◌∙◌, arith, inl, inr, true≢false}
use Rattle.std.proofs.lemmas.List.{reverse-append, get_or-drop, length-drop}
use Rattle.std.proofs.lemmas.List.Sums.{sum_by-cons}
use Rattle.std.proofs.lemmas.Bool.{cases_lt}
use Rattle.modules_profile.proofs.lemmas.Members.{in-none, in-cases}

-- ---- From the last to the first

abbrev pub down : ℕ → List ℕ
down zero = []
down (suc n) = n ∷ down n

range-snoc : (a n : ℕ) → range_with_len a (suc n) ≡ range_with_len a n ++ (a + n) ∷ []
range-snoc a zero = let same : a ≡ a + 0 = omega arith in ap (λ k. k ∷ []) same
range-snoc a (suc n) = let same : a + 1 + n ≡ a + suc n = omega arith in
    ap (λ ks. a ∷ ks) (range-snoc (a + 1) n ∙ ap (λ k. range_with_len (a + 1) n ++ k ∷ []) same)

pub from-last : (n : ℕ) → reverse (range_with_len 0 n) ≡ down n
from-last zero = refl
from-last (suc n) =
    let same : 0 + n ≡ n = omega arith in
    ap reverse (range-snoc 0 n) ∙ reverse-append (range_with_len 0 n) ((0 + n) ∷ []) ∙ ap₂ (λ k ks. k ∷ ks) same (from-last n)

pub append-append : {A : Type 0} (xs ys zs : List A) → (xs ++ ys) ++ zs ≡ xs ++ (ys ++ zs)
append-append [] ys zs = refl
append-append (x ∷ xs) ys zs = ap (λ more. x ∷ more) (append-append xs ys zs)

-- ---- Searches

module _ {A : Type 0} (test : A → Bool) where
  -- the first that passes is there
  abbrev pub IsFirst : List A → ℕ → Type 0
  IsFirst [] j = ⊥
  IsFirst (x ∷ xs) zero = test x ≡ true
  IsFirst (x ∷ xs) (suc j) = (test x ≡ false) × IsFirst xs j

  -- none passes
  abbrev pub NonePass : List A → Type 0
  NonePass xs = AllByRecursion (λ x. test x ≡ false) xs

  pub first-position : (xs : List A) (n j : ℕ) → IsFirst xs j → position_from test n xs ≡ Some (n + j)
  first-position [] n j first = absurd first
  first-position (x ∷ xs) n zero first =
      let same : n ≡ n + 0 = omega arith in ap (λ b. cond b (Some n) (position_from test (n + 1) xs)) first ∙ ap Some same
  first-position (x ∷ xs) n (suc j) first =
      let same : n + 1 + j ≡ n + suc j = omega arith in
      ap (λ b. cond b (Some n) (position_from test (n + 1) xs)) first.0 ∙ first-position xs (n + 1) j first.1 ∙ ap Some same

  pub first-before : (xs ys : List A) (j : ℕ) → IsFirst xs j → IsFirst (xs ++ ys) j
  first-before [] ys j first = absurd first
  first-before (x ∷ xs) ys zero first = first
  first-before (x ∷ xs) ys (suc j) first = (first.0, first-before xs ys j first.1)

  pub first-behind : (xs ys : List A) (j : ℕ) → NonePass xs → IsFirst ys j → IsFirst (xs ++ ys) (length xs + j)
  first-behind [] ys j none first = let same : j ≡ 0 + j = omega arith in subst (IsFirst ys) same first
  first-behind (x ∷ xs) ys j none first =
      let same : suc (length xs + j) ≡ suc (length xs) + j = omega arith in
      let later : IsFirst (x ∷ (xs ++ ys)) (suc (length xs + j)) = (none.0, first-behind xs ys j none.1 first) in
      subst (IsFirst (x ∷ (xs ++ ys))) same later

  -- where one passes, some place is the first
  pub first-of : (xs : List A) (x : A) → Contains xs x → test x ≡ true → (j : ℕ) × IsFirst xs j
  first-of [] x has passes = absurd (in-none x has)
  first-of (y ∷ ys) x has passes = by (test y) refl (in-cases y x ys has) (λ more. first-of ys x more passes)
    where
      by : (b : Bool) → test y ≡ b → (y ≡ x) ⊎ Contains ys x → (Contains ys x → (j : ℕ) × IsFirst ys j) → (j : ℕ) × IsFirst (y ∷ ys) j
      by true e which later = (0, e)
      by false e (inl same) later = absurd (true≢false (sym passes ∙ sym (ap test same) ∙ e))
      by false e (inr more) later = let found = later more in (suc found.0, (e, found.1))

  -- one of each part, from the last to the first
  pub first-down : (g : ℕ → A) (rest : List A) (n k : ℕ) → k < n → test (g k) ≡ true → ((i : ℕ) → k < i → i < n → test (g i) ≡ false) →
      IsFirst (map g (down n) ++ rest) (n - (k + 1))
  first-down g rest zero k below passes others = absurd (omega arith)
  first-down g rest (suc m) k below passes others = elim (cases_lt k m) [
    | inl less ↦
        let same : suc (m - (k + 1)) ≡ suc m - (k + 1) = omega arith in
        let later : IsFirst (g m ∷ (map g (down m) ++ rest)) (suc (m - (k + 1))) =
        (others m less (omega arith), first-down g rest m k less passes (λ i above few. others i above (omega arith))) in
        subst (IsFirst (g m ∷ (map g (down m) ++ rest))) same later
    | inr not_less ↦
        let here : k ≡ m = omega arith in
        let same : 0 ≡ suc m - (k + 1) = omega arith in
        let first : IsFirst (g m ∷ (map g (down m) ++ rest)) 0 = ap (λ i. test (g i)) (sym here) ∙ passes in
        subst (IsFirst (g m ∷ (map g (down m) ++ rest))) same first
  ]

-- what is there
pub at-down : {A : Type 0} (g : ℕ → A) (rest : List A) (d : A) (n k : ℕ) → k < n →
    slice_index_or (map g (down n) ++ rest) (n - (k + 1)) d ≡ g k
at-down g rest d zero k below = absurd (omega arith)
at-down g rest d (suc m) k below = elim (cases_lt k m) [
  | inl less ↦
      let same : suc m - (k + 1) ≡ suc (m - (k + 1)) = omega arith in
      ap (λ i. slice_index_or (g m ∷ (map g (down m) ++ rest)) i d) same ∙ at-down g rest d m k less
  | inr not_less ↦
      let here : m ≡ k = omega arith in
      let same : suc m - (k + 1) ≡ 0 = omega arith in
      ap (λ i. slice_index_or (g m ∷ (map g (down m) ++ rest)) i d) same ∙ ap g here
]

pub mapped-length : {A B : Type 0} (h : A → B) (xs : List A) → length (map h xs) ≡ length xs
mapped-length h [] = refl
mapped-length h (x ∷ xs) = ap suc (mapped-length h xs)

-- a search in what is made of a list
pub first-map : {A B : Type 0} (test : B → Bool) (h : A → B) (xs : List A) (j : ℕ) → IsFirst (λ x. test (h x)) xs j →
    IsFirst test (map h xs) j
first-map test h [] j first = first
first-map test h (x ∷ xs) zero first = first
first-map test h (x ∷ xs) (suc j) first = (first.0, first-map test h xs j first.1)

-- ---- Parts of several

-- the sum over the numbers below one
abbrev pub sum_below : (ℕ → ℕ) → ℕ → ℕ
sum_below w zero = 0
sum_below w (suc n) = w n + sum_below w n

module _ {A : Type 0} (test : A → Bool) where
  -- the numbers from k + 1 on are so many
  pub first-in-parts : (f : ℕ → List A) (rest : List A) (many k j : ℕ) → IsFirst test (f k) j →
      ((i : ℕ) → k < i → i < suc k + many → NonePass test (f i)) →
      IsFirst test (flat_map f (down (many + suc k)) ++ rest) (sum_below (λ i. length (f (suc k + i))) many + j)
  first-in-parts f rest zero k j first others =
      let same : j ≡ 0 + j = omega arith in
      let one : suc k ≡ 0 + suc k = omega arith in
      subst (λ n. IsFirst test (flat_map f (down n) ++ rest) (0 + j)) one
      (subst (IsFirst test ((f k ++ flat_map f (down k)) ++ rest)) same
      (first-before test (f k ++ flat_map f (down k)) rest j (first-before test (f k) (flat_map f (down k)) j first)))
  first-in-parts f rest (suc many) k j first others =
      let later = first-in-parts f rest many k j first (λ i above few. others i above (omega arith)) in
      let front =
      first-behind test (f (suc k + many)) (flat_map f (down (many + suc k)) ++ rest)
      (sum_below (λ i. length (f (suc k + i))) many + j)
      (others (suc k + many) (omega arith) (omega arith)) later in
      let count : length (f (suc k + many)) + (sum_below (λ i. length (f (suc k + i))) many + j)
      ≡ sum_below (λ i. length (f (suc k + i))) (suc many) + j = omega arith in
      let top : suc k + many ≡ many + suc k = omega arith in
      let step : suc (many + suc k) ≡ suc many + suc k = omega arith in
      subst (λ n. IsFirst test (flat_map f (down n) ++ rest) (sum_below (λ i. length (f (suc k + i))) (suc many) + j)) step
      (subst (IsFirst test (flat_map f (down (suc (many + suc k))) ++ rest)) count
      (subst (λ xs. IsFirst test xs (length (f (suc k + many)) + (sum_below (λ i. length (f (suc k + i))) many + j)))
      (sym (ap (λ n. (f n ++ flat_map f (down (many + suc k))) ++ rest) (sym top)
      ∙ append-append (f (suc k + many)) (flat_map f (down (many + suc k))) rest)) front))

-- so many of a list's elements, by their places, are all
sum_below-front : (w : ℕ → ℕ) (n : ℕ) → sum_below w (suc n) ≡ w 0 + sum_below (λ i. w (suc i)) n
sum_below-front w zero = refl
sum_below-front w (suc n) = let later = sum_below-front w n in omega arith

pub sum_below-same : (w u : ℕ → ℕ) (n : ℕ) → ((i : ℕ) → i < n → w i ≡ u i) → sum_below w n ≡ sum_below u n
sum_below-same w u zero same = refl
sum_below-same w u (suc n) same = ap₂ (λ a b. a + b) (same n (omega arith)) (sum_below-same w u n (λ i less. same i (omega arith)))

pub sum-by-places : {A : Type 0} (w : A → ℕ) (d : A) (xs : List A) → sum_by w xs ≡ sum_below (λ i. w (slice_index_or xs i d)) (length xs)
sum-by-places w d [] = refl
sum-by-places w d (x ∷ xs) =
    sum_by-cons w x xs ∙ ap (λ n. w x + n) (sum-by-places w d xs) ∙ sym (sum_below-front (λ i. w (slice_index_or (x ∷ xs) i d)) (length xs))

pub sum-behind : {A : Type 0} (w : A → ℕ) (d : A) (xs : List A) (k : ℕ) →
    sum_by w (drop (k + 1) xs) ≡ sum_below (λ i. w (slice_index_or xs (suc k + i) d)) (length xs - suc k)
sum-behind w d xs k =
    let one : k + 1 ≡ suc k = omega arith in
    sum-by-places w d (drop (k + 1) xs)
    ∙ sum_below-same (λ i. w (slice_index_or (drop (k + 1) xs) i d)) (λ i. w (slice_index_or xs (suc k + i) d)) (length (drop (k + 1) xs))
    (λ i less. ap w (get_or-drop (k + 1) xs i d ∙ ap (λ n. slice_index_or xs (n + i) d) one))
    ∙ ap (sum_below (λ i. w (slice_index_or xs (suc k + i) d))) (length-drop (k + 1) xs ∙ ap (λ n. length xs - n) one)
