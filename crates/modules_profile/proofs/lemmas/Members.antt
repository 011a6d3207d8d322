-- Members of lists and what is at their places: of lists that are mapped, filtered, searched, numbered and paired.
use Rattle.std.specs.Prelude.{◌≡◌, ◌⊎◌, ℕ, zero, suc, ◌+◌, ◌<◌, ◌≤◌, Bool, true, false, cond, List, [], ◌∷◌, ◌++◌, map, filter, filter_map, find, zip, length, slice_get, Contains, Option, Some, None, refl}
use Rattle.std.specs.List.{cons_option, range_with_len, enumerate_from}
use Rattle.std.proofs.Common.{sym, ap, subst, ◌∙◌, arith, inl, inr, true≢false}
use Rattle.std.proofs.lemmas.Bool.{cases_eq}

-- ---- Members

pub in-none : {A : Type 0} (x : A) → Contains [] x → ⊥
in-none x (k, below, is) = omega arith

pub in-first : {A : Type 0} (x : A) (xs : List A) → Contains (x ∷ xs) x
in-first x xs = (0, omega arith, refl)

pub in-rest : {A : Type 0} (x y : A) (xs : List A) → Contains xs y → Contains (x ∷ xs) y
in-rest x y xs (k, below, is) = (suc k, omega arith, is)

pub in-cases : {A : Type 0} (x y : A) (xs : List A) → Contains (x ∷ xs) y → (x ≡ y) ⊎ Contains xs y
in-cases x y xs (zero, below, is) = inl is
in-cases x y xs (suc k, below, is) = inr (k, omega arith, is)

pub in-map : {A B : Type 0} (f : A → B) (xs : List A) (x : A) → Contains xs x → Contains (map f xs) (f x)
in-map f [] x h = absurd (in-none x h)
in-map f (y ∷ ys) x h = elim (in-cases y x ys h) [
  | inl same ↦ subst (λ z. Contains (map f (y ∷ ys)) (f z)) same (in-first (f y) (map f ys))
  | inr more ↦ in-rest (f y) (f x) (map f ys) (in-map f ys x more)
]

pub of-map : {A B : Type 0} (f : A → B) (xs : List A) (y : B) → Contains (map f xs) y → (x : A) × Contains xs x × (f x ≡ y)
of-map f [] y h = absurd (in-none y h)
of-map f (x ∷ xs) y h = elim (in-cases (f x) y (map f xs) h) [
  | inl same ↦ (x, in-first x xs, same)
  | inr more ↦ let m = of-map f xs y more in (m.0, in-rest x m.0 xs m.1, m.2)
]

-- a member has one of the numbers that all have
pub number-of : {A : Type 0} (number : A → Option ℕ) (xs : List A) (ns : List ℕ) (x : A) → map number xs ≡ map Some ns →
    Contains xs x → (n : ℕ) × Contains ns n × (number x ≡ Some n)
number-of number xs ns x are h =
    let m = of-map Some ns (number x) (subst (λ os. Contains os (number x)) are (in-map number xs x h)) in
    (m.0, m.1, sym m.2)

pub in-filter : {A : Type 0} (p : A → Bool) (xs : List A) (x : A) → Contains xs x → p x ≡ true → Contains (filter p xs) x
in-filter p [] x h passes = h
in-filter p (y ∷ ys) x h passes = by (p y) refl (in-cases y x ys h) (λ more. in-filter p ys x more passes)
  where
    by : (t : Bool) → p y ≡ t → (y ≡ x) ⊎ Contains ys x → (Contains ys x → Contains (filter p ys) x) →
        Contains (cond t (y ∷ filter p ys) (filter p ys)) x
    by true e (inl same) later = subst (Contains (y ∷ filter p ys)) same (in-first y (filter p ys))
    by true e (inr more) later = in-rest y x (filter p ys) (later more)
    by false e (inl same) later = absurd (true≢false (sym passes ∙ sym (ap p same) ∙ e))
    by false e (inr more) later = later more

pub of-filter : {A : Type 0} (p : A → Bool) (xs : List A) (x : A) → Contains (filter p xs) x → Contains xs x × (p x ≡ true)
of-filter p [] x h = absurd (in-none x h)
of-filter p (y ∷ ys) x h = by (p y) refl h (λ more. of-filter p ys x more)
  where
    kept : Contains ys x × (p x ≡ true) → Contains (y ∷ ys) x × (p x ≡ true)
    kept (more, passes) = (in-rest y x ys more, passes)

    by : (t : Bool) → p y ≡ t → Contains (cond t (y ∷ filter p ys) (filter p ys)) x →
        (Contains (filter p ys) x → Contains ys x × (p x ≡ true)) → Contains (y ∷ ys) x × (p x ≡ true)
    by true e h later = elim (in-cases y x (filter p ys) h) [
      | inl same ↦ (subst (Contains (y ∷ ys)) same (in-first y ys), ap p (sym same) ∙ e)
      | inr more ↦ kept (later more)
    ]
    by false e h later = kept (later h)

module _ {A B : Type 0} where
  pub of-filter_map : (f : A → Option B) (xs : List A) (y : B) → Contains (filter_map f xs) y → (x : A) × Contains xs x × (f x ≡ Some y)
  of-filter_map f [] y h = absurd (in-none y h)
  of-filter_map f (x ∷ xs) y h = by (f x) refl h (λ more. of-filter_map f xs y more)
    where
      kept : (z : A) × Contains xs z × (f z ≡ Some y) → (z : A) × Contains (x ∷ xs) z × (f z ≡ Some y)
      kept (z, more, is) = (z, in-rest x z xs more, is)

      by : (o : Option B) → f x ≡ o → Contains (cons_option o (filter_map f xs)) y →
          (Contains (filter_map f xs) y → (z : A) × Contains xs z × (f z ≡ Some y)) → (z : A) × Contains (x ∷ xs) z × (f z ≡ Some y)
      by None e h later = kept (later h)
      by (Some z) e h later = elim (in-cases z y (filter_map f xs) h) [
        | inl same ↦ (x, in-first x xs, e ∙ ap Some same)
        | inr more ↦ kept (later more)
      ]

-- ---- What a search finds

pub found-in : {A : Type 0} (p : A → Bool) (xs : List A) (x : A) → find p xs ≡ Some x → Contains xs x × (p x ≡ true)
found-in p [] x e = absurd (let wrong : ⊥ = cc e in wrong)
found-in p (y ∷ ys) x e = by (p y) refl e (λ later. found-in p ys x later)
  where
    by : (t : Bool) → p y ≡ t → cond t (Some y) (find p ys) ≡ Some x → (find p ys ≡ Some x → Contains ys x × (p x ≡ true)) →
        Contains (y ∷ ys) x × (p x ≡ true)
    by true q e later = let same : y ≡ x = cc e in (subst (Contains (y ∷ ys)) same (in-first y ys), ap p (sym same) ∙ q)
    by false q e later = let more = later e in (in-rest y x ys more.0, more.1)

module _ {A : Type 0} where
  pub finds : (p : A → Bool) (xs : List A) (x : A) → Contains xs x → p x ≡ true → (y : A) × (find p xs ≡ Some y)
  finds p [] x h passes = absurd (in-none x h)
  finds p (y ∷ ys) x h passes = by (p y) refl (in-cases y x ys h) (λ more. finds p ys x more passes)
    where
      by : (t : Bool) → p y ≡ t → (y ≡ x) ⊎ Contains ys x → (Contains ys x → (z : A) × (find p ys ≡ Some z)) →
          (z : A) × (cond t (Some y) (find p ys) ≡ Some z)
      by true q h later = (y, refl)
      by false q (inl same) later = absurd (true≢false (sym passes ∙ sym (ap p same) ∙ q))
      by false q (inr more) later = later more

-- ---- Numbers in order

pub in-range : (a n b : ℕ) → a ≤ b → b < a + n → Contains (range_with_len a n) b
in-range a zero b low high = absurd (omega arith)
in-range a (suc n) b low high = elim (cases_eq a b) [
  | inl same ↦ subst (Contains (a ∷ range_with_len (a + 1) n)) same (in-first a (range_with_len (a + 1) n))
  | inr other ↦ in-rest a b (range_with_len (a + 1) n) (in-range (a + 1) n b (omega arith) (omega arith))
]

pub of-range : (a n b : ℕ) → Contains (range_with_len a n) b → (a ≤ b) × (b < a + n)
of-range a zero b h = absurd (in-none b h)
of-range a (suc n) b h = elim (in-cases a b (range_with_len (a + 1) n) h) [
  | inl same ↦ (omega arith, omega arith)
  | inr more ↦ let r = of-range (a + 1) n b more in (let low = r.0 in omega arith, let high = r.1 in omega arith)
]

-- ---- Places

pub in-at : {A : Type 0} (xs : List A) (k : ℕ) (x : A) → slice_get xs k ≡ Some x → Contains xs x
in-at [] k x e = absurd (let wrong : ⊥ = cc e in wrong)
in-at (y ∷ ys) zero x e = let same : y ≡ x = cc e in subst (Contains (y ∷ ys)) same (in-first y ys)
in-at (y ∷ ys) (suc k) x e = in-rest y x ys (in-at ys k x e)

pub at-in : {A : Type 0} (xs : List A) (x : A) → Contains xs x → (k : ℕ) × (slice_get xs k ≡ Some x)
at-in [] x h = absurd (in-none x h)
at-in (y ∷ ys) x h = elim (in-cases y x ys h) [
  | inl same ↦ (0, ap Some same)
  | inr more ↦ let m = at-in ys x more in (suc m.0, m.1)
]

pub at-below : {A : Type 0} (xs : List A) (k : ℕ) (x : A) → slice_get xs k ≡ Some x → k < length xs
at-below [] k x e = absurd (let wrong : ⊥ = cc e in wrong)
at-below (y ∷ ys) zero x e = omega arith
at-below (y ∷ ys) (suc k) x e = let rest = at-below ys k x e in omega arith

pub below-at : {A : Type 0} (xs : List A) (k : ℕ) → k < length xs → (x : A) × (slice_get xs k ≡ Some x)
below-at [] k h = absurd (omega arith)
below-at (y ∷ ys) zero h = (y, refl)
below-at (y ∷ ys) (suc k) h = below-at ys k (omega arith)

pub at-map : {A B : Type 0} (f : A → B) (xs : List A) (k : ℕ) (x : A) → slice_get xs k ≡ Some x → slice_get (map f xs) k ≡ Some (f x)
at-map f [] k x e = absurd (let wrong : ⊥ = cc e in wrong)
at-map f (y ∷ ys) zero x e = let same : y ≡ x = cc e in ap (λ z. Some (f z)) same
at-map f (y ∷ ys) (suc k) x e = at-map f ys k x e

pub map-at : {A B : Type 0} (f : A → B) (xs : List A) (k : ℕ) (y : B) → slice_get (map f xs) k ≡ Some y →
    (x : A) × (slice_get xs k ≡ Some x) × (f x ≡ y)
map-at f [] k y e = absurd (let wrong : ⊥ = cc e in wrong)
map-at f (x ∷ xs) zero y e = (x, refl, cc e)
map-at f (x ∷ xs) (suc k) y e = map-at f xs k y e

pub at-range : (a n k : ℕ) → k < n → slice_get (range_with_len a n) k ≡ Some (a + k)
at-range a zero k h = absurd (omega arith)
at-range a (suc n) zero h = let same : a ≡ a + 0 = omega arith in ap Some same
at-range a (suc n) (suc k) h = at-range (a + 1) n k (omega arith) ∙ (let same : a + 1 + k ≡ a + suc k = omega arith in ap Some same)

pub range-at : (a n k b : ℕ) → slice_get (range_with_len a n) k ≡ Some b → (k < n) × (a + k ≡ b)
range-at a zero k b e = absurd (let wrong : ⊥ = cc e in wrong)
range-at a (suc n) zero b e = let same : a ≡ b = cc e in (omega arith, omega arith)
range-at a (suc n) (suc k) b e = let rest = range-at (a + 1) n k b e in (let low = rest.0 in omega arith, let is = rest.1 in omega arith)

-- ---- Pairs

pub in-zip : {A B : Type 0} (xs : List A) (ys : List B) (k : ℕ) (x : A) (y : B) → slice_get xs k ≡ Some x → slice_get ys k ≡ Some y →
    Contains (zip xs ys) (x, y)
in-zip [] ys k x y e f = absurd (let wrong : ⊥ = cc e in wrong)
in-zip (a ∷ xs) [] k x y e f = absurd (let wrong : ⊥ = cc f in wrong)
in-zip (a ∷ xs) (b ∷ ys) zero x y e f =
    let first : a ≡ x = cc e in
    let second : b ≡ y = cc f in
    subst (λ z. Contains ((a, b) ∷ zip xs ys) (z, y)) first
    (subst (λ z. Contains ((a, b) ∷ zip xs ys) (a, z)) second (in-first (a, b) (zip xs ys)))
in-zip (a ∷ xs) (b ∷ ys) (suc k) x y e f = in-rest (a, b) (x, y) (zip xs ys) (in-zip xs ys k x y e f)

module _ {A B : Type 0} where
  pub of-zip : (xs : List A) (ys : List B) (e : A × B) → Contains (zip xs ys) e →
      (k : ℕ) × (slice_get xs k ≡ Some e.0) × (slice_get ys k ≡ Some e.1)
  of-zip [] ys e h = absurd (in-none e h)
  of-zip (a ∷ xs) [] e h = absurd (in-none e h)
  of-zip (a ∷ xs) (b ∷ ys) e h = elim (in-cases (a, b) e (zip xs ys) h) [
    | inl same ↦ (0, ap (λ (p : A × B). Some p.0) same, ap (λ (p : A × B). Some p.1) same)
    | inr more ↦ let m = of-zip xs ys e more in (suc m.0, m.1, m.2)
  ]

pub in-enumerate : {A : Type 0} (n : ℕ) (xs : List A) (k : ℕ) (x : A) → slice_get xs k ≡ Some x → Contains (enumerate_from n xs) (n + k, x)
in-enumerate n [] k x e = absurd (let wrong : ⊥ = cc e in wrong)
in-enumerate n (y ∷ ys) zero x e =
    let first : n ≡ n + 0 = omega arith in
    let second : y ≡ x = cc e in
    subst (λ z. Contains ((n, y) ∷ enumerate_from (n + 1) ys) (z, x)) first
    (subst (λ z. Contains ((n, y) ∷ enumerate_from (n + 1) ys) (n, z)) second (in-first (n, y) (enumerate_from (n + 1) ys)))
in-enumerate n (y ∷ ys) (suc k) x e =
    let same : n + 1 + k ≡ n + suc k = omega arith in
    in-rest (n, y) (n + suc k, x) (enumerate_from (n + 1) ys)
    (subst (λ z. Contains (enumerate_from (n + 1) ys) (z, x)) same (in-enumerate (n + 1) ys k x e))

module _ {A : Type 0} where
  pub of-enumerate : (n : ℕ) (xs : List A) (e : ℕ × A) → Contains (enumerate_from n xs) e →
      (k : ℕ) × (n + k ≡ e.0) × (slice_get xs k ≡ Some e.1)
  of-enumerate n [] e h = absurd (in-none e h)
  of-enumerate n (y ∷ ys) e h = elim (in-cases (n, y) e (enumerate_from (n + 1) ys) h) [
    | inl same ↦
        (0, (let zero_more : n + 0 ≡ n = omega arith in zero_more) ∙ ap (λ (p : ℕ × A). p.0) same, ap (λ (p : ℕ × A). Some p.1) same)
    | inr more ↦ let m = of-enumerate (n + 1) ys e more in
        (suc m.0, (let next : n + suc m.0 ≡ n + 1 + m.0 = omega arith in next) ∙ m.1, m.2)
  ]

-- ---- One list after another

pub at-left : {A : Type 0} (xs ys : List A) (k : ℕ) (x : A) → slice_get xs k ≡ Some x → slice_get (xs ++ ys) k ≡ Some x
at-left [] ys k x e = absurd (let wrong : ⊥ = cc e in wrong)
at-left (z ∷ zs) ys zero x e = e
at-left (z ∷ zs) ys (suc k) x e = at-left zs ys k x e

pub at-right : {A : Type 0} (xs ys : List A) (k : ℕ) (x : A) → slice_get ys k ≡ Some x → slice_get (xs ++ ys) (length xs + k) ≡ Some x
at-right [] ys k x e = let same : k ≡ 0 + k = omega arith in subst (λ i. slice_get ys i ≡ Some x) same e
at-right (z ∷ zs) ys k x e = let same : suc (length zs + k) ≡ suc (length zs) + k = omega arith in
    subst (λ i. slice_get (z ∷ zs ++ ys) i ≡ Some x) same (at-right zs ys k x e)

-- a place in one list after another is one in the first, or one in the second
pub at-append : {A : Type 0} (xs ys : List A) (k : ℕ) (x : A) → slice_get (xs ++ ys) k ≡ Some x →
    (slice_get xs k ≡ Some x) ⊎ ((i : ℕ) × (length xs + i ≡ k) × (slice_get ys i ≡ Some x))
at-append [] ys k x e = inr (k, omega arith, e)
at-append (z ∷ zs) ys zero x e = inl e
at-append (z ∷ zs) ys (suc k) x e = elim (at-append zs ys k x e) [
  | inl here ↦ inl here
  | inr there ↦ inr (there.0, (let place = there.1 in omega arith), there.2)
]
