-- Places in lists that are appended, searched and paired, and what holds of each member.
use Rattle.std.specs.Prelude.{◌≡◌, ℕ, zero, suc, ◌+◌, ◌<◌, Bool, true, false, cond, ◌==◌, List, [], ◌∷◌, ◌++◌, map, filter, length, slice_get, slice_index_or, Contains, Some, ⊤, refl}
use Rattle.std.specs.List.{position_from, enumerate_from, AllByRecursion, AllZip}
use Rattle.std.proofs.Common.{sym, ap, subst, ◌∙◌, arith, inl, inr, true≢false}
use Rattle.std.proofs.lemmas.Bool.{eq-eqb, eqb-true, ne_eqb}
use Rattle.std.proofs.lemmas.Option.{same_Some, none-some}
use Rattle.modules_clusters.specs.Grouping.{AreDifferent}
use Rattle.modules_profile.proofs.lemmas.Members.{in-none, in-cases, of-map, in-filter, of-filter, at-in, in-at, at-map}
use Rattle.modules_profile.proofs.lemmas.OwnRows.{differ-at}

-- ---- Places

pub left-at : {A : Type 0} (xs ys : List A) (k : ℕ) (x : A) → slice_get xs k ≡ Some x → slice_get (xs ++ ys) k ≡ Some x
left-at [] ys k x at = absurd (none-some x at)
left-at (y ∷ xs) ys zero x at = at
left-at (y ∷ xs) ys (suc k) x at = left-at xs ys k x at

pub right-at : {A : Type 0} (xs ys : List A) (k : ℕ) (x : A) → slice_get ys k ≡ Some x →
    slice_get (xs ++ ys) (length xs + k) ≡ Some x
right-at [] ys k x at = (let same : 0 + k ≡ k = omega arith in ap (slice_get ys) same) ∙ at
right-at (y ∷ xs) ys k x at =
    (let next : suc (length xs) + k ≡ suc (length xs + k) = omega arith in ap (slice_get (y ∷ (xs ++ ys))) next)
    ∙ right-at xs ys k x at

-- what is at a place of the list that is paired with its places
pub enumerate-at : {A : Type 0} (n : ℕ) (xs : List A) (k : ℕ) (x : A) → slice_get xs k ≡ Some x →
    slice_get (enumerate_from n xs) k ≡ Some (n + k, x)
enumerate-at n [] k x at = absurd (none-some x at)
enumerate-at n (y ∷ xs) zero x at =
    let same = same_Some y x at in let place : n ≡ n + 0 = omega arith in λ i. Some (place i, same i)
enumerate-at n (y ∷ xs) (suc k) x at =
    enumerate-at (n + 1) xs k x at ∙ (let place : n + 1 + k ≡ n + suc k = omega arith in ap (λ p. Some (p, x)) place)

pub enumerate-long : {A : Type 0} (n : ℕ) (xs : List A) → length (enumerate_from n xs) ≡ length xs
enumerate-long n [] = refl
enumerate-long n (x ∷ xs) = ap suc (enumerate-long (n + 1) xs)

pub at-enumerate : {A : Type 0} (n : ℕ) (xs : List A) (k : ℕ) (e : ℕ × A) → slice_get (enumerate_from n xs) k ≡ Some e →
    (n + k ≡ e.0) × (slice_get xs k ≡ Some e.1)
at-enumerate n [] k e at = absurd (none-some e at)
at-enumerate n (y ∷ xs) zero e at =
    let same = same_Some (n, y) e at in let place : n + 0 ≡ n = omega arith in
    (place ∙ ap (λ (p : ℕ × _). p.0) same, ap (λ (p : ℕ × _). Some p.1) same)
at-enumerate n (y ∷ xs) (suc k) e at =
    let rest = at-enumerate (n + 1) xs k e at in (let place : n + suc k ≡ n + 1 + k = omega arith in place ∙ rest.0, rest.1)

pub index-or-at : {A : Type 0} (xs : List A) (k : ℕ) (other x : A) → slice_get xs k ≡ Some x → slice_index_or xs k other ≡ x
index-or-at [] k other x at = absurd (none-some x at)
index-or-at (y ∷ xs) zero other x at = same_Some y x at
index-or-at (y ∷ xs) (suc k) other x at = index-or-at xs k other x at

-- ---- The first place of a number

-- none of these numbers occurs twice
abbrev pub Apart : List ℕ → Type 0
Apart [] = ⊤
Apart (x ∷ xs) = ((y : ℕ) → Contains xs y → x ≡ y → ⊥) × Apart xs

pub apart : (xs : List ℕ) → ((i k x : ℕ) → slice_get xs i ≡ Some x → slice_get xs k ≡ Some x → i ≡ k) → Apart xs
apart [] one = tt
apart (x ∷ xs) one = (
  λ y h same. let at = at-in xs y h in
      let wrong : 0 ≡ suc at.0 = one 0 (suc at.0) x refl (at.1 ∙ ap Some (sym same)) in omega (arith, wrong),
  apart xs (λ i k y a b. let same : suc i ≡ suc k = one (suc i) (suc k) y a b in omega (arith, same)),
)

pub apart-different : (xs : List ℕ) → AreDifferent xs → Apart xs
apart-different xs different = apart xs (λ i k x a b. differ-at xs i k x different a b)

pub apart-kept : {A : Type 0} (number : A → ℕ) (test : A → Bool) (xs : List A) → Apart (map number xs) →
    Apart (map number (filter test xs))
apart-kept number test [] h = tt
apart-kept {A} number test (x ∷ xs) h = by (test x) (apart-kept number test xs h.1)
  where
    by : (t : Bool) → Apart (map number (filter test xs)) → Apart (map number (cond t (x ∷ filter test xs) (filter test xs)))
    by true rest = (
      λ y has same. let z = of-map number (filter test xs) y has in
          h.0 y (subst (Contains (map number xs)) z.2 (in-map-of z.0 (of-filter test xs z.0 z.1).0)) same,
      rest,
    )
      where
        in-map-of : (z : A) → Contains xs z → Contains (map number xs) (number z)
        in-map-of z has = let at = at-in xs z has in in-at (map number xs) at.0 (number z) (at-map number xs at.0 z at.1)
    by false rest = rest

-- a number that occurs once is found where it is
pub first-at : {A : Type 0} (number : A → ℕ) (a : ℕ) (xs : List A) (k : ℕ) (x : A) → Apart (map number xs) →
    slice_get xs k ≡ Some x →
    position_from (λ key. key == number x) a (map number xs) ≡ Some (a + k)
first-at number a [] k x h at = absurd (none-some x at)
first-at number a (y ∷ xs) zero x h at =
    let same = ap number (same_Some y x at) in
    let here : (number y == number x) ≡ true = eq-eqb (number y) (number x) same in
    ap (λ t. cond t (Some a) (position_from (λ key. key == number x) (a + 1) (map number xs))) here
    ∙ (let place : a ≡ a + 0 = omega arith in ap Some place)
first-at number a (y ∷ xs) (suc k) x h at =
    let there : (number y == number x) ≡ false =
    ne_eqb (number y) (number x) (λ same. h.0 (number x) (in-at (map number xs) k (number x) (at-map number xs k x at)) same) in
    ap (λ t. cond t (Some a) (position_from (λ key. key == number x) (a + 1) (map number xs))) there
    ∙ first-at number (a + 1) xs k x h.1 at ∙ (let place : a + 1 + k ≡ a + suc k = omega arith in ap Some place)

-- a number that some have is found, at one that has it
pub finds-first : {A : Type 0} (number : A → ℕ) (a : ℕ) (xs : List A) (x : A) → Contains xs x →
    (k : ℕ) × (y : A) × (position_from (λ key. key == number x) a (map number xs) ≡ Some (a + k)) × (slice_get xs k ≡ Some y)
    × (number y ≡ number x)
finds-first number a [] x h = absurd (in-none x h)
finds-first {A} number a (y ∷ xs) x h = by (number y == number x) refl (λ more. finds-first number (a + 1) xs x more)
  where
    by : (t : Bool) → (number y == number x) ≡ t →
        (Contains xs x → (k : ℕ) × (z : A) × (position_from (λ key. key == number x) (a + 1) (map number xs) ≡ Some (a + 1 + k))
        × (slice_get xs k ≡ Some z) × (number z ≡ number x)) →
        (k : ℕ) × (z : A) × (cond t (Some a) (position_from (λ key. key == number x) (a + 1) (map number xs)) ≡ Some (a + k))
        × (slice_get (y ∷ xs) k ≡ Some z) × (number z ≡ number x)
    by true is later = (0, y, (let place : a ≡ a + 0 = omega arith in ap Some place), refl, eqb-true (number y) (number x) is)
    by false is later = elim (in-cases y x xs h) [
      | inl same ↦ absurd (true≢false (sym (eq-eqb (number y) (number x) (ap number same)) ∙ is))
      | inr more ↦ let f = later more in
          (suc f.0, f.1, f.2 ∙ (let place : a + 1 + f.0 ≡ a + suc f.0 = omega arith in ap Some place), f.3, f.4)
    ]

-- ---- What holds of each

pub each-member : {A : Type 0} (P : A → Type 0) (xs : List A) (x : A) → AllByRecursion P xs → Contains xs x → P x
each-member P [] x all h = absurd (in-none x h)
each-member P (y ∷ ys) x all h =
    elim (in-cases y x ys h) [ inl same ↦ subst P same all.0 | inr more ↦ each-member P ys x all.1 more ]

pub each-kept : {A : Type 0} (P : A → Type 0) (test : A → Bool) (xs : List A) (x : A) → AllByRecursion P (filter test xs) →
    Contains xs x →
    test x ≡ true → P x
each-kept P test xs x all h passes = each-member P (filter test xs) x all (in-filter test xs x h passes)

pub zip-at : {A B : Type 0} (R : A → B → Type 0) (xs : List A) (ys : List B) (k : ℕ) (x : A) → AllZip R xs ys →
    slice_get xs k ≡ Some x →
    (y : B) × (slice_get ys k ≡ Some y) × R x y
zip-at R [] [] k x all at = absurd (none-some x at)
zip-at R [] (y ∷ ys) k x all at = absurd all
zip-at R (z ∷ xs) [] k x all at = absurd all
zip-at R (z ∷ xs) (y ∷ ys) zero x all at = (y, refl, subst (λ w. R w y) (same_Some z x at) all.0)
zip-at R (z ∷ xs) (y ∷ ys) (suc k) x all at = zip-at R xs ys k x all.1 at

pub zip-back-at : {A B : Type 0} (R : A → B → Type 0) (xs : List A) (ys : List B) (k : ℕ) (y : B) → AllZip R xs ys →
    slice_get ys k ≡ Some y →
    (x : A) × (slice_get xs k ≡ Some x) × R x y
zip-back-at R [] [] k y all at = absurd (none-some y at)
zip-back-at R [] (z ∷ ys) k y all at = absurd all
zip-back-at R (x ∷ xs) [] k y all at = absurd all
zip-back-at R (x ∷ xs) (z ∷ ys) zero y all at = (x, refl, subst (R x) (same_Some z y at) all.0)
zip-back-at R (x ∷ xs) (z ∷ ys) (suc k) y all at = zip-back-at R xs ys k y all.1 at

pub zip-long : {A B : Type 0} (R : A → B → Type 0) (xs : List A) (ys : List B) → AllZip R xs ys → length xs ≡ length ys
zip-long R [] [] all = refl
zip-long R [] (y ∷ ys) all = absurd all
zip-long R (x ∷ xs) [] all = absurd all
zip-long R (x ∷ xs) (y ∷ ys) all = ap suc (zip-long R xs ys all.1)

-- ---- Numbers by place

pub index-left : {A : Type 0} (xs ys : List A) (k : ℕ) (other : A) → k < length xs →
    slice_index_or (xs ++ ys) k other ≡ slice_index_or xs k other
index-left [] ys k other below = absurd (omega (arith, below))
index-left (x ∷ xs) ys zero other below = refl
index-left (x ∷ xs) ys (suc k) other below = index-left xs ys k other (omega (arith, below))

pub index-right : {A : Type 0} (xs ys : List A) (k : ℕ) (other : A) →
    slice_index_or (xs ++ ys) (length xs + k) other ≡ slice_index_or ys k other
index-right [] ys k other = let same : 0 + k ≡ k = omega arith in ap (λ n. slice_index_or ys n other) same
index-right (x ∷ xs) ys k other =
    (let next : suc (length xs) + k ≡ suc (length xs + k) = omega arith in ap (λ n. slice_index_or (x ∷ (xs ++ ys)) n other) next)
    ∙ index-right xs ys k other
