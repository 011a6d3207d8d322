-- Facts of each element of a list.
use Rattle.std.specs.Prelude.{◌≡◌, ℕ, zero, suc, ◌+◌, ◌<◌, Bool, true, false, cond, List, [], ◌∷◌, ◌++◌, map, filter, replicate, length, slice_get, slice_index_or, Contains, Some, refl}
use Rattle.std.specs.List.{AllByRecursion, enumerate_from}
use Rattle.std.proofs.Common.{ap, subst, ◌∙◌, arith}

module _ {A : Type 0} (P : A → Type 0) where
  pub all-kept : (p : A → Bool) (xs : List A) → AllByRecursion P xs → AllByRecursion P (filter p xs)
  all-kept p [] h = tt
  all-kept p (x ∷ xs) h = by (p x) h.0 (all-kept p xs h.1)
    where
      by : (b : Bool) → P x → AllByRecursion P (filter p xs) → AllByRecursion P (cond b (x ∷ filter p xs) (filter p xs))
      by true here rest = (here, rest)
      by false here rest = rest

  pub all-joined : (xs ys : List A) → AllByRecursion P xs → AllByRecursion P ys → AllByRecursion P (xs ++ ys)
  all-joined [] ys h k = k
  all-joined (x ∷ xs) ys h k = (h.0, all-joined xs ys h.1 k)

  pub all-get : (xs : List A) (k : ℕ) (d : A) → AllByRecursion P xs → k < length xs → P (slice_index_or xs k d)
  all-get [] k d h below = absurd (omega arith)
  all-get (x ∷ xs) zero d h below = h.0
  all-get (x ∷ xs) (suc k) d h below = all-get xs k d h.1 (omega arith)

  pub all-at : (xs : List A) (x : A) → AllByRecursion P xs → Contains xs x → P x
  all-at xs x h at = subst P at.2 (all-get xs at.0 x h at.1)

  pub all-there : (xs : List A) (k : ℕ) (x : A) → AllByRecursion P xs → slice_get xs k ≡ Some x → P x
  all-there [] k x h at = absurd (cc)
  all-there (y ∷ xs) zero x h at = let same : y ≡ x = cc in subst P same h.0
  all-there (y ∷ xs) (suc k) x h at = all-there xs k x h.1 at

  -- what holds of everything holds of each element
  pub all-always : (xs : List A) → ((x : A) → P x) → AllByRecursion P xs
  all-always [] h = tt
  all-always (x ∷ xs) h = (h x, all-always xs h)

pub all-map : {A : Type 0} (P Q : A → Type 0) (xs : List A) → ((x : A) → P x → Q x) → AllByRecursion P xs → AllByRecursion Q xs
all-map P Q [] f h = tt
all-map P Q (x ∷ xs) f h = (f x h.0, all-map P Q xs f h.1)

-- each of the first with each of the second, and the other way round
pub turned : {A B : Type 0} (R : A → B → Type 0) (xs : List A) (ys : List B) →
    AllByRecursion (λ x. AllByRecursion (R x) ys) xs → AllByRecursion (λ y. AllByRecursion (λ x. R x y) xs) ys
turned {A} {B} R xs [] h = tt
turned {A} {B} R xs (y ∷ ys) h = (
  all-map (λ x. AllByRecursion (R x) (y ∷ ys)) (λ x. R x y) xs (λ x each. each.0) h,
  turned R xs ys (all-map (λ x. AllByRecursion (R x) (y ∷ ys)) (λ x. AllByRecursion (R x) ys) xs (λ x each. each.1) h),
)

pub map-joined : {A B : Type 0} (f : A → B) (xs ys : List A) → map f (xs ++ ys) ≡ map f xs ++ map f ys
map-joined f [] ys = refl
map-joined f (x ∷ xs) ys = ap (λ zs. f x ∷ zs) (map-joined f xs ys)

pub get-mapped : {A B : Type 0} (f : A → B) (xs : List A) (k : ℕ) (x : A) (d : B) → slice_get xs k ≡ Some x →
    slice_index_or (map f xs) k d ≡ f x
get-mapped f [] k x d at = absurd (cc)
get-mapped f (y ∷ xs) zero x d at = let same : y ≡ x = cc in ap f same
get-mapped f (y ∷ xs) (suc k) x d at = get-mapped f xs k x d at

pub map-filter : {A B : Type 0} (f : A → B) (p : B → Bool) (xs : List A) → map f (filter (λ x. p (f x)) xs) ≡ filter p (map f xs)
map-filter f p [] = refl
map-filter {A} {B} f p (x ∷ xs) = by (p (f x)) (map-filter f p xs)
  where
    by : (b : Bool) → map f (filter (λ y. p (f y)) xs) ≡ filter p (map f xs) →
        map f (cond b (x ∷ filter (λ y. p (f y)) xs) (filter (λ y. p (f y)) xs)) ≡ cond b (f x ∷ filter p (map f xs)) (filter p (map f xs))
    by true h = ap (λ ys. f x ∷ ys) h
    by false h = h

pub map-same : {A B : Type 0} (f g : A → B) (xs : List A) → AllByRecursion (λ x. f x ≡ g x) xs → map f xs ≡ map g xs
map-same f g [] h = refl
map-same f g (x ∷ xs) h = ap (λ y. y ∷ map f xs) h.0 ∙ ap (λ ys. g x ∷ ys) (map-same f g xs h.1)

pub map-map : {A B C : Type 0} (f : A → B) (g : B → C) (xs : List A) → map g (map f xs) ≡ map (λ x. g (f x)) xs
map-map f g [] = refl
map-map f g (x ∷ xs) = ap (λ ys. g (f x) ∷ ys) (map-map f g xs)

-- one value for each element
pub replicated : {A B : Type 0} (v : B) (xs : List A) (n : ℕ) → n ≡ length xs → replicate n v ≡ map (λ x. v) xs
replicated v [] zero e = refl
replicated v [] (suc n) e = absurd (omega (arith, e))
replicated v (x ∷ xs) zero e = absurd (omega (arith, e))
replicated v (x ∷ xs) (suc n) e = ap (λ ys. v ∷ ys) (replicated v xs n (omega (arith, e)))

-- ---- Numbered lists

-- of numbered elements those whose numbers pass, under a function
pub kept-mapped : {A B : Type 0} (f : A → B) (p : ℕ → Bool) (n : ℕ) (xs : List A) →
    map (λ (e : ℕ × B). e.1) (filter (λ (e : ℕ × B). p e.0) (enumerate_from n (map f xs)))
    ≡ map f (map (λ (e : ℕ × A). e.1) (filter (λ (e : ℕ × A). p e.0) (enumerate_from n xs)))
kept-mapped f p n [] = refl
kept-mapped {A} {B} f p n (x ∷ xs) = by (p n) (kept-mapped f p (n + 1) xs)
  where
    by : (b : Bool) → map (λ (e : ℕ × B). e.1) (filter (λ (e : ℕ × B). p e.0) (enumerate_from (n + 1) (map f xs)))
        ≡ map f (map (λ (e : ℕ × A). e.1) (filter (λ (e : ℕ × A). p e.0) (enumerate_from (n + 1) xs))) →
        map (λ (e : ℕ × B). e.1) (cond b ((n, f x) ∷ filter (λ (e : ℕ × B). p e.0) (enumerate_from (n + 1) (map f xs)))
        (filter (λ (e : ℕ × B). p e.0) (enumerate_from (n + 1) (map f xs))))
        ≡ map f (map (λ (e : ℕ × A). e.1) (cond b ((n, x) ∷ filter (λ (e : ℕ × A). p e.0) (enumerate_from (n + 1) xs))
        (filter (λ (e : ℕ × A). p e.0) (enumerate_from (n + 1) xs))))
    by true h = ap (λ ys. f x ∷ ys) h
    by false h = h

-- what holds of all holds of those whose numbers pass
pub all-numbered : {A : Type 0} (P : A → Type 0) (p : ℕ → Bool) (n : ℕ) (xs : List A) → AllByRecursion P xs →
    AllByRecursion P (map (λ (e : ℕ × A). e.1) (filter (λ (e : ℕ × A). p e.0) (enumerate_from n xs)))
all-numbered P p n [] h = tt
all-numbered {A} P p n (x ∷ xs) h = by (p n) (all-numbered P p (n + 1) xs h.1)
  where
    by : (b : Bool) → AllByRecursion P (map (λ (e : ℕ × A). e.1) (filter (λ (e : ℕ × A). p e.0) (enumerate_from (n + 1) xs))) →
        AllByRecursion P
        (map (λ (e : ℕ × A). e.1) (cond b ((n, x) ∷ filter (λ (e : ℕ × A). p e.0) (enumerate_from (n + 1) xs))
        (filter (λ (e : ℕ × A). p e.0) (enumerate_from (n + 1) xs))))
    by true rest = (h.0, rest)
    by false rest = rest
