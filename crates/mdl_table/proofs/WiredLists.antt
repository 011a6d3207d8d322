-- Lists that are filtered and mapped, by places.
use Rattle.std.proofs.Common.{◌≡◌, refl, sym, ◌∙◌, ap, subst, ℕ, zero, suc, ◌<◌, Bool, true, false, cond, List, [], ◌∷◌, ◌++◌, length, take, drop, map, Option, None, Some, arith}
use Rattle.std.specs.Prelude.{filter, filter_map, find, slice_get}
use Rattle.std.specs.List.{AllByRecursion, cons_option}

-- ---- Items by places

-- an item that passes is after those that pass before it
pub filter-place : {A : Type 0} (q : A → Bool) (xs : List A) (k : ℕ) (x : A) → slice_get xs k ≡ Some x → q x ≡ true →
    slice_get (filter q xs) (length (filter q (take k xs))) ≡ Some x
filter-place q [] k x e t = absurd cc
filter-place q (y ∷ xs) zero x e t =
    ap (λ t. slice_get (cond t (y ∷ filter q xs) (filter q xs)) 0) (ap q same ∙ t) ∙ e
  where
    same : y ≡ x
    same = cc e
filter-place q (y ∷ xs) (suc k) x e t = by (q y) (filter-place q xs k x e t)
  where
    by : (t : Bool) → slice_get (filter q xs) (length (filter q (take k xs))) ≡ Some x →
        slice_get (cond t (y ∷ filter q xs) (filter q xs)) (length (cond t (y ∷ filter q (take k xs)) (filter q (take k xs)))) ≡ Some x
    by true h = h
    by false h = h

-- what was filtered was there, and passes
pub filter-from : {A : Type 0} (q : A → Bool) (xs : List A) (j : ℕ) (x : A) → slice_get (filter q xs) j ≡ Some x →
    (k : ℕ) × (slice_get xs k ≡ Some x) × (q x ≡ true)
filter-from q [] j x e = absurd cc
filter-from q (y ∷ xs) j x e = by (q y) refl j e (λ j e. filter-from q xs j x e)
  where
    behind : (k : ℕ) × (slice_get xs k ≡ Some x) × (q x ≡ true) → (k : ℕ) × (slice_get (y ∷ xs) k ≡ Some x) × (q x ≡ true)
    behind r = (suc r.0, r.1, r.2)

    by : (t : Bool) → q y ≡ t → (j : ℕ) → slice_get (cond t (y ∷ filter q xs) (filter q xs)) j ≡ Some x →
        ((j : ℕ) → slice_get (filter q xs) j ≡ Some x → (k : ℕ) × (slice_get xs k ≡ Some x) × (q x ≡ true)) →
        (k : ℕ) × (slice_get (y ∷ xs) k ≡ Some x) × (q x ≡ true)
    by true p zero e later = let same : y ≡ x = cc e in (zero, e, ap q (sym same) ∙ p)
    by true p (suc j) e later = behind (later j e)
    by false p j e later = behind (later j e)

-- where one passes one is found
pub find-there : {A : Type 0} (q : A → Bool) (xs : List A) (k : ℕ) (x : A) → slice_get xs k ≡ Some x → q x ≡ true →
    (y : A) × (find q xs ≡ Some y)
find-there q [] k x e t = absurd cc
find-there {A} q (y ∷ xs) zero x e t = (y, ap (λ t. cond t (Some y) (find q xs)) (ap q same ∙ t))
  where
    same : y ≡ x
    same = cc e
find-there {A} q (y ∷ xs) (suc k) x e t = by (q y) (find-there q xs k x e t)
  where
    by : (t : Bool) → (z : A) × (find q xs ≡ Some z) → (z : A) × (cond t (Some y) (find q xs) ≡ Some z)
    by true h = (y, refl)
    by false h = h

-- what is found is there, and passes
pub find-from : {A : Type 0} (q : A → Bool) (xs : List A) (x : A) → find q xs ≡ Some x →
    (k : ℕ) × (slice_get xs k ≡ Some x) × (q x ≡ true)
find-from q [] x e = absurd cc
find-from q (y ∷ xs) x e = by (q y) refl e (find-from q xs x)
  where
    by : (t : Bool) → q y ≡ t → cond t (Some y) (find q xs) ≡ Some x →
        (find q xs ≡ Some x → (k : ℕ) × (slice_get xs k ≡ Some x) × (q x ≡ true)) →
        (k : ℕ) × (slice_get (y ∷ xs) k ≡ Some x) × (q x ≡ true)
    by true p e later = let same : y ≡ x = cc e in (zero, e, ap q (sym same) ∙ p)
    by false p e later = let r = later e in (suc r.0, r.1, r.2)

-- what was mapped
pub map-from : {A B : Type 0} (f : A → B) (xs : List A) (k : ℕ) (y : B) → slice_get (map f xs) k ≡ Some y →
    (x : A) × (slice_get xs k ≡ Some x) × (f x ≡ y)
map-from f [] k y e = absurd cc
map-from f (x ∷ xs) zero y e = (x, refl, cc e)
map-from f (x ∷ xs) (suc k) y e = map-from f xs k y e

-- what is below the length
pub get-there : {A : Type 0} (xs : List A) (k : ℕ) → k < length xs → (x : A) × (slice_get xs k ≡ Some x)
get-there [] k h = absurd (omega arith)
get-there (x ∷ xs) zero h = (x, refl)
get-there (x ∷ xs) (suc k) h = get-there xs k (omega arith)

-- ---- All items

pub all-append : {A : Type 0} (P : A → Type 0) (xs ys : List A) → AllByRecursion P xs → AllByRecursion P ys → AllByRecursion P (xs ++ ys)
all-append P [] ys h k = k
all-append P (x ∷ xs) ys h k = (h.0, all-append P xs ys h.1 k)

pub all-drop : {A : Type 0} (P : A → Type 0) (n : ℕ) (xs : List A) → AllByRecursion P xs → AllByRecursion P (drop n xs)
all-drop P zero xs h = h
all-drop P (suc n) [] h = h
all-drop P (suc n) (x ∷ xs) h = all-drop P n xs h.1

pub all-mapped : {A : Type 0} (P Q : A → Type 0) → ((x : A) → P x → Q x) → (xs : List A) → AllByRecursion P xs → AllByRecursion Q xs
all-mapped P Q by [] h = tt
all-mapped P Q by (x ∷ xs) h = (by x h.0, all-mapped P Q by xs h.1)

-- all that a function gives
pub all-given : {A B : Type 0} (P : B → Type 0) (f : A → Option B) (xs : List A) → ((x : A) (y : B) → f x ≡ Some y → P y) →
    AllByRecursion P (filter_map f xs)
all-given P f [] h = tt
all-given {A} {B} P f (x ∷ xs) h = by (f x) refl (all-given P f xs h)
  where
    by : (o : Option B) → f x ≡ o → AllByRecursion P (filter_map f xs) → AllByRecursion P (cons_option o (filter_map f xs))
    by None e rest = rest
    by (Some y) e rest = (h x y e, rest)

-- as many are given where each gives one
pub all-found : {A B : Type 0} (f : A → Option B) (Q : B → Type 0) (xs : List A) →
    AllByRecursion (λ x. (y : B) × (f x ≡ Some y) × Q y) xs →
    (length (filter_map f xs) ≡ length xs) × AllByRecursion Q (filter_map f xs)
all-found f Q [] all = (refl, tt)
all-found f Q (x ∷ xs) all =
    let rest = all-found f Q xs all.1 in
    subst (λ o. (length (cons_option o (filter_map f xs)) ≡ suc (length xs)) × AllByRecursion Q (cons_option o (filter_map f xs)))
    (sym all.0.1) (ap suc rest.0, (all.0.2, rest.1))
