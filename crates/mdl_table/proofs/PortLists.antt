-- Counts over lists, and over the numbers of rows.
use Rattle.std.proofs.Common.{◌≡◌, refl, sym, ◌∙◌, ap, ap₂, subst, ℕ, zero, suc, ◌+◌, ◌<◌, Bool, true, false, ◌&&◌, cond, true≢false, List, [], ◌∷◌, length, map, slice_index_or, Option, None, Some, arith}
use Rattle.std.specs.Prelude.{filter, filter_map, count_by, slice_get}
use Rattle.std.specs.List.{AllByRecursion, AllZip, range_with_len, cons_option}
use Rattle.std.proofs.lemmas.List.Recursion.{is_count_by}
use Rattle.diagram_meaning.specs.declared.table.Row.{Row}
use Rattle.diagram_meaning.specs.Rows.{no_row, row_at, row_numbers}

abbrev tally : {A : Type 0} → (A → Bool) → List A → ℕ
tally p [] = 0
tally p (x ∷ xs) = cond (p x) (1 + tally p xs) (tally p xs)

tally-is : {A : Type 0} (p : A → Bool) (xs : List A) → tally p xs ≡ count_by p xs
tally-is p xs = is_count_by (tally p) p refl (λ x xs. refl) xs

-- a count of one item more
pub count-cons : {A : Type 0} (p : A → Bool) (x : A) (xs : List A) → count_by p (x ∷ xs) ≡ cond (p x) 1 0 + count_by p xs
count-cons p x xs = sym (tally-is p (x ∷ xs)) ∙ by (p x) ∙ ap (λ n. cond (p x) 1 0 + n) (tally-is p xs)
  where
    by : (t : Bool) → cond t (1 + tally p xs) (tally p xs) ≡ cond t 1 0 + tally p xs
    by true = refl
    by false = omega arith

-- a count of what was filtered
pub count-filter : {A : Type 0} (p q : A → Bool) (xs : List A) → count_by p (filter q xs) ≡ count_by (λ x. q x && p x) xs
count-filter p q [] = refl
count-filter p q (x ∷ xs) = by (q x) (count-filter p q xs) ∙ sym (count-cons (λ x. q x && p x) x xs)
  where
    by : (t : Bool) → count_by p (filter q xs) ≡ count_by (λ x. q x && p x) xs →
        count_by p (cond t (x ∷ filter q xs) (filter q xs)) ≡ cond (t && p x) 1 0 + count_by (λ x. q x && p x) xs
    by true e = count-cons p x (filter q xs) ∙ ap (λ n. cond (p x) 1 0 + n) e
    by false e = e ∙ omega arith

-- a count of what was mapped
pub count-map : {A B : Type 0} (f : A → B) (p : B → Bool) (xs : List A) → count_by (λ x. p (f x)) xs ≡ count_by p (map f xs)
count-map f p [] = refl
count-map f p (x ∷ xs) = count-cons (λ x. p (f x)) x xs ∙ ap (λ n. cond (p (f x)) 1 0 + n) (count-map f p xs)
    ∙ sym (count-cons p (f x) (map f xs))

-- two lists have as many items that pass, where they pass place by place
pub count-zip : {A B : Type 0} (R : A → B → Type 0) (p : A → Bool) (q : B → Bool) → ((x : A) (y : B) → R x y → p x ≡ q y) →
    (xs : List A) (ys : List B) →
    AllZip R xs ys → count_by p xs ≡ count_by q ys
count-zip R p q same [] [] all = refl
count-zip R p q same [] (y ∷ ys) all = absurd all
count-zip R p q same (x ∷ xs) [] all = absurd all
count-zip R p q same (x ∷ xs) (y ∷ ys) all =
    count-cons p x xs ∙ ap₂ (λ t n. cond t 1 0 + n) (same x y all.0) (count-zip R p q same xs ys all.1) ∙ sym (count-cons q y ys)

map-numbers : (f : ℕ → Row) (n : ℕ) (rows : List Row) → ((k : ℕ) → k < length rows → f (n + k) ≡ slice_index_or rows k no_row) →
    map f (range_with_len n (length rows)) ≡ rows
map-numbers f n [] at = refl
map-numbers f n (r ∷ rows) at =
    ap₂ (λ x xs. x ∷ xs) (ap f (omega arith) ∙ at 0 (omega arith))
    (map-numbers f (n + 1) rows (λ k h. ap f (omega arith) ∙ at (suc k) (omega (arith, h))))

-- the rows by their numbers
pub all-rows : (rows : List Row) → map (row_at rows) (row_numbers rows) ≡ rows
all-rows rows = map-numbers (row_at rows) 0 rows (λ k h. ap (row_at rows) (omega arith))

-- a count of the numbers of rows is one of rows
pub count-rows : (rows : List Row) (p q : Row → Bool) →
    count_by (λ b. p (row_at rows b)) (filter (λ b. q (row_at rows b)) (row_numbers rows)) ≡ count_by (λ (r : Row). q r && p r) rows
count-rows rows p q =
    count-filter (λ b. p (row_at rows b)) (λ b. q (row_at rows b)) (row_numbers rows)
    ∙ count-map (row_at rows) (λ (r : Row). q r && p r) (row_numbers rows)
    ∙ ap (count_by (λ (r : Row). q r && p r)) (all-rows rows)

-- none is counted where none passes
pub count-none : {A : Type 0} (p : A → Bool) (xs : List A) → ((k : ℕ) (x : A) → slice_get xs k ≡ Some x → p x ≡ false) → count_by p xs ≡ 0
count-none p [] none = refl
count-none p (x ∷ xs) none = count-cons p x xs ∙ ap₂ (λ t n. cond t 1 0 + n) (none 0 x refl) (count-none p xs (λ k y e. none (suc k) y e))

-- place by place
pub zip-right : {A B : Type 0} (R : A → B → Type 0) (xs : List A) (ys : List B) (k : ℕ) (y : B) → AllZip R xs ys → slice_get ys k ≡ Some y →
    (x : A) × (slice_get xs k ≡ Some x) × R x y
zip-right R xs [] k y all e = absurd cc
zip-right R [] (z ∷ ys) k y all e = absurd all
zip-right R (x ∷ xs) (z ∷ ys) zero y all e = (x, refl, subst (R x) (some-same e) all.0)
  where
    some-same : Some z ≡ Some y → z ≡ y
    some-same e = cc
zip-right R (x ∷ xs) (z ∷ ys) (suc k) y all e = zip-right R xs ys k y all.1 e

pub zip-left : {A B : Type 0} (R : A → B → Type 0) (xs : List A) (ys : List B) (k : ℕ) (x : A) → AllZip R xs ys → slice_get xs k ≡ Some x →
    (y : B) × (slice_get ys k ≡ Some y) × R x y
zip-left R [] ys k x all e = absurd cc
zip-left R (z ∷ xs) [] k x all e = absurd all
zip-left R (z ∷ xs) (y ∷ ys) zero x all e = (y, refl, subst (λ x. R x y) (some-same e) all.0)
  where
    some-same : Some z ≡ Some x → z ≡ x
    some-same e = cc
zip-left R (z ∷ xs) (y ∷ ys) (suc k) x all e = zip-left R xs ys k x all.1 e

-- an item that is there
pub item-at : {A : Type 0} (xs : List A) (k : ℕ) (d : A) → k < length xs → slice_get xs k ≡ Some (slice_index_or xs k d)
item-at [] k d h = absurd (omega arith)
item-at (x ∷ xs) zero d h = refl
item-at (x ∷ xs) (suc k) d h = item-at xs k d (omega arith)

pub item-below : {A : Type 0} (xs : List A) (k : ℕ) (x : A) → slice_get xs k ≡ Some x → k < length xs
item-below [] k x e = absurd cc
item-below (y ∷ xs) zero x e = omega arith
item-below (y ∷ xs) (suc k) x e = let h = item-below xs k x e in omega (arith, h)

pub item-is : {A : Type 0} (xs : List A) (k : ℕ) (x d : A) → slice_get xs k ≡ Some x → slice_index_or xs k d ≡ x
item-is [] k x d e = absurd cc
item-is (y ∷ xs) zero x d e = cc
item-is (y ∷ xs) (suc k) x d e = item-is xs k x d e

-- what holds of all that were filtered holds of each that passes
pub filter-at : {A : Type 0} (P : A → Type 0) (q : A → Bool) (xs : List A) (k : ℕ) (x : A) → AllByRecursion P (filter q xs) →
    slice_get xs k ≡ Some x → q x ≡ true → P x
filter-at P q [] k x all e t = absurd cc
filter-at P q (y ∷ xs) zero x all e t = by (q y) refl all
  where
    same : y ≡ x
    same = cc e

    by : (b : Bool) → q y ≡ b → AllByRecursion P (cond b (y ∷ filter q xs) (filter q xs)) → P x
    by true is all = subst P same all.0
    by false is all = absurd (true≢false (sym t ∙ sym (ap q same) ∙ is))
filter-at P q (y ∷ xs) (suc k) x all e t = by (q y) all (λ all. filter-at P q xs k x all e t)
  where
    by : (b : Bool) → AllByRecursion P (cond b (y ∷ filter q xs) (filter q xs)) → (AllByRecursion P (filter q xs) → P x) → P x
    by true all later = later all.1
    by false all later = later all

-- what holds of all that a function gives holds of what it gives of one
pub given-at : {A B : Type 0} (P : B → Type 0) (f : A → Option B) (xs : List A) (k : ℕ) (x : A) (y : B) →
    AllByRecursion P (filter_map f xs) →
    slice_get xs k ≡ Some x → f x ≡ Some y → P y
given-at P f [] k x y all e g = absurd cc
given-at {B} P f (w ∷ xs) zero x y all e g = subst (λ o. AllByRecursion P (cons_option o (filter_map f xs)) → P y)
    (sym (ap f same ∙ g)) (λ all. all.0) all
  where
    same : w ≡ x
    same = cc e
given-at {B} P f (w ∷ xs) (suc k) x y all e g = by (f w) all (λ all. given-at P f xs k x y all e g)
  where
    by : (o : Option B) → AllByRecursion P (cons_option o (filter_map f xs)) → (AllByRecursion P (filter_map f xs) → P y) → P y
    by None all later = later all
    by (Some z) all later = later all.1

-- ---- Pairs

-- each item and each one after it
abbrev pub AllPaired : {A : Type 0} → (A → A → Type 0) → List A → Type 0
AllPaired R [] = Unit {0}
AllPaired R (x ∷ xs) = AllByRecursion (R x) xs × AllPaired R xs

all-from : {A : Type 0} (P : A → Type 0) (xs : List A) → ((k : ℕ) (x : A) → slice_get xs k ≡ Some x → P x) → AllByRecursion P xs
all-from P [] each = tt
all-from P (x ∷ xs) each = (each 0 x refl, all-from P xs (λ k y e. each (suc k) y e))

pub paired-from : {A : Type 0} (R : A → A → Type 0) (xs : List A) →
    ((i j : ℕ) (x y : A) → i < j → slice_get xs i ≡ Some x → slice_get xs j ≡ Some y → R x y) → AllPaired R xs
paired-from R [] each = tt
paired-from R (x ∷ xs) each = (
  all-from (R x) xs (λ k y e. each 0 (suc k) x y (omega arith) refl e),
  paired-from R xs (λ i j x y h e f. each (suc i) (suc j) x y (omega (arith, h)) e f),
)

-- two that pass, of all that were filtered
pub filter-paired : {A : Type 0} (R : A → A → Type 0) (q : A → Bool) (xs : List A) (i j : ℕ) (x y : A) → AllPaired R (filter q xs) → i < j →
    slice_get xs i ≡ Some x → slice_get xs j ≡ Some y → q x ≡ true → q y ≡ true → R x y
filter-paired R q [] i j x y all h e f t u = absurd cc
filter-paired R q (w ∷ xs) i zero x y all h e f t u = absurd (omega (arith, h))
filter-paired R q (w ∷ xs) zero (suc j) x y all h e f t u = by (q w) refl all
  where
    same : w ≡ x
    same = cc e

    by : (b : Bool) → q w ≡ b → AllPaired R (cond b (w ∷ filter q xs) (filter q xs)) → R x y
    by true is all = subst (λ x. R x y) same (filter-at (R w) q xs j y all.0 f u)
    by false is all = absurd (true≢false (sym t ∙ sym (ap q same) ∙ is))
filter-paired R q (w ∷ xs) (suc i) (suc j) x y all h e f t u =
    by (q w) all (λ all. filter-paired R q xs i j x y all (omega (arith, h)) e f t u)
  where
    by : (b : Bool) → AllPaired R (cond b (w ∷ filter q xs) (filter q xs)) → (AllPaired R (filter q xs) → R x y) → R x y
    by true all later = later all.1
    by false all later = later all
