-- What holds of each item of a list that is made by a map, of those that fail a test, or of a list beside another, and how many items pass a test.
use Rattle.std.specs.Prelude.{◌≡◌, ◌+◌, ◌||◌, not, nat_lt, Bool, true, false, cond, List, [], ◌∷◌, ◌++◌, map, filter, flat_map, count_by, Contains}
use Rattle.std.specs.List.{AllByRecursion, AllZip, list_any}
use Rattle.std.proofs.Common.{refl, sym, ap, ap₂, subst, ◌∙◌, inl, inr, arith}
use Rattle.std.proofs.lemmas.Bool.Decides.{nat_tests}
use Rattle.std.proofs.lemmas.List.Sums.{sum_by-cons, sum_by-append}
use Rattle.std.proofs.lemmas.List.Folds.{list_any-append}
use Rattle.modules_profile.proofs.lemmas.Members.{in-none, in-cases, in-first, in-rest}

-- ---- Each item

pub map-each : {A B : Type 0} (f : A → B) (Q : B → Type 0) (xs : List A) → AllByRecursion Q (map f xs) →
    AllByRecursion (λ x. Q (f x)) xs
map-each f Q [] h = tt
map-each f Q (x ∷ xs) h = (h.0, map-each f Q xs h.1)

pub each-in : {A : Type 0} (P : A → Type 0) (xs : List A) → ((x : A) → Contains xs x → P x) → AllByRecursion P xs
each-in P [] holds = tt
each-in P (x ∷ xs) holds = (holds x (in-first x xs), each-in P xs (λ y has. holds y (in-rest x y xs has)))

-- what holds of the items that fail a test, and of those that pass it, holds of each
pub each-by : {A : Type 0} (P : A → Type 0) (test : A → Bool) (xs : List A) → ((x : A) → test x ≡ true → P x) →
    AllByRecursion P (filter (λ x. not (test x)) xs) → AllByRecursion P xs
each-by P test [] passes h = tt
each-by {A} P test (x ∷ xs) passes h = by (test x) refl h (each-by P test xs passes)
  where
    by : (t : Bool) → test x ≡ t →
        AllByRecursion P (cond (not t) (x ∷ filter (λ y. not (test y)) xs) (filter (λ y. not (test y)) xs)) →
        (AllByRecursion P (filter (λ y. not (test y)) xs) → AllByRecursion P xs) → P x × AllByRecursion P xs
    by true e g next = (passes x e, next g)
    by false e g next = (g.0, next g.1)

-- ---- Two lists

pub zip-each : {A B : Type 0} (R : A → B → Type 0) (P : B → Type 0) → ((a : A) (b : B) → R a b → P b) →
    (firsts : List A) (bs : List B) → AllZip R firsts bs → AllByRecursion P bs
zip-each R P next [] [] h = tt
zip-each R P next [] (b ∷ bs) h = absurd h
zip-each R P next (a ∷ firsts) [] h = absurd h
zip-each R P next (a ∷ firsts) (b ∷ bs) h = (next a b h.0, zip-each R P next firsts bs h.1)

pub zip-push : {A B : Type 0} (R : A → B → Type 0) (xs : List A) (ys : List B) (x : A) (y : B) → AllZip R xs ys → R x y →
    AllZip R (xs ++ x ∷ []) (ys ++ y ∷ [])
zip-push R [] [] x y h one = (one, tt)
zip-push R [] (b ∷ ys) x y h one = absurd h
zip-push R (a ∷ xs) [] x y h one = absurd h
zip-push R (a ∷ xs) (b ∷ ys) x y h one = (h.0, zip-push R xs ys x y h.1 one)

-- ---- Lists that are mapped

-- tests that agree at each item keep the same
pub filter-same : {A : Type 0} (test other : A → Bool) (xs : List A) → AllByRecursion (λ x. test x ≡ other x) xs →
    filter test xs ≡ filter other xs
filter-same test other [] h = refl
filter-same test other (x ∷ xs) h =
    ap₂ (λ b ys. cond b (x ∷ ys) ys) h.0 (filter-same test other xs h.1)

-- ---- How many pass

pub count-append : {A : Type 0} (test : A → Bool) (xs ys : List A) → count_by test (xs ++ ys) ≡ count_by test xs + count_by test ys
count-append test xs ys = sum_by-append (λ x. cond (test x) 1 0) xs ys

pub any-count : {A : Type 0} (test : A → Bool) (xs : List A) → list_any test xs ≡ nat_lt 0 (count_by test xs)
any-count test [] = refl
any-count test (x ∷ xs) =
    by (test x) (any-count test xs) ∙ ap (nat_lt 0) (sym (sum_by-cons (λ y. cond (test y) 1 0) x xs))
  where
    by : (b : Bool) → list_any test xs ≡ nat_lt 0 (count_by test xs) →
        (b || list_any test xs) ≡ nat_lt 0 (cond b 1 0 + count_by test xs)
    by true e = grind (arith, nat_tests)
    by false e = e ∙ ap (nat_lt 0) (let same : count_by test xs ≡ 0 + count_by test xs = omega arith in same)

pub any-map : {A B : Type 0} (f : A → B) (test : B → Bool) (xs : List A) → list_any test (map f xs) ≡ list_any (λ x. test (f x)) xs
any-map f test [] = refl
any-map f test (x ∷ xs) = ap (λ b. test (f x) || b) (any-map f test xs)

pub any-flat : {A B : Type 0} (f : A → List B) (test : B → Bool) (xs : List A) →
    list_any test (flat_map f xs) ≡ list_any (λ x. list_any test (f x)) xs
any-flat f test [] = refl
any-flat f test (x ∷ xs) = list_any-append test (f x) (flat_map f xs) ∙ ap (λ b. list_any test (f x) || b) (any-flat f test xs)

-- lists of which each has as many that pass, one for each item
pub count-flat : {A B C : Type 0} (f : A → List B) (g : A → List C) (test : B → Bool) (other : C → Bool) (xs : List A) →
    ((x : A) → count_by test (f x) ≡ count_by other (g x)) → count_by test (flat_map f xs) ≡ count_by other (flat_map g xs)
count-flat f g test other [] same = refl
count-flat f g test other (x ∷ xs) same =
    count-append test (f x) (flat_map f xs) ∙ ap₂ ◌+◌ (same x) (count-flat f g test other xs same)
    ∙ sym (count-append other (g x) (flat_map g xs))
