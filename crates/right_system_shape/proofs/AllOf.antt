-- What holds of each of a list: of lists one after another, of mapped and of joined ones.
use Rattle.std.specs.Prelude.{◌≡◌, ℕ, ◌+◌, ◌==◌, ◌||◌, ◌⊎◌, Bool, true, false, List, [], ◌∷◌, ◌++◌, map, flat_map, filter_map, length, Contains, Option, Some, None, refl}
use Rattle.std.specs.List.{AllByRecursion, cons_option, list_any}
use Rattle.std.proofs.Common.{sym, ap, ◌∙◌, subst, inl, inr, true≢false}
use Rattle.std.proofs.lemmas.Bool.{eq-eqb}
use Rattle.std.proofs.lemmas.Option.{same_Some, none-some}
use Rattle.modules_profile.proofs.lemmas.Members.{in-none, in-first, in-rest, in-cases, in-at, at-in, at-left, at-right}

pub all-append : {A : Type 0} (P : A → Type 0) (xs ys : List A) → AllByRecursion P xs → AllByRecursion P ys → AllByRecursion P (xs ++ ys)
all-append P [] ys h k = k
all-append P (x ∷ xs) ys h k = (h.0, all-append P xs ys h.1 k)

pub all-left : {A : Type 0} (P : A → Type 0) (xs ys : List A) → AllByRecursion P (xs ++ ys) → AllByRecursion P xs
all-left P [] ys h = tt
all-left P (x ∷ xs) ys h = (h.0, all-left P xs ys h.1)

pub all-right : {A : Type 0} (P : A → Type 0) (xs ys : List A) → AllByRecursion P (xs ++ ys) → AllByRecursion P ys
all-right P [] ys h = h
all-right P (x ∷ xs) ys h = all-right P xs ys h.1

pub all-mapped : {A B : Type 0} (P : B → Type 0) (f : A → B) (xs ys : List A) → AllByRecursion P (map f xs) →
    AllByRecursion P (map f ys) → AllByRecursion P (map f (xs ++ ys))
all-mapped P f [] ys h k = k
all-mapped P f (x ∷ xs) ys h k = (h.0, all-mapped P f xs ys h.1 k)

pub all-of : {A : Type 0} (P : A → Type 0) (xs : List A) → ((x : A) → Contains xs x → P x) → AllByRecursion P xs
all-of P [] each = tt
all-of P (x ∷ xs) each = (each x (in-first x xs), all-of P xs (λ y h. each y (in-rest x y xs h)))

pub all-of-map : {A B : Type 0} (P : B → Type 0) (f : A → B) (xs : List A) → ((x : A) → Contains xs x → P (f x)) →
    AllByRecursion P (map f xs)
all-of-map P f [] each = tt
all-of-map P f (x ∷ xs) each = (each x (in-first x xs), all-of-map P f xs (λ y h. each y (in-rest x y xs h)))

-- where each of the first has what its image has
pub all-sent : {A B : Type 0} (P : A → Type 0) (Q : B → Type 0) (f : A → B) (xs : List A) → ((x : A) → P x → Q (f x)) →
    AllByRecursion P xs → AllByRecursion Q (map f xs)
all-sent P Q f [] each h = tt
all-sent P Q f (x ∷ xs) each h = (each x h.0, all-sent P Q f xs each h.1)

-- ---- Members

pub in-left : {A : Type 0} (xs ys : List A) (x : A) → Contains xs x → Contains (xs ++ ys) x
in-left xs ys x h = let m = at-in xs x h in in-at (xs ++ ys) m.0 x (at-left xs ys m.0 x m.1)

pub in-right : {A : Type 0} (xs ys : List A) (x : A) → Contains ys x → Contains (xs ++ ys) x
in-right xs ys x h = let m = at-in ys x h in in-at (xs ++ ys) (length xs + m.0) x (at-right xs ys m.0 x m.1)

pub in-flat_map : {A B : Type 0} (f : A → List B) (xs : List A) (x : A) (y : B) → Contains xs x → Contains (f x) y →
    Contains (flat_map f xs) y
in-flat_map f [] x y h k = absurd (in-none x h)
in-flat_map f (z ∷ xs) x y h k = elim (in-cases z x xs h) [
  | inl same ↦ in-left (f z) (flat_map f xs) y (subst (λ w. Contains (f w) y) (sym same) k)
  | inr more ↦ in-right (f z) (flat_map f xs) y (in-flat_map f xs x y more k)
]

pub in-filter_map : {A B : Type 0} (f : A → Option B) (xs : List A) (x : A) (y : B) → Contains xs x → f x ≡ Some y →
    Contains (filter_map f xs) y
in-filter_map f [] x y h is = absurd (in-none x h)
in-filter_map {A} {B} f (z ∷ xs) x y h is = by (f z) refl (in-cases z x xs h) (λ more. in-filter_map f xs x y more is)
  where
    by : (o : Option B) → f z ≡ o → (z ≡ x) ⊎ Contains xs x → (Contains xs x → Contains (filter_map f xs) y) →
        Contains (cons_option o (filter_map f xs)) y
    by None e (inl same) later = absurd (none-some y (sym e ∙ ap f same ∙ is))
    by None e (inr more) later = later more
    by (Some w) e (inl same) later = subst (Contains (w ∷ filter_map f xs)) (same_Some w y (sym e ∙ ap f same ∙ is))
        (in-first w (filter_map f xs))
    by (Some w) e (inr more) later = in-rest w y (filter_map f xs) (later more)

pub all-flat : {A B : Type 0} (P : B → Type 0) (f : A → List B) (xs : List A) → ((x : A) → Contains xs x → AllByRecursion P (f x)) →
    AllByRecursion P (flat_map f xs)
all-flat P f [] each = tt
all-flat P f (x ∷ xs) each = all-append P (f x) (flat_map f xs) (each x (in-first x xs))
    (all-flat P f xs (λ y h. each y (in-rest x y xs h)))

-- a member passes the test of some
pub any-in : (xs : List ℕ) (k : ℕ) → Contains xs k → list_any (λ p. p == k) xs ≡ true
any-in [] k h = absurd (in-none k h)
any-in (x ∷ xs) k h = by (x == k) refl (in-cases x k xs h) (λ more. any-in xs k more)
  where
    by : (t : Bool) → (x == k) ≡ t → (x ≡ k) ⊎ Contains xs k → (Contains xs k → list_any (λ p. p == k) xs ≡ true) →
        (t || list_any (λ p. p == k) xs) ≡ true
    by true e h later = refl
    by false e (inl same) later = absurd (true≢false (sym (eq-eqb x k same) ∙ e))
    by false e (inr more) later = later more
