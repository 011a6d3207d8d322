-- Members of lists that are reversed, joined or kept, properties of all items, and the rows of a system.
use Rattle.std.proofs.Common.{◌≡◌, refl, sym, subst, ℕ, zero, suc, ◌+◌, ◌<◌, ◌≤◌, Bool, true, false, if◌then◌else◌, List, [], ◌∷◌, ◌++◌, length, map, Option, Some, arith, inl, inr}
use Rattle.std.specs.Prelude.{slice_get, reverse, Contains}
use Rattle.std.specs.List.{AllByRecursion, range_with_len, flat_map, filter}
use Rattle.std.proofs.lemmas.List.{reverse-append}
use Rattle.std.proofs.lemmas.List.Elements.{Contains-append_left, Contains-append_right}
use Rattle.diagram_meaning.specs.declared.Row.{Row}
use Rattle.diagram_meaning.specs.Rows.{row_at, rows_of, row_numbers, same_system}
use Rattle.diagram_meaning.specs.SystemRuns.{IsRowOf}
use Rattle.diagram_meaning.proofs.lemmas.RestsOnNeeds.{same_system-equal}
use Rattle.modules_profile.proofs.lemmas.Members.{in-none, in-first, in-rest, in-cases}
use Rattle.lustre_system.specs.RowEquations.{only_if}

-- ---- Members

pub in-reverse : {A : Type 0} (xs : List A) (x : A) → Contains xs x → Contains (reverse xs) x
in-reverse [] x here = absurd (in-none x here)
in-reverse (y ∷ ys) x here =
    subst (λ zs. Contains zs x) (sym (reverse-append (y ∷ []) ys)) (elim (in-cases y x ys here) [
      | inl same ↦ Contains-append_right (reverse ys) (y ∷ []) x (subst (Contains (y ∷ [])) same (in-first y []))
      | inr more ↦ Contains-append_left (reverse ys) (y ∷ []) x (in-reverse ys x more)
    ])

pub in-joined : {A B : Type 0} (f : A → List B) (xs : List A) (x : A) (y : B) → Contains xs x → Contains (f x) y →
    Contains (flat_map f xs) y
in-joined f [] x y here there = absurd (in-none x here)
in-joined f (z ∷ zs) x y here there = elim (in-cases z x zs here) [
  | inl same ↦ Contains-append_left (f z) (flat_map f zs) y (subst (λ w. Contains (f w) y) (sym same) there)
  | inr more ↦ Contains-append_right (f z) (flat_map f zs) y (in-joined f zs x y more there)
]

pub in-only : {A : Type 0} (b : Bool) (xs : List A) (x : A) → b ≡ true → Contains xs x → Contains (only_if b xs) x
in-only true xs x is here = here
in-only false xs x is here = absurd (cc)

-- ---- All items

pub all-members : {A : Type 0} (P : A → Type 0) (xs : List A) → ((x : A) → Contains xs x → P x) → AllByRecursion P xs
all-members P [] each = tt
all-members P (x ∷ xs) each = (each x (in-first x xs), all-members P xs (λ y here. each y (in-rest x y xs here)))

pub all-member : {A : Type 0} (P : A → Type 0) (xs : List A) → AllByRecursion P xs → (x : A) → Contains xs x → P x
all-member P [] all x here = absurd (in-none x here)
all-member P (y ∷ ys) all x here = elim (in-cases y x ys here) [
  | inl same ↦ subst P same all.0
  | inr more ↦ all-member P ys all.1 x more
]

pub all-mapped : {A B : Type 0} (P : B → Type 0) (f : A → B) (xs : List A) → AllByRecursion (λ x. P (f x)) xs → AllByRecursion P (map f xs)
all-mapped P f [] all = tt
all-mapped P f (x ∷ xs) all = (all.0, all-mapped P f xs all.1)

pub all-after : {A : Type 0} (P : A → Type 0) (xs ys : List A) → AllByRecursion P xs → AllByRecursion P ys → AllByRecursion P (xs ++ ys)
all-after P [] ys first second = second
all-after P (x ∷ xs) ys first second = (first.0, all-after P xs ys first.1 second)

pub all-by-place : {A : Type 0} (P : A → Type 0) (xs : List A) → ((k : ℕ) (x : A) → slice_get xs k ≡ Some x → P x) → AllByRecursion P xs
all-by-place P [] each = tt
all-by-place P (x ∷ xs) each = (each 0 x refl, all-by-place P xs (λ k y at. each (suc k) y at))

pub all-map : {A : Type 0} (P Q : A → Type 0) → ((x : A) → P x → Q x) → (xs : List A) → AllByRecursion P xs → AllByRecursion Q xs
all-map P Q f [] all = tt
all-map P Q f (x ∷ xs) all = (f x all.0, all-map P Q f xs all.1)

pub all-numbers : (n a m : ℕ) → a + n ≤ m → AllByRecursion (λ k. k < m) (range_with_len a n)
all-numbers zero a m few = tt
all-numbers (suc n) a m few = (omega (arith, few), all-numbers n (a + 1) m (omega (arith, few)))

kept-or-not : {A : Type 0} (Q : A → Type 0) (b : Bool) (x : A) (xs : List A) → (b ≡ true → Q x) → AllByRecursion Q xs →
    AllByRecursion Q (if b then x ∷ xs else xs)
kept-or-not Q true x xs here rest = (here refl, rest)
kept-or-not Q false x xs here rest = rest

pub all-filtered : {A : Type 0} (P Q : A → Type 0) (test : A → Bool) → ((k : A) → P k → test k ≡ true → Q k) → (xs : List A) → AllByRecursion P xs →
    AllByRecursion Q (filter test xs)
all-filtered P Q test keep [] all = tt
all-filtered P Q test keep (x ∷ xs) all =
    kept-or-not Q (test x) x (filter test xs) (keep x all.0) (all-filtered P Q test keep xs all.1)

pub all-joined : {A B : Type 0} (Q : B → Type 0) (f : A → List B) (xs : List A) → AllByRecursion (λ x. AllByRecursion Q (f x)) xs →
    AllByRecursion Q (flat_map f xs)
all-joined Q f [] all = tt
all-joined Q f (x ∷ xs) all = all-after Q (f x) (flat_map f xs) all.0 (all-joined Q f xs all.1)

pub all-only : {A : Type 0} (Q : A → Type 0) (b : Bool) (xs : List A) → (b ≡ true → AllByRecursion Q xs) →
    AllByRecursion Q (only_if b xs)
all-only Q true xs all = all refl
all-only Q false xs all = tt

-- the rows of a system
pub own-rows : (rows : List Row) (n : Option ℕ) → AllByRecursion (IsRowOf rows n) (rows_of rows n)
own-rows rows n =
    all-filtered (λ k. k < length rows) (IsRowOf rows n) (λ b. same_system (row_at rows b).owner n)
    (λ k below own. record { in_table = below; own = same_system-equal (row_at rows k).owner n own }) (row_numbers rows)
    (all-numbers (length rows) 0 (length rows) (omega arith))
