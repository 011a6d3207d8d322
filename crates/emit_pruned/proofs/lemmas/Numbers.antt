-- What holds of each of some numbers, and which numbers there are among some.
use Rattle.std.specs.Prelude.{◌≡◌, ℕ, suc, ◌==◌, ◌||◌, Bool, true, false, List, [], ◌∷◌, ◌++◌, flat_map, Contains}
use Rattle.std.specs.List.{AllByRecursion}
use Rattle.std.proofs.Common.{refl, sym, ap, ◌∙◌, arith}
use Rattle.std.proofs.lemmas.Bool.Decides.{nat_tests}
pub use Rattle.c_renaming.proofs.lemmas.TwoLists.{all-left, all-right}
use Rattle.emit_pruned.specs.Needed.{has_number}

module _ {A : Type 0} (P : A → Type 0) where
  pub all-both : (xs ys : List A) → AllByRecursion P xs → AllByRecursion P ys → AllByRecursion P (xs ++ ys)
  all-both [] ys h g = g
  all-both (x ∷ xs) ys h g = (h.0, all-both xs ys h.1 g)

  pub all-parts : {B : Type 0} (f : B → List A) (bs : List B) → AllByRecursion P (flat_map f bs) →
      AllByRecursion (λ b. AllByRecursion P (f b)) bs
  all-parts f [] h = tt
  all-parts f (b ∷ bs) h = (all-left P (f b) (flat_map f bs) h, all-parts f bs (all-right P (f b) (flat_map f bs) h))

  pub all-whole : {B : Type 0} (f : B → List A) (bs : List B) → AllByRecursion (λ b. AllByRecursion P (f b)) bs →
      AllByRecursion P (flat_map f bs)
  all-whole f [] h = tt
  all-whole f (b ∷ bs) h = all-both (f b) (flat_map f bs) h.0 (all-whole f bs h.1)

-- what holds of each of some follows in each
pub each-then : {A : Type 0} (P Q : A → Type 0) (xs : List A) → ((x : A) → P x → Q x) → AllByRecursion P xs → AllByRecursion Q xs
each-then P Q [] next h = tt
each-then P Q (x ∷ xs) next h = (next x h.0, each-then P Q xs next h.1)

-- what holds of each of some by two reasons
pub each-both : {A : Type 0} (P Q : A → Type 0) (xs : List A) → AllByRecursion P xs → AllByRecursion Q xs →
    AllByRecursion (λ x. P x × Q x) xs
each-both P Q [] h g = tt
each-both P Q (x ∷ xs) h g = ((h.0, g.0), each-both P Q xs h.1 g.1)

-- ---- Which numbers there are

pub has-left : (xs ys : List ℕ) (k : ℕ) → has_number xs k ≡ true → has_number (xs ++ ys) k ≡ true
has-left [] ys k h = absurd (let wrong : ⊥ = cc h in wrong)
has-left (x ∷ xs) ys k h = by (x == k) (has-left xs ys k) h
  where
    by : (b : Bool) → (has_number xs k ≡ true → has_number (xs ++ ys) k ≡ true) → (b || has_number xs k) ≡ true →
        (b || has_number (xs ++ ys) k) ≡ true
    by true next e = refl
    by false next e = next e

pub has-right : (xs ys : List ℕ) (k : ℕ) → has_number ys k ≡ true → has_number (xs ++ ys) k ≡ true
has-right [] ys k h = h
has-right (x ∷ xs) ys k h = by (x == k) (has-right xs ys k h)
  where
    by : (b : Bool) → has_number (xs ++ ys) k ≡ true → (b || has_number (xs ++ ys) k) ≡ true
    by true e = refl
    by false e = e

-- a number of the two lists that isn't in the second is in the first
pub has-first : (xs ys : List ℕ) (k : ℕ) → has_number (xs ++ ys) k ≡ true → AllByRecursion (λ j. (j == k) ≡ false) ys →
    has_number xs k ≡ true
has-first [] [] k h apart = h
has-first [] (y ∷ ys) k h apart = has-first [] ys k (sym (ap (λ b. b || has_number ys k) apart.0) ∙ h) apart.1
has-first (x ∷ xs) ys k h apart = by (x == k) (λ e. has-first xs ys k e apart) h
  where
    by : (b : Bool) → (has_number (xs ++ ys) k ≡ true → has_number xs k ≡ true) → (b || has_number (xs ++ ys) k) ≡ true →
        (b || has_number xs k) ≡ true
    by true next e = refl
    by false next e = next e

-- each number of a list is there
pub each-has : (xs : List ℕ) → AllByRecursion (λ k. has_number xs k ≡ true) xs
each-has [] = tt
each-has (x ∷ xs) = (
  ap (λ b. b || has_number xs x) (same x),
  each-then (λ k. has_number xs k ≡ true) (λ k. (x == k) || has_number xs k ≡ true) xs (λ k e. later (x == k) (has_number xs k) e)
      (each-has xs),
)
  where
    same : (k : ℕ) → (k == k) ≡ true
    same k = grind (arith, nat_tests)

    later : (a b : Bool) → b ≡ true → (a || b) ≡ true
    later true b e = refl
    later false b e = e

pub contains : (xs : List ℕ) (k : ℕ) → has_number xs k ≡ true → Contains xs k
contains [] k h = absurd (let wrong : ⊥ = cc h in wrong)
contains (x ∷ xs) k h = by (x == k) refl h (contains xs k)
  where
    by : (b : Bool) → (x == k) ≡ b → (b || has_number xs k) ≡ true → (has_number xs k ≡ true → Contains xs k) → Contains (x ∷ xs) k
    by true e is next = (0, omega arith, equal)
      where
        equal : x ≡ k
        equal = grind (arith, nat_tests)
    by false e is next = let (i, below, there) = next is in (suc i, omega arith, there)
