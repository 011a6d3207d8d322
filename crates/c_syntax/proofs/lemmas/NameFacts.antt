-- Facts on lists of different names.
use Rattle.std.proofs.Common.{◌≡◌, refl, sym, ◌∙◌, ap, ℕ, zero, suc, List, [], ◌∷◌, ◌++◌, map, Bool, true, false, ◌||◌, Some, unwrap_or, slice_get, bytes_eq}
use Rattle.std.proofs.lemmas.Slice.Eq.{bytes_eq-Decides}
use Rattle.c_syntax.specs.Outputs.{has_name}
use Rattle.c_syntax.specs.Lawful.{AreDistinct, AreApart}
use Rattle.c_syntax.proofs.lemmas.NamePlaces.{bytes_eq-sym, or-left, or-right}

-- a name in two lists one after the other
pub has_name-append : (xs ys : List (List ℕ)) (n : List ℕ) → has_name (xs ++ ys) n ≡ (has_name xs n || has_name ys n)
has_name-append [] ys n = refl
has_name-append (x ∷ xs) ys n = by (bytes_eq n x) (has_name-append xs ys n)
  where
    by : (b : Bool) → has_name (xs ++ ys) n ≡ (has_name xs n || has_name ys n) →
        (b || has_name (xs ++ ys) n) ≡ ((b || has_name xs n) || has_name ys n)
    by true e = refl
    by false e = e

or-none : (a b : Bool) → a ≡ false → b ≡ false → (a || b) ≡ false
or-none false b e d = d
or-none true b e d = cc

-- the front and the back of different names
pub AreDistinct-front : (xs ys : List (List ℕ)) → AreDistinct (xs ++ ys) → AreDistinct xs
AreDistinct-front [] ys h = tt
AreDistinct-front (x ∷ xs) ys h =
    (h.0, or-left (has_name xs x) (has_name ys x) (sym (has_name-append xs ys x) ∙ h.1), AreDistinct-front xs ys h.2)

pub AreDistinct-back : (xs ys : List (List ℕ)) → AreDistinct (xs ++ ys) → AreDistinct ys
AreDistinct-back [] ys h = h
AreDistinct-back (x ∷ xs) ys h = AreDistinct-back xs ys h.2

-- the first name of the back is none of the front
pub AreDistinct-seam : (xs : List (List ℕ)) (n : List ℕ) (ys : List (List ℕ)) → AreDistinct (xs ++ n ∷ ys) → has_name xs n ≡ false
AreDistinct-seam [] n ys h = refl
AreDistinct-seam (x ∷ xs) n ys h =
    let later : has_name (n ∷ ys) x ≡ false = or-right (has_name xs x) (has_name (n ∷ ys) x) (sym (has_name-append xs (n ∷ ys) x) ∙ h.1) in
    or-none (bytes_eq n x) (has_name xs n) (bytes_eq-sym n x ∙ or-left (bytes_eq x n) (has_name ys x) later) (AreDistinct-seam xs n ys h.2)

-- a name is in the list of the names of what has it
pub has_name-there : {A : Type 0} (name : A → List ℕ) (xs : List A) (k : ℕ) (x : A) (n : List ℕ) →
    slice_get xs k ≡ Some x → name x ≡ n → has_name (map name xs) n ≡ true
has_name-there name [] k x n there same = cc
has_name-there name (y ∷ ys) zero x n there same =
    or-first (bytes_eq n (name y)) (has_name (map name ys) n)
    ((bytes_eq-Decides n (name y)).1 (sym same ∙ ap name (sym (some_same y x there))))
  where
    some_same : {A : Type 0} (a b : A) → Some a ≡ Some b → a ≡ b
    some_same a b e = ap (λ o. unwrap_or o a) e

    or-first : (a b : Bool) → a ≡ true → (a || b) ≡ true
    or-first true b e = refl
    or-first false b e = cc
has_name-there name (y ∷ ys) (suc k) x n there same =
    or-second (bytes_eq n (name y)) (has_name (map name ys) n) (has_name-there name ys k x n there same)
  where
    or-second : (a b : Bool) → b ≡ true → (a || b) ≡ true
    or-second true b e = refl
    or-second false b e = e

-- names that are apart from a list are apart from one with a further name that is none of them
pub AreApart-more : (names : List (List ℕ)) (n : List ℕ) (others : List (List ℕ)) → has_name names n ≡ false →
    AreApart names others → AreApart names (n ∷ others)
AreApart-more [] n others h apart = tt
AreApart-more (m ∷ ms) n others h apart = (
  or-none (bytes_eq m n) (has_name others m) (bytes_eq-sym m n ∙ or-left (bytes_eq n m) (has_name ms n) h) apart.0,
  AreApart-more ms n others (or-right (bytes_eq n m) (has_name ms n) h) apart.1,
)

pub AreApart-none : (names : List (List ℕ)) → AreApart names []
AreApart-none [] = tt
AreApart-none (n ∷ ns) = (refl, AreApart-none ns)
