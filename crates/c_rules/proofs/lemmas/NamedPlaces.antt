-- Definitions at the places of their names.
use Rattle.std.proofs.Common.{◌≡◌, refl, sym, ◌∙◌, ap, ℕ, ◌+◌, ◌<◌, ◌≤◌, suc, Bool, true, false, cond, ◌||◌, List, [], ◌∷◌, ◌++◌, length, map, slice_get, MatchOption, Option, Some, None, bytes_eq, arith}
use Rattle.std.specs.List.{position_from}
use Rattle.std.specs.Option.{option_map}
use Rattle.std.proofs.lemmas.Option.{slice_get-map}
use denote.Ref.{Bor}
use Rattle.c_syntax.specs.Outputs.{has_name}
use Rattle.c_syntax.proofs.lemmas.NamePlaces.{bytes_eq-sym}
use Rattle.c_syntax.proofs.lemmas.NameFacts.{has_name-append}
use Rattle.c_rules.proofs.lemmas.Resolved.{some_same}

-- a place that is found is one from where the search begins, and within the list
pub above : {A : Type 0} (test : A → Bool) (i : ℕ) (xs : List A) (p : ℕ) → position_from test i xs ≡ Some p → i ≤ p
above test i [] p e = cc
above test i (x ∷ xs) p e = by (test x) e (λ later. above test (i + 1) xs p later)
  where
    by : (b : Bool) → cond b (Some i) (position_from test (i + 1) xs) ≡ Some p →
        (position_from test (i + 1) xs ≡ Some p → i + 1 ≤ p) → i ≤ p
    by true same later = omega (arith, some_same i p same)
    by false there later = omega (arith, later there)

pub within : {A : Type 0} (test : A → Bool) (i : ℕ) (xs : List A) (p : ℕ) → position_from test i xs ≡ Some p → p < i + length xs
within test i [] p e = cc
within test i (x ∷ xs) p e = by (test x) e (λ later. within test (i + 1) xs p later)
  where
    by : (b : Bool) → cond b (Some i) (position_from test (i + 1) xs) ≡ Some p →
        (position_from test (i + 1) xs ≡ Some p → p < i + 1 + length xs) → p < i + suc (length xs)
    by true same later = omega (arith, some_same i p same)
    by false there later = omega (arith, later there)

places : {A B : Type 0} (view : A → B) (of : B → List ℕ) (i : ℕ) (items : List A) (key : List ℕ) →
    position_from (λ b. bytes_eq (of b) key) i (map view items)
    ≡ position_from (bytes_eq key) i (map (λ x. of (view x)) items)
places view of i [] key = refl
places view of i (x ∷ xs) key =
    ap (λ b. cond b (Some i) (position_from (λ y. bytes_eq (of y) key) (i + 1) (map view xs)))
    (bytes_eq-sym (of (view x)) key)
    ∙ ap (λ o. cond (bytes_eq key (of (view x))) (Some i) o) (places view of (i + 1) xs key)

-- the place of what has a name
pub named_place : {A B : Type 0} (view : A → B) (of : B → List ℕ) (items : List A) (names : List (List ℕ))
    (key : List ℕ) → names ≡ map (λ x. of (view x)) items →
    position_from (λ b. bytes_eq (of b) key) 0 (map view items) ≡ position_from (bytes_eq key) 0 names
named_place view of items names key e = places view of 0 items key ∙ ap (position_from (bytes_eq key) 0) (sym e)

length-map : {A B : Type 0} (f : A → B) (xs : List A) → length (map f xs) ≡ length xs
length-map f [] = refl
length-map f (x ∷ xs) = ap suc (length-map f xs)

-- a place of a name is within
pub within_names : {A : Type 0} (of : A → List ℕ) (items : List A) (names : List (List ℕ)) (key : List ℕ) (k : ℕ) →
    names ≡ map of items → position_from (bytes_eq key) 0 names ≡ Some k → k < length items
within_names of items names key k e there =
    omega (arith, within (bytes_eq key) 0 (map of items) k (ap (position_from (bytes_eq key) 0) (sym e) ∙ there), length-map of items)

-- the place in a list itself
pub place-itself : {A : Type 0} (of : A → List ℕ) (i : ℕ) (xs : List A) (names : List (List ℕ)) (key : List ℕ) →
    names ≡ map of xs → position_from (bytes_eq key) i names ≡ position_from (λ x. bytes_eq (of x) key) i xs
place-itself of i xs names key e = ap (position_from (bytes_eq key) i) e ∙ by i xs
  where
    by : (i : ℕ) (xs : List _) → position_from (bytes_eq key) i (map of xs) ≡ position_from (λ x. bytes_eq (of x) key) i xs
    by i [] = refl
    by i (x ∷ xs) =
        ap (λ b. cond b (Some i) (position_from (bytes_eq key) (i + 1) (map of xs))) (bytes_eq-sym key (of x))
        ∙ ap (λ o. cond (bytes_eq (of x) key) (Some i) o) (by (i + 1) xs)

pub map-map : {A B C : Type 0} (g : B → C) (f : A → B) (xs : List A) → map g (map f xs) ≡ map (λ x. g (f x)) xs
map-map g f [] = refl
map-map g f (x ∷ xs) = ap (λ ys. g (f x) ∷ ys) (map-map g f xs)

-- a name among two lists of names
pub either_named : (xs ys all : List (List ℕ)) (n : List ℕ) (a b : Bool) → a ≡ has_name xs n → b ≡ has_name ys n →
    all ≡ xs ++ ys → (a || b) ≡ has_name all n
either_named xs ys all n a b ea eb e = (λ i. ea i || eb i) ∙ sym (has_name-append xs ys n) ∙ ap (λ l. has_name l n) (sym e)

-- the place in a list of what is seen of its items
pub position-view : {A B : Type 0} (view : A → B) (test : B → Bool) (i : ℕ) (items : List A) →
    position_from test i (map view items) ≡ position_from (λ x. test (view x)) i items
position-view view test i [] = refl
position-view view test i (x ∷ xs) = ap (cond (test (view x)) (Some i)) (position-view view test (i + 1) xs)

-- what was found under a name, seen so
pub found-view : {A B : Type 0} (view : A → B) (of : B → List ℕ) (items : List A) (key : List ℕ) (result : Option (ℕ × Bor A)) →
    MatchOption result (position_from (λ x. bytes_eq (of (view x)) key) 0 items ≡ None)
    (λ found. (position_from (λ x. bytes_eq (of (view x)) key) 0 items ≡ Some found.0)
    × (slice_get items found.0 ≡ Some found.1.now)) →
    MatchOption result (position_from (λ b. bytes_eq (of b) key) 0 (map view items) ≡ None)
    (λ found. (position_from (λ b. bytes_eq (of b) key) 0 (map view items) ≡ Some found.0)
    × (slice_get (map view items) found.0 ≡ Some (view found.1.now)))
found-view view of items key None none = position-view view (λ b. bytes_eq (of b) key) 0 items ∙ none
found-view view of items key (Some found) there =
    (position-view view (λ b. bytes_eq (of b) key) 0 items ∙ there.0, slice_get-map view items found.0 ∙ ap (option_map view) there.1)

-- the place of what has a name is within
pub position-within : {A : Type 0} (of : A → List ℕ) (items : List A) (key : List ℕ) (k : ℕ) →
    position_from (λ x. bytes_eq (of x) key) 0 items ≡ Some k → k < length items
position-within of items key k there = omega (arith, within (λ x. bytes_eq (of x) key) 0 items k there)
