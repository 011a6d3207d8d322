-- Lists: what is kept, counted and found of mapped and joined ones.
use Rattle.std.specs.Prelude.{◌≡◌, ℕ, zero, suc, ◌+◌, ◌≤◌, Bool, true, false, cond, List, [], ◌∷◌, ◌++◌, map, flat_map, filter, find, zip, take, length, count_by, slice_get, slice_index_or, Contains, Some, unwrap_or, bytes_eq, refl}
use Rattle.std.specs.List.{AllByRecursion, AllZip, position_from}
use Rattle.std.specs.Cmp.Lexicographic.{same_text}
use Rattle.std.proofs.Common.{sym, ap, ap₂, subst, ◌∙◌, arith, inl, inr}
use Rattle.std.proofs.lemmas.List.Elements.{Contains-append_left, Contains-append_right, Contains-append_cases}
use Rattle.std.proofs.lemmas.List.Sums.{sum_by-cons}
use Rattle.std.proofs.lemmas.Option.{get_or_from_slice_get, same_Some}
use Rattle.modules_profile.proofs.lemmas.Members.{in-first, in-rest, of-map, at-map, at-below}
use Rattle.c_syntax.specs.Names.{name_at}
use Rattle.c_syntax.specs.Lawful.{AreDistinct}
use Rattle.c_syntax.proofs.lemmas.NamePlaces.{has_name-at}
use Rattle.right_linking.proofs.lemmas.AssembledNames.{bytes-same}
use Rattle.right_linking.proofs.lemmas.AssembledPlaces.{IsFirst, first-position, first-of}

pub each : {A : Type 0} (P Q : A → Type 0) (xs : List A) → ((x : A) → Contains xs x → P x → Q x) → AllByRecursion P xs → AllByRecursion Q xs
each P Q [] gives all = tt
each P Q (x ∷ xs) gives all = (gives x (in-first x xs) all.0, each P Q xs (λ y has. gives y (in-rest x y xs has)) all.1)

pub each-mapped : {A B : Type 0} (P : A → Type 0) (Q : B → Type 0) (f : A → B) (xs : List A) → ((x : A) → P x → Q (f x)) →
    AllByRecursion P xs → AllByRecursion Q (map f xs)
each-mapped P Q f [] gives all = tt
each-mapped P Q f (x ∷ xs) gives all = (gives x all.0, each-mapped P Q f xs gives all.1)

-- what is in the list of some element is in that of its image
pub flat-kept : {A B C : Type 0} (f : A → List C) (g : B → List C) (move : A → B) (y : C) →
    ((x : A) → Contains (f x) y → Contains (g (move x)) y) → (xs : List A) → Contains (flat_map f xs) y →
    Contains (flat_map g (map move xs)) y
flat-kept f g move y kept [] has = has
flat-kept f g move y kept (x ∷ xs) has = elim (Contains-append_cases (f x) (flat_map f xs) y has) [
  | inl first ↦ Contains-append_left (g (move x)) (flat_map g (map move xs)) y (kept x first)
  | inr more ↦ Contains-append_right (g (move x)) (flat_map g (map move xs)) y (flat-kept f g move y kept xs more)
]

pub filter-all : {A : Type 0} (p : A → Bool) (xs : List A) → AllByRecursion (λ x. p x ≡ true) xs → filter p xs ≡ xs
filter-all p [] all = refl
filter-all p (x ∷ xs) all = ap (λ b. cond b (x ∷ filter p xs) (filter p xs)) all.0 ∙ ap (λ more. x ∷ more) (filter-all p xs all.1)

pub filter-none : {A : Type 0} (p : A → Bool) (xs : List A) → AllByRecursion (λ x. p x ≡ false) xs → filter p xs ≡ []
filter-none p [] all = refl
filter-none p (x ∷ xs) all = ap (λ b. cond b (x ∷ filter p xs) (filter p xs)) all.0 ∙ filter-none p xs all.1

pub filter-map : {A B : Type 0} (p : B → Bool) (f : A → B) (xs : List A) → filter p (map f xs) ≡ map f (filter (λ x. p (f x)) xs)
filter-map p f [] = refl
filter-map p f (x ∷ xs) = ap (λ more. cond (p (f x)) (f x ∷ more) more) (filter-map p f xs) ∙ by (p (f x))
  where
    by : (t : Bool) → cond t (f x ∷ map f (filter (λ y. p (f y)) xs)) (map f (filter (λ y. p (f y)) xs))
        ≡ map f (cond t (x ∷ filter (λ y. p (f y)) xs) (filter (λ y. p (f y)) xs))
    by true = refl
    by false = refl

pub map-same : {A B : Type 0} (f g : A → B) (xs : List A) → ((x : A) → Contains xs x → f x ≡ g x) → map f xs ≡ map g xs
map-same f g [] same = refl
map-same f g (x ∷ xs) same = ap₂ (λ y ys. y ∷ ys) (same x (in-first x xs)) (map-same f g xs (λ z has. same z (in-rest x z xs has)))

pub count-mapped : {A B : Type 0} (p : B → Bool) (r : A → Bool) (f : A → B) (xs : List A) → ((x : A) → Contains xs x → p (f x) ≡ r x) →
    count_by p (map f xs) ≡ count_by r xs
count-mapped p r f [] same = refl
count-mapped p r f (x ∷ xs) same =
    sum_by-cons (λ y. cond (p y) 1 0) (f x) (map f xs)
    ∙ ap₂ (λ b n. cond b 1 0 + n) (same x (in-first x xs)) (count-mapped p r f xs (λ y has. same y (in-rest x y xs has)))
    ∙ sym (sum_by-cons (λ y. cond (r y) 1 0) x xs)

-- what is beside the element at a place
pub zip-at : {A B : Type 0} (P : A → B → Type 0) (xs : List A) (ys : List B) (k : ℕ) (x : A) → AllZip P xs ys → slice_get xs k ≡ Some x →
    (y : B) × (slice_get ys k ≡ Some y) × P x y
zip-at P [] ys k x all at = absurd (let wrong : ⊥ = cc at in wrong)
zip-at P (z ∷ xs) [] k x all at = absurd all
zip-at P (z ∷ xs) (y ∷ ys) zero x all at = let same : z ≡ x = cc at in (y, refl, first same all.0)
  where
    first : z ≡ x → P z y → P x y
    first same is = subst (λ w. P w y) same is
zip-at P (z ∷ xs) (y ∷ ys) (suc k) x all at = zip-at P xs ys k x all.1 at

pub zip-maps : {A B C : Type 0} (P : B → C → Type 0) (f : A → B) (g : A → C) (xs : List A) → ((x : A) → Contains xs x → P (f x) (g x)) →
    AllZip P (map f xs) (map g xs)
zip-maps P f g [] all = tt
zip-maps P f g (x ∷ xs) all = (all x (in-first x xs), zip-maps P f g xs (λ y has. all y (in-rest x y xs has)))

pub zip-append : {A B : Type 0} (P : A → B → Type 0) (xs : List A) (ys : List B) (us : List A) (ws : List B) → AllZip P xs ys →
    AllZip P us ws →
    AllZip P (xs ++ us) (ys ++ ws)
zip-append P [] [] us ws one two = two
zip-append P [] (y ∷ ys) us ws one two = absurd one
zip-append P (x ∷ xs) [] us ws one two = absurd one
zip-append P (x ∷ xs) (y ∷ ys) us ws one two = (one.0, zip-append P xs ys us ws one.1 two)

pub map-map : {A B C : Type 0} (g : B → C) (f : A → B) (xs : List A) → map g (map f xs) ≡ map (λ x. g (f x)) xs
map-map g f [] = refl
map-map g f (x ∷ xs) = ap (λ ys. g (f x) ∷ ys) (map-map g f xs)

-- of elements with different names one is found by its name
pub found-by-name : {A : Type 0} (name : A → List ℕ) (xs : List A) (j : ℕ) (x : A) → AreDistinct (map name xs) → slice_get xs j ≡ Some x →
    find (λ y. bytes_eq (name y) (name x)) xs ≡ Some x
found-by-name name [] j x distinct at = absurd (let wrong : ⊥ = cc at in wrong)
found-by-name name (y ∷ ys) zero x distinct at =
    let same : y ≡ x = cc at in
    ap (λ b. cond b (Some y) (find (λ z. bytes_eq (name z) (name x)) ys)) (bytes-same (name y) (name x) (ap name same)) ∙ ap Some same
found-by-name name (y ∷ ys) (suc j) x distinct at =
    let named = at-map name ys j x at in
    let is : name_at (map name ys) j ≡ name x = get_or_from_slice_get (map name ys) j (name x) [] named in
    ap (λ b. cond b (Some y) (find (λ z. bytes_eq (name z) (name x)) ys))
    (ap (bytes_eq (name y)) (sym is) ∙ has_name-at (map name ys) (name y) j distinct.1 (at-below (map name ys) j (name x) named))
    ∙ found-by-name name ys j x distinct.2 at

-- one that has a name is found where it is looked for
first-passes : {A : Type 0} (test : A → Bool) (d : A) (xs : List A) (j : ℕ) → IsFirst test xs j → test (slice_index_or xs j d) ≡ true
first-passes test d [] j first = absurd first
first-passes test d (x ∷ xs) zero first = first
first-passes test d (x ∷ xs) (suc j) first = first-passes test d xs j first.1

pub position-named : {A : Type 0} (name : A → List ℕ) (d : A) (xs : List A) (wanted : List ℕ) → Contains (map name xs) wanted →
    name (slice_index_or xs (unwrap_or (position_from (λ x. bytes_eq (name x) wanted) 0 xs) 0) d) ≡ wanted
position-named name d xs wanted has =
    let made = of-map name xs wanted has in
    let first = first-of (λ x. bytes_eq (name x) wanted) xs made.0 made.1 (bytes-same (name made.0) wanted made.2) in
    ap (λ o. name (slice_index_or xs (unwrap_or o 0) d)) (first-position (λ x. bytes_eq (name x) wanted) xs 0 first.0 first.1)
    ∙ (let none_more : 0 + first.0 ≡ first.0 = omega arith in ap (λ k. name (slice_index_or xs k d)) none_more)
    ∙ same_text (name (slice_index_or xs first.0 d)) wanted (sym (first-passes (λ x. bytes_eq (name x) wanted) d xs first.0 first.1))

pub zip-long : {A B : Type 0} (P : A → B → Type 0) (xs : List A) (ys : List B) → AllZip P xs ys → length xs ≡ length ys
zip-long P [] [] all = refl
zip-long P [] (y ∷ ys) all = absurd all
zip-long P (x ∷ xs) [] all = absurd all
zip-long P (x ∷ xs) (y ∷ ys) all = ap suc (zip-long P xs ys all.1)

pub flat-same : {A B : Type 0} (f g : A → List B) (xs : List A) → ((x : A) → Contains xs x → f x ≡ g x) → flat_map f xs ≡ flat_map g xs
flat-same f g [] same = refl
flat-same f g (x ∷ xs) same = ap₂ (λ ys zs. ys ++ zs) (same x (in-first x xs)) (flat-same f g xs (λ y has. same y (in-rest x y xs has)))

pub flat-mapped : {A B C : Type 0} (f : B → List C) (g : A → B) (xs : List A) → flat_map f (map g xs) ≡ flat_map (λ x. f (g x)) xs
flat-mapped f g [] = refl
flat-mapped f g (x ∷ xs) = ap (λ ys. f (g x) ++ ys) (flat-mapped f g xs)

pub filter-same : {A : Type 0} (p r : A → Bool) (xs : List A) → ((x : A) → Contains xs x → p x ≡ r x) → filter p xs ≡ filter r xs
filter-same p r [] same = refl
filter-same p r (x ∷ xs) same =
    ap₂ (λ b more. cond b (x ∷ more) more) (same x (in-first x xs)) (filter-same p r xs (λ y has. same y (in-rest x y xs has)))

pub index-past : {A : Type 0} (xs : List A) (i : ℕ) (d : A) → length xs ≤ i → slice_index_or xs i d ≡ d
index-past [] i d past = refl
index-past (x ∷ xs) zero d past = absurd (omega (arith, past))
index-past (x ∷ xs) (suc i) d past = index-past xs i d (omega (arith, past))

pub short-take : {A : Type 0} (n : ℕ) (xs : List A) → length (take n xs) ≤ n
short-take zero xs = omega arith
short-take (suc n) [] = omega arith
short-take (suc n) (x ∷ xs) = let rest = short-take n xs in omega (arith, rest)

module _ {A B : Type 0} where
  pub zip-get : (xs : List A) (ys : List B) (k : ℕ) (e : A × B) → slice_get (zip xs ys) k ≡ Some e →
      (slice_get xs k ≡ Some e.0) × (slice_get ys k ≡ Some e.1)
  zip-get [] ys k e at = absurd (let wrong : ⊥ = cc at in wrong)
  zip-get (x ∷ xs) [] k e at = absurd (let wrong : ⊥ = cc at in wrong)
  zip-get (x ∷ xs) (y ∷ ys) zero e at =
      let same = same_Some (x, y) e at in (ap (λ (z : A × B). Some z.0) same, ap (λ (z : A × B). Some z.1) same)
  zip-get (x ∷ xs) (y ∷ ys) (suc k) e at = zip-get xs ys k e at

pub get-zip : {A B : Type 0} (xs : List A) (ys : List B) (k : ℕ) (x : A) (y : B) → slice_get xs k ≡ Some x → slice_get ys k ≡ Some y →
    slice_get (zip xs ys) k ≡ Some (x, y)
get-zip [] ys k x y at to = absurd (let wrong : ⊥ = cc at in wrong)
get-zip (a ∷ xs) [] k x y at to = absurd (let wrong : ⊥ = cc to in wrong)
get-zip (a ∷ xs) (b ∷ ys) zero x y at to = ap₂ (λ c d. Some (c, d)) (same_Some a x at) (same_Some b y to)
get-zip (a ∷ xs) (b ∷ ys) (suc k) x y at to = get-zip xs ys k x y at to
