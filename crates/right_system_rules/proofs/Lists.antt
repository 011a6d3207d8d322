-- Members, lengths and places of lists.
use Rattle.std.specs.Prelude.{◌≡◌, ◌⊎◌, ℕ, suc, ◌+◌, Bool, true, false, not, cond, ◌==◌, List, [], ◌∷◌, ◌++◌, map, filter, flat_map, length, slice_get, Contains, Option, Some}
use Rattle.std.specs.List.{AllByRecursion, enumerate_from, position_from}
use Rattle.std.proofs.Common.{refl, sym, ap, subst, ◌∙◌, arith, inl, inr, true≢false}
use Rattle.std.proofs.lemmas.Bool.{eq-eqb, eqb-true}
use Rattle.std.proofs.lemmas.Option.{same_Some}
use Rattle.base_core.specs.Interface.{different}
use Rattle.modules_clusters.specs.Grouping.{AreDifferent}
use Rattle.modules_profile.proofs.lemmas.Members.{in-none, in-first, in-rest, in-cases, of-filter, at-in, in-at, at-map, map-at, at-left, at-right}
use Rattle.modules_profile.proofs.lemmas.OwnRows.{differ-at}

-- ---- What holds of each member

pub each-member : {A : Type 0} (P : A → Type 0) (xs : List A) → ((x : A) → Contains xs x → P x) → AllByRecursion P xs
each-member P [] holds = tt
each-member P (x ∷ xs) holds = (holds x (in-first x xs), each-member P xs (λ y h. holds y (in-rest x y xs h)))

pub each-mapped : {A B : Type 0} (P : B → Type 0) (f : A → B) (xs : List A) → ((x : A) → Contains xs x → P (f x)) →
    AllByRecursion P (map f xs)
each-mapped P f [] holds = tt
each-mapped P f (x ∷ xs) holds = (holds x (in-first x xs), each-mapped P f xs (λ y h. holds y (in-rest x y xs h)))

pub of-each : {A : Type 0} (P : A → Type 0) (xs : List A) (x : A) → AllByRecursion P xs → Contains xs x → P x
of-each P [] x all h = absurd (in-none x h)
of-each P (y ∷ ys) x all h = elim (in-cases y x ys h) [ inl same ↦ subst P same all.0 | inr more ↦ of-each P ys x all.1 more ]

-- ---- Lengths

pub long-enumerated : {A : Type 0} (n : ℕ) (xs : List A) → length (enumerate_from n xs) ≡ length xs
long-enumerated n [] = refl
long-enumerated n (x ∷ xs) = ap suc (long-enumerated (n + 1) xs)

-- ---- Members that are at one place

abbrev pub Apart : {A K : Type 0} → (A → K) → List A → Type 0
Apart key [] = Unit {0}
Apart {A} key (x ∷ xs) = ((y : A) → Contains xs y → key x ≡ key y → ⊥) × Apart key xs

pub apart-places : {A K : Type 0} (key : A → K) (xs : List A) →
    ((i j : ℕ) (x y : A) → slice_get xs i ≡ Some x → slice_get xs j ≡ Some y → key x ≡ key y → i ≡ j) → Apart key xs
apart-places key [] one = tt
apart-places key (x ∷ xs) one = (
  λ y h same. let place = at-in xs y h in let wrong : 0 ≡ suc place.0 = one 0 (suc place.0) x y refl place.1 same in omega (arith, wrong),
  apart-places key xs (λ i j y z a b same. let next : suc i ≡ suc j = one (suc i) (suc j) y z a b same in omega (arith, next)),
)

pub apart-filter : {A K : Type 0} (key : A → K) (p : A → Bool) (xs : List A) → Apart key xs → Apart key (filter p xs)
apart-filter key p [] apart = tt
apart-filter {A} key p (x ∷ xs) apart = by (p x) (apart-filter key p xs apart.1)
  where
    by : (t : Bool) → Apart key (filter p xs) → Apart key (cond t (x ∷ filter p xs) (filter p xs))
    by true rest = (λ y h. apart.0 y (of-filter p xs y h).0, rest)
    by false rest = rest

-- by numbers that differ
pub apart-numbers : {A : Type 0} (number : A → ℕ) (xs : List A) → AreDifferent (map number xs) → Apart number xs
apart-numbers number xs differ =
    apart-places number xs
    (λ i j x y a b same. differ-at (map number xs) i j (number y) differ (at-map number xs i x a ∙ ap Some same) (at-map number xs j y b))

pub apart-some : {A : Type 0} (key : A → Option ℕ) (xs : List A) (ns : List ℕ) → map key xs ≡ map Some ns → AreDifferent ns → Apart key xs
apart-some {A} key xs ns are differ =
    apart-places key xs
    (λ i j x y a b same.
    let first = number-at i x a in
    let second = number-at j y b in
    let one : first.0 ≡ second.0 = same_Some first.0 second.0 (sym first.2 ∙ same ∙ second.2) in
    differ-at ns i j second.0 differ (first.1 ∙ ap Some one) second.1)
  where
    number-at : (i : ℕ) (x : A) → slice_get xs i ≡ Some x → (n : ℕ) × (slice_get ns i ≡ Some n) × (key x ≡ Some n)
    number-at i x at =
        let m = map-at Some ns i (key x) (subst (λ os. slice_get os i ≡ Some (key x)) are (at-map key xs i x at)) in
        (m.0, m.1, sym m.2)

-- ---- The place of a number

-- where a number is first found, and what is there
pub record IsPlaced {A : Type 0} (key : A → ℕ) (xs : List A) (i b : ℕ) : Type 0 where
  pub place : ℕ
  pub at : A
  pub found : position_from (λ k. k == b) i (map key xs) ≡ Some (i + place)
  pub stands : slice_get xs place ≡ Some at
  pub is : key at ≡ b

pub placed : {A : Type 0} (key : A → ℕ) (xs : List A) (i b : ℕ) → Contains (map key xs) b → IsPlaced key xs i b
placed key [] i b h = absurd (in-none b h)
placed {A} key (x ∷ xs) i b h = by (key x == b) refl (in-cases (key x) b (map key xs) h) (λ more. placed key xs (i + 1) b more)
  where
    by : (t : Bool) → (key x == b) ≡ t → (key x ≡ b) ⊎ Contains (map key xs) b → (Contains (map key xs) b → IsPlaced key xs (i + 1) b) →
        IsPlaced key (x ∷ xs) i b
    by true e h later = record {
      place = 0;
      at = x;
      found = ap (λ t. cond t (Some i) (position_from (λ k. k == b) (i + 1) (map key xs))) e
          ∙ ap Some (let same : i ≡ i + 0 = omega arith in same);
      stands = refl;
      is = eqb-true (key x) b e;
    }
    by false e (inl same) later = absurd (true≢false (sym (eq-eqb (key x) b same) ∙ e))
    by false e (inr more) later =
        let m = later more in
        let n : ℕ = m.place in record {
          place = suc n;
          at = m.at;
          found = ap (λ t. cond t (Some i) (position_from (λ k. k == b) (i + 1) (map key xs))) e ∙ m.found
              ∙ ap Some (let same : i + 1 + n ≡ i + suc n = omega arith in same);
          stands = m.stands;
          is = m.is;
        }

-- ---- One list after another

pub at-second : {A : Type 0} (xs ys : List A) (n k : ℕ) (x : A) → length xs ≡ n → slice_get ys k ≡ Some x →
    slice_get (xs ++ ys) (n + k) ≡ Some x
at-second xs ys n k x long at = subst (λ m. slice_get (xs ++ ys) (m + k) ≡ Some x) long (at-right xs ys k x at)

pub in-second : {A : Type 0} (xs ys : List A) (x : A) → Contains ys x → Contains (xs ++ ys) x
in-second [] ys x h = h
in-second (z ∷ xs) ys x h = in-rest z x (xs ++ ys) (in-second xs ys x h)

pub in-front : {A : Type 0} (xs ys : List A) (x : A) → Contains xs x → Contains (xs ++ ys) x
in-front xs ys x h = let place = at-in xs x h in in-at (xs ++ ys) place.0 x (at-left xs ys place.0 x place.1)

pub in-flat_map : {A B : Type 0} (f : A → List B) (xs : List A) (x : A) (y : B) → Contains xs x → Contains (f x) y →
    Contains (flat_map f xs) y
in-flat_map f [] x y h k = absurd (in-none x h)
in-flat_map f (z ∷ xs) x y h k = elim (in-cases z x xs h) [
  | inl same ↦ in-front (f z) (flat_map f xs) y (subst (λ w. Contains (f w) y) (sym same) k)
  | inr more ↦ in-second (f z) (flat_map f xs) y (in-flat_map f xs x y more k)
]

pub of-different : (xs : List ℕ) (x : ℕ) → Contains (different xs) x → Contains xs x
of-different [] x h = h
of-different (y ∷ ys) x h = elim (in-cases y x (filter (λ z. not (z == y)) (different ys)) h) [
  | inl same ↦ subst (Contains (y ∷ ys)) same (in-first y ys)
  | inr more ↦ in-rest y x ys (of-different ys x (of-filter (λ z. not (z == y)) (different ys) x more).0)
]
