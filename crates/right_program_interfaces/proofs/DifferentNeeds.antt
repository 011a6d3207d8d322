-- The different members of a list: where each is, and how many places there are.
use Rattle.std.specs.Prelude.{◌≡◌, ℕ, zero, suc, ◌+◌, ◌<◌, ◌≤◌, ◌==◌, Bool, true, false, not, cond, eqb, List, [], ◌∷◌, map, filter, length, slice_get, Contains, Some, unwrap_or, refl}
use Rattle.std.specs.List.{AllByRecursion, IsDistinct, list_any, position_from, enumerate_from, range_with_len}
use Rattle.std.proofs.Common.{sym, ap, ap₂, subst, ◌∙◌, arith, inl, inr, true≢false}
use Rattle.std.proofs.lemmas.Bool.{eqb-true, eq-eqb, ne_eqb, or_cases}
use Rattle.std.proofs.lemmas.Map.Steps.{length-le_from_distinct_below}
use Rattle.std.proofs.lemmas.Option.{same_Some, none-some}
use Rattle.base_core.specs.Interface.{different}
use Rattle.modules_profile.proofs.lemmas.LawfulSteps.{apart-at, apart-different}
use Rattle.modules_profile.proofs.lemmas.MaskBits.{in-different}
use Rattle.modules_profile.proofs.lemmas.Members.{in-first, in-rest, in-cases, at-below, below-at, of-map, of-filter}
use Rattle.right_linking.proofs.lemmas.AssembledPlaces.{IsFirst, first-position, first-of}

-- no member is at two places
abbrev pub IsOnce : List ℕ → Type 0
IsOnce xs = (i j x : ℕ) → slice_get xs i ≡ Some x → slice_get xs j ≡ Some x → i ≡ j

-- ---- How many

others : (x : ℕ) (xs ys : List ℕ) → ((k y : ℕ) → slice_get ys k ≡ Some y → x ≡ y → ⊥) → AllByRecursion (λ y. eqb x y ≡ false) ys
others x xs [] apart = tt
others x xs (y ∷ ys) apart = (ne_eqb x y (apart 0 y refl), others x xs ys (λ k z at. apart (suc k) z at))

distinct : (xs : List ℕ) → IsOnce xs → IsDistinct eqb xs
unfolding IsDistinct
distinct [] once = tt
distinct (x ∷ xs) once = (
  others x xs xs (λ k y at same. let wrong = once 0 (suc k) x refl (at ∙ ap Some (sym same)) in omega (arith, wrong)),
  distinct xs (λ i j y one two. let same = once (suc i) (suc j) y one two in omega (arith, same)),
)

member-of : (q : ℕ) (xs : List ℕ) → list_any (eqb q) xs ≡ true → Contains xs q
member-of q [] h = absurd (true≢false (sym h))
member-of q (x ∷ xs) h = elim (or_cases (eqb q x) (list_any (eqb q) xs) h) [
  | inl here ↦ subst (Contains (x ∷ xs)) (sym (eqb-true q x here)) (in-first x xs)
  | inr there ↦ in-rest x q xs (member-of q xs there)
]

at-most : (xs : List ℕ) (n : ℕ) → IsOnce xs → ((q : ℕ) → Contains xs q → q < n) → length xs ≤ n
at-most xs n once below = length-le_from_distinct_below xs n (distinct xs once) (λ q m. below q (member-of q xs m))

pub of-different : (xs : List ℕ) (x : ℕ) → Contains (different xs) x → Contains xs x
of-different [] x has = has
of-different (y ∷ ys) x has = elim (in-cases y x (filter (λ z. not (z == y)) (different ys)) has) [
  | inl same ↦ subst (Contains (y ∷ ys)) same (in-first y ys)
  | inr more ↦ in-rest y x ys (of-different ys x (of-filter (λ z. not (z == y)) (different ys) x more).0)
]

-- ---- Places

first-there : (test : ℕ → Bool) (xs : List ℕ) (j : ℕ) → IsFirst test xs j → (y : ℕ) × (slice_get xs j ≡ Some y) × (test y ≡ true)
first-there test [] j first = absurd first
first-there test (x ∷ xs) zero first = (x, refl, first)
first-there test (x ∷ xs) (suc j) first = first-there test xs j first.1

module _ (needs : List ℕ) where
  pub once : IsOnce (different needs)
  once i j x one two = apart-at (different needs) i j x (apart-different needs) one two

  -- where a need is among the different ones
  abbrev pub place_of : ℕ → ℕ
  place_of x = unwrap_or (position_from (λ y. y == x) 0 (different needs)) 0

  pub place-stands : (x : ℕ) → Contains needs x → slice_get (different needs) (place_of x) ≡ Some x
  place-stands x has =
      let first = first-of (λ y. y == x) (different needs) x (in-different needs x has) (eq-eqb x x refl) in
      let none_more : 0 + first.0 ≡ first.0 = omega arith in
      let found : place_of x ≡ first.0 = ap (λ o. unwrap_or o 0) (first-position (λ y. y == x) (different needs) 0 first.0 first.1)
      ∙ none_more in
      let (y, at, is) = first-there (λ y. y == x) (different needs) first.0 first.1 in
      ap (slice_get (different needs)) found ∙ at ∙ ap Some (eqb-true y x is)

  pub place-below : (x : ℕ) → Contains needs x → place_of x < length (different needs)
  place-below x has = at-below (different needs) (place_of x) x (place-stands x has)

  -- as many places at most as different needs
  pub few-places : length (different (map place_of needs)) ≤ length (different needs)
  few-places =
      at-most (different (map place_of needs)) (length (different needs))
      (λ i j x one two. apart-at (different (map place_of needs)) i j x (apart-different (map place_of needs)) one two)
      (λ q has.
      let from = of-map place_of needs q (of-different (map place_of needs) q has) in
      subst (λ n. n < length (different needs)) from.2 (place-below from.0 from.1))

-- ---- Those that pass a test

none-given : (test : ℕ → Bool) (n : ℕ) (ps : List ℕ) → ((i q : ℕ) → slice_get ps i ≡ Some q → test q ≡ false) →
    filter (λ (e : ℕ × ℕ). test e.1) (enumerate_from n ps) ≡ []
none-given test n [] fails = refl
none-given test n (p ∷ ps) fails =
    ap (λ b. cond b ((n, p) ∷ filter (λ (e : ℕ × ℕ). test e.1) (enumerate_from (n + 1) ps))
    (filter (λ (e : ℕ × ℕ). test e.1) (enumerate_from (n + 1) ps))) (fails 0 p refl)
    ∙ none-given test (n + 1) ps (λ i q at. fails (suc i) q at)

-- where what is beside one need alone passes, that is found
pub one-given : (ds ps : List ℕ) (test : ℕ → Bool) (x k n : ℕ) → IsOnce ds → slice_get ds k ≡ Some x → length ps ≡ length ds →
    ((i d q : ℕ) → slice_get ds i ≡ Some d → slice_get ps i ≡ Some q → test q ≡ (x == d)) →
    map (λ (e : ℕ × ℕ). e.0) (filter (λ (e : ℕ × ℕ). test e.1) (enumerate_from n ps)) ≡ (n + k) ∷ []
one-given [] ps test x k n once at long tells = absurd (none-some x at)
one-given (d ∷ ds) [] test x k n once at long tells = absurd (omega (arith, long))
one-given (d ∷ ds) (p ∷ ps) test x zero n once at long tells =
    let rest = filter (λ (e : ℕ × ℕ). test e.1) (enumerate_from (n + 1) ps) in
    let none : rest ≡ [] = none-given test (n + 1) ps
    (λ i q there.
    let (y, stands) = below-at ds i (let below = at-below ps i q there in omega (arith, below, long)) in
    tells (suc i) y q stands there ∙ ne_eqb x y (λ same. let wrong = once 0 (suc i) x at (stands ∙ ap Some (sym same)) in
    omega (arith, wrong))) in
    let here : n ≡ n + 0 = omega arith in
    ap (λ b. map (λ (e : ℕ × ℕ). e.0) (cond b ((n, p) ∷ rest) rest)) (tells 0 d p refl refl ∙ eq-eqb x d (sym (same_Some d x at)))
    ∙ ap₂ (λ m es. m ∷ map (λ (e : ℕ × ℕ). e.0) es) here none
one-given (d ∷ ds) (p ∷ ps) test x (suc k) n once at long tells =
    let rest = filter (λ (e : ℕ × ℕ). test e.1) (enumerate_from (n + 1) ps) in
    let next : n + 1 + k ≡ n + suc k = omega arith in
    ap (λ b. map (λ (e : ℕ × ℕ). e.0) (cond b ((n, p) ∷ rest) rest))
    (tells 0 d p refl refl ∙ ne_eqb x d (λ same. let wrong = once 0 (suc k) x (ap Some (sym same)) at in omega (arith, wrong)))
    ∙ one-given ds ps test x k (n + 1) (λ i j y one two. let same = once (suc i) (suc j) y one two in omega (arith, same)) at
    (omega (arith, long))
    (λ i y q stands there. tells (suc i) y q stands there)
    ∙ ap (λ m. m ∷ []) next

-- what is made of numbers in order
pub by-numbers : (f : ℕ → ℕ) (ds : List ℕ) (n : ℕ) → ((i d : ℕ) → slice_get ds i ≡ Some d → f (n + i) ≡ d) →
    map f (range_with_len n (length ds)) ≡ ds
by-numbers f [] n is = refl
by-numbers f (d ∷ ds) n is =
    let none_more : n ≡ n + 0 = omega arith in
    ap₂ (λ x xs. x ∷ xs) (ap f none_more ∙ is 0 d refl)
    (by-numbers f ds (n + 1) (λ i y at. (let next : n + 1 + i ≡ n + suc i = omega arith in ap f next) ∙ is (suc i) y at))
