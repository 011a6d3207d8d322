-- Where the procedures of a struct stand, and how often they call one of their own.
use Rattle.std.specs.Prelude.{◌≡◌, ℕ, suc, ◌+◌, ◌<◌, ◌≤◌, ◌==◌, nat_lt, ◌||◌, Bool, true, false, cond, if◌then◌else◌, List, [], ◌∷◌, ◌++◌, map, filter, flat_map, length, slice_index_or, ⊤}
use Rattle.std.specs.List.{AllByRecursion}
use Rattle.std.proofs.Common.{◌≢◌, refl, sym, ap, subst, ◌∙◌, arith, zero-add}
use Rattle.std.proofs.lemmas.Bool.Decides.{nat_tests}
use Rattle.std.proofs.lemmas.List.Sums.{sum_by-append}
use Rattle.c_syntax.specs.Tree.{ProcedureTree}
use Rattle.emit_shape.specs.Programs.{no_procedure}
use Rattle.emit_pruned.specs.Needed.{has_number}
use Rattle.emit_inlined.specs.Inlined.{kept_from}
use Rattle.emit_inlined.proofs.lemmas.CallCounts.{count_of, count-more}

-- ---- Positions

module _ (of : ℕ) where
  -- the positions, counted from n, of those of these procedures that belong to the struct
  abbrev pub places_from : ℕ → List ProcedureTree → List ℕ
  places_from n [] = []
  places_from n (q ∷ qs) = cond (q.of == of) (n ∷ places_from (suc n) qs) (places_from (suc n) qs)

  -- what holds of each position at which such a procedure stands holds of all of these
  pub each-place : (P : ℕ → Type 0) (xs : List ProcedureTree) (n : ℕ) (qs : List ProcedureTree) →
      ((k : ℕ) → slice_index_or xs (n + k) no_procedure ≡ slice_index_or qs k no_procedure) →
      ((m : ℕ) → n ≤ m → m < n + length qs → (slice_index_or xs m no_procedure).of ≡ of → P m) → AllByRecursion P (places_from n qs)
  each-place P xs n [] same each = tt
  each-place P xs n (q ∷ qs) same each = by (q.of == of) refl
      (each-place P xs (suc n) qs
      (λ k. ap (λ m. slice_index_or xs m no_procedure) (let next : suc n + k ≡ n + suc k = omega arith in next) ∙ same (suc k))
      (λ m low high is. each m (omega (arith, low)) (omega (arith, high)) is))
    where
      here : slice_index_or xs n no_procedure ≡ q
      here = ap (λ m. slice_index_or xs m no_procedure) (let first : n ≡ n + 0 = omega arith in first) ∙ same 0

      by : (b : Bool) → (q.of == of) ≡ b → AllByRecursion P (places_from (suc n) qs) →
          AllByRecursion P (cond b (n ∷ places_from (suc n) qs) (places_from (suc n) qs))
      by true is rest =
          let equal : q.of ≡ of = grind (arith, nat_tests) in
          (each n (omega arith) (omega arith) (ap (λ (x : ProcedureTree). x.of) here ∙ equal), rest)
      by false is rest = rest

  -- the struct's procedures are those at these positions
  pub own-at : (xs : List ProcedureTree) (n : ℕ) (qs : List ProcedureTree) →
      ((k : ℕ) → slice_index_or xs (n + k) no_procedure ≡ slice_index_or qs k no_procedure) →
      filter (λ q. q.of == of) qs ≡ map (λ k. slice_index_or xs k no_procedure) (places_from n qs)
  own-at xs n [] same = refl
  own-at xs n (q ∷ qs) same = by (q.of == of)
      (own-at xs (suc n) qs
      (λ k. ap (λ m. slice_index_or xs m no_procedure) (let next : suc n + k ≡ n + suc k = omega arith in next) ∙ same (suc k)))
    where
      here : slice_index_or xs n no_procedure ≡ q
      here = ap (λ m. slice_index_or xs m no_procedure) (let first : n ≡ n + 0 = omega arith in first) ∙ same 0

      by : (b : Bool) →
          filter (λ x. x.of == of) qs ≡ map (λ k. slice_index_or xs k no_procedure) (places_from (suc n) qs) →
          cond b (q ∷ filter (λ x. x.of == of) qs) (filter (λ x. x.of == of) qs)
          ≡ map (λ k. slice_index_or xs k no_procedure) (cond b (n ∷ places_from (suc n) qs) (places_from (suc n) qs))
      by true rest = λ i. sym here i ∷ rest i
      by false rest = rest

  -- of those that are kept and changed, each in its body alone
  pub own-kept_at : (keeps : ℕ → Bool) (change : ProcedureTree → ProcedureTree) → ((q : ProcedureTree) → (change q).of ≡ q.of) →
      (xs : List ProcedureTree) (n : ℕ) (qs : List ProcedureTree) →
      ((k : ℕ) → slice_index_or xs (n + k) no_procedure ≡ slice_index_or qs k no_procedure) →
      filter (λ q. q.of == of) (map change (kept_from keeps n qs))
      ≡ map (λ k. change (slice_index_or xs k no_procedure)) (filter keeps (places_from n qs))
  own-kept_at keeps change stays xs n [] same = refl
  own-kept_at keeps change stays xs n (q ∷ qs) same =
      by (keeps n) refl (q.of == of) refl
      (own-kept_at keeps change stays xs (suc n) qs
      (λ k. ap (λ m. slice_index_or xs m no_procedure) (let next : suc n + k ≡ n + suc k = omega arith in next) ∙ same (suc k)))
    where
      here : slice_index_or xs n no_procedure ≡ q
      here = ap (λ m. slice_index_or xs m no_procedure) (let first : n ≡ n + 0 = omega arith in first) ∙ same 0

      later : List ProcedureTree
      later = filter (λ x. x.of == of) (map change (kept_from keeps (suc n) qs))

      places : List ℕ
      places = places_from (suc n) qs

      by : (b : Bool) → keeps n ≡ b → (c : Bool) → (q.of == of) ≡ c →
          later ≡ map (λ k. change (slice_index_or xs k no_procedure)) (filter keeps places) →
          filter (λ x. x.of == of) (map change ((if b then q ∷ [] else []) ++ kept_from keeps (suc n) qs))
          ≡ map (λ k. change (slice_index_or xs k no_procedure)) (filter keeps (cond c (n ∷ places) places))
      by true kept true is rest =
          ap (λ m. cond (m == of) (change q ∷ later) later) (stays q) ∙ ap (λ b. cond b (change q ∷ later) later) is
          ∙ (λ i. change (sym here i) ∷ rest i)
          ∙ ap (λ b. map (λ k. change (slice_index_or xs k no_procedure)) (cond b (n ∷ filter keeps places) (filter keeps places)))
          (sym kept)
      by true kept false is rest =
          ap (λ m. cond (m == of) (change q ∷ later) later) (stays q) ∙ ap (λ b. cond b (change q ∷ later) later) is ∙ rest
      by false kept true is rest =
          rest
          ∙ ap (λ b. map (λ k. change (slice_index_or xs k no_procedure)) (cond b (n ∷ filter keeps places) (filter keeps places)))
          (sym kept)
      by false kept false is rest = rest

  -- ---- Calls

  -- what none of another struct has is had as often by the struct's own
  pub own-count : (has : ProcedureTree → List ℕ) (k : ℕ) (xs : List ProcedureTree) (n : ℕ) (qs : List ProcedureTree) →
      ((j : ℕ) → slice_index_or xs (n + j) no_procedure ≡ slice_index_or qs j no_procedure) →
      ((m : ℕ) → n ≤ m → m < n + length qs → ((slice_index_or xs m no_procedure).of == of) ≡ false →
      count_of k (has (slice_index_or xs m no_procedure)) ≡ 0) →
      count_of k (flat_map has qs) ≡ count_of k (flat_map (λ m. has (slice_index_or xs m no_procedure)) (places_from n qs))
  own-count has k xs n [] same none = refl
  own-count has k xs n (q ∷ qs) same none = by (q.of == of) refl
      (own-count has k xs (suc n) qs
      (λ j. ap (λ m. slice_index_or xs m no_procedure) (let next : suc n + j ≡ n + suc j = omega arith in next) ∙ same (suc j))
      (λ m low high is. none m (omega (arith, low)) (omega (arith, high)) is))
    where
      here : slice_index_or xs n no_procedure ≡ q
      here = ap (λ m. slice_index_or xs m no_procedure) (let first : n ≡ n + 0 = omega arith in first) ∙ same 0

      at : ℕ → List ℕ
      at m = has (slice_index_or xs m no_procedure)

      append : (ys zs : List ℕ) → count_of k (ys ++ zs) ≡ count_of k ys + count_of k zs
      append ys zs = sum_by-append (λ j. cond (j == k) 1 0) ys zs

      by : (b : Bool) → (q.of == of) ≡ b →
          count_of k (flat_map has qs) ≡ count_of k (flat_map at (places_from (suc n) qs)) →
          count_of k (has q ++ flat_map has qs)
          ≡ count_of k (flat_map at (cond b (n ∷ places_from (suc n) qs) (places_from (suc n) qs)))
      by true is rest =
          append (has q) (flat_map has qs) ∙ (λ i. count_of k (has (sym here i)) + rest i)
          ∙ sym (append (at n) (flat_map at (places_from (suc n) qs)))
      by false is rest =
          let nothing : count_of k (has q) ≡ 0 =
          ap (λ (x : ProcedureTree). count_of k (has x)) (sym here)
          ∙ none n (omega arith) (omega arith) (ap (λ (x : ProcedureTree). x.of == of) here ∙ is) in
          append (has q) (flat_map has qs) ∙ ap (λ m. m + count_of k (flat_map has qs)) nothing
          ∙ zero-add (count_of k (flat_map has qs)) ∙ rest

-- ---- Numbers that are moved

-- the first isn't among those behind it
pub places-later : (of n : ℕ) (qs : List ProcedureTree) → AllByRecursion (λ m. n ≤ m) (places_from of n qs)
places-later of n [] = tt
places-later of n (q ∷ qs) = by (q.of == of) (more (places_from of (suc n) qs) (places-later of (suc n) qs))
  where
    more : (ms : List ℕ) → AllByRecursion (λ m. suc n ≤ m) ms → AllByRecursion (λ m. n ≤ m) ms
    more [] h = tt
    more (m ∷ ms) h = (let first = h.0 in omega (arith, first), more ms h.1)

    by : (b : Bool) → AllByRecursion (λ m. n ≤ m) (places_from of (suc n) qs) →
        AllByRecursion (λ m. n ≤ m) (cond b (n ∷ places_from of (suc n) qs) (places_from of (suc n) qs))
    by true rest = (omega arith, rest)
    by false rest = rest

-- numbers moved so that none other comes to where k does are there as often as k was
pub count-moved : (move : ℕ → ℕ) (k : ℕ) (js : List ℕ) → AllByRecursion (λ j. move j ≡ move k → j ≡ k) js →
    count_of (move k) (map move js) ≡ count_of k js
count-moved move k [] apart = refl
count-moved move k (j ∷ js) apart =
    count-more (move k) (move j) (map move js)
    ∙ (λ i. cond (same i) 1 0 + count-moved move k js apart.1 i) ∙ sym (count-more k j js)
  where
    same : (move j == move k) ≡ (j == k)
    same = by (j == k) refl
      where
        by : (b : Bool) → (j == k) ≡ b → (move j == move k) ≡ b
        by true is = let equal : j ≡ k = grind (arith, nat_tests) in ap (λ m. m == move k) (ap move equal) ∙ reflexive (move k)
          where
            reflexive : (m : ℕ) → (m == m) ≡ true
            reflexive m = grind (arith, nat_tests)
        by false is = other (move j == move k) refl
          where
            other : (c : Bool) → (move j == move k) ≡ c → c ≡ false
            other true there =
                let equal : j ≡ k = apart.0 (let moved : move j ≡ move k = grind (arith, nat_tests) in moved) in
                let wrong : ⊥ = (let no : (j == k) ≡ true = grind (arith, nat_tests) in cc) in absurd wrong
            other false there = refl

-- a number is there if it is counted
pub has-counted : (k : ℕ) (js : List ℕ) → has_number js k ≡ nat_lt 0 (count_of k js)
has-counted k [] = refl
has-counted k (j ∷ js) = by (j == k) refl (has-counted k js) ∙ ap (nat_lt 0) (sym (count-more k j js))
  where
    by : (b : Bool) → (j == k) ≡ b → has_number js k ≡ nat_lt 0 (count_of k js) →
        (b || has_number js k) ≡ nat_lt 0 (cond b 1 0 + count_of k js)
    by true is rest = grind (arith, nat_tests)
    by false is rest = rest ∙ ap (nat_lt 0) (let same : count_of k js ≡ 0 + count_of k js = omega arith in same)

-- ---- One by one

-- what holds of each of the struct's positions holds of a position at which one of its procedures stands
pub at-place : (of : ℕ) (P : ℕ → Type 0) (xs : List ProcedureTree) (n : ℕ) (qs : List ProcedureTree) →
    ((k : ℕ) → slice_index_or xs (n + k) no_procedure ≡ slice_index_or qs k no_procedure) →
    AllByRecursion P (places_from of n qs) → (m : ℕ) → n ≤ m → m < n + length qs → (slice_index_or xs m no_procedure).of ≡ of → P m
at-place of P xs n [] same all m low high is = absurd (omega (arith, low, high))
at-place of P xs n (q ∷ qs) same all m low high is =
    by (q.of == of) refl all (m == n) refl
    (λ rest past. at-place of P xs (suc n) qs
    (λ k. ap (λ j. slice_index_or xs j no_procedure) (let next : suc n + k ≡ n + suc k = omega arith in next) ∙ same (suc k))
    rest m past (omega (arith, high)) is)
  where
    here : slice_index_or xs n no_procedure ≡ q
    here = ap (λ j. slice_index_or xs j no_procedure) (let first : n ≡ n + 0 = omega arith in first) ∙ same 0

    by : (b : Bool) → (q.of == of) ≡ b → AllByRecursion P (cond b (n ∷ places_from of (suc n) qs) (places_from of (suc n) qs)) →
        (c : Bool) → (m == n) ≡ c → (AllByRecursion P (places_from of (suc n) qs) → suc n ≤ m → P m) → P m
    by true own h true first next = subst P (let equal : n ≡ m = grind (arith, nat_tests) in equal) h.0
    by false own h true first next =
        let equal : n ≡ m = grind (arith, nat_tests) in
        let same_of : q.of ≡ of =
        ap (λ (x : ProcedureTree). x.of) (sym here) ∙ ap (λ j. (slice_index_or xs j no_procedure).of) equal ∙ is in
        let wrong : ⊥ = (let no : (q.of == of) ≡ true = grind (arith, nat_tests) in cc) in absurd wrong
    by true own h false first next =
        next h.1 (let other : m ≢ n = grind (arith, nat_tests) in omega (arith, low, other))
    by false own h false first next =
        next h (let other : m ≢ n = grind (arith, nat_tests) in omega (arith, low, other))

-- no number is twice among these
abbrev pub AreOnce : List ℕ → Type 0
AreOnce [] = ⊤
AreOnce (m ∷ ms) = AllByRecursion (λ k. m ≡ k → ⊥) ms × AreOnce ms

pub places-once : (of n : ℕ) (qs : List ProcedureTree) → AreOnce (places_from of n qs)
places-once of n [] = tt
places-once of n (q ∷ qs) = by (q.of == of) (places-once of (suc n) qs)
  where
    apart : (ms : List ℕ) → AllByRecursion (λ m. suc n ≤ m) ms → AllByRecursion (λ m. n ≡ m → ⊥) ms
    apart [] h = tt
    apart (m ∷ ms) h = ((λ same. let first = h.0 in absurd (omega (arith, first, same))), apart ms h.1)

    by : (b : Bool) → AreOnce (places_from of (suc n) qs) → AreOnce (cond b (n ∷ places_from of (suc n) qs) (places_from of (suc n) qs))
    by true rest = (apart (places_from of (suc n) qs) (places-later of (suc n) qs), rest)
    by false rest = rest

-- numbers moved so that none comes twice are each the only one that comes to where it does
pub moved-once : (move : ℕ → ℕ) (js : List ℕ) → AreOnce (map move js) →
    AllByRecursion (λ j. AllByRecursion (λ k. move j ≡ move k → j ≡ k) js) js
moved-once move [] once = tt
moved-once move (x ∷ xs) once = (((λ same. refl), first xs once.0), rest xs (before xs once.0) (moved-once move xs once.1))
  where
    first : (ks : List ℕ) → AllByRecursion (λ m. move x ≡ m → ⊥) (map move ks) → AllByRecursion (λ k. move x ≡ move k → x ≡ k) ks
    first [] h = tt
    first (k ∷ ks) h = ((λ same. absurd (h.0 same)), first ks h.1)

    before : (js : List ℕ) → AllByRecursion (λ m. move x ≡ m → ⊥) (map move js) → AllByRecursion (λ j. move j ≡ move x → j ≡ x) js
    before [] h = tt
    before (j ∷ js) h = ((λ same. absurd (h.0 (sym same))), before js h.1)

    rest : (js : List ℕ) → AllByRecursion (λ j. move j ≡ move x → j ≡ x) js →
        AllByRecursion (λ j. AllByRecursion (λ k. move j ≡ move k → j ≡ k) xs) js →
        AllByRecursion (λ j. AllByRecursion (λ k. move j ≡ move k → j ≡ k) (x ∷ xs)) js
    rest [] h g = tt
    rest (j ∷ js) h g = ((h.0, g.0), rest js h.1 g.1)
