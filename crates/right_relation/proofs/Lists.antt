-- What holds of each row of a system, as a list.
use Rattle.std.specs.Prelude.{◌≡◌, ◌⊎◌, ℕ, zero, suc, ◌+◌, ◌<◌, ◌≤◌, Bool, true, false, cond, List, [], ◌∷◌, map, filter, length, Contains, Option}
use Rattle.std.specs.List.{AllByRecursion, AllZip, range_with_len}
use Rattle.std.proofs.Common.{refl, sym, ap, subst, ◌∙◌, arith, inl, inr, true≢false}
use Rattle.std.proofs.lemmas.Bool.{cases_eq}
use Rattle.diagram_meaning.specs.declared.table.Row.{Row}
use Rattle.diagram_meaning.specs.Rows.{row_at, row_numbers, same_system, rows_of}
use Rattle.diagram_meaning.specs.SystemRuns.{IsRowOf}
use Rattle.diagram_meaning.proofs.lemmas.RestsOnNeeds.{same_system-equal}

-- what holds of each number below a limit that passes a test
each-passed : {A : Type 0} (P : A → Type 0) (f : ℕ → A) (test : ℕ → Bool) (limit n a : ℕ) →
    ((b : ℕ) → b < limit → test b ≡ true → P (f b)) → a + n ≤ limit →
    AllByRecursion P (map f (filter test (range_with_len a n)))
each-passed P f test limit zero a holds inside = tt
each-passed {A} P f test limit (suc n) a holds inside = by (test a) refl (each-passed P f test limit n (a + 1) holds (omega arith))
  where
    by : (r : Bool) → test a ≡ r → AllByRecursion P (map f (filter test (range_with_len (a + 1) n))) →
        AllByRecursion P (map f (cond r (a ∷ filter test (range_with_len (a + 1) n)) (filter test (range_with_len (a + 1) n))))
    by true passes rest = (holds a (omega arith) passes, rest)
    by false passes rest = rest

-- what holds of each row of a system
pub each-row : {A : Type 0} (P : A → Type 0) (f : ℕ → A) (rows : List Row) (n : Option ℕ) → ((b : ℕ) → IsRowOf rows n b → P (f b)) →
    AllByRecursion P (map f (rows_of rows n))
each-row P f rows n holds =
    each-passed P f (λ b. same_system (row_at rows b).owner n) (length rows) (length rows) 0
    (λ b below passes. holds b (record { in_table = below; own = same_system-equal (row_at rows b).owner n passes })) (omega arith)

-- what holds of those that pass a test
pub each-kept : {A : Type 0} (P : A → Type 0) (test : A → Bool) (xs : List A) →
    AllByRecursion (λ x. test x ≡ true → P x) xs → AllByRecursion P (filter test xs)
each-kept P test [] all = tt
each-kept {A} P test (x ∷ xs) all = by (test x) refl (each-kept P test xs all.1)
  where
    by : (r : Bool) → test x ≡ r → AllByRecursion P (filter test xs) → AllByRecursion P (cond r (x ∷ filter test xs) (filter test xs))
    by true passes rest = (all.0 passes, rest)
    by false passes rest = rest

-- ---- Members

in-none : {A : Type 0} (x : A) → Contains [] x → ⊥
in-none x (k, below, is) = omega arith

pub in-first : {A : Type 0} (x : A) (xs : List A) → Contains (x ∷ xs) x
in-first x xs = (0, omega arith, refl)

pub in-rest : {A : Type 0} (x y : A) (xs : List A) → Contains xs y → Contains (x ∷ xs) y
in-rest x y xs (k, below, is) = (suc k, omega arith, is)

pub in-cases : {A : Type 0} (x y : A) (xs : List A) → Contains (x ∷ xs) y → (x ≡ y) ⊎ Contains xs y
in-cases x y xs (zero, below, is) = inl is
in-cases x y xs (suc k, below, is) = inr (k, omega arith, is)

pub in-map : {A B : Type 0} (f : A → B) (xs : List A) (x : A) → Contains xs x → Contains (map f xs) (f x)
in-map f [] x h = absurd (in-none x h)
in-map f (y ∷ ys) x h = elim (in-cases y x ys h) [
  | inl same ↦ subst (λ z. Contains (map f (y ∷ ys)) (f z)) same (in-first (f y) (map f ys))
  | inr more ↦ in-rest (f y) (f x) (map f ys) (in-map f ys x more)
]

pub of-map : {A B : Type 0} (f : A → B) (xs : List A) (y : B) → Contains (map f xs) y → (x : A) × Contains xs x × (f x ≡ y)
of-map f [] y h = absurd (in-none y h)
of-map f (x ∷ xs) y h = elim (in-cases (f x) y (map f xs) h) [
  | inl same ↦ (x, in-first x xs, same)
  | inr more ↦ let m = of-map f xs y more in (m.0, in-rest x m.0 xs m.1, m.2)
]

pub in-filter : {A : Type 0} (p : A → Bool) (xs : List A) (x : A) → Contains xs x → p x ≡ true → Contains (filter p xs) x
in-filter p [] x h passes = h
in-filter p (y ∷ ys) x h passes = by (p y) refl (in-cases y x ys h) (λ more. in-filter p ys x more passes)
  where
    by : (t : Bool) → p y ≡ t → (y ≡ x) ⊎ Contains ys x → (Contains ys x → Contains (filter p ys) x) →
        Contains (cond t (y ∷ filter p ys) (filter p ys)) x
    by true e (inl same) later = subst (Contains (y ∷ filter p ys)) same (in-first y (filter p ys))
    by true e (inr more) later = in-rest y x (filter p ys) (later more)
    by false e (inl same) later = absurd (true≢false (sym passes ∙ sym (ap p same) ∙ e))
    by false e (inr more) later = later more

pub in-range : (a n b : ℕ) → a ≤ b → b < a + n → Contains (range_with_len a n) b
in-range a zero b low high = absurd (omega arith)
in-range a (suc n) b low high = elim (cases_eq a b) [
  | inl same ↦ subst (Contains (a ∷ range_with_len (a + 1) n)) same (in-first a (range_with_len (a + 1) n))
  | inr other ↦ in-rest a b (range_with_len (a + 1) n) (in-range (a + 1) n b (omega arith) (omega arith))
]

below-end : (a n b : ℕ) → Contains (range_with_len a n) b → b < a + n
below-end a zero b h = absurd (in-none b h)
below-end a (suc n) b h = elim (in-cases a b (range_with_len (a + 1) n) h) [
  | inl same ↦ omega arith
  | inr more ↦ let below = below-end (a + 1) n b more in omega arith
]

pub of-filter : {A : Type 0} (p : A → Bool) (xs : List A) (x : A) → Contains (filter p xs) x → Contains xs x × (p x ≡ true)
of-filter p [] x h = absurd (in-none x h)
of-filter p (y ∷ ys) x h = by (p y) refl h (λ more. of-filter p ys x more)
  where
    kept : Contains ys x × (p x ≡ true) → Contains (y ∷ ys) x × (p x ≡ true)
    kept (more, passes) = (in-rest y x ys more, passes)

    by : (t : Bool) → p y ≡ t → Contains (cond t (y ∷ filter p ys) (filter p ys)) x →
        (Contains (filter p ys) x → Contains ys x × (p x ≡ true)) → Contains (y ∷ ys) x × (p x ≡ true)
    by true e h later = elim (in-cases y x (filter p ys) h) [
      | inl same ↦ (subst (Contains (y ∷ ys)) same (in-first y ys), ap p (sym same) ∙ e)
      | inr more ↦ kept (later more)
    ]
    by false e h later = kept (later h)

-- a row of a system's list is one of it
pub of-rows : (rows : List Row) (n : Option ℕ) (b : ℕ) → Contains (rows_of rows n) b → IsRowOf rows n b
of-rows rows n b h =
    let passes = of-filter (λ c. same_system (row_at rows c).owner n) (row_numbers rows) b h in
    record {
      in_table = let below = below-end 0 (length rows) b passes.0 in
          omega arith;
      own = same_system-equal (row_at rows b).owner n passes.1;
    }

-- what holds of each member of a list, made something else
pub each-made : {A B : Type 0} (P : B → Type 0) (f : A → B) (xs : List A) → ((x : A) → Contains xs x → P (f x)) →
    AllByRecursion P (map f xs)
each-made P f [] holds = tt
each-made P f (x ∷ xs) holds = (holds x (in-first x xs), each-made P f xs (λ y h. holds y (in-rest x y xs h)))

-- ---- Lists side by side

pub zip-made : {A B C : Type 0} (P : B → C → Type 0) (f : A → B) (xs : List A) (ys : List C) →
    AllZip (λ x y. P (f x) y) xs ys → AllZip P (map f xs) ys
zip-made P f [] [] h = tt
zip-made P f [] (y ∷ ys) h = absurd h
zip-made P f (x ∷ xs) [] h = absurd h
zip-made P f (x ∷ xs) (y ∷ ys) h = (h.0, zip-made P f xs ys h.1)

pub zip-from : {A B C : Type 0} (P : B → C → Type 0) (f : A → B) (xs : List A) (ys : List C) → AllZip P (map f xs) ys →
    AllZip (λ x y. P (f x) y) xs ys
zip-from P f [] [] h = tt
zip-from P f [] (y ∷ ys) h = absurd h
zip-from P f (x ∷ xs) [] h = absurd h
zip-from P f (x ∷ xs) (y ∷ ys) h = (h.0, zip-from P f xs ys h.1)

pub zip-back : {A B C : Type 0} (P : A → C → Type 0) (f : B → C) (xs : List A) (ys : List B) → AllZip P xs (map f ys) →
    AllZip (λ x y. P x (f y)) xs ys
zip-back P f [] [] h = tt
zip-back P f [] (y ∷ ys) h = absurd h
zip-back P f (x ∷ xs) [] h = absurd h
zip-back P f (x ∷ xs) (y ∷ ys) h = (h.0, zip-back P f xs ys h.1)

pub map-map : {A B C : Type 0} (g : B → C) (f : A → B) (xs : List A) → map g (map f xs) ≡ map (λ x. g (f x)) xs
map-map g f [] = refl
map-map g f (x ∷ xs) = ap (λ rest. g (f x) ∷ rest) (map-map g f xs)
