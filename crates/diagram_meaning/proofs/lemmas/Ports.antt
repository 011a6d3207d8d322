-- The rows of a system that pass a test on their kind have the ports from 1 to their number, each once: by port they are
-- each at its own.
use Rattle.std.specs.Prelude.{◌≡◌, ◌⊎◌, ℕ, zero, suc, ◌+◌, ◌-◌, ◌<◌, ◌≤◌, Bool, true, false, ◌==◌, cond, eqb, List, [], ◌∷◌, map, filter, filter_map, find, length, count_by, slice_get, Contains, Option, Some, None, ⊤, refl}
use Rattle.std.specs.List.{cons_option, range_with_len, list_any, IsDistinct, AllByRecursion}
use Rattle.std.proofs.Common.{sym, ap, subst, ◌∙◌, arith, inl, inr, true≢false}
use Rattle.std.proofs.lemmas.Bool.{cases_eq, eqb-true, eq-eqb, ne_eqb, or_cases}
use Rattle.std.proofs.lemmas.List.{length-map}
use Rattle.std.proofs.lemmas.List.Sums.{length-filter}
use Rattle.std.proofs.lemmas.Map.Steps.{length-le_from_distinct_below}
use Rattle.diagram_blocks.specs.declared.Kind.{Kind}
use Rattle.diagram_meaning.specs.declared.table.Row.{Row}
use Rattle.diagram_meaning.specs.Rows.{row_at, row_numbers, same_system, rows_of, by_port}
use Rattle.diagram_blocks.specs.Kinds.{port_of}
use Rattle.diagram_meaning.specs.WellFormed.{HasPorts}
use Rattle.diagram_meaning.proofs.lemmas.RestsOnNeeds.{same_system-equal}

-- ---- Members

in-none : {A : Type 0} (x : A) → Contains [] x → ⊥
in-none x (k, below, is) = omega arith

in-first : {A : Type 0} (x : A) (xs : List A) → Contains (x ∷ xs) x
in-first x xs = (0, omega arith, refl)

in-rest : {A : Type 0} (x y : A) (xs : List A) → Contains xs y → Contains (x ∷ xs) y
in-rest x y xs (k, below, is) = (suc k, omega arith, is)

in-cases : {A : Type 0} (x y : A) (xs : List A) → Contains (x ∷ xs) y → (x ≡ y) ⊎ Contains xs y
in-cases x y xs (zero, below, is) = inl is
in-cases x y xs (suc k, below, is) = inr (k, omega arith, is)

of-map : {A B : Type 0} (f : A → B) (xs : List A) (y : B) → Contains (map f xs) y → (x : A) × Contains xs x × (f x ≡ y)
of-map f [] y h = absurd (in-none y h)
of-map f (x ∷ xs) y h = elim (in-cases (f x) y (map f xs) h) [
  | inl same ↦ (x, in-first x xs, same)
  | inr more ↦ let m = of-map f xs y more in (m.0, in-rest x m.0 xs m.1, m.2)
]

in-filter : {A : Type 0} (p : A → Bool) (xs : List A) (x : A) → Contains xs x → p x ≡ true → Contains (filter p xs) x
in-filter p [] x h passes = h
in-filter p (y ∷ ys) x h passes = by (p y) refl (in-cases y x ys h) (λ more. in-filter p ys x more passes)
  where
    by : (t : Bool) → p y ≡ t → (y ≡ x) ⊎ Contains ys x → (Contains ys x → Contains (filter p ys) x) →
        Contains (cond t (y ∷ filter p ys) (filter p ys)) x
    by true e (inl same) later = subst (Contains (y ∷ filter p ys)) same (in-first y (filter p ys))
    by true e (inr more) later = in-rest y x (filter p ys) (later more)
    by false e (inl same) later = absurd (true≢false (sym passes ∙ sym (ap p same) ∙ e))
    by false e (inr more) later = later more

of-filter : {A : Type 0} (p : A → Bool) (xs : List A) (x : A) → Contains (filter p xs) x → Contains xs x × (p x ≡ true)
of-filter p [] x h = absurd (in-none x h)
of-filter p (y ∷ ys) x h = by (p y) refl h (λ more. of-filter p ys x more)
  where
    kept : Contains ys x × (p x ≡ true) → Contains (y ∷ ys) x × (p x ≡ true)
    kept (more, passes) = (in-rest y x ys more, passes)

    by : (t : Bool) → p y ≡ t → Contains (cond t (y ∷ filter p ys) (filter p ys)) x →
        (Contains (filter p ys) x → Contains ys x × (p x ≡ true)) → Contains (y ∷ ys) x × (p x ≡ true)
    by true e h later = elim (in-cases y x (filter p ys) h) [
      | inl same ↦ (subst (Contains (y ∷ ys)) same (in-first y ys), ap p (sym same) ∙ e)
      | inr more ↦ kept (later more)
    ]
    by false e h later = kept (later h)

found-in : {A : Type 0} (p : A → Bool) (xs : List A) (x : A) → find p xs ≡ Some x → Contains xs x × (p x ≡ true)
found-in p [] x e = absurd (let wrong : ⊥ = cc e in wrong)
found-in p (y ∷ ys) x e = by (p y) refl e (λ later. found-in p ys x later)
  where
    by : (t : Bool) → p y ≡ t → cond t (Some y) (find p ys) ≡ Some x →
        (find p ys ≡ Some x → Contains ys x × (p x ≡ true)) → Contains (y ∷ ys) x × (p x ≡ true)
    by true q e later = let same : y ≡ x = cc e in (subst (Contains (y ∷ ys)) same (in-first y ys), ap p (sym same) ∙ q)
    by false q e later = let more = later e in (in-rest y x ys more.0, more.1)

module _ {A : Type 0} where
  finds : (p : A → Bool) (xs : List A) (x : A) → Contains xs x → p x ≡ true → (y : A) × (find p xs ≡ Some y)
  finds p [] x h passes = absurd (in-none x h)
  finds p (y ∷ ys) x h passes = by (p y) refl (in-cases y x ys h) (λ more. finds p ys x more passes)
    where
      by : (t : Bool) → p y ≡ t → (y ≡ x) ⊎ Contains ys x → (Contains ys x → (z : A) × (find p ys ≡ Some z)) →
          (z : A) × (cond t (Some y) (find p ys) ≡ Some z)
      by true q h later = (y, refl)
      by false q (inl same) later = absurd (true≢false (sym passes ∙ sym (ap p same) ∙ q))
      by false q (inr more) later = later more

in-range : (a n b : ℕ) → a ≤ b → b < a + n → Contains (range_with_len a n) b
in-range a zero b low high = absurd (omega arith)
in-range a (suc n) b low high = elim (cases_eq a b) [
  | inl same ↦ subst (Contains (a ∷ range_with_len (a + 1) n)) same (in-first a (range_with_len (a + 1) n))
  | inr other ↦ in-rest a b (range_with_len (a + 1) n) (in-range (a + 1) n b (omega arith) (omega arith))
]

of-range : (a n b : ℕ) → Contains (range_with_len a n) b → (a ≤ b) × (b < a + n)
of-range a zero b h = absurd (in-none b h)
of-range a (suc n) b h = elim (in-cases a b (range_with_len (a + 1) n) h) [
  | inl same ↦ (omega arith, omega arith)
  | inr more ↦ let r = of-range (a + 1) n b more in (let low = r.0 in omega arith, let high = r.1 in omega arith)
]

-- no number occurs twice
abbrev pub Apart : List ℕ → Type 0
Apart [] = ⊤
Apart (x ∷ xs) = ((y : ℕ) → Contains xs y → x ≡ y → ⊥) × Apart xs

apart-range : (a n : ℕ) → Apart (range_with_len a n)
apart-range a zero = tt
apart-range a (suc n) = (λ y h same. let low = (of-range (a + 1) n y h).0 in omega arith, apart-range (a + 1) n)

apart-filter : (p : ℕ → Bool) (xs : List ℕ) → Apart xs → Apart (filter p xs)
apart-filter p [] h = tt
apart-filter p (x ∷ xs) h = by (p x) (apart-filter p xs h.1)
  where
    by : (t : Bool) → Apart (filter p xs) → Apart (cond t (x ∷ filter p xs) (filter p xs))
    by true rest = (λ y m same. h.0 y (of-filter p xs y m).0 same, rest)
    by false rest = rest

apart-map : (f : ℕ → ℕ) (xs : List ℕ) → ((b c : ℕ) → Contains xs b → Contains xs c → f b ≡ f c → b ≡ c) → Apart xs → Apart (map f xs)
apart-map f [] one h = tt
apart-map f (x ∷ xs) one h = (
  λ y m same. let z = of-map f xs y m in h.0 z.0 z.1 (one x z.0 (in-first x xs) (in-rest x z.0 xs z.1) (same ∙ sym z.2)),
  apart-map f xs (λ b c mb mc. one b c (in-rest x b xs mb) (in-rest x c xs mc)) h.1,
)

others : (x : ℕ) (xs : List ℕ) → ((y : ℕ) → Contains xs y → x ≡ y → ⊥) → AllByRecursion (λ y. eqb x y ≡ false) xs
others x [] h = tt
others x (y ∷ ys) h = (ne_eqb x y (h y (in-first y ys)), others x ys (λ z m. h z (in-rest y z ys m)))

distinct : (xs : List ℕ) → Apart xs → IsDistinct eqb xs
unfolding IsDistinct
distinct [] h = tt
distinct (x ∷ xs) h = (others x xs h.0, distinct xs h.1)

member : (q : ℕ) (xs : List ℕ) → list_any (eqb q) xs ≡ true → Contains xs q
member q [] h = absurd (true≢false (sym h))
member q (x ∷ xs) h = elim (or_cases (eqb q x) (list_any (eqb q) xs) h) [
  | inl here ↦ subst (Contains (x ∷ xs)) (sym (eqb-true q x here)) (in-first x xs)
  | inr there ↦ in-rest x q xs (member q xs there)
]

-- different numbers below n are at most n
at-most : (xs : List ℕ) (n : ℕ) → Apart xs → ((q : ℕ) → Contains xs q → q < n) → length xs ≤ n
at-most xs n h below = length-le_from_distinct_below xs n (distinct xs h) (λ q m. below q (member q xs m))

-- where each number is found, what is found is in order
place-found : (f : ℕ → Option ℕ) (a n i : ℕ) → ((k : ℕ) → a ≤ k → k < a + n → (b : ℕ) × (f k ≡ Some b)) → i < n →
    slice_get (filter_map f (range_with_len a n)) i ≡ f (a + i)
place-found f a zero i found h = absurd (omega arith)
place-found f a (suc n) i found h =
    by i h (found a (omega arith) (omega arith))
    (λ k. place-found f (a + 1) n k (λ j low high. found j (omega arith) (omega arith)))
  where
    by : (i : ℕ) → i < suc n → (b : ℕ) × (f a ≡ Some b) →
        ((k : ℕ) → k < n → slice_get (filter_map f (range_with_len (a + 1) n)) k ≡ f (a + 1 + k)) →
        slice_get (cons_option (f a) (filter_map f (range_with_len (a + 1) n))) i ≡ f (a + i)
    by zero h (b, is) rest = ap (λ o. slice_get (cons_option o (filter_map f (range_with_len (a + 1) n))) 0) is ∙ sym is
        ∙ (let same : a ≡ a + 0 = omega arith in ap f same)
    by (suc k) h (b, is) rest =
        ap (λ o. slice_get (cons_option o (filter_map f (range_with_len (a + 1) n))) (suc k)) is ∙ rest k (omega arith)
        ∙ (let same : a + 1 + k ≡ a + suc k = omega arith in ap f same)

length-found : (f : ℕ → Option ℕ) (a n : ℕ) → ((k : ℕ) → a ≤ k → k < a + n → (b : ℕ) × (f k ≡ Some b)) →
    length (filter_map f (range_with_len a n)) ≡ n
length-found f a zero found = refl
length-found f a (suc n) found =
    ap (λ o. length (cons_option o (filter_map f (range_with_len (a + 1) n)))) (found a (omega arith) (omega arith)).1
    ∙ ap suc (length-found f (a + 1) n (λ k low high. found k (omega arith) (omega arith)))

-- ---- Numbers with ports

module _ (port : ℕ → ℕ) (own : List ℕ) (apart : Apart own)
    (range : (b : ℕ) → Contains own b → (0 < port b) × (port b ≤ length own))
    (one : (b c : ℕ) → Contains own b → Contains own c → port b ≡ port c → b ≡ c) where
  search : ℕ → Option ℕ
  search k = find (λ b. port b == k) own

  none-missing : (k : ℕ) → 0 < k → k ≤ length own → ((b : ℕ) → Contains own b → port b ≡ k → ⊥) → ⊥
  none-missing k low high none =
      let less : ℕ → ℕ = λ b. port b - 1 in
      let different : Apart ((k - 1) ∷ map less own) = (
        λ y m same. (let z = of-map less own y m in let r = range z.0 z.1 in let above : 0 < port z.0 = r.0 in
            let is : port z.0 - 1 ≡ y = z.2 in none z.0 z.1 (omega arith)),
        apart-map less own (λ b c mb mc same. one b c mb mc (let rb = (range b mb).0 in let rc = (range c mc).0 in omega arith)) apart,
      ) in
      let below : (q : ℕ) → Contains ((k - 1) ∷ map less own) q → q < length own = λ q m. elim (in-cases (k - 1) q (map less own) m) [
        | inl same ↦ omega arith
        | inr more ↦ let z = of-map less own q more in let r = range z.0 z.1 in let above : 0 < port z.0 = r.0 in
            let low_enough : port z.0 ≤ length own = r.1 in let is : port z.0 - 1 ≡ q = z.2 in omega arith
      ] in
      let few : suc (length (map less own)) ≤ length own = at-most ((k - 1) ∷ map less own) (length own) different below in
      omega (arith, length-map own less)

  each-port : (k : ℕ) → 1 ≤ k → k < 1 + length own → (b : ℕ) × (find (λ b. port b == k) own ≡ Some b)
  each-port k low high = by (find (λ b. port b == k) own) refl
    where
      by : (o : Option ℕ) → find (λ b. port b == k) own ≡ o → (b : ℕ) × (o ≡ Some b)
      by (Some b) e = (b, refl)
      by None e = absurd (none-missing k (omega arith) (omega arith) (λ b m is.
          let f = finds (λ c. port c == k) own b m (eq-eqb (port b) k is) in let wrong : ⊥ = cc (e, f.1) in wrong))

  abbrev numbered : List ℕ
  numbered = filter_map (λ k. find (λ b. port b == k) own) (range_with_len 1 (length own))

  -- each row is at its port
  at-port : (b : ℕ) → Contains own b → slice_get numbered (port b - 1) ≡ Some b
  at-port b m =
      let r = range b m in
      let low : 0 < port b = r.0 in
      let high : port b ≤ length own = r.1 in
      let is : 1 + (port b - 1) ≡ port b = omega arith in
      let found = each-port (port b) (omega arith) (omega arith) in
      let which = found-in (λ c. port c == port b) own found.0 found.1 in
      let same : found.0 ≡ b = one found.0 b which.0 m (eqb-true (port found.0) (port b) which.1) in
      place-found (λ k. find (λ b. port b == k) own) 1 (length own) (port b - 1) each-port (omega arith)
      ∙ ap (λ k. find (λ b. port b == k) own) is ∙ found.1 ∙ ap Some same

  -- as many as there are
  length-numbered : length numbered ≡ length own
  length-numbered = length-found (λ k. find (λ b. port b == k) own) 1 (length own) each-port

-- ---- Rows with ports

system-same : (o : Option ℕ) → same_system o o ≡ true
system-same None = refl
system-same (Some e) = eq-eqb e e refl

module _ (rows : List Row) (test : Kind → Bool) (o : Option ℕ) (ports : HasPorts rows test o) where
  abbrev passes : ℕ → Bool
  passes b = test (row_at rows b).kind

  abbrev port : ℕ → ℕ
  port b = port_of (row_at rows b).kind

  abbrev own : List ℕ
  own = filter passes (rows_of rows o)

  -- a row of the system that passes
  pub record IsPorted (b : ℕ) : Type 0 where
    pub in_table : b < length rows
    pub is_own : (row_at rows b).owner ≡ o
    pub passing : passes b ≡ true

  into : (b : ℕ) → IsPorted b → Contains own b
  into b is = in-filter passes (rows_of rows o) b
      (in-filter (λ c. same_system (row_at rows c).owner o) (row_numbers rows) b
      (in-range 0 (length rows) b (omega arith) (let h = is.in_table in omega arith))
      (ap (λ p. same_system p o) is.is_own ∙ system-same o)) is.passing

  from : (b : ℕ) → Contains own b → IsPorted b
  from b h =
      let f = of-filter passes (rows_of rows o) b h in
      let g = of-filter (λ c. same_system (row_at rows c).owner o) (row_numbers rows) b f.0 in record {
        in_table = let high = (of-range 0 (length rows) b g.0).1 in omega arith;
        is_own = same_system-equal (row_at rows b).owner o g.1;
        passing = f.1;
      }

  own-apart : Apart own
  own-apart =
      apart-filter passes (rows_of rows o)
      (apart-filter (λ c. same_system (row_at rows c).owner o) (row_numbers rows) (apart-range 0 (length rows)))

  range : (b : ℕ) → Contains own b → (0 < port b) × (port b ≤ length own)
  range b h =
      let is = from b h in
      let r = ports.in_range b is.in_table is.is_own is.passing in
      let high : port b ≤ count_by passes (rows_of rows o) = r.1 in
      (r.0, omega (arith, high, length-filter passes (rows_of rows o)))

  one : (b c : ℕ) → Contains own b → Contains own c → port b ≡ port c → b ≡ c
  one b c h k same =
      let i = from b h in
      let j = from c k in
      ports.one_each b c i.in_table j.in_table i.is_own j.is_own i.passing j.passing same

  -- each of them is at its port
  pub at-own-port : (b : ℕ) → IsPorted b → slice_get (by_port rows o test) (port b - 1) ≡ Some b
  at-own-port b is = at-port port own own-apart range one b (into b is)

  -- and has a port
  pub has-port : (b : ℕ) → IsPorted b → (0 < port b) × (port b ≤ length (by_port rows o test))
  has-port b is =
      let r = range b (into b is) in
      let high : port b ≤ length own = r.1 in
      (r.0, omega (arith, high, length-numbered port own own-apart range one))

  -- as many as there are
  pub length-by_port : length (by_port rows o test) ≡ length own
  length-by_port = length-numbered port own own-apart range one

  -- what is by port is such a row, at its port
  pub ported-at : (k : ℕ) → k < length (by_port rows o test) →
      (b : ℕ) × (slice_get (by_port rows o test) k ≡ Some b) × IsPorted b × (port b ≡ suc k)
  ported-at k below =
      let within : k < length own = omega (arith, below, length-by_port) in
      let found = each-port port own own-apart range one (suc k) (omega arith) (omega arith) in
      let b = found.0 in
      let which = found-in (λ c. port c == suc k) own b found.1 in
      let is_port : port b ≡ suc k = eqb-true (port b) (suc k) which.1 in
      let is = from b which.0 in
      let less : port b - 1 ≡ k = omega (arith, is_port) in
      (b, ap (slice_get (by_port rows o test)) (sym less) ∙ at-own-port b is, is, is_port)
