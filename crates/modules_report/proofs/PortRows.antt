-- A system whose rows have the ports from 1 on, each once, has a row for each port.
use Rattle.std.proofs.Common.{◌≡◌, ◌⊎◌, ℕ, zero, suc, ◌+◌, ◌<◌, ◌≤◌, ◌==◌, IsTrue, Bool, true, false, not, cond, List, [], ◌∷◌, length, map, filter, refl, sym, ap, subst, ◌∙◌, arith, inl, inr}
use Rattle.std.specs.Prelude.{⊤, Option, Some, None, find, filter_map, count_by}
use Rattle.std.specs.List.{AllByRecursion, cons_option, range_with_len}
use Rattle.std.proofs.lemmas.Bool.{cases_eq, eq-eqb, eqb-true, false≢true, ne_eqb}
use Rattle.std.proofs.lemmas.List.{length-map}
use Rattle.std.proofs.lemmas.List.FromFn.{length-range_with_len}
use Rattle.std.proofs.lemmas.List.Sums.{length-filter}
use Rattle.diagram_blocks.specs.declared.Kind.{Kind}
use Rattle.diagram_meaning.specs.declared.table.Row.{Row}
use Rattle.diagram_meaning.specs.Rows.{by_port, row_at, row_numbers, rows_of, same_system}
use Rattle.diagram_blocks.specs.Kinds.{port_of}
use Rattle.diagram_meaning.specs.WellFormed.{HasPorts}
use Rattle.diagram_meaning.proofs.lemmas.RestsOnNeeds.{same_system-equal}
use Rattle.modules_report.proofs.OutLines.{kept-are}
use Rattle.modules_report.proofs.SameNeeds.{above-range}

-- ---- Lists in which no member occurs twice

abbrev Distinct : List ℕ → Type 0
Distinct [] = ⊤
Distinct (x ∷ xs) = AllByRecursion (λ y. y ≡ x → ⊥) xs × Distinct xs

abbrev IsIn : List ℕ → ℕ → Type 0
IsIn [] x = ⊥
IsIn (y ∷ ys) x = (x ≡ y) ⊎ IsIn ys x

eq-self : (x : ℕ) → (x == x) ≡ true
eq-self x = eq-eqb x x refl

abbrev without : ℕ → List ℕ → List ℕ
without s xs = filter (λ y. not (y == s)) xs

each-to : {X : Type 0} (P Q : X → Type 0) (xs : List X) → ((x : X) → P x → Q x) → AllByRecursion P xs → AllByRecursion Q xs
each-to P Q [] f a = tt
each-to P Q (x ∷ xs) f a = (f x a.0, each-to P Q xs f a.1)

kept-distinct : (p : ℕ → Bool) (xs : List ℕ) → Distinct xs → Distinct (filter p xs)
kept-distinct p [] d = tt
kept-distinct p (x ∷ xs) d = by (p x) (kept-distinct p xs d.1)
  where
    by : (t : Bool) → Distinct (filter p xs) → Distinct (cond t (x ∷ filter p xs) (filter p xs))
    by true more = (kept-are (λ y. y ≡ x → ⊥) p xs d.0, more)
    by false more = more

none-gone : (s : ℕ) (xs : List ℕ) → AllByRecursion (λ y. y ≡ s → ⊥) xs → without s xs ≡ xs
none-gone s [] a = refl
none-gone s (x ∷ xs) a = ap (λ t. cond (not t) (x ∷ without s xs) (without s xs)) (ne_eqb x s a.0) ∙ ap (λ ys. x ∷ ys) (none-gone s xs a.1)

one-gone : (s : ℕ) (xs : List ℕ) → Distinct xs → length xs ≤ suc (length (without s xs))
one-gone s [] d = omega arith
one-gone s (x ∷ xs) d = by (x == s) refl (one-gone s xs d.1)
  where
    by : (t : Bool) → (x == s) ≡ t → length xs ≤ suc (length (without s xs)) →
        suc (length xs) ≤ suc (length (cond (not t) (x ∷ without s xs) (without s xs)))
    by true is more =
        let same : x ≡ s = eqb-true x s is in
        let all : length (without s xs) ≡ length xs =
        ap length (none-gone s xs (subst (λ z. AllByRecursion (λ y. y ≡ z → ⊥) xs) same d.0)) in
        omega (arith, all)
    by false is more = omega (arith, more)

still-in : (s : ℕ) (ss xs : List ℕ) → AllByRecursion (IsIn (s ∷ ss)) xs → AllByRecursion (IsIn ss) (without s xs)
still-in s ss [] a = tt
still-in s ss (x ∷ xs) a = by (x == s) refl a.0 (still-in s ss xs a.1)
  where
    by : (t : Bool) → (x == s) ≡ t → (x ≡ s) ⊎ IsIn ss x → AllByRecursion (IsIn ss) (without s xs) →
        AllByRecursion (IsIn ss) (cond (not t) (x ∷ without s xs) (without s xs))
    by true is own more = more
    by false is (inl same) more = absurd (false≢true (sym is ∙ ap (λ z. x == z) (sym same) ∙ eq-self x))
    by false is (inr there) more = (there, more)

no-more : (ss xs : List ℕ) → Distinct xs → AllByRecursion (IsIn ss) xs → length xs ≤ length ss
no-more [] [] d a = omega arith
no-more [] (x ∷ xs) d a = absurd a.0
no-more (s ∷ ss) xs d a =
    let rest = no-more ss (without s xs) (kept-distinct _ xs d) (still-in s ss xs a) in let one = one-gone s xs d in
    omega (arith, rest, one)

fewer-without : (k : ℕ) (xs : List ℕ) → IsIn xs k → suc (length (without k xs)) ≤ length xs
fewer-without k [] i = absurd i
fewer-without k (x ∷ xs) i = by (x == k) refl i (fewer-without k xs)
  where
    short : (ys : List ℕ) → length (without k ys) ≤ length ys
    short [] = omega arith
    short (y ∷ ys) = less (y == k) (short ys)
      where
        less : (t : Bool) → length (without k ys) ≤ length ys → length (cond (not t) (y ∷ without k ys) (without k ys)) ≤ suc (length ys)
        less true h = omega (arith, h)
        less false h = omega (arith, h)

    by : (t : Bool) → (x == k) ≡ t → (k ≡ x) ⊎ IsIn xs k → (IsIn xs k → suc (length (without k xs)) ≤ length xs) →
        suc (length (cond (not t) (x ∷ without k xs) (without k xs))) ≤ suc (length xs)
    by true is own more = let h = short xs in omega (arith, h)
    by false is (inl same) more = absurd (false≢true (sym is ∙ ap (λ z. x == z) same ∙ eq-self x))
    by false is (inr there) more = let h = more there in omega (arith, h)

in-range : (a n k : ℕ) → a ≤ k → k < a + n → IsIn (range_with_len a n) k
in-range a zero k low high = absurd (omega (arith, low, high))
in-range a (suc n) k low high = elim (cases_eq k a) [
  | inl here ↦ inl here
  | inr there ↦ inr (in-range (a + 1) n k (omega (arith, low, there)) (omega (arith, high)))
]

in-without : (k : ℕ) (xs : List ℕ) (y : ℕ) → IsIn xs y → (y ≡ k → ⊥) → IsIn (without k xs) y
in-without k [] y i apart = i
in-without k (x ∷ xs) y i apart = by (x == k) refl i (in-without k xs y)
  where
    by : (t : Bool) → (x == k) ≡ t → (y ≡ x) ⊎ IsIn xs y → (IsIn xs y → (y ≡ k → ⊥) → IsIn (without k xs) y) →
        IsIn (cond (not t) (x ∷ without k xs) (without k xs)) y
    by true is (inl same) more = absurd (apart (same ∙ eqb-true x k is))
    by true is (inr there) more = more there apart
    by false is (inl same) more = inl same
    by false is (inr there) more = inr (more there apart)

range-distinct : (a n : ℕ) → Distinct (range_with_len a n)
range-distinct a zero = tt
range-distinct a (suc n) = (
  each-to (λ k. a + 1 ≤ k) (λ k. k ≡ a → ⊥) (range_with_len (a + 1) n) (λ k low same. (omega (arith, low, same))) (above-range (a + 1) n),
  range-distinct (a + 1) n,
)

-- ---- Searches

none-found : (test : ℕ → Bool) (xs : List ℕ) → find test xs ≡ None → AllByRecursion (λ x. test x ≡ false) xs
none-found test [] e = tt
none-found test (x ∷ xs) e = by (test x) refl e (none-found test xs)
  where
    by : (t : Bool) → test x ≡ t → cond t (Some x) (find test xs) ≡ None → (find test xs ≡ None → AllByRecursion (λ x. test x ≡ false) xs) →
        AllByRecursion (λ x. test x ≡ false) (x ∷ xs)
    by true is e more = absurd (let wrong : ⊥ = cc e in wrong)
    by false is e more = (is, more e)

all-found : (f : ℕ → Option ℕ) (xs : List ℕ) → AllByRecursion (λ x. f x ≡ None → ⊥) xs → length (filter_map f xs) ≡ length xs
all-found f [] a = refl
all-found f (x ∷ xs) a = by (f x) a.0 (all-found f xs a.1)
  where
    by : (o : Option ℕ) → (o ≡ None → ⊥) → length (filter_map f xs) ≡ length xs → length (cons_option o (filter_map f xs)) ≡ suc (length xs)
    by None some more = absurd (some refl)
    by (Some y) some more = ap suc more

pub most-found : (f : ℕ → Option ℕ) (xs : List ℕ) → length (filter_map f xs) ≤ length xs
most-found f [] = omega arith
most-found f (x ∷ xs) = by (f x) (most-found f xs)
  where
    by : (o : Option ℕ) → length (filter_map f xs) ≤ length xs → length (cons_option o (filter_map f xs)) ≤ suc (length xs)
    by None more = omega (arith, more)
    by (Some y) more = omega (arith, more)

-- ---- The rows of a system that pass a test, by port

module _ (rows : List Row) (test : Kind → Bool) (s : Option ℕ) (has : HasPorts rows test s) where
  abbrev port_at : ℕ → ℕ
  port_at b = port_of (row_at rows b).kind

  abbrev own : List ℕ
  own = filter (λ b. test (row_at rows b).kind) (rows_of rows s)

  count : length own ≡ count_by (λ b. test (row_at rows b).kind) (rows_of rows s)
  count = length-filter (λ b. test (row_at rows b).kind) (rows_of rows s)

  -- what a row of the list is
  record IsOwn (b : ℕ) : Type 0 where
    pub within : b < length rows
    pub owner : (row_at rows b).owner ≡ s
    pub passes : IsTrue (test (row_at rows b).kind)

  all-own : AllByRecursion IsOwn own
  all-own = chosen (rows_of rows s) (placed (row_numbers rows) (numbers 0 (length rows) (omega arith)))
    where
      numbers : (a n : ℕ) → a + n ≤ length rows → AllByRecursion (λ b. b < length rows) (range_with_len a n)
      numbers a zero h = tt
      numbers a (suc n) h = (omega (arith, h), numbers (a + 1) n (omega (arith, h)))

      placed : (bs : List ℕ) → AllByRecursion (λ b. b < length rows) bs →
          AllByRecursion (λ b. (b < length rows) × ((row_at rows b).owner ≡ s)) (filter (λ b. same_system (row_at rows b).owner s) bs)
      placed [] a = tt
      placed (b ∷ bs) a = by (same_system (row_at rows b).owner s) refl (placed bs a.1)
        where
          by : (t : Bool) → same_system (row_at rows b).owner s ≡ t →
              AllByRecursion (λ b. (b < length rows) × ((row_at rows b).owner ≡ s)) (filter (λ b. same_system (row_at rows b).owner s) bs) →
              AllByRecursion (λ b. (b < length rows) × ((row_at rows b).owner ≡ s))
              (cond t (b ∷ filter (λ b. same_system (row_at rows b).owner s) bs) (filter (λ b.
              same_system (row_at rows b).owner s) bs))
          by true is more = ((a.0, same_system-equal (row_at rows b).owner s is), more)
          by false is more = more

      chosen : (bs : List ℕ) → AllByRecursion (λ b. (b < length rows) × ((row_at rows b).owner ≡ s)) bs →
          AllByRecursion IsOwn (filter (λ b. test (row_at rows b).kind) bs)
      chosen [] a = tt
      chosen (b ∷ bs) a = by (test (row_at rows b).kind) refl (chosen bs a.1)
        where
          by : (t : Bool) → test (row_at rows b).kind ≡ t → AllByRecursion IsOwn (filter (λ b. test (row_at rows b).kind) bs) →
              AllByRecursion IsOwn (cond t (b ∷ filter (λ b. test (row_at rows b).kind) bs) (filter (λ b. test (row_at rows b).kind) bs))
          by true is more = (record { within = a.0.0; owner = a.0.1; passes = is }, more)
          by false is more = more

  own-distinct : Distinct own
  own-distinct = kept-distinct _ (rows_of rows s) (kept-distinct _ (row_numbers rows) (range-distinct 0 (length rows)))

  ports-distinct : (bs : List ℕ) → AllByRecursion IsOwn bs → Distinct bs → Distinct (map port_at bs)
  ports-distinct [] a d = tt
  ports-distinct (b ∷ bs) a d = (apart bs a.1 d.0, ports-distinct bs a.1 d.1)
    where
      apart : (cs : List ℕ) → AllByRecursion IsOwn cs → AllByRecursion (λ c. c ≡ b → ⊥) cs →
          AllByRecursion (λ p. p ≡ port_at b → ⊥) (map port_at cs)
      apart [] o n = tt
      apart (c ∷ cs) o n = (
        (λ same. n.0 (has.one_each c b o.0.within a.0.within o.0.owner a.0.owner o.0.passes a.0.passes same)),
        apart cs o.1 n.1,
      )

  -- each port has a row
  found : (k : ℕ) → 1 ≤ k → k < 1 + length own → find (λ b. port_at b == k) own ≡ None → ⊥
  found k low high none =
      let few = no-more (without k (range_with_len 1 (length own))) (map port_at own) (ports-distinct own all-own own-distinct)
      (there own all-own (none-found (λ b. port_at b == k) own none)) in
      let less = fewer-without k (range_with_len 1 (length own)) (in-range 1 (length own) k low high) in
      let ports : length (map port_at own) ≡ length own = length-map own port_at in
      let numbers : length (range_with_len 1 (length own)) ≡ length own = length-range_with_len 1 (length own) in
      omega (arith, few, less, ports, numbers)
    where
      there : (bs : List ℕ) → AllByRecursion IsOwn bs → AllByRecursion (λ b. (port_at b == k) ≡ false) bs →
          AllByRecursion (IsIn (without k (range_with_len 1 (length own)))) (map port_at bs)
      there [] a n = tt
      there (b ∷ bs) a n = (
        in-without k (range_with_len 1 (length own)) (port_at b)
            (in-range 1 (length own) (port_at b) (has.in_range b a.0.within a.0.owner a.0.passes).0
            (let top = (has.in_range b a.0.within a.0.owner a.0.passes).1 in omega (arith, top, count)))
            (λ same. false≢true (sym n.0 ∙ ap (λ p. p == k) same ∙ eq-self k)),
        there bs a.1 n.1,
      )

  pub ports-count : length (by_port rows s test) ≡ count_by (λ b. test (row_at rows b).kind) (rows_of rows s)
  ports-count =
      all-found (λ k. find (λ b. port_at b == k) own) (range_with_len 1 (length own))
      (each 1 (length own) (omega arith) (omega arith))
      ∙ length-range_with_len 1 (length own) ∙ count
    where
      each : (a n : ℕ) → 1 ≤ a → a + n ≤ 1 + length own →
          AllByRecursion (λ k. find (λ b. port_at b == k) own ≡ None → ⊥) (range_with_len a n)
      each a zero low high = tt
      each a (suc n) low high = (found a low (omega (arith, high)), each (a + 1) n (omega (arith, low)) (omega (arith, high)))
