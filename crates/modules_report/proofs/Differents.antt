-- The different members of a list, except for those that were seen before.
use Rattle.std.proofs.Common.{◌≡◌, ℕ, suc, ◌==◌, ◌||◌, ◌&&◌, eqb, Bool, true, false, not, cond, List, [], ◌∷◌, ◌++◌, length, filter, refl, sym, ap, ap₂, subst, ◌∙◌, arith}
use Rattle.std.specs.List.{AllByRecursion, list_any}
use Rattle.std.proofs.lemmas.Bool.{eq-eqb, eqb-true, false≢true, ne_eqb}
use Rattle.base_core.specs.Interface.{different}

-- ---- Sets of numbers as tests

-- also this number is seen
abbrev pub and-also : (ℕ → Bool) → ℕ → ℕ → Bool
and-also seen n m = (m == n) || seen m

-- one of a list
abbrev pub among : List ℕ → ℕ → Bool
among xs m = list_any (eqb m) xs

abbrev pub IsWithin : (ℕ → Bool) → (ℕ → Bool) → Type 0
IsWithin p q = (m : ℕ) → p m ≡ true → q m ≡ true

or-true : (s t : Bool) → t ≡ true → (s || t) ≡ true
or-true true t e = refl
or-true false t e = e

or-left : (s t : Bool) → s ≡ true → (s || t) ≡ true
or-left true t e = refl
or-left false t e = absurd (false≢true e)

or-false : (s t : Bool) → s ≡ false → t ≡ false → (s || t) ≡ false
or-false true t e f = absurd (false≢true (sym e))
or-false false t e f = f

pub also-self : (p : ℕ → Bool) (n : ℕ) → and-also p n n ≡ true
also-self p n = or-left (n == n) (p n) (eq-eqb n n refl)

pub also-before : (p : ℕ → Bool) (n m : ℕ) → p m ≡ true → and-also p n m ≡ true
also-before p n m e = or-true (m == n) (p m) e

pub also-other : (p : ℕ → Bool) (n m : ℕ) → (m ≡ n → ⊥) → p m ≡ false → and-also p n m ≡ false
also-other p n m other e = or-false (m == n) (p m) (ne_eqb m n other) e

pub also-within : (p q : ℕ → Bool) (n : ℕ) → IsWithin p q → q n ≡ true → IsWithin (and-also p n) q
also-within p q n within own m e = by (m == n) refl e
  where
    by : (t : Bool) → (m == n) ≡ t → (t || p m) ≡ true → q m ≡ true
    by true is f = subst (λ k. q k ≡ true) (sym (eqb-true m n is)) own
    by false is f = within m f

pub also-both : (p q : ℕ → Bool) (n : ℕ) → IsWithin p q → IsWithin (and-also p n) (and-also q n)
also-both p q n within m e = by (m == n) e
  where
    by : (t : Bool) → (t || p m) ≡ true → (t || q m) ≡ true
    by true f = refl
    by false f = within m f

-- ---- Members that weren't seen

pub unseen : (ℕ → Bool) → List ℕ → List ℕ
unseen seen [] = []
unseen seen (n ∷ ns) = cond (seen n) (unseen seen ns) (n ∷ unseen (and-also seen n) ns)

pub unseen-skip : (p : ℕ → Bool) (n : ℕ) (ns : List ℕ) → p n ≡ true → unseen p (n ∷ ns) ≡ unseen p ns
unfolding unseen
unseen-skip p n ns e = ap (λ (t : Bool). cond t (unseen p ns) (n ∷ unseen (and-also p n) ns)) e

pub unseen-keep : (p : ℕ → Bool) (n : ℕ) (ns : List ℕ) → p n ≡ false → unseen p (n ∷ ns) ≡ n ∷ unseen (and-also p n) ns
unfolding unseen
unseen-keep p n ns e = ap (λ (t : Bool). cond t (unseen p ns) (n ∷ unseen (and-also p n) ns)) e

pub unseen-none : (p : ℕ → Bool) → unseen p [] ≡ []
unfolding unseen
unseen-none p = refl

twice : (p q r : ℕ → Bool) (xs : List ℕ) → ((x : ℕ) → r x ≡ (q x && p x)) → filter p (filter q xs) ≡ filter r xs
twice p q r [] same = refl
twice p q r (x ∷ xs) same = by (q x) (p x) refl refl (twice p q r xs same)
  where
    by : (s t : Bool) → q x ≡ s → p x ≡ t → filter p (filter q xs) ≡ filter r xs → filter p (filter q (x ∷ xs)) ≡ filter r (x ∷ xs)
    by true true a b e =
        ap (λ (u : Bool). filter p (cond u (x ∷ filter q xs) (filter q xs))) a
        ∙ ap (λ (u : Bool). cond u (x ∷ filter p (filter q xs)) (filter p (filter q xs))) b
        ∙ ap (λ (t : List ℕ). x ∷ t) e
        ∙ sym (ap (λ (u : Bool). cond u (x ∷ filter r xs) (filter r xs)) (same x
        ∙ ap₂ (λ (u v : Bool). u && v) a b))
    by true false a b e =
        ap (λ (u : Bool). filter p (cond u (x ∷ filter q xs) (filter q xs))) a
        ∙ ap (λ (u : Bool). cond u (x ∷ filter p (filter q xs)) (filter p (filter q xs))) b
        ∙ e ∙ sym (ap (λ (u : Bool). cond u (x ∷ filter r xs) (filter r xs)) (same x ∙ ap₂ (λ (u v : Bool). u && v) a b))
    by false t a b e =
        ap (λ (u : Bool). filter p (cond u (x ∷ filter q xs) (filter q xs))) a
        ∙ e ∙ sym (ap (λ (u : Bool). cond u (x ∷ filter r xs) (filter r xs)) (same x ∙ ap (λ (u : Bool). u && p x) a))

pub unseen-different : (p : ℕ → Bool) (ns : List ℕ) → filter (λ m. not (p m)) (different ns) ≡ unseen p ns
unseen-different p [] = sym (unseen-none p)
unseen-different p (n ∷ ns) = by (p n) refl (λ q. unseen-different q ns)
  where
    rest : List ℕ
    rest = filter (λ y. not (y == n)) (different ns)

    step : (t : Bool) → p n ≡ t → filter (λ m. not (p m)) (n ∷ rest) ≡ cond (not t) (n ∷ filter (λ m. not (p m)) rest)
        (filter (λ m. not (p m)) rest)
    step t is = ap (λ (u : Bool). cond (not u) (n ∷ filter (λ m. not (p m)) rest) (filter (λ m. not (p m)) rest)) is

    dropped : p n ≡ true → (y : ℕ) → not (p y) ≡ (not (y == n) && not (p y))
    dropped is y = at (y == n) refl
      where
        at : (t : Bool) → (y == n) ≡ t → not (p y) ≡ (not t && not (p y))
        at true same = ap not (ap p (eqb-true y n same) ∙ is)
        at false other = refl

    kept : (y : ℕ) → not (and-also p n y) ≡ (not (y == n) && not (p y))
    kept y = at (y == n)
      where
        at : (t : Bool) → not (t || p y) ≡ (not t && not (p y))
        at true = refl
        at false = refl

    by : (t : Bool) → p n ≡ t → ((q : ℕ → Bool) → filter (λ m. not (q m)) (different ns) ≡ unseen q ns) →
        filter (λ m. not (p m)) (n ∷ rest) ≡ unseen p (n ∷ ns)
    by true is more = step true is ∙ twice (λ m. not (p m)) (λ y. not (y == n)) (λ m. not (p m)) (different ns) (dropped is)
        ∙ more p ∙ sym (unseen-skip p n ns is)
    by false is more =
        step false is
        ∙ ap (λ (t : List ℕ). n ∷ t)
        (twice (λ m. not (p m)) (λ y. not (y == n)) (λ m. not (and-also p n m)) (different ns) kept
        ∙ more (and-also p n)) ∙ sym (unseen-keep p n ns is)

abbrev pub nothing : ℕ → Bool
nothing m = false

all-kept : (xs : List ℕ) → filter (λ m. not (nothing m)) xs ≡ xs
all-kept [] = refl
all-kept (x ∷ xs) = ap (λ (t : List ℕ). x ∷ t) (all-kept xs)

pub different-unseen : (ns : List ℕ) → different ns ≡ unseen nothing ns
different-unseen ns = sym (all-kept (different ns)) ∙ unseen-different nothing ns

-- ---- What is after the first

abbrev first-or : ℕ → List ℕ → ℕ
first-or d [] = d
first-or d (x ∷ xs) = x

abbrev rest-of : List ℕ → List ℕ
rest-of [] = []
rest-of (x ∷ xs) = xs

pub same-first : (a b : ℕ) (xs ys : List ℕ) → a ∷ xs ≡ b ∷ ys → a ≡ b
same-first a b xs ys e = ap (first-or a) e

pub same-rest : (a b : ℕ) (xs ys : List ℕ) → a ∷ xs ≡ b ∷ ys → xs ≡ ys
same-rest a b xs ys e = ap rest-of e

pub not-empty : (a : ℕ) (xs : List ℕ) → a ∷ xs ≡ [] → ⊥
not-empty a xs e = let long : suc (length xs) ≡ 0 = ap length e in omega (arith, long)

-- all members were seen, where none wasn't
pub all-seen : (p : ℕ → Bool) (ns : List ℕ) → unseen p ns ≡ [] → AllByRecursion (λ n. p n ≡ true) ns
all-seen p [] e = tt
all-seen p (n ∷ ns) e = by (p n) refl (λ f. all-seen p ns f)
  where
    by : (t : Bool) → p n ≡ t → (unseen p ns ≡ [] → AllByRecursion (λ n. p n ≡ true) ns) → AllByRecursion (λ n. p n ≡ true) (n ∷ ns)
    by true is more = (is, more (sym (unseen-skip p n ns is) ∙ e))
    by false is more = absurd (not-empty n (unseen (and-also p n) ns) (sym (unseen-keep p n ns is) ∙ e))

-- none of the members was seen
pub none-seen : (p q : ℕ → Bool) (ns : List ℕ) → IsWithin q p → AllByRecursion (λ n. q n ≡ false) (unseen p ns)
none-seen p q [] within = subst (AllByRecursion (λ n. q n ≡ false)) (sym (unseen-none p)) tt
none-seen p q (n ∷ ns) within = by (p n) refl (λ r h. none-seen r q ns h)
  where
    not-own : p n ≡ false → (t : Bool) → q n ≡ t → q n ≡ false
    not-own is true own = absurd (false≢true (sym is ∙ within n own))
    not-own is false own = own

    by : (t : Bool) → p n ≡ t → ((r : ℕ → Bool) → IsWithin q r → AllByRecursion (λ n. q n ≡ false) (unseen r ns)) →
        AllByRecursion (λ n. q n ≡ false) (unseen p (n ∷ ns))
    by true is more = subst (AllByRecursion (λ n. q n ≡ false)) (sym (unseen-skip p n ns is)) (more p within)
    by false is more = subst (AllByRecursion (λ n. q n ≡ false)) (sym (unseen-keep p n ns is)) (
      not-own is (q n) refl,
      more (and-also p n) (λ m e. also-before p n m (within m e)),
    )

-- what comes after the first of them
pub record Behind (d : ℕ) (p : ℕ → Bool) (rest : List ℕ) : Type 0 where
  pub members : List ℕ
  pub seen : ℕ → Bool
  pub own : seen d ≡ true
  pub before : IsWithin p seen
  pub is : rest ≡ unseen seen members

pub behind : (p : ℕ → Bool) (ns : List ℕ) (d : ℕ) (rest : List ℕ) → unseen p ns ≡ d ∷ rest → Behind d p rest
behind p [] d rest e = absurd (not-empty d rest (sym e ∙ unseen-none p))
behind p (n ∷ ns) d rest e = by (p n) refl (λ f. behind p ns d rest f)
  where
    by : (t : Bool) → p n ≡ t → (unseen p ns ≡ d ∷ rest → Behind d p rest) → Behind d p rest
    by true is more = more (sym (unseen-skip p n ns is) ∙ e)
    by false is more =
        let both = sym e ∙ unseen-keep p n ns is in record {
          members = ns;
          seen = and-also p n;
          own = subst (λ k. and-also p n k ≡ true) (sym (same-first d n rest (unseen (and-also p n) ns) both)) (also-self p n);
          before = λ m h. also-before p n m h;
          is = same-rest d n rest (unseen (and-also p n) ns) both;
        }

-- those at the end are none of those before
pub apart : (p : ℕ → Bool) (ns ds es : List ℕ) → unseen p ns ≡ ds ++ es → AllByRecursion (λ e. among ds e ≡ false) es
apart p ns [] es e = each es
  where
    each : (xs : List ℕ) → AllByRecursion (λ e. among [] e ≡ false) xs
    each [] = tt
    each (x ∷ xs) = (refl, each xs)
apart p ns (d ∷ ds) es e =
    let b = behind p ns d (ds ++ es) e in
    joined es (last ds es (subst (AllByRecursion (λ x. and-also nothing d x ≡ false)) (sym b.is)
    (none-seen b.seen (and-also nothing d) b.members (also-within nothing b.seen d (λ m h. absurd (false≢true h)) b.own))))
    (apart b.seen b.members ds es (sym b.is))
  where
    last : (xs ys : List ℕ) → AllByRecursion (λ x. and-also nothing d x ≡ false) (xs ++ ys) →
        AllByRecursion (λ x. and-also nothing d x ≡ false) ys
    last [] ys a = a
    last (x ∷ xs) ys a = last xs ys a.1

    or-first : (s : Bool) → (s || false) ≡ false → s ≡ false
    or-first true e = e
    or-first false e = refl

    joined : (xs : List ℕ) → AllByRecursion (λ x. and-also nothing d x ≡ false) xs → AllByRecursion (λ x. among ds x ≡ false) xs →
        AllByRecursion (λ x. among (d ∷ ds) x ≡ false) xs
    joined [] a b = tt
    joined (x ∷ xs) a b = (or-false (eqb x d) (among ds x) (or-first (x == d) a.0) b.0, joined xs a.1 b.1)
