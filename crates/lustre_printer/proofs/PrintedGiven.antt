-- Each name but the inputs is given once.
use Rattle.std.proofs.Common.{◌≡◌, refl, ◌∙◌, ap, subst, ℕ, zero, suc, ◌+◌, ◌<◌, ◌≤◌, List, [], ◌∷◌, ◌++◌, length, map, filter, Bool, true, false, ◌||◌, ◌==◌, eqb, nat_lt, if◌then◌else◌, arith, bytes_eq}
use Rattle.std.specs.Prelude.{flat_map}
use Rattle.std.specs.List.{AllByRecursion, list_any, range_with_len}
use Rattle.std.proofs.lemmas.Bool.{le-leb, eqb-true, eqb-false, eq-eqb, ltb-false}
use Rattle.std.proofs.lemmas.List.{length-append}
use Rattle.std.proofs.lemmas.List.Elements.{filter-append}
use Rattle.c_syntax.specs.Names.{name_at}
use Rattle.c_syntax.specs.Outputs.{has_name}
use Rattle.c_syntax.proofs.lemmas.NamePlaces.{bytes_eq-same}
use Rattle.lustre_syntax.specs.Tree.{Declared, NodeTree, given_by}
use Rattle.lustre_syntax.specs.Lawful.{equations_of, equations_wanted}
use Rattle.lustre_rules.specs.Resolve.{may_be_given}

-- how often a place is given
abbrev pub times : ℕ → List ℕ → ℕ
times k places = length (filter (λ j. j == k) places)

pub times-append : (k : ℕ) (xs ys : List ℕ) → times k (xs ++ ys) ≡ times k xs + times k ys
times-append k xs ys =
    ap length (filter-append (λ j. j == k) xs ys) ∙ length-append (filter (λ j. j == k) xs) (filter (λ j. j == k) ys)

times-first : (k : ℕ) (xs : List ℕ) → times k (k ∷ xs) ≡ suc (times k xs)
times-first k xs = ap (λ b. length (if b then k ∷ filter (λ j. j == k) xs else filter (λ j. j == k) xs)) (eq-eqb k k refl)

times-cons : (k j : ℕ) (xs : List ℕ) → times k (j ∷ xs) ≡ times k (j ∷ []) + times k xs
times-cons k j xs = times-append k (j ∷ []) xs

-- a place that is not given
times-none : (k : ℕ) (xs : List ℕ) → times k xs ≡ 0 → list_any (λ j. j == k) xs ≡ false
times-none k [] h = refl
times-none k (x ∷ xs) h = by (x == k) (times-none k xs) h
  where
    by : (b : Bool) → (times k xs ≡ 0 → list_any (λ j. j == k) xs ≡ false) →
        length (if b then x ∷ filter (λ j. j == k) xs else filter (λ j. j == k) xs) ≡ 0 → (b || list_any (λ j. j == k) xs) ≡ false
    by true later h = absurd (omega (arith, h))
    by false later h = later h

-- a place that is given has its name among those given
pub times-some : (names : List (List ℕ)) (k : ℕ) (xs : List ℕ) → 0 < times k xs → has_name (map (name_at names) xs) (name_at names k) ≡ true
times-some names k [] h = absurd (omega (arith, h))
times-some names k (x ∷ xs) h = by (x == k) refl (times-some names k xs) h
  where
    or-true : (b : Bool) → (b || true) ≡ true
    or-true true = refl
    or-true false = refl

    by : (b : Bool) → (x == k) ≡ b → (0 < times k xs → has_name (map (name_at names) xs) (name_at names k) ≡ true) →
        0 < length (if b then x ∷ filter (λ j. j == k) xs else filter (λ j. j == k) xs) →
        has_name (map (name_at names) (x ∷ xs)) (name_at names k) ≡ true
    by true e later h =
        ap (λ t. t || has_name (map (name_at names) xs) (name_at names k))
        (ap (λ j. bytes_eq (name_at names k) (name_at names j)) (eqb-true x k e) ∙ bytes_eq-same (name_at names k))
    by false e later h =
        ap (λ t. bytes_eq (name_at names k) (name_at names x) || t) (later h) ∙ or-true (bytes_eq (name_at names k) (name_at names x))

-- what is given before and later is what a node wants
abbrev pub Wants : NodeTree → (before later : List ℕ) → Type 0
Wants n before later = (k : ℕ) → k < length n.names → times k before + times k later ≡ equations_wanted n k

-- one place more is given
pub wants-next : (n : NodeTree) (before later : List ℕ) (j : ℕ) → Wants n before (j ∷ later) → Wants n (before ++ j ∷ []) later
wants-next n before later j h k within = omega (arith, h k within, times-cons k j later, times-append k before (j ∷ []))

pub wants-after : (n : NodeTree) (before given later : List ℕ) → Wants n before (given ++ later) → Wants n (before ++ given) later
wants-after n before given later h k within = omega (arith, h k within, times-append k given later, times-append k before given)

-- the next place may be given
pub next-may : (names : List Declared) (earlier : List NodeTree) (n : NodeTree) (before later : List ℕ) (k : ℕ) → k < length n.names →
    Wants n before (k ∷ later) → may_be_given (record { earlier = earlier; names = names; inputs = n.inputs; given = before }) k ≡ true
next-may names earlier n before later k within h = by (nat_lt k n.inputs) refl (h k within)
  where
    by : (is_input : Bool) → nat_lt k n.inputs ≡ is_input → times k before + times k (k ∷ later) ≡ (if is_input then 0 else 1) →
        may_be_given (record { earlier = earlier; names = names; inputs = n.inputs; given = before }) k ≡ true
    by true e count = absurd (omega (arith, count, times-first k later))
    by false e count =
        rw (
          le-leb n.inputs k (ltb-false k n.inputs e),
          times-none k before (omega (arith, count, times-first k later)),
        ) refl

-- each name but the inputs is wanted
wanted-at : (n : NodeTree) (i len : ℕ) → AllByRecursion (λ k. equations_of n k ≡ equations_wanted n k) (range_with_len i len) →
    (k : ℕ) → i ≤ k → k < i + len → equations_of n k ≡ equations_wanted n k
wanted-at n i zero h k from to = absurd (omega (arith, from, to))
wanted-at n i (suc len) h k from to = by (eqb i k) refl h.0 (wanted-at n (i + 1) len h.1 k)
  where
    by : (b : Bool) → eqb i k ≡ b → equations_of n i ≡ equations_wanted n i →
        (i + 1 ≤ k → k < i + 1 + len → equations_of n k ≡ equations_wanted n k) → equations_of n k ≡ equations_wanted n k
    by true e here later = subst (λ j. equations_of n j ≡ equations_wanted n j) (eqb-true i k e) here
    by false e here later = later (omega (arith, from, eqb-false i k e)) (omega (arith, to))

pub wants-all : (n : NodeTree) → AllByRecursion (λ k. equations_of n k ≡ equations_wanted n k) (range_with_len 0 (length n.names)) →
    Wants n [] (flat_map given_by n.equations)
wants-all n h k within = omega (arith, wanted-at n 0 (length n.names) h k (omega arith) (omega (arith, within)))
