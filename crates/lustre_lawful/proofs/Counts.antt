-- How often a text is in a list, and lists in which none is twice.
use Rattle.std.specs.Prelude.{◌≡◌, ◌⊎◌, ℕ, suc, ◌+◌, ◌<◌, ◌≤◌, Bool, true, false, cond, List, [], ◌∷◌, ◌++◌, map, filter, length, Contains, bytes_eq, ⊤}
use Rattle.std.specs.List.{AllByRecursion, flat_map}
use Rattle.std.proofs.Common.{refl, sym, ◌∙◌, ap, subst, arith, inl, inr, true≢false, length-append}
use Rattle.std.proofs.lemmas.Bool.{or_from, or_left, or_right, cases_lt}
use Rattle.std.proofs.lemmas.List.Elements.{filter-append}
use Rattle.std.proofs.lemmas.Slice.Eq.{bytes_eq-Decides}
use Rattle.c_syntax.specs.Outputs.{has_name}
use Rattle.c_syntax.proofs.lemmas.NamePlaces.{bytes_eq-same}
use Rattle.lustre_syntax.specs.Names.{is_lustre_name}
use Rattle.lustre_syntax.specs.Lawful.{AreDistinct}
use Rattle.modules_profile.proofs.lemmas.Members.{in-none, in-first, in-rest, in-cases, in-map, of-map}
use Rattle.modules_profile.proofs.lemmas.LawfulSteps.{of-flat_map}
use Rattle.lustre_rows.proofs.lemmas.Lists.{all-member}

abbrev pub times : List ℕ → List (List ℕ) → ℕ
times x ts = length (filter (bytes_eq x) ts)

abbrev pub Once : List (List ℕ) → Type 0
Once ts = (x : List ℕ) → times x ts ≤ 1

-- ---- Counting

pub times-append : (x : List ℕ) (ts us : List (List ℕ)) → times x (ts ++ us) ≡ times x ts + times x us
times-append x ts us = ap length (filter-append (bytes_eq x) ts us) ∙ length-append (filter (bytes_eq x) ts) (filter (bytes_eq x) us)

pub times-here : (x : List ℕ) (ts : List (List ℕ)) → times x (x ∷ ts) ≡ suc (times x ts)
times-here x ts = ap (λ b. length (cond b (x ∷ filter (bytes_eq x) ts) (filter (bytes_eq x) ts))) (bytes_eq-same x)

pub times-first : (x t : List ℕ) (ts : List (List ℕ)) → (x ≡ t) ⊎ (times x (t ∷ ts) ≡ times x ts)
times-first x t ts = by (bytes_eq x t) refl
  where
    by : (b : Bool) → bytes_eq x t ≡ b → (x ≡ t) ⊎ (times x (t ∷ ts) ≡ times x ts)
    by true is = inl ((bytes_eq-Decides x t).0 is)
    by false is = inr (ap (λ b. length (cond b (t ∷ filter (bytes_eq x) ts) (filter (bytes_eq x) ts))) is)

pub times-later : (x t : List ℕ) (ts : List (List ℕ)) → times x ts ≤ times x (t ∷ ts)
times-later x t ts = elim (times-first x t ts) [
  | inl same ↦ subst (λ u. times x ts ≤ times x (u ∷ ts)) same (let one = times-here x ts in omega (arith, one))
  | inr other ↦ omega (arith, other)
]

-- ---- Members

pub times-of : (x : List ℕ) (ts : List (List ℕ)) → Contains ts x → 0 < times x ts
times-of x [] there = absurd (in-none x there)
times-of x (t ∷ ts) there = elim (in-cases t x ts there) [
  | inl same ↦ subst (λ u. 0 < times x (u ∷ ts)) (sym same) (let one = times-here x ts in omega (arith, one))
  | inr later ↦ let more = times-of x ts later in let first = times-later x t ts in omega (arith, more, first)
]

pub of-times : (x : List ℕ) (ts : List (List ℕ)) → 0 < times x ts → Contains ts x
of-times x [] some = absurd (omega (arith, some))
of-times x (t ∷ ts) some = elim (times-first x t ts) [
  | inl same ↦ subst (λ u. Contains (u ∷ ts) x) same (in-first x ts)
  | inr other ↦ in-rest t x ts (of-times x ts (omega (arith, other, some)))
]

-- a text that none of a list is
pub times-none : (x : List ℕ) (ts : List (List ℕ)) → (Contains ts x → ⊥) → times x ts ≡ 0
times-none x ts none = elim (cases_lt 0 (times x ts)) [
  | inl some ↦ absurd (none (of-times x ts some))
  | inr not ↦ omega (arith, not)
]

-- ---- Lists in which none is twice

-- what a test tells apart
pub once-beside : (test : List ℕ → Bool) (ts us : List (List ℕ)) → AllByRecursion (λ t. test t ≡ true) ts →
    AllByRecursion (λ u. test u ≡ false) us → Once ts → Once us → Once (ts ++ us)
once-beside test ts us holds fails first second x =
    let both = times-append x ts us in
    elim (cases_lt 0 (times x ts)) [
      | inl some ↦
          let here = all-member (λ t. test t ≡ true) ts holds x (of-times x ts some) in
          let none = times-none x us (λ there. true≢false (sym here ∙ all-member (λ u. test u ≡ false) us fails x there)) in
          let one = first x in omega (arith, both, none, one)
      | inr not ↦ let one = second x in omega (arith, both, not, one)
    ]

pub once-none : Once []
once-none x = omega arith

pub once-single : (t : List ℕ) → Once (t ∷ [])
once-single t x = elim (times-first x t []) [
  | inl same ↦ subst (λ u. times x (u ∷ []) ≤ 1) same (let one = times-here x [] in omega (arith, one))
  | inr other ↦ omega (arith, other)
]

pub once-cons : (t : List ℕ) (ts : List (List ℕ)) → (Contains ts t → ⊥) → Once ts → Once (t ∷ ts)
once-cons t ts new once x = elim (times-first x t ts) [
  | inl same ↦ subst (λ u. times u (t ∷ ts) ≤ 1) (sym same)
      (let one = times-here t ts in let none = times-none t ts new in omega (arith, one, none))
  | inr other ↦ let one = once x in omega (arith, other, one)
]

-- no number twice
abbrev pub Apart : List ℕ → Type 0
Apart [] = ⊤
Apart (k ∷ ks) = ((j : ℕ) → Contains ks j → k ≡ j → ⊥) × Apart ks

pub once-mapped : (f : ℕ → List ℕ) (ks : List ℕ) → Apart ks → ((j k : ℕ) → Contains ks j → Contains ks k → f j ≡ f k → j ≡ k) →
    Once (map f ks)
once-mapped f [] apart tells = once-none
once-mapped f (k ∷ ks) apart tells =
    once-cons (f k) (map f ks)
    (λ there. let (j, in_rest, same) = of-map f ks (f k) there in
    apart.0 j in_rest (tells k j (in-first k ks) (in-rest k j ks in_rest) (sym same)))
    (once-mapped f ks apart.1 (λ i j h m. tells i j (in-rest k i ks h) (in-rest k j ks m)))

-- lists that have no text in common, one for each number
pub once-joined : (f : ℕ → List (List ℕ)) (ks : List ℕ) → Apart ks → ((k : ℕ) → Contains ks k → Once (f k)) →
    ((j k : ℕ) (x : List ℕ) → Contains ks j → Contains ks k → Contains (f j) x → Contains (f k) x → j ≡ k) → Once (flat_map f ks)
once-joined f [] apart each tells x = omega arith
once-joined f (k ∷ ks) apart each tells x =
    let both = times-append x (f k) (flat_map f ks) in
    let first = each k (in-first k ks) x in
    let rest = once-joined f ks apart.1 (λ j h. each j (in-rest k j ks h))
    (λ i j y h m. tells i j y (in-rest k i ks h) (in-rest k j ks m)) x in
    elim (cases_lt 0 (times x (f k))) [
      | inl some ↦
          let none = times-none x (flat_map f ks) (λ there.
          let (j, later, has) = of-flat_map f ks x there in
          apart.0 j later (tells k j x (in-first k ks) (in-rest k j ks later) (of-times x (f k) some) has)) in
          omega (arith, both, first, none)
      | inr not ↦ omega (arith, both, not, rest)
    ]

-- two lists of the same numbers
pub same-times : (f : ℕ → List ℕ) (js ks : List ℕ) → Once (map f js) → Once (map f ks) → ((j : ℕ) → Contains js j → Contains ks j) →
    ((j : ℕ) → Contains ks j → Contains js j) → (x : List ℕ) → times x (map f js) ≡ times x (map f ks)
same-times f js ks first second there back x =
    let one = first x in
    let two = second x in
    elim (cases_lt 0 (times x (map f js))) [
      | inl some ↦ let more = moved f js ks x there some in omega (arith, one, two, some, more)
      | inr none ↦ elim (cases_lt 0 (times x (map f ks))) [
        | inl some ↦ let more = moved f ks js x back some in absurd (omega (arith, none, more))
        | inr not ↦ omega (arith, none, not)
      ]
    ]
  where
    moved : (f : ℕ → List ℕ) (js ks : List ℕ) (x : List ℕ) → ((j : ℕ) → Contains js j → Contains ks j) → 0 < times x (map f js) →
        0 < times x (map f ks)
    moved f js ks x there some =
        let (j, has, is) = of-map f js x (of-times x (map f js) some) in
        times-of x (map f ks) (subst (Contains (map f ks)) is (in-map f ks j (there j has)))

-- ---- Names

none-named : (x : List ℕ) (ts : List (List ℕ)) → times x ts ≡ 0 → has_name ts x ≡ false
none-named x [] none = refl
none-named x (t ∷ ts) none =
    let later = times-later x t ts in
    or_from (bytes_eq x t) (has_name ts x) (by (bytes_eq x t) refl) (none-named x ts (omega (arith, none, later)))
  where
    by : (b : Bool) → bytes_eq x t ≡ b → b ≡ false
    by true is =
        let same : x ≡ t = (bytes_eq-Decides x t).0 is in
        let one = times-here x ts in
        let zero : times x (x ∷ ts) ≡ 0 = subst (λ u. times x (u ∷ ts) ≡ 0) (sym same) none in absurd (omega (arith, one, zero))
    by false is = refl

pub new-name : (x : List ℕ) (ts : List (List ℕ)) → (Contains ts x → ⊥) → has_name ts x ≡ false
new-name x ts none = none-named x ts (times-none x ts none)

pub once-rest : (t : List ℕ) (ts : List (List ℕ)) → Once (t ∷ ts) → Once ts
once-rest t ts once x = let one = once x in let later = times-later x t ts in omega (arith, one, later)

pub once-new : (t : List ℕ) (ts : List (List ℕ)) → Once (t ∷ ts) → Contains ts t → ⊥
once-new t ts once there =
    let one = once t in
    let here = times-here t ts in
    let some = times-of t ts there in omega (arith, one, here, some)

pub distinct-from : (ts : List (List ℕ)) → AllByRecursion (λ t. is_lustre_name t ≡ true) ts → Once ts → AreDistinct ts
distinct-from [] named once = tt
distinct-from (t ∷ ts) named once = (named.0, new-name t ts (once-new t ts once), distinct-from ts named.1 (once-rest t ts once))

has-named : (x : List ℕ) (ts : List (List ℕ)) → Contains ts x → has_name ts x ≡ true
has-named x [] there = absurd (in-none x there)
has-named x (t ∷ ts) there = elim (in-cases t x ts there) [
  | inl same ↦ or_left (bytes_eq x t) (has_name ts x) ((bytes_eq-Decides x t).1 (sym same))
  | inr later ↦ or_right (bytes_eq x t) (has_name ts x) (has-named x ts later)
]

pub once-from : (ts : List (List ℕ)) → AreDistinct ts → Once ts
once-from [] distinct = once-none
once-from (t ∷ ts) distinct =
    once-cons t ts (λ there. true≢false (sym (has-named t ts there) ∙ distinct.1)) (once-from ts distinct.2)
