-- Numbers that occur once, and wires that are given once.
use Rattle.std.specs.Prelude.{◌≡◌, ℕ, zero, suc, ◌+◌, ◌*◌, ◌≤◌, Bool, true, false, not, ◌==◌, cond, List, [], ◌∷◌, ◌++◌, map, filter, filter_map, flat_map, find, length, slice_get, get_or, Contains, Option, Some, None, refl}
use Rattle.std.specs.List.{cons_option, range_with_len}
use Rattle.std.proofs.Common.{sym, ap, ◌∙◌, arith, inl, inr, true≢false}
use Rattle.std.proofs.lemmas.Bool.{eq-eqb, eqb-true, cases_order}
use Rattle.std.proofs.lemmas.List.{length-append}
use Rattle.std.proofs.lemmas.List.Elements.{Contains-append_cases}
use Rattle.std.proofs.lemmas.Option.{same_Some, none-some, slice_get-get_or}
use Rattle.base_core.specs.Interface.{different}
use Rattle.modules_clusters.specs.Grouping.{AreDifferent}
use Rattle.modules_profile.specs.declared.node_wires.NodeWires.{NodeWires}
use Rattle.modules_profile.specs.NodeWires.{AreGivenOnce}
use Rattle.modules_profile.proofs.lemmas.Members.{in-none, in-first, in-rest, number-of, of-filter, of-filter_map, found-in, of-range, in-at, at-append, at-below}
use Rattle.modules_profile.proofs.Numbered.{Apart, apart-filter}

-- ---- Numbers that occur once

pub apart-at : (xs : List ℕ) (i j x : ℕ) → Apart xs → slice_get xs i ≡ Some x → slice_get xs j ≡ Some x → i ≡ j
apart-at [] i j x h a b = absurd (none-some x a)
apart-at (y ∷ xs) zero zero x h a b = refl
apart-at (y ∷ xs) zero (suc j) x h a b = absurd (h.0 x (in-at xs j x b) (same_Some y x a))
apart-at (y ∷ xs) (suc i) zero x h a b = absurd (h.0 x (in-at xs i x a) (same_Some y x b))
apart-at (y ∷ xs) (suc i) (suc j) x h a b = ap suc (apart-at xs i j x h.1 a b)

pub apart-differ : (xs : List ℕ) → Apart xs → AreDifferent xs
apart-differ xs h i j less below same =
    let at : slice_get xs j ≡ Some (get_or xs j 0) = slice_get-get_or xs j 0 below in
    let before : slice_get xs i ≡ Some (get_or xs j 0) = slice_get-get_or xs i 0 (omega arith) ∙ ap Some same in
    let one : i ≡ j = apart-at xs i j (get_or xs j 0) h before at in
    omega (arith, one)

pub differ-at : (xs : List ℕ) (i j x : ℕ) → AreDifferent xs → slice_get xs i ≡ Some x → slice_get xs j ≡ Some x → i ≡ j
differ-at xs i j x differ a b =
    let x_is : (k : ℕ) → slice_get xs k ≡ Some x → get_or xs k 0 ≡ x =
    λ k e. same_Some (get_or xs k 0) x (sym (slice_get-get_or xs k 0 (at-below xs k x e)) ∙ e) in
    elim (cases_order i j) [
      | inl same ↦ same
      | inr apart ↦ elim apart [
        | inl low ↦ absurd (differ i j low (at-below xs j x b) (x_is i a ∙ sym (x_is j b)))
        | inr high ↦ absurd (differ j i high (at-below xs i x a) (x_is j b ∙ sym (x_is i a)))
      ]
    ]

not-true : (b : Bool) → not b ≡ true → b ≡ true → ⊥
not-true true n t = true≢false (sym n)
not-true false n t = true≢false (sym t)

pub apart-different : (xs : List ℕ) → Apart (different xs)
apart-different [] = tt
apart-different (x ∷ xs) = (
  λ y m same. not-true (y == x) (of-filter (λ y. not (y == x)) (different xs) y m).1 (eq-eqb y x (sym same)),
  apart-filter (λ y. not (y == x)) (different xs) (apart-different xs),
)

-- what is found by ports occurs once
pub apart-found : (port : ℕ → ℕ) (own : List ℕ) (a n : ℕ) → Apart (filter_map (λ k. find (λ b. port b == k) own) (range_with_len a n))
apart-found port own a zero = tt
apart-found port own a (suc n) = by (find (λ b. port b == a) own) refl (apart-found port own (a + 1) n)
  where
    by : (o : Option ℕ) → find (λ b. port b == a) own ≡ o →
        Apart (filter_map (λ k. find (λ b. port b == k) own) (range_with_len (a + 1) n)) →
        Apart (cons_option o (filter_map (λ k. find (λ b. port b == k) own) (range_with_len (a + 1) n)))
    by None e rest = rest
    by (Some b) e rest = (
      λ y m same.
          let f = of-filter_map (λ k. find (λ b. port b == k) own) (range_with_len (a + 1) n) y m in
          let low = (of-range (a + 1) n f.0 f.1).0 in
          let here : port b ≡ a = eqb-true (port b) a (found-in (λ b. port b == a) own b e).1 in
          let there : port y ≡ f.0 = eqb-true (port y) f.0 (found-in (λ b. port b == f.0) own y f.2).1 in
          let one : port b ≡ port y = ap port same in
          omega (arith, low, here, there, one),
      rest,
    )

-- ---- Wires that are given once

pub once-append : (xs ys : List NodeWires) → AreGivenOnce xs → AreGivenOnce ys →
    ((x y : NodeWires) (c : ℕ) → Contains xs x → Contains ys y → Contains x.gives c → Contains y.gives c → ⊥) →
    AreGivenOnce (xs ++ ys)
once-append xs ys first second apart a b c x y at to given other = elim (at-append xs ys a x at) [
  | inl here ↦ elim (at-append xs ys b y to) [
    | inl there ↦ first a b c x y here there given other
    | inr past ↦ absurd (apart x y c (in-at xs a x here) (in-at ys past.0 y past.2) given other)
  ]
  | inr past ↦ elim (at-append xs ys b y to) [
    | inl there ↦ absurd (apart y x c (in-at xs b y there) (in-at ys past.0 x past.2) other given)
    | inr over ↦
        let same : past.0 ≡ over.0 = second past.0 over.0 c x y past.2 over.2 given other in
        let p = past.1 in
        let q = over.1 in
        omega (arith, same, p, q)
  ]
]

pub of-flat_map : {A B : Type 0} (f : A → List B) (xs : List A) (y : B) → Contains (flat_map f xs) y →
    (x : A) × Contains xs x × Contains (f x) y
of-flat_map f [] y h = absurd (in-none y h)
of-flat_map f (x ∷ xs) y h = elim (Contains-append_cases (f x) (flat_map f xs) y h) [
  | inl here ↦ (x, in-first x xs, here)
  | inr more ↦ let rest = of-flat_map f xs y more in (rest.0, in-rest x rest.0 xs rest.1, rest.2)
]

pub long-flat_map : {A B : Type 0} (f : A → List B) (xs : List A) → ((x : A) → Contains xs x → length (f x) ≤ 32) →
    length (flat_map f xs) ≤ 32 * length xs
long-flat_map f [] few = omega arith
long-flat_map f (x ∷ xs) few =
    let here = few x (in-first x xs) in
    let rest = long-flat_map f xs (λ y m. few y (in-rest x y xs m)) in
    let both = length-append (f x) (flat_map f xs) in
    omega (arith, here, rest, both)

pub short-filter : {A : Type 0} (p : A → Bool) (xs : List A) → length (filter p xs) ≤ length xs
short-filter p [] = omega arith
short-filter p (x ∷ xs) = by (p x) (short-filter p xs)
  where
    by : (t : Bool) → length (filter p xs) ≤ length xs → length (cond t (x ∷ filter p xs) (filter p xs)) ≤ suc (length xs)
    by true h = omega arith
    by false h = omega arith

pub short-different : (xs : List ℕ) → length (different xs) ≤ length xs
short-different [] = omega arith
short-different (x ∷ xs) = let rest = short-different xs in let kept =
    short-filter (λ y. not (y == x)) (different xs) in omega (arith, rest, kept)

-- a part for each member, where a wire that is given says whose it is
pub once-flat_map : {A : Type 0} (key : A → Option ℕ) (owner : ℕ → Option ℕ) (f : A → List NodeWires) (xs : List A) (ns : List ℕ) →
    map key xs ≡ map Some ns → Apart ns → ((x : A) → Contains xs x → AreGivenOnce (f x)) →
    ((x : A) (w : NodeWires) (c : ℕ) → Contains xs x → Contains (f x) w → Contains w.gives c → owner c ≡ key x) →
    AreGivenOnce (flat_map f xs)
once-flat_map key owner f [] ns are apart each owned = λ a b c x y at to given other. absurd (none-some x at)
once-flat_map key owner f (z ∷ xs) [] are apart each owned = absurd (let wrong : ⊥ = cc are in wrong)
once-flat_map key owner f (z ∷ xs) (n ∷ ns) are apart each owned =
    let first : key z ≡ Some n = cc are in
    let rest : map key xs ≡ map Some ns = cc are in
    once-append (f z) (flat_map f xs) (each z (in-first z xs))
    (once-flat_map key owner f xs ns rest apart.1 (λ x m. each x (in-rest z x xs m)) (λ x w c m. owned x w c (in-rest z x xs m)))
    (λ v w c m k given other.
    let from = of-flat_map f xs w k in
    let own = number-of key xs ns from.0 rest from.1 in
    let one : key z ≡ key from.0 =
    sym (owned z v c (in-first z xs) m given) ∙ owned from.0 w c (in-rest z from.0 xs from.1) from.2 other in
    apart.0 own.0 own.1 (same_Some n own.0 (sym first ∙ one ∙ own.2)))
