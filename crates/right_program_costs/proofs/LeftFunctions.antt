-- What is left to be called in a tick.
use Rattle.std.specs.Prelude.{◌≡◌, ◌⊎◌, ℕ, zero, suc, ◌+◌, ◌<◌, ◌≤◌, Bool, true, false, ◌==◌, eqb, List, [], ◌∷◌, Contains, IsPermutation, refl, ⊤}
use Rattle.std.specs.List.{AllByRecursion, IsDistinct, range_with_len}
use Rattle.std.proofs.Common.{sym, subst, ◌∙◌, arith, inl, inr}
use Rattle.std.proofs.lemmas.Bool.{ne_eqb, eqb-true, or_left, or_right, or_from, eq-eqb}
use Rattle.std.proofs.lemmas.List.Sorted.{Contains-permutation, IsPermutation-sym}
use Rattle.std.proofs.lemmas.Map.Keys.{IsDistinct-IsPermutation}
use Rattle.modules_profile.proofs.lemmas.Members.{in-none, in-rest, in-cases, in-range, of-range}
use Rattle.right_relation.specs.Instances.{none_called, with_called}

-- no number is there twice
abbrev pub Differ : List ℕ → Type 0
Differ [] = ⊤
Differ (x ∷ xs) = ((y : ℕ) → Contains xs y → (y == x) ≡ false) × Differ xs

eqb-flips : (x y : ℕ) → eqb x y ≡ eqb y x
eqb-flips x y = by (eqb x y) (eqb y x) refl refl
  where
    by : (s t : Bool) → eqb x y ≡ s → eqb y x ≡ t → eqb x y ≡ eqb y x
    by true t e q = e ∙ sym (eq-eqb y x (sym (eqb-true x y e)))
    by false true e q = eq-eqb x y (sym (eqb-true y x q)) ∙ sym q
    by false false e q = e ∙ sym q

each-of : (P : ℕ → Type 0) (xs : List ℕ) (y : ℕ) → AllByRecursion P xs → Contains xs y → P y
each-of P [] y all has = absurd (in-none y has)
each-of P (x ∷ xs) y all has = elim (in-cases x y xs has) [ inl same ↦ subst P same all.0 | inr more ↦ each-of P xs y all.1 more ]

differ-of : (xs : List ℕ) → IsDistinct eqb xs → Differ xs
unfolding IsDistinct
differ-of [] d = tt
differ-of (x ∷ xs) d = ((λ y has. eqb-flips y x ∙ each-of (λ y. eqb x y ≡ false) xs y d.0 has), differ-of xs d.1)

range-differs : (a n : ℕ) → IsDistinct eqb (range_with_len a n)
unfolding IsDistinct
range-differs a zero = tt
range-differs a (suc n) = (above a (a + 1) n (omega arith), range-differs (a + 1) n)
  where
    above : (b a n : ℕ) → b < a → AllByRecursion (λ y. eqb b y ≡ false) (range_with_len a n)
    above b a zero less = tt
    above b a (suc n) less = (ne_eqb b a (λ same. omega arith), above b (a + 1) n (omega arith))

-- of so many functions these are not called yet, and all others are
pub record IsLeft (functions : ℕ) (called : ℕ → Bool) (js : List ℕ) : Type 0 where
  pub some : (j : ℕ) → Contains js j → (0 < j) × (j ≤ functions)
  pub fresh : (j : ℕ) → Contains js j → called j ≡ false
  pub differ : Differ js
  pub all : (j : ℕ) → 0 < j → j ≤ functions → (called j ≡ true) ⊎ Contains js j

pub left-first : (functions : ℕ) (js : List ℕ) → IsPermutation (range_with_len 1 functions) js → IsLeft functions none_called js
left-first functions js order = record {
  some = λ j has.
      let r = of-range 1 functions j (Contains-permutation js (range_with_len 1 functions) j
      (IsPermutation-sym (range_with_len 1 functions) js order) has) in
      (let low = r.0 in omega arith, let high = r.1 in omega arith);
  fresh = λ j has. refl;
  differ = differ-of js (IsDistinct-IsPermutation eqb eqb-flips (range_with_len 1 functions) js order (range-differs 1 functions));
  all = λ j low high. inr (Contains-permutation (range_with_len 1 functions) js j order
      (in-range 1 functions j (omega arith) (omega arith)));
}

pub left-more : (functions : ℕ) (called : ℕ → Bool) (j : ℕ) (js : List ℕ) → IsLeft functions called (j ∷ js) →
    IsLeft functions (with_called called j) js
left-more functions called j js left = record {
  some = λ i has. left.some i (in-rest j i js has);
  fresh = λ i has. or_from (i == j) (called i) (left.differ.0 i has) (left.fresh i (in-rest j i js has));
  differ = left.differ.1;
  all = λ i low high. elim (left.all i low high) [
    | inl was ↦ inl (or_right (i == j) (called i) was)
    | inr has ↦ elim (in-cases j i js has) [
      | inl same ↦ inl (or_left (i == j) (called i) (eq-eqb i j (sym same)))
      | inr more ↦ inr more
    ]
  ];
}

-- at the end all are called
pub left-none : (functions : ℕ) (called : ℕ → Bool) → IsLeft functions called [] → (j : ℕ) → 0 < j → j ≤ functions → called j ≡ true
left-none functions called left j low high = elim (left.all j low high) [ inl is ↦ is | inr has ↦ absurd (in-none j has) ]
