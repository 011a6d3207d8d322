-- The different members of a list, each at its last place, are as many as those at their first places.
use Rattle.std.proofs.Common.{◌≡◌, ℕ, suc, ◌+◌, ◌||◌, ◌≢◌, Bool, true, false, cond, not, eqb, if◌then◌else◌, List, [], ◌∷◌, length, filter, refl, sym, ap, ◌∙◌, arith, inl, inr}
use Rattle.std.proofs.lemmas.Bool.{cases_eq, eq-eqb, ne_eqb}
use Rattle.base_core.specs.Interface.{different}
use Rattle.base_core.proofs.lemmas.Different.{has}

-- the different members of a list, each at its last place
abbrev pub at_last : List ℕ → List ℕ
at_last [] = []
at_last (x ∷ xs) = if has xs x then at_last xs else x ∷ at_last xs

-- how often x occurs in a list
abbrev times : ℕ → List ℕ → ℕ
times x [] = 0
times x (y ∷ ys) = cond (eqb y x) (suc (times x ys)) (times x ys)

times-yes : (x y : ℕ) (ys : List ℕ) → y ≡ x → times x (y ∷ ys) ≡ suc (times x ys)
times-yes x y ys same = ap (λ r. cond r (suc (times x ys)) (times x ys)) (eq-eqb y x same)

times-no : (x y : ℕ) (ys : List ℕ) → y ≢ x → times x (y ∷ ys) ≡ times x ys
times-no x y ys other = ap (λ r. cond r (suc (times x ys)) (times x ys)) (ne_eqb y x other)

-- the list without y
abbrev without : ℕ → List ℕ → List ℕ
without y xs = filter (λ z. not (eqb z y)) xs

without-same : (y z : ℕ) (zs : List ℕ) → z ≡ y → without y (z ∷ zs) ≡ without y zs
without-same y z zs same = ap (λ r. cond (not r) (z ∷ without y zs) (without y zs)) (eq-eqb z y same)

without-other : (y z : ℕ) (zs : List ℕ) → z ≢ y → without y (z ∷ zs) ≡ z ∷ without y zs
without-other y z zs other = ap (λ r. cond (not r) (z ∷ without y zs) (without y zs)) (ne_eqb z y other)

none-left : (x : ℕ) (zs : List ℕ) → times x (without x zs) ≡ 0
none-left x [] = refl
none-left x (z ∷ zs) = elim (cases_eq z x) [
  | inl same ↦ ap (times x) (without-same x z zs same) ∙ none-left x zs
  | inr other ↦ ap (times x) (without-other x z zs other) ∙ times-no x z (without x zs) other ∙ none-left x zs
]

all-left : (x y : ℕ) (zs : List ℕ) → y ≢ x → times x (without y zs) ≡ times x zs
all-left x y [] apart = refl
all-left x y (z ∷ zs) apart = elim (cases_eq z y) [
  | inl same ↦ ap (times x) (without-same y z zs same) ∙ all-left x y zs apart ∙ sym (times-no x z zs (λ e. apart (sym same ∙ e)))
  | inr other ↦ ap (times x) (without-other y z zs other) ∙ ap (λ n. cond (eqb z x) (suc n) n) (all-left x y zs apart)
]

-- each member occurs once among the different ones
once : (x : ℕ) (xs : List ℕ) → times x (different xs) ≡ cond (has xs x) 1 0
once x [] = refl
once x (y ∷ ys) = elim (cases_eq y x) [
  | inl same ↦
      times-yes x y (without y (different ys)) same
      ∙ ap suc (ap (λ z. times x (without z (different ys))) same ∙ none-left x (different ys))
      ∙ sym (ap (λ r. cond (r || has ys x) 1 0) (eq-eqb y x same))
  | inr other ↦
      times-no x y (without y (different ys)) other ∙ all-left x y (different ys) other ∙ once x ys
      ∙ sym (ap (λ r. cond (r || has ys x) 1 0) (ne_eqb y x other))
]

length-without : (x : ℕ) (zs : List ℕ) → length (without x zs) + times x zs ≡ length zs
length-without x [] = refl
length-without x (z ∷ zs) = let rest = length-without x zs in elim (cases_eq z x) [
  | inl same ↦ omega (arith, ap (λ (ys : List ℕ). length ys) (without-same x z zs same), times-yes x z zs same)
  | inr other ↦ omega (arith, ap (λ (ys : List ℕ). length ys) (without-other x z zs other), times-no x z zs other)
]

pub as_many : (xs : List ℕ) → length (different xs) ≡ length (at_last xs)
as_many [] = refl
as_many (x ∷ xs) = by (has xs x) (once x xs) (as_many xs)
  where
    rest : length (without x (different xs)) + times x (different xs) ≡ length (different xs)
    rest = length-without x (different xs)

    by : (r : Bool) → times x (different xs) ≡ cond r 1 0 → length (different xs) ≡ length (at_last xs) →
        suc (length (without x (different xs))) ≡ length (if r then at_last xs else x ∷ at_last xs)
    by true e more = let r = rest in omega arith
    by false e more = let r = rest in omega arith
