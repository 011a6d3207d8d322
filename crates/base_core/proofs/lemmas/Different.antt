-- The different members of a list are its members.
use Rattle.std.specs.Prelude.{◌≡◌, ℕ, ◌||◌, ◌&&◌, Bool, true, false, not, List, [], ◌∷◌}
use Rattle.std.specs.List.{list_any}
use Rattle.std.proofs.Common.{eqb, refl, sym, ap, ◌∙◌, inl, inr}
use Rattle.std.proofs.lemmas.Bool.{eqb-true, eq-eqb, false≢true}
use Rattle.std.proofs.lemmas.Bool.Decides.{eqb_tells}
use Rattle.std.proofs.lemmas.Map.Views.{any-filter_same}
use Rattle.base_core.specs.Interface.{different}

-- whether x is a member
abbrev pub has : List ℕ → ℕ → Bool
has xs x = list_any (λ y. eqb y x) xs

eqb-sym : (x y : ℕ) → eqb x y ≡ eqb y x
eqb-sym x y = elim (eqb_tells x y) [
  | inl (t, e) ↦ t ∙ sym (eq-eqb y x (sym e))
  | inr (f, ne) ↦ elim (eqb_tells y x) [
    | inl (t, e) ↦ absurd (ne (sym e))
    | inr (g, other) ↦ f ∙ sym g
  ]
]

pub has-different : (xs : List ℕ) (m : ℕ) → has (different xs) m ≡ has xs m
has-different [] m = refl
has-different (x ∷ xs) m =
    ap (λ r. eqb x m || r)
    (any-filter_same (λ y. eqb y m) (λ y. not (eqb y x)) (not (eqb m x))
    (λ k same. ap (λ y. not (eqb y x)) (eqb-true k m same)) (different xs))
    ∙ by (eqb x m) (eqb m x) (eqb-sym x m) ∙ ap (λ r. eqb x m || r) (has-different xs m)
  where
    by : (r q : Bool) → r ≡ q → (r || (not q && has (different xs) m)) ≡ (r || has (different xs) m)
    by true q e = refl
    by false true e = absurd (false≢true e)
    by false false e = refl
