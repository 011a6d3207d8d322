-- A walk made short: what lies between two visits of a row is cut out.
use Rattle.std.specs.Prelude.{◌≡◌, ℕ, ◌<◌, ◌≤◌, Bool, true, false, eqb, List, [], ◌∷◌, length, Contains, ◌⊎◌, refl}
use Rattle.std.specs.List.{AllByRecursion, IsDistinct, list_any}
use Rattle.std.proofs.Common.{sym, subst, arith, inl, inr, true≢false, true-eqb}
use Rattle.std.proofs.lemmas.Bool.{or_cases}
use Rattle.std.proofs.lemmas.Map.Steps.{length-le_from_distinct_below}
use Rattle.diagram_meaning.specs.Walk.{Walk}

module _ (needs : ℕ → List ℕ) (z : ℕ) where
  -- a walk from row a on which no row comes twice
  abbrev Plain : ℕ → Type 0
  Plain a = (path : List ℕ) × Walk needs a path z × IsDistinct eqb path

  -- row b isn't on the walk, or the walk from it on is one
  from-row : (b a : ℕ) (path : List ℕ) → Walk needs a path z → IsDistinct eqb path →
      AllByRecursion (λ c. eqb b c ≡ false) path ⊎ ((rest : List ℕ) × Walk needs b rest z × IsDistinct eqb (b ∷ rest))
  unfolding IsDistinct
  from-row b a [] w distinct = inl tt
  from-row b a (c ∷ path) w distinct = by (eqb b c) refl (from-row b c path w.1 distinct.1)
    where
      by : (t : Bool) → eqb b c ≡ t →
          AllByRecursion (λ d. eqb b d ≡ false) path ⊎ ((rest : List ℕ) × Walk needs b rest z × IsDistinct eqb (b ∷ rest)) →
          AllByRecursion (λ d. eqb b d ≡ false) (c ∷ path) ⊎ ((rest : List ℕ) × Walk needs b rest z × IsDistinct eqb (b ∷ rest))
      by true e later =
          inr (subst (λ d. (rest : List ℕ) × Walk needs d rest z × IsDistinct eqb (d ∷ rest)) (sym (true-eqb b c (sym e)))
          (path, w.1, distinct))
      by false e (inl apart) = inl (e, apart)
      by false e (inr on) = inr on

  one-more : (a b : ℕ) → Contains (needs a) b → Plain b → Plain a
  unfolding IsDistinct
  one-more a b need (path, w, distinct) = elim (from-row b b path w distinct) [
    | inl apart ↦ (b ∷ path, (need, w), (apart, distinct))
    | inr on ↦ (b ∷ on.0, (need, on.1), on.2)
  ]

  plain : (a : ℕ) (path : List ℕ) → Walk needs a path z → Plain a
  unfolding IsDistinct
  plain a [] w = ([], w, tt)
  plain a (b ∷ path) w = one-more a b w.0 (plain b path w.1)

  -- only rows below n need others
  module _ (n : ℕ) (bounded : (b c : ℕ) → Contains (needs b) c → b < n) where
    pub first-below : (a : ℕ) (path : List ℕ) → Walk needs a path z → a < n
    first-below a [] w = bounded a z w
    first-below a (b ∷ path) w = bounded a b w.0

    row-below : (a : ℕ) (path : List ℕ) → Walk needs a path z → (q : ℕ) → list_any (eqb q) path ≡ true → q < n
    row-below a [] w q on = absurd (true≢false (sym on))
    row-below a (b ∷ path) w q on = elim (or_cases (eqb q b) (list_any (eqb q) path) on) [
      | inl here ↦ let same : q ≡ b = true-eqb q b (sym here) in let below = first-below b path w.1 in omega arith
      | inr there ↦ row-below b path w.1 q there
    ]

    -- where a walk leads, one over at most n rows does
    pub short-walk : (a : ℕ) (path : List ℕ) → Walk needs a path z → (short : List ℕ) × Walk needs a short z × (length short ≤ n)
    short-walk a path w =
        let p = plain a path w in
        (p.0, p.1, length-le_from_distinct_below p.0 n p.2 (row-below a p.0 p.1))
