-- Without a loop every walk ends soon: an induction on how far a row's walks can go.
use Rattle.std.specs.Prelude.{◌≡◌, ℕ, zero, suc, ◌+◌, ◌<◌, List, [], ◌∷◌, ◌++◌, length, Contains, Bool, true, false, eqb, ◌||◌}
use Rattle.std.specs.List.{AllByRecursion, IsDistinct, list_any}
use Rattle.std.proofs.Common.{refl, sym, subst, arith, true≢false, true-eqb}
use Rattle.std.proofs.lemmas.Map.Steps.{length-le_from_distinct_below}
use Rattle.diagram_meaning.specs.Needs.{Walk, HasNoLoop}

module _ (needs : ℕ → List ℕ) where
  -- each walk from row b has fewer than n steps
  abbrev pub Within : ℕ → ℕ → Type 0
  Within zero b = ⊥
  Within (suc n) b = (c : ℕ) → Contains (needs b) c → Within n c

  -- a walk goes on by one more step
  pub walk-snoc : (a : ℕ) (path : List ℕ) (b c : ℕ) → Walk needs a path b → Contains (needs b) c → Walk needs a (path ++ b ∷ []) c
  walk-snoc a [] b c w h = (w, h)
  walk-snoc a (p ∷ path) b c w h = (w.0, walk-snoc p path b c w.1 h)

  -- from each of these rows a walk leads to row b
  abbrev AllLead : List ℕ → ℕ → Type 0
  AllLead seen b = AllByRecursion (λ a. (path : List ℕ) × Walk needs a path b) seen

  lead-on : (seen : List ℕ) (b c : ℕ) → AllLead seen b → Contains (needs b) c → AllLead seen c
  lead-on [] b c l h = tt
  lead-on (a ∷ seen) b c l h = ((l.0.0 ++ b ∷ [], walk-snoc a l.0.0 b c l.0.1 h), lead-on seen b c l.1 h)

  -- no row that leads to b is b
  apart : HasNoLoop needs → (seen : List ℕ) (b : ℕ) → AllLead seen b → AllByRecursion (λ a. eqb b a ≡ false) seen
  apart none [] b l = tt
  apart none (a ∷ seen) b l = (by (eqb b a) refl, apart none seen b l.1)
    where
      by : (r : Bool) → eqb b a ≡ r → eqb b a ≡ false
      by false e = e
      by true e = absurd (none (a ∷ l.0.0) (subst (λ z. Walk needs a l.0.0 z) (true-eqb b a (sym e)) l.0.1))

  below-cons : (n b : ℕ) (seen : List ℕ) → b < n → ((q : ℕ) → list_any (eqb q) seen ≡ true → q < n) → (q : ℕ) →
      list_any (eqb q) (b ∷ seen) ≡ true → q < n
  below-cons n b seen h all q m = by (eqb q b) refl m
    where
      by : (r : Bool) → eqb q b ≡ r → (r || list_any (eqb q) seen) ≡ true → q < n
      by true e k = let same : q ≡ b = true-eqb q b (sym e) in omega arith
      by false e k = all q k

  -- rows from n on need nothing
  module _ (n : ℕ) (bounded : (b c : ℕ) → Contains (needs b) c → b < n) (none : HasNoLoop needs) where
    within_from : (k : ℕ) (seen : List ℕ) (b : ℕ) → length seen + k ≡ n → IsDistinct eqb seen →
        ((q : ℕ) → list_any (eqb q) seen ≡ true → q < n) → AllLead seen b → Within (suc k) b
    unfolding IsDistinct
    within_from zero seen b e distinct below lead c h =
        let more =
        length-le_from_distinct_below (b ∷ seen) n (apart none seen b lead, distinct)
        (below-cons n b seen (bounded b c h) below) in
        absurd (omega arith)
    within_from (suc k) seen b e distinct below lead c h =
        within_from k (b ∷ seen) c (omega arith) (apart none seen b lead, distinct)
        (below-cons n b seen (bounded b c h) below) (([], h), lead-on seen b c lead h)

    -- each row's walks have at most n steps
    pub within : (b : ℕ) → Within (suc n) b
    unfolding IsDistinct
    within b = within_from n [] b (omega arith) tt (λ q h. absurd (true≢false (sym h))) tt
