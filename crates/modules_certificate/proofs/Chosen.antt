-- The outputs whose need is that of no output before: they are outputs, each greater than those before it, and no two of
-- them have one need.
use Rattle.std.proofs.Common.{◌≡◌, ℕ, zero, suc, ◌+◌, ◌<◌, ◌≤◌, Bool, true, false, not, cond, eqb, List, [], ◌∷◌, ◌++◌, length, get_or, take, filter, refl, sym, ap, ap₂, subst, ◌∙◌, arith}
use Rattle.std.specs.List.{All, list_any, range_with_len}
use Rattle.std.proofs.lemmas.Bool.{eq-eqb, false≢true}
use Rattle.std.proofs.lemmas.List.{get_or_default, get_or-take, length-take-le}
use Rattle.std.proofs.lemmas.List.Elements.{filter-append}
use Rattle.std.proofs.lemmas.List.Folds.{list_any_at}
use Rattle.std.proofs.lemmas.List.FromFn.{length-range_with_len}
use Rattle.modules_certificate.specs.Sound.{first_outputs}

-- ---- A filter of numbers from one on

range-more : (a n j : ℕ) → a + n ≡ j → range_with_len a (suc n) ≡ range_with_len a n ++ j ∷ []
range-more a zero j e = ap (λ k. k ∷ []) (let same : a ≡ j = omega arith in same)
range-more a (suc n) j e = ap (λ ks. a ∷ ks) (range-more (a + 1) n j (omega arith))

module _ (p : ℕ → Bool) where
  short : (xs : List ℕ) → length (filter p xs) ≤ length xs
  short [] = omega arith
  short (x ∷ xs) = by (p x) (short xs)
    where
      by : (t : Bool) → length (filter p xs) ≤ length xs → length (cond t (x ∷ filter p xs) (filter p xs)) ≤ suc (length xs)
      by true h = omega (arith, h)
      by false h = omega (arith, h)

  -- one number more
  pub filter-more : (n : ℕ) → filter p (range_with_len 0 (n + 1)) ≡ filter p (range_with_len 0 n) ++ cond (p n) (n ∷ []) []
  filter-more n = ap (λ k. filter p (range_with_len 0 k)) (let e : n + 1 ≡ suc n = omega arith in e)
      ∙ ap (filter p) (range-more 0 n n (omega arith))
      ∙ filter-append p (range_with_len 0 n) (n ∷ [])

  pub record IsKept (a n o : ℕ) : Type 0 where
    pub low : a ≤ o
    pub high : o < a + n
    pub passes : p o ≡ true

  wider : (a n o : ℕ) → IsKept (a + 1) n o → IsKept a (suc n) o
  wider a n o k = record { low = (let h = k.low in omega arith); high = (let h = k.high in omega arith); passes = k.passes }

  pub kept : (a n i : ℕ) → i < length (filter p (range_with_len a n)) → IsKept a n (get_or (filter p (range_with_len a n)) i 0)
  kept a zero i within = absurd (omega arith)
  kept a (suc n) i within = by (kept (a + 1) n) (p a) refl i within
    where
      by : ((i : ℕ) → i < length (filter p (range_with_len (a + 1) n)) →
          IsKept (a + 1) n (get_or (filter p (range_with_len (a + 1) n)) i 0)) →
          (t : Bool) → p a ≡ t → (i : ℕ) → i < length (cond t (a ∷ filter p (range_with_len (a + 1) n)) (filter p (range_with_len
          (a + 1) n))) →
          IsKept a (suc n) (get_or (cond t (a ∷ filter p (range_with_len (a + 1) n)) (filter p (range_with_len (a + 1) n))) i 0)
      by more true e zero h = record { low = omega arith; high = omega arith; passes = e }
      by more true e (suc i) h = wider a n _ (more i (omega (arith, h)))
      by more false e i h = wider a n _ (more i h)

  pub rising : (a n i j : ℕ) → i < j → j < length (filter p (range_with_len a n)) →
      get_or (filter p (range_with_len a n)) i 0 < get_or (filter p (range_with_len a n)) j 0
  rising a zero i j before within = absurd (omega arith)
  rising a (suc n) i j before within = by (rising (a + 1) n) (p a) i j before within
    where
      by : ((i j : ℕ) → i < j → j < length (filter p (range_with_len (a + 1) n)) →
          get_or (filter p (range_with_len (a + 1) n)) i 0 < get_or (filter p (range_with_len (a + 1) n)) j 0) →
          (t : Bool) → (i j : ℕ) → i < j → j < length (cond t (a ∷ filter p (range_with_len (a + 1) n)) (filter p (range_with_len
          (a + 1) n))) →
          get_or (cond t (a ∷ filter p (range_with_len (a + 1) n)) (filter p (range_with_len (a + 1) n))) i 0
          < get_or (cond t (a ∷ filter p (range_with_len (a + 1) n)) (filter p (range_with_len (a + 1) n))) j 0
      by more true i zero b w = absurd (omega (arith, b))
      by more true zero (suc j) b w = let k = (kept (a + 1) n j (omega (arith, w))).low in omega (arith, k)
      by more true (suc i) (suc j) b w = more i j (omega (arith, b)) (omega (arith, w))
      by more false i j b w = more i j b w

-- ---- The outputs

module _ (needs : List ℕ) where
  abbrev pub is_first : ℕ → Bool
  is_first o = not (list_any (λ n. eqb n (get_or needs o 0)) (take o needs))

  -- one output more, which another before it has the need of or not
  pub one-more : (outputs next : List ℕ) (n : ℕ) (t : Bool) → outputs ≡ filter is_first (range_with_len 0 n) →
      list_any (λ y. eqb y (get_or needs n 0)) (take n needs) ≡ t →
      next ≡ outputs ++ cond t [] (n ∷ []) → next ≡ filter is_first (range_with_len 0 (n + 1))
  one-more outputs next n t before found is = is ∙ ap₂ (λ (xs ys : List ℕ). xs ++ ys) before (by t found) ∙ sym (filter-more is_first n)
    where
      by : (t : Bool) → list_any (λ y. eqb y (get_or needs n 0)) (take n needs) ≡ t → cond t [] (n ∷ []) ≡ cond (is_first n) (n ∷ []) []
      by true e = ap (λ r. cond (not r) (n ∷ []) []) (sym e)
      by false e = ap (λ r. cond (not r) (n ∷ []) []) (sym e)

  pub output : (i : ℕ) → i < length (first_outputs needs) → get_or (first_outputs needs) i 0 < length needs
  output i within = let h = (kept is_first 0 (length needs) i within).high in omega (arith, h)

  pub all-outputs : All (λ o. o < length needs) (first_outputs needs)
  all-outputs k d within = subst (λ o. o < length needs) (sym (get_or_default (first_outputs needs) k d 0 within)) (output k within)

  pub few : length (first_outputs needs) ≤ length needs
  few = let e = short is_first (range_with_len 0 (length needs)) in let n = length-range_with_len 0 (length needs) in omega (arith, e, n)

  -- no output before has its need
  other-need : (a b : ℕ) → a < b → b < length needs → is_first b ≡ true → get_or needs a 0 ≡ get_or needs b 0 → ⊥
  other-need a b before within first same =
      false≢true (ap not (sym (list_any_at (λ n. eqb n (get_or needs b 0)) (take b needs) a 0
      (let len = length-take-le b needs (omega arith) in omega (arith, len))
      (eq-eqb (get_or (take b needs) a 0) (get_or needs b 0) (get_or-take b needs a 0 before ∙ same)))) ∙ first)

  pub apart : (i j : ℕ) → i < j → j < length (first_outputs needs) →
      get_or needs (get_or (first_outputs needs) i 0) 0 ≡ get_or needs (get_or (first_outputs needs) j 0) 0 → ⊥
  apart i j before within = other-need (get_or (first_outputs needs) i 0) (get_or (first_outputs needs) j 0)
      (rising is_first 0 (length needs) i j before within) (output j within) (kept is_first 0 (length needs) j within).passes
