-- Places of functions, and those that are kept, one after another.
use Rattle.std.specs.Prelude.{◌≡◌, ℕ, zero, suc, ◌+◌, ◌-◌, ◌≤◌, Bool, true, false, List, [], ◌∷◌, ◌++◌, length, slice_index_or, if◌then◌else◌}
use Rattle.std.proofs.Common.{sym, ap, ◌∙◌, arith}
use Rattle.std.proofs.lemmas.List.{append_assoc, get_or_past}
use Rattle.emit_pruned.specs.Marks.{flag_at}
use Rattle.emit_pruned.specs.Pruned.{kept_before, kept_from}
use Rattle.emit_pruned.proofs.lemmas.Places.{counts, counted-at}

-- ---- Places

module _ (keeps : ℕ → Bool) where
  -- past all functions no more are kept
  none-past : (n more : ℕ) → ((k : ℕ) → n ≤ k → keeps k ≡ false) → kept_before keeps (n + more) ≡ kept_before keeps n
  none-past n zero none = ap (kept_before keeps) (let e : n + 0 ≡ n = omega arith in e)
  none-past n (suc more) none =
      ap (kept_before keeps) (let e : n + suc more ≡ suc (n + more) = omega arith in e)
      ∙ ap (λ b. kept_before keeps (n + more) + (if b then 1 else 0)) (none (n + more) (omega arith))
      ∙ (let e : kept_before keeps (n + more) + 0 ≡ kept_before keeps (n + more) = omega arith in e) ∙ none-past n more none

  all-counted : (count k : ℕ) → ((j : ℕ) → count ≤ j → keeps j ≡ false) → count ≤ k → kept_before keeps count ≡ kept_before keeps k
  all-counted count k none past =
      sym (ap (kept_before keeps) (let e : k ≡ count + (k - count) = omega (arith, past) in e) ∙ none-past count (k - count) none)

-- the places that a loop over flags makes
pub placed : (flags : List Bool) (before : List ℕ) (kept i k : ℕ) → i ≡ length flags → before ≡ counts (flag_at flags) 0 i →
    kept ≡ kept_before (flag_at flags) i →
    slice_index_or before k kept ≡ kept_before (flag_at flags) k
placed flags before kept i k all made count =
    (λ j. slice_index_or (made j) k (count j))
    ∙ counted-at (flag_at flags) i k (kept_before (flag_at flags) i)
    (all-counted (flag_at flags) i k (λ m past. get_or_past flags m false (omega (arith, all, past))))

-- ---- The items that are kept

module _ {A : Type 0} (keeps : ℕ → Bool) where
  -- what is kept of the items from a position on, with what was kept of those before them
  abbrev pub KeptSoFar : (kept : List A) (position : ℕ) (rest all : List A) → Type 0
  KeptSoFar kept position rest all = kept ++ kept_from keeps position rest ≡ kept_from keeps 0 all

  next-place : (n : ℕ) (xs : List A) → kept_from keeps (suc n) xs ≡ kept_from keeps (n + 1) xs
  next-place n xs = ap (λ k. kept_from keeps k xs) (let same : suc n ≡ n + 1 = omega arith in same)

  pub keeps-one : (kept : List A) (n : ℕ) (x : A) (xs all : List A) → keeps n ≡ true → KeptSoFar kept n (x ∷ xs) all →
      KeptSoFar (kept ++ x ∷ []) (n + 1) xs all
  keeps-one kept n x xs all is before =
      append_assoc kept (x ∷ []) (kept_from keeps (n + 1) xs) ∙ ap (λ ys. kept ++ x ∷ ys) (sym (next-place n xs))
      ∙ ap (λ b. kept ++ ((if b then x ∷ [] else []) ++ kept_from keeps (suc n) xs)) (sym is) ∙ before

  pub drops-one : (kept : List A) (n : ℕ) (x : A) (xs all : List A) → keeps n ≡ false → KeptSoFar kept n (x ∷ xs) all →
      KeptSoFar kept (n + 1) xs all
  drops-one kept n x xs all is before =
      ap (λ ys. kept ++ ys) (sym (next-place n xs))
      ∙ ap (λ b. kept ++ ((if b then x ∷ [] else []) ++ kept_from keeps (suc n) xs)) (sym is) ∙ before
