-- The places of procedures of which some don't stay.
use Rattle.std.specs.Prelude.{◌≡◌, ℕ, zero, suc, ◌+◌, ◌-◌, ◌≤◌, not, Bool, true, false, List, length, slice_index_or, if◌then◌else◌}
use Rattle.std.proofs.Common.{ap, ◌∙◌, arith}
use Rattle.std.proofs.lemmas.List.{get_or_past}
use Rattle.emit_pruned.proofs.lemmas.Places.{counts, counted-at}
use Rattle.emit_inlined.specs.Inlined.{kept_before}
use Rattle.emit_inlined.specs.Steps.{is_kept}

module _ (keeps : ℕ → Bool) where
  -- past the end all are kept
  all-past : (n more : ℕ) → ((k : ℕ) → n ≤ k → keeps k ≡ true) → kept_before keeps (n + more) ≡ kept_before keeps n + more
  all-past n zero all =
      let same = ap (kept_before keeps) (let e : n + 0 ≡ n = omega arith in e) in omega (arith, same)
  all-past n (suc more) all =
      let same = ap (kept_before keeps) (let e : n + suc more ≡ suc (n + more) = omega arith in e) in
      let last : kept_before keeps (suc (n + more)) ≡ kept_before keeps (n + more) + 1 =
      ap (λ b. kept_before keeps (n + more) + (if b then 1 else 0)) (all (n + more) (omega arith)) in
      let rest = all-past n more all in omega (arith, same, last, rest)

  place-past : (count dropped k : ℕ) → ((j : ℕ) → count ≤ j → keeps j ≡ true) → kept_before keeps count + dropped ≡ count →
      count ≤ k → k - dropped ≡ kept_before keeps k
  place-past count dropped k all sum past =
      let whole = ap (kept_before keeps) (let d : k ≡ count + (k - count) = omega (arith, past) in d) in
      let more = all-past count (k - count) all in omega (arith, past, whole, more, sum)

-- the places that a loop over flags makes
pub placed : (flags : List Bool) (before : List ℕ) (kept dropped i k : ℕ) → i ≡ length flags →
    before ≡ counts (is_kept flags) 0 i → kept ≡ kept_before (is_kept flags) i → kept + dropped ≡ i →
    slice_index_or before k (k - dropped) ≡ kept_before (is_kept flags) k
placed flags before kept dropped i k all made count sum =
    ap (λ xs. slice_index_or xs k (k - dropped)) made
    ∙ counted-at (is_kept flags) i k (k - dropped)
    (place-past (is_kept flags) i dropped k (λ m past. ap not (get_or_past flags m false (omega (arith, all, past))))
    (omega (arith, count, sum)))
