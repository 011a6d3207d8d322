-- A system has as many inputs and outputs as it has Inports and Outports.
use Rattle.std.specs.Prelude.{◌≡◌, ℕ, ◌+◌, ◌<◌, ◌≤◌, ◌&&◌, Bool, true, false, List, count_by, slice_index_or, All, Option, None, Some}
use Rattle.std.specs.List.{range_with_len}
use Rattle.std.proofs.Common.{refl, suc, sym, ◌∙◌, ap, cond, [], ◌∷◌, filter, length, arith}
use Rattle.std.proofs.lemmas.List.Elements.{All-from_get_or}
use Rattle.std.proofs.lemmas.List.Sums.{length-filter}
use Rattle.diagram_blocks.specs.declared.Kind.{Kind}
use Rattle.diagram_meaning.specs.declared.table.Row.{Row}
use Rattle.diagram_meaning.specs.Rows.{by_port, no_row, row_at, row_numbers, same_system, is_own}
use Rattle.diagram_meaning.specs.WellFormed.{HasPorts, IsNested, IsOwner}
use Rattle.diagram_meaning.proofs.lemmas.Ports.{length-by_port}
use Rattle.modules_interfaces.specs.PortCounts.{AreCounts, place_of}

-- those that pass two tests, one after another
filter-both : (p q : ℕ → Bool) (xs : List ℕ) → filter (λ b. p b && q b) xs ≡ filter q (filter p xs)
filter-both p q [] = refl
filter-both p q (x ∷ xs) = by (p x) (filter-both p q xs)
  where
    by : (t : Bool) → filter (λ b. p b && q b) xs ≡ filter q (filter p xs) →
        cond (t && q x) (x ∷ filter (λ b. p b && q b) xs) (filter (λ b. p b && q b) xs) ≡ filter q (cond t (x ∷ filter p xs) (filter p xs))
    by true e = ap (λ ys. cond (q x) (x ∷ ys) ys) e
    by false e = e

first_number : (k : ℕ) → k ≡ k + 0
first_number k = omega arith

later_number : (k i : ℕ) → k + 1 + i ≡ k + suc i
later_number k i = omega arith

-- as many numbers from one on pass a test as rows pass another
count-kept : (test : ℕ → Bool) (own : Row → Bool) (k : ℕ) (rows : List Row) →
    ((i : ℕ) → i < length rows → test (k + i) ≡ own (row_at rows i)) →
    length (filter test (range_with_len k (length rows))) ≡ length (filter own rows)
count-kept test own k [] h = refl
count-kept test own k (x ∷ xs) h =
    ap (λ t. length (cond t (k ∷ filter test (range_with_len (k + 1) (length xs))) (filter test (range_with_len (k + 1) (length xs)))))
    (ap test (first_number k) ∙ h 0 (omega arith))
    ∙ by (own x) (count-kept test own (k + 1) xs (λ i g. ap test (later_number k i) ∙ h (suc i) (omega (arith, g))))
  where
    by : (t : Bool) → length (filter test (range_with_len (k + 1) (length xs))) ≡ length (filter own xs) →
        length (cond t (k ∷ filter test (range_with_len (k + 1) (length xs))) (filter test (range_with_len (k + 1) (length xs))))
        ≡ length (cond t (x ∷ filter own xs) (filter own xs))
    by true more = ap suc more
    by false more = more

module _ (rows : List Row) (test : Kind → Bool) (s : Option ℕ) (ports : HasPorts rows test s) where
  ports-count : length (by_port rows s test) ≡ count_by (is_own test s) rows
  ports-count =
      let own : ℕ → Bool = λ b. is_own test s (row_at rows b) in
      length-by_port rows test s ports
      ∙ ap length (sym (filter-both (λ b. same_system (row_at rows b).owner s) (λ b. test (row_at rows b).kind) (row_numbers rows)))
      ∙ count-kept own (is_own test s) 0 rows (λ i below. ap own (let same : 0 + i ≡ i = omega arith in same))
      ∙ length-filter (is_own test s) rows

  pub few-ports : length (by_port rows s test) ≤ 32
  few-ports =
      let most = ports.at_most in
      let many = length-by_port rows test s ports in
      let kept = length-filter (λ b. test (row_at rows b).kind) (filter (λ b. same_system (row_at rows b).owner s) (row_numbers rows)) in
      omega (arith, most, many, kept)

  -- what is counted at the place of the system is as many ports
  pub counted : (counts : List ℕ) (n : ℕ) → AreCounts test rows counts → n ≡ slice_index_or counts (place_of s) 0 →
      n ≡ length (by_port rows s test)
  counted counts n are is = is ∙ are s ∙ sym ports-count

-- the places of the systems around rows are those of rows
pub places-within : (rows : List Row) → IsNested rows → All (λ row. place_of row.owner ≤ length rows) rows
places-within rows nested = All-from_get_or (λ (row : Row). place_of row.owner ≤ length rows) rows no_row
    (λ b below. within b (row_at rows b).owner below (nested.owned b below))
  where
    within : (b : ℕ) (o : Option ℕ) → b < length rows → IsOwner rows b o → place_of o ≤ length rows
    within b None below own = omega arith
    within b (Some e) below own = let before = own.0 in omega (arith, before, below)
