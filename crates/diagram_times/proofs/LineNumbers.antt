-- Numbers of written times, row by row: their running multiple, and the first that is too great.
use Rattle.std.proofs.Common.{◌≡◌, refl, sym, ◌∙◌, ap, subst, arith, ℕ, zero, suc, ◌+◌, ◌<◌, ◌≤◌, Bool, false, List, [], ◌∷◌, ◌++◌, map, drop, length, Some}
use Rattle.std.specs.Prelude.{flat_map, fold, nat_lt, if◌then◌else◌}
use Rattle.std.specs.List.{range_with_len}
use Rattle.std.proofs.lemmas.List.{drop_more, drop_all, map-append}
use Rattle.std.proofs.lemmas.Bool.{lt-ltb, le-ltb}
use Rattle.base_core.specs.declared.TimeText.{TimeText}
use Rattle.base_core.specs.Numbers.{lcm}
use Rattle.diagram_meaning.specs.declared.table.Row.{Row}
use Rattle.diagram_meaning.specs.Rows.{row_at, row_numbers, no_row}
use Rattle.diagram_meaning.specs.SampleTimes.{written_by}
use Rattle.diagram_meaning.specs.TimeRefusals.{AtLine, by_line, first_over}
use Rattle.diagram_times.proofs.Divisors.{lcm-positive}

-- these numbers at a line
abbrev pub at_line : ℕ → List ℕ → List AtLine
at_line line ns = map (λ n. record { line = line; number = n }) ns

-- the numbers of a row, with its line
abbrev pub of_row : (TimeText → List ℕ) → Row → List AtLine
of_row f row = at_line row.place.line (f (written_by row.kind row.time_text))

-- the numbers of rows
abbrev pub of_rows : (TimeText → List ℕ) → List Row → List AtLine
of_rows f rows = flat_map (of_row f) rows

shifted : {A : Type 0} (g : Row → List A) (row : Row) (rows : List Row) (a next n : ℕ) → next ≡ a + 1 →
    flat_map (λ b. g (row_at (row ∷ rows) b)) (range_with_len next n) ≡ flat_map (λ b. g (row_at rows b)) (range_with_len a n)
shifted g row rows a next zero e = refl
shifted g row rows a next (suc n) e =
    let one : next ≡ suc a = omega (arith, e) in
    ap (λ k. g (row_at (row ∷ rows) k) ++ flat_map (λ b. g (row_at (row ∷ rows) b)) (range_with_len (next + 1) n)) one
    ∙ ap (λ rest. g (row_at rows a) ++ rest) (shifted g row rows (a + 1) (next + 1) n (ap (λ k. k + 1) e))

by_numbers : {A : Type 0} (g : Row → List A) (rows : List Row) → flat_map (λ b. g (row_at rows b)) (row_numbers rows) ≡ flat_map g rows
by_numbers g [] = refl
by_numbers g (row ∷ rows) = ap (λ rest. g row ++ rest) (shifted g row rows 0 (0 + 1) (length rows) refl ∙ by_numbers g rows)

pub by_line-rows : (f : TimeText → List ℕ) (rows : List Row) → by_line rows f ≡ of_rows f rows
by_line-rows f rows = by_numbers (of_row f) rows

-- the numbers alone
pub numbers-at_line : (line : ℕ) (ns : List ℕ) → map (λ (a : AtLine). a.number) (at_line line ns) ≡ ns
numbers-at_line line [] = refl
numbers-at_line line (n ∷ ns) = ap (λ rest. n ∷ rest) (numbers-at_line line ns)

pub numbers-rows : (f : TimeText → List ℕ) (rows : List Row) →
    map (λ (a : AtLine). a.number) (of_rows f rows) ≡ flat_map (λ (row : Row). f (written_by row.kind row.time_text)) rows
numbers-rows f [] = refl
numbers-rows f (row ∷ rows) =
    map-append (λ (a : AtLine). a.number) (of_row f row) (of_rows f rows)
    ∙ ap (λ ns. ns ++ map (λ (a : AtLine). a.number) (of_rows f rows))
    (numbers-at_line row.place.line (f (written_by row.kind row.time_text)))
    ∙ ap (λ ns. f (written_by row.kind row.time_text) ++ ns) (numbers-rows f rows)

-- two functions of written times that agree
pub same-rows : (f g : TimeText → List ℕ) → ((text : TimeText) → f text ≡ g text) → (rows : List Row) → of_rows f rows ≡ of_rows g rows
same-rows f g same [] = refl
same-rows f g same (row ∷ rows) =
    ap (λ ns. at_line row.place.line ns ++ of_rows f rows) (same (written_by row.kind row.time_text))
    ∙ ap (λ rest. of_row g row ++ rest) (same-rows f g same rows)

-- one row of those that are left
pub left-more : (f : TimeText → List ℕ) (rows : List Row) (i : ℕ) (row : Row) → i < length rows → row ≡ row_at rows i →
    of_rows f (drop i rows) ≡ of_row f row ++ of_rows f (drop (i + 1) rows)
left-more f rows i row below read =
    ap (of_rows f) (drop_more rows i no_row below) ∙ ap (λ r. of_row f r ++ of_rows f (drop (i + 1) rows)) (sym read)

pub left-none : (f : TimeText → List ℕ) (rows : List Row) (i : ℕ) → length rows ≤ i → of_rows f (drop i rows) ≡ []
left-none f rows i end = ap (of_rows f) (drop_all i rows end)

-- ---- The running multiple

-- the multiple of the numbers up to here; what the numbers that are left make of it all of them make of the start
pub record IsRunning (limit start : ℕ) (all : List AtLine) (so_far : ℕ) (left : List AtLine) : Type 0 where
  pub some : 0 < so_far
  pub over : first_over limit so_far left ≡ first_over limit start all
  pub product : fold lcm so_far (map (λ (a : AtLine). a.number) left) ≡ fold lcm start (map (λ (a : AtLine). a.number) all)

module _ (limit start : ℕ) (all : List AtLine) where
  pub running-start : 0 < start → IsRunning limit start all start all
  running-start above = record { some = above; over = refl; product = refl }

  pub running-grown : (so_far line number grown : ℕ) (left : List AtLine) →
      IsRunning limit start all so_far (record { line = line; number = number } ∷ left) →
      0 < number → grown ≡ lcm so_far number → grown ≤ limit → IsRunning limit start all grown left
  running-grown so_far line number grown left before above e within =
      let test : nat_lt limit (lcm so_far number) ≡ false = le-ltb limit (lcm so_far number) (subst (λ n. n ≤ limit) e within) in
      subst (λ n. IsRunning limit start all n left) (sym e) (record {
        some = lcm-positive so_far number before.some above;
        over = sym
            (ap (λ (r : Bool). if r then Some (record { line = line; number = lcm so_far number })
            else first_over limit (lcm so_far number) left) test)
            ∙ before.over;
        product = before.product;
      })

  pub running-over : (so_far line number : ℕ) (left : List AtLine) →
      IsRunning limit start all so_far (record { line = line; number = number } ∷ left) →
      limit < lcm so_far number → first_over limit start all ≡ Some (record { line = line; number = lcm so_far number })
  running-over so_far line number left before above =
      sym before.over
      ∙ ap (λ (r : Bool). if r then Some (record { line = line; number = lcm so_far number })
      else first_over limit (lcm so_far number) left)
      (lt-ltb limit (lcm so_far number) above)

-- a row that writes no number, and one that writes some
pub left-same : (f : TimeText → List ℕ) (rows : List Row) (i : ℕ) (row : Row) (text : TimeText) (ns : List ℕ) → i < length rows →
    row ≡ row_at rows i → text ≡ written_by row.kind row.time_text → f text ≡ ns →
    of_rows f (drop i rows) ≡ at_line row.place.line ns ++ of_rows f (drop (i + 1) rows)
left-same f rows i row text ns below read writes e =
    left-more f rows i row below read
    ∙ ap (λ ns. at_line row.place.line ns ++ of_rows f (drop (i + 1) rows)) (sym (ap f writes) ∙ e)
