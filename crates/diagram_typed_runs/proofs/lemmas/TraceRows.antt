-- Rows of a trace have just the numbers that rows read of them.
use Rattle.std.specs.Prelude.{◌≡◌, ℕ, zero, suc, ◌+◌, ◌<◌, Bool, true, false, ◌&&◌, List, [], ◌∷◌, map, filter, length, count_by, slice_index_or, Option, None, ℤ}
use Rattle.std.specs.List.{range_with_len, AllZip}
use Rattle.std.proofs.Common.{refl, sym, ◌∙◌, ap, arith, cond, length-append}
use Rattle.std.proofs.lemmas.List.Sums.{length-filter}
use Rattle.std.proofs.lemmas.List.FromFn.{length-map-range_with_len}
use Rattle.base_core.specs.declared.Port.{Port}
use Rattle.base_core.specs.declared.Port.TheVariants.{Number}
use Rattle.diagram_meaning.specs.declared.table.Row.{Row}
use Rattle.diagram_meaning.specs.Rows.{row_at, no_row, inports_of, same_system}
use Rattle.diagram_blocks.specs.Kinds.{is_inport}
use Rattle.diagram_meaning.specs.Diagram.{Diagram}
use Rattle.diagram_meaning.specs.ResolvedTree.{ResolvedTree, IsResolvedTree, diagram_of}
use Rattle.diagram_meaning.specs.Traces.{IsTraceRow, IsTrace}
use Rattle.diagram_meaning.proofs.lemmas.Ports.{length-by_port}
use Rattle.diagram_meaning.proofs.lemmas.Traces.{row-has, row-from}
use Rattle.diagram_typed_runs.specs.Traces.{HasInputs}

-- ---- How many Inports there are

-- the numbers of items that pass two tests are as many as the items
count-both : (p q : Row → Bool) (f : ℕ → Row) (a : ℕ) (rows : List Row) →
    ((i : ℕ) → i < length rows → f (a + i) ≡ slice_index_or rows i no_row) →
    length (filter (λ b. p (f b)) (filter (λ b. q (f b)) (range_with_len a (length rows)))) ≡ length (filter (λ row. q row && p row) rows)
count-both p q f a [] each = refl
count-both p q f a (row ∷ rows) each =
    ap (λ r. length (filter (λ b. p (f b)) (cond r (a ∷ rest) rest))) (ap q first)
    ∙ by (q row) (p row) (ap p first) (count-both p q f (a + 1) rows later)
  where
    first : f a ≡ row
    first = let same : a ≡ a + 0 = omega arith in ap f same ∙ each 0 (omega arith)

    later : (i : ℕ) → i < length rows → f (a + 1 + i) ≡ slice_index_or rows i no_row
    later i below = let same : a + 1 + i ≡ a + suc i = omega arith in ap f same ∙ each (suc i) (omega arith)

    rest : List ℕ
    rest = filter (λ b. q (f b)) (range_with_len (a + 1) (length rows))

    passed : List Row
    passed = filter (λ row. q row && p row) rows

    by : (s t : Bool) → p (f a) ≡ t → length (filter (λ b. p (f b)) rest) ≡ length passed →
        length (filter (λ b. p (f b)) (cond s (a ∷ rest) rest)) ≡ length (cond (s && t) (row ∷ passed) passed)
    by true true e so_far = ap (λ r. length (cond r (a ∷ filter (λ b. p (f b)) rest) (filter (λ b. p (f b)) rest))) e
        ∙ omega (arith, so_far)
    by true false e so_far = ap (λ r. length (cond r (a ∷ filter (λ b. p (f b)) rest) (filter (λ b. p (f b)) rest))) e ∙ so_far
    by false t e so_far = so_far

module _ (r : ResolvedTree) (is : IsResolvedTree r) where
  abbrev rows : List Row
  rows = r.tree.table.rows

  pub root-inputs : count_by (λ (row : Row). same_system row.owner None && is_inport row.kind) rows ≡ length (inports_of rows None)
  root-inputs =
      sym (length-filter (λ (row : Row). same_system row.owner None && is_inport row.kind) rows)
      ∙ sym (count-both (λ (row : Row). is_inport row.kind) (λ (row : Row). same_system row.owner None) (row_at rows) 0 rows
      (λ i below. let same : 0 + i ≡ i = omega arith in ap (row_at rows) same))
      ∙ sym (length-by_port rows is_inport None (is.tree.table.inports None))

  -- ---- Rows

  zip-length : (P : Port → ℤ → Type 0) (ports : List Port) (x : List ℤ) → AllZip P ports x → length ports ≡ length x
  zip-length P [] [] h = refl
  zip-length P [] (v ∷ x) h = absurd h
  zip-length P (p ∷ ports) [] h = absurd h
  zip-length P (p ∷ ports) (v ∷ x) h = ap suc (zip-length P ports x h.1)

  pub row-length : (x : List ℤ) → IsTraceRow (diagram_of r) None x → length x ≡ length (inports_of rows None)
  row-length x h =
      let all = zip-length _ _ x h in
      let ports = length-append (map Number (range_with_len 1 (length (inports_of rows None)))) [] in
      let numbers = length-map-range_with_len Number 1 (length (inports_of rows None)) in
      omega (arith, all, ports, numbers)

  -- a row of a trace has the inputs
  pub row-inputs : (x : List ℤ) → IsTraceRow (diagram_of r) None x → HasInputs (diagram_of r) None x
  row-inputs x h port b input = row-has (diagram_of r) None (is.tree.table.inports None) x h port b input

  -- and one that has them, and as many numbers, is a row of a trace
  pub inputs-row : (x : List ℤ) → length x ≡ length (inports_of rows None) → HasInputs (diagram_of r) None x →
      IsTraceRow (diagram_of r) None x
  inputs-row x long has = row-from (diagram_of r) (is.tree.table.inports None) x long has

-- ---- Traces

pub trace-at : (d : Diagram) (s : Option ℕ) (xs : List (List ℤ)) → IsTrace d s xs → (t : ℕ) → t < length xs →
    IsTraceRow d s (slice_index_or xs t [])
trace-at d s [] all t below = absurd (omega arith)
trace-at d s (x ∷ xs) all zero below = all.0
trace-at d s (x ∷ xs) all (suc t) below = trace-at d s xs all.1 t (omega arith)

pub trace-from : (d : Diagram) (s : Option ℕ) (xs : List (List ℤ)) →
    ((t : ℕ) → t < length xs → IsTraceRow d s (slice_index_or xs t [])) → IsTrace d s xs
trace-from d s [] each = tt
trace-from d s (x ∷ xs) each = (each 0 (omega arith), trace-from d s xs (λ t below. each (suc t) (omega arith)))
