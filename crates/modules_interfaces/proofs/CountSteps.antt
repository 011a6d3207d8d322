-- How many rows of each system pass a test, one row more.
use Rattle.std.specs.Prelude.{◌≡◌, refl, ℕ, ◌+◌, ◌<◌, ◌&&◌, Bool, true, false, List, length, count_by, slice_index_or, Option, None, Some}
use Rattle.std.proofs.Common.{sym, ◌∙◌, ap, ap₂, arith, take, get_or, true≢false}
use Rattle.std.proofs.lemmas.Bool.{eq-eqb}
use Rattle.std.proofs.lemmas.List.Sums.{count_by_more_no, count_by_more_yes}
use Rattle.diagram_blocks.specs.declared.Kind.{Kind}
use Rattle.diagram_meaning.specs.declared.table.Row.{Row}
use Rattle.diagram_meaning.specs.Rows.{same_system, is_own}
use Rattle.diagram_meaning.proofs.lemmas.RestsOnNeeds.{same_system-equal}
use Rattle.modules_interfaces.specs.PortCounts.{AreCounts, place_of}

same-self : (s : Option ℕ) → same_system s s ≡ true
same-self None = refl
same-self (Some e) = eq-eqb e e refl

-- systems at one place are one
one-place : (s o : Option ℕ) → place_of s ≡ place_of o → s ≡ o
one-place None None e = refl
one-place None (Some o) e = absurd (omega (arith, e))
one-place (Some s) None e = absurd (omega (arith, e))
one-place (Some s) (Some o) e = let same : s ≡ o = omega (arith, e) in ap Some same

module _ (test : Kind → Bool) (rows : List Row) (i : ℕ) (row : Row) (below : i < length rows) (is : row ≡ get_or rows i row) (old : List ℕ)
    (counts : AreCounts test (take i rows) old) where
  -- a row that fails leaves the counts
  pub fails : test row.kind ≡ false → AreCounts test (take (i + 1) rows) old
  fails failing s =
      counts s
      ∙ sym (count_by_more_no (is_own test s) rows i row below (ap (is_own test s) (sym is) ∙ none (same_system row.owner s)))
    where
      none : (t : Bool) → (t && test row.kind) ≡ false
      none true = failing
      none false = refl

  -- one that passes adds one at the place of its system
  module _ (new : List ℕ) (passes : test row.kind ≡ true)
      (more : slice_index_or new (place_of row.owner) 0 ≡ slice_index_or old (place_of row.owner) 0 + 1)
      (others : (k : ℕ) → (k ≡ place_of row.owner → ⊥) → slice_index_or new k 0 ≡ slice_index_or old k 0) where
    pub adds : AreCounts test (take (i + 1) rows) new
    adds s = by (same_system row.owner s) refl
      where
        by : (t : Bool) → same_system row.owner s ≡ t → slice_index_or new (place_of s) 0 ≡ count_by (is_own test s) (take (i + 1) rows)
        by true same =
            let owner : row.owner ≡ s = same_system-equal row.owner s same in
            ap (λ (o : Option ℕ). slice_index_or new (place_of o) 0) (sym owner) ∙ more
            ∙ ap (λ (o : Option ℕ). slice_index_or old (place_of o) 0 + 1) owner
            ∙ ap (λ n. n + 1) (counts s)
            ∙ sym (count_by_more_yes (is_own test s) rows i row below (ap (is_own test s) (sym is) ∙ ap₂ (λ x y. x && y) same passes))
        by false other =
            others (place_of s)
            (λ at. true≢false (sym (same-self s) ∙ ap (λ (o : Option ℕ). same_system o s) (one-place s row.owner at) ∙ other))
            ∙ counts s
            ∙ sym (count_by_more_no (is_own test s) rows i row below (ap (is_own test s) (sym is) ∙ ap (λ x. x && test row.kind) other))

  -- the same for a place that is given so
  pub added : (at : ℕ) (new : List ℕ) → at ≡ place_of row.owner → test row.kind ≡ true →
      slice_index_or new at 0 ≡ slice_index_or old at 0 + 1 →
      ((k : ℕ) → (k ≡ at → ⊥) → slice_index_or new k 0 ≡ slice_index_or old k 0) → AreCounts test (take (i + 1) rows) new
  added at new here passes more others =
      adds new passes
      (ap (λ k. slice_index_or new k 0) (sym here) ∙ more ∙ ap (λ k. slice_index_or old k 0 + 1) here)
      (λ k other. others k (λ there. other (there ∙ here)))
