-- The rows of a loop are rows of the diagram.
use Rattle.std.specs.Prelude.{ℕ, zero, suc, ◌<◌, Bool, true, false, if◌then◌else◌, List, [], ◌∷◌, ◌++◌, length, slice_index_or, Contains, None}
use Rattle.std.specs.List.{AllByRecursion}
use Rattle.std.proofs.Common.{inl, inr}
use Rattle.diagram_blocks.specs.Value.{feeds_through}
use Rattle.diagram_meaning.specs.declared.table.Row.{Row}
use Rattle.diagram_meaning.specs.Rows.{outward}
use Rattle.diagram_meaning.specs.Diagram.{Diagram, op_at}
use Rattle.diagram_meaning.specs.Needs.{needs_of}
use Rattle.diagram_meaning.specs.Inputs.{wires_of_rows}
use Rattle.diagram_meaning.specs.Walk.{IsLeastLoop}
use Rattle.diagram_meaning.proofs.lemmas.Inside.{Contains-nil}
use Rattle.diagram_meaning.proofs.lemmas.Tick.{row_at-past}
use Rattle.diagram_needs.specs.Needed.{IsOnLoop}
use Rattle.diagram_needs.proofs.lemmas.LoopRows.{loop-rows}
use Rattle.diagram_verdict.proofs.lemmas.PlaceLists.{place-of}

-- a row past the end of the table has no wires
no-wires : (rows : List Row) (n c : ℕ) (feeds : Bool) →
    Contains ((if feeds then [] else []) ++ wires_of_rows rows (outward rows None n None)) c → ⊥
no-wires rows zero c true h = Contains-nil c h
no-wires rows (suc n) c true h = Contains-nil c h
no-wires rows zero c false h = Contains-nil c h
no-wires rows (suc n) c false h = Contains-nil c h

module _ (d : Diagram) where
  -- only rows of the table need others
  inside-by : (b c : ℕ) → Contains (needs_of d b) c → b < length d.rows
  inside-by b c h = elim (row_at-past d.rows b) [
    | inl below ↦ below
    | inr past ↦ absurd (no-wires d.rows (length d.rows) c (feeds_through (op_at d b)) (rw past at h))
  ]

  on-loop : (b : ℕ) → IsOnLoop (needs_of d) b → b < length d.rows
  on-loop b ([], w) = inside-by b b w
  on-loop b (c ∷ path, w) = inside-by b c w.0

  all-inside : (rows : List ℕ) → AllByRecursion (IsOnLoop (needs_of d)) rows → AllByRecursion (λ b. b < length d.rows) rows
  all-inside [] all = tt
  all-inside (b ∷ rows) all = (on-loop b all.0, all-inside rows all.1)

  pub loop-inside : (loop : List ℕ) → IsLeastLoop (needs_of d) loop → (i : ℕ) → i < length loop → slice_index_or loop i 0 < length d.rows
  loop-inside [] told i below = absurd told
  loop-inside (a ∷ path) told i below =
      place-of (λ b. b < length d.rows) (a ∷ path) 0 i (all-inside (a ∷ path) (loop-rows (needs_of d) (a ∷ path) told.is_loop)) below
