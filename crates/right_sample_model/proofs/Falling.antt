-- Where each row needs only rows before it, no rows form a loop.
use Rattle.std.specs.Prelude.{◌≡◌, ℕ, zero, suc, ◌<◌, nat_lt, Bool, true, false, if◌then◌else◌, List, [], ◌∷◌, ◌++◌, length, Contains, None}
use Rattle.std.proofs.Common.{arith, inl, inr}
use Rattle.std.proofs.lemmas.List.Elements.{All-contains, All-from_recursion, Contains-append_left, Contains-append_right, Contains-append_cases}
use Rattle.diagram_blocks.specs.Value.{feeds_through}
use Rattle.diagram_meaning.specs.declared.table.Row.{Row}
use Rattle.diagram_meaning.specs.Rows.{row_at, around, outward}
use Rattle.diagram_meaning.specs.Diagram.{Diagram, op_at}
use Rattle.diagram_meaning.specs.Needs.{inputs_used, needs_of, Walk, HasNoLoop}
use Rattle.diagram_meaning.specs.Inputs.{wires_of_rows}
use Rattle.diagram_meaning.proofs.lemmas.Inside.{Contains-nil}
use Rattle.diagram_meaning.proofs.lemmas.Tick.{row_at-past}
use Rattle.diagram_meaning.proofs.lemmas.Tests.{all_below, below-at, all_of, all-from, lt-from}

-- all wires that a row may need
abbrev pub may_need : List Row → ℕ → List ℕ
may_need rows b = (row_at rows b).inputs ++ wires_of_rows rows (around rows None b)

abbrev pub needs_fall : List Row → Bool
needs_fall rows = all_below (λ b. all_of (λ c. nat_lt c b) (may_need rows b)) (length rows)

-- a row past the end of the table has no wires
no-wires : (rows : List Row) (n c : ℕ) (feeds : Bool) →
    Contains ((if feeds then [] else []) ++ wires_of_rows rows (outward rows None n None)) c → ⊥
no-wires rows zero c true h = Contains-nil c h
no-wires rows (suc n) c true h = Contains-nil c h
no-wires rows zero c false h = Contains-nil c h
no-wires rows (suc n) c false h = Contains-nil c h

module _ (d : Diagram) (fall : needs_fall d.rows ≡ true) where
  used : (b c : ℕ) → Contains (inputs_used d b) c → Contains (row_at d.rows b).inputs c
  used b c h = by (feeds_through (op_at d b)) h
    where
      by : (feeds : Bool) → Contains (if feeds then (row_at d.rows b).inputs else []) c → Contains (row_at d.rows b).inputs c
      by true h = h
      by false h = absurd (Contains-nil c h)

  among : (b c : ℕ) → Contains (needs_of d b) c → Contains (may_need d.rows b) c
  among b c h = elim (Contains-append_cases (inputs_used d b) (wires_of_rows d.rows (around d.rows None b)) c h) [
    | inl own ↦ Contains-append_left (row_at d.rows b).inputs (wires_of_rows d.rows (around d.rows None b)) c (used b c own)
    | inr control ↦ Contains-append_right (row_at d.rows b).inputs (wires_of_rows d.rows (around d.rows None b)) c control
  ]

  before : (b c : ℕ) → Contains (needs_of d b) c → c < b
  before b c h = elim (row_at-past d.rows b) [
    | inl below ↦
        let wires = may_need d.rows b in
        All-contains (λ c. c < b) wires c
        (All-from_recursion (λ c. c < b) wires (all-from (λ c. nat_lt c b) (λ c. c < b) (λ c e. lt-from c b e) wires
        (below-at (λ b. all_of (λ c. nat_lt c b) (may_need d.rows b)) (length d.rows) b fall below))) (among b c h)
    | inr past ↦ absurd (no-wires d.rows (length d.rows) c (feeds_through (op_at d b)) (rw past at h))
  ]

  walk-before : (b : ℕ) (path : List ℕ) (c : ℕ) → Walk (needs_of d) b path c → c < b
  walk-before b [] c w = before b c w
  walk-before b (a ∷ path) c w = let first = before b a w.0 in let rest = walk-before a path c w.1 in omega arith

  pub no-loop : HasNoLoop (needs_of d)
  no-loop [] loop = loop
  no-loop (a ∷ path) loop = let less = walk-before a path a loop in omega arith
