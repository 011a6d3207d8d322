-- The needs in a system are among all needs.
use Rattle.std.specs.Prelude.{ℕ, zero, suc, List, [], ◌∷◌, ◌++◌, filter, length, Contains, Option, Some, None, Bool, true, false, not, cond, if◌then◌else◌}
use Rattle.std.proofs.Common.{arith, inl, inr}
use Rattle.std.proofs.lemmas.List.Elements.{Contains-append_left, Contains-append_right, Contains-append_cases}
use Rattle.diagram_meaning.specs.declared.table.Row.{Row}
use Rattle.diagram_meaning.specs.Rows.{row_at, is_system, outward, enclosing, around, around_inside, is_inport_of}
use Rattle.diagram_meaning.specs.Diagram.{Diagram}
use Rattle.diagram_meaning.specs.Needs.{inputs_used, needs_of, needs_inside, Walk, HasNoLoop}
use Rattle.diagram_meaning.specs.Inputs.{wires_of_rows}

-- nothing is in the empty list
pub Contains-nil : {X : Type 0} (x : X) → Contains [] x → ⊥
Contains-nil x h = let (k, below, e) = h in absurd (omega arith)

-- one more system in front
one-more : (rows : List Row) (e : ℕ) (inner all : List ℕ) (c : ℕ) →
    (Contains (wires_of_rows rows inner) c → Contains (wires_of_rows rows all) c) →
    Contains (wires_of_rows rows (e ∷ inner)) c → Contains (wires_of_rows rows (e ∷ all)) c
one-more rows e inner all c rest k = elim (Contains-append_cases (row_at rows e).inputs (wires_of_rows rows inner) c k) [
  | inl l ↦ Contains-append_left (row_at rows e).inputs (wires_of_rows rows all) c l
  | inr r ↦ Contains-append_right (row_at rows e).inputs (wires_of_rows rows all) c (rest r)
]

abbrev inside_filter : Option ℕ → List ℕ → List ℕ
inside_filter s es = filter (λ k. not (is_system s k)) es

by-case : (rows : List Row) (s : Option ℕ) (e : ℕ) (inner all : List ℕ) (c : ℕ) (b : Bool) →
    (Contains (wires_of_rows rows (inside_filter s inner)) c → Contains (wires_of_rows rows all) c) →
    Contains
    (wires_of_rows rows
    (cond (not b) (e ∷ inside_filter s (if b then [] else inner)) (inside_filter s (if b then [] else inner)))) c →
    Contains (wires_of_rows rows (e ∷ all)) c
by-case rows s e inner all c true rest k = absurd (Contains-nil c k)
by-case rows s e inner all c false rest k = one-more rows e (inside_filter s inner) all c rest k

-- the systems outward inside s, of the first n, are among all
outward-wires : (rows : List Row) (s : Option ℕ) (n : ℕ) (o : Option ℕ) (c : ℕ) →
    Contains (wires_of_rows rows (inside_filter s (outward rows s n o))) c → Contains (wires_of_rows rows (outward rows None n o)) c
outward-wires rows s zero o c h = h
outward-wires rows s (suc n) None c h = h
outward-wires rows s (suc n) (Some e) c h =
    by-case rows s e (outward rows s n (row_at rows e).owner) (outward rows None n (row_at rows e).owner) c
    (is_system s e) (λ k. outward-wires rows s n (row_at rows e).owner c k) h

around-wires : (rows : List Row) (s : Option ℕ) (b c : ℕ) → Contains (wires_of_rows rows (around_inside rows s b)) c →
    Contains (wires_of_rows rows (around rows None b)) c
around-wires rows s b c h = by (is_system s b) h
  where
    by : (r : Bool) →
        Contains
        (wires_of_rows rows
        (filter (λ e. not (is_system s e)) (if r then [] else enclosing rows s (row_at rows b).owner))) c →
        Contains (wires_of_rows rows (around rows None b)) c
    by true k = absurd (Contains-nil c k)
    by false k = outward-wires rows s (length rows) (row_at rows b).owner c k

pub needs_inside-among : (d : Diagram) (s : Option ℕ) (b c : ℕ) → Contains (needs_inside d s b) c → Contains (needs_of d b) c
needs_inside-among d s b c h = by (is_inport_of d.rows s b) h
  where
    by : (r : Bool) →
        Contains ((if r then [] else inputs_used d b) ++ wires_of_rows d.rows (around_inside d.rows s b)) c →
        Contains (needs_of d b) c
    by true k = Contains-append_right (inputs_used d b) (wires_of_rows d.rows (around d.rows None b)) c (around-wires d.rows s b c k)
    by false k = elim (Contains-append_cases (inputs_used d b) (wires_of_rows d.rows (around_inside d.rows s b)) c k) [
      | inl l ↦ Contains-append_left (inputs_used d b) (wires_of_rows d.rows (around d.rows None b)) c l
      | inr r ↦ Contains-append_right (inputs_used d b) (wires_of_rows d.rows (around d.rows None b)) c (around-wires d.rows s b c r)
    ]

walk-among : (d : Diagram) (s : Option ℕ) (a : ℕ) (path : List ℕ) (z : ℕ) → Walk (needs_inside d s) a path z → Walk (needs_of d) a path z
walk-among d s a [] z w = needs_inside-among d s a z w
walk-among d s a (b ∷ path) z w = (needs_inside-among d s a b w.0, walk-among d s b path z w.1)

-- without a loop there is none in any system
pub HasNoLoop-inside : (d : Diagram) (s : Option ℕ) → HasNoLoop (needs_of d) → HasNoLoop (needs_inside d s)
HasNoLoop-inside d s none [] loop = loop
HasNoLoop-inside d s none (a ∷ path) loop = none (a ∷ path) (walk-among d s a path a loop)
