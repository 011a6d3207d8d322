-- When a program refines another: wherever the other isn't stuck it does the same, in no more
-- steps.
use Rattle.std.specs.Prelude.{◌≡◌, ℕ, ◌≤◌, Bool, true, List, [], ◌∷◌, length, map, None, ⊤, ℤ}
use Rattle.c_syntax.specs.Tree.{ProgramTree}
use Rattle.c_semantics.specs.Cells.{Cells}
use Rattle.c_semantics.specs.Machine.{LoggedCall, After, Outcome, done, stuck, call_from_outside}
use Rattle.c_semantics.specs.Rows.{TickRow, Rows, c_rows, start_run}

-- where the procedures of the one program are in the other
module _ (place : ℕ → ℕ) where
  -- a call in the other program
  abbrev pub placed_call : LoggedCall → LoggedCall
  placed_call c = record { path = c.path; procedure = place c.procedure }

  -- ---- One call

  -- the same fields, calls and stores, and no more steps
  pub record RefinesAfter (a b : After) : Type 0 where
    pub cells : b.cells ≡ a.cells
    pub steps : b.steps ≤ a.steps
    pub log : b.log ≡ map placed_call a.log
    pub stores : b.stores ≡ a.stores

  -- a call that isn't stuck ends so in the other program; of one that is stuck nothing is said
  abbrev pub Refines : Outcome → Outcome → Type 0
  Refines (done a) (done b) = RefinesAfter a b
  Refines (done a) (stuck at cells) = ⊥
  Refines (stuck at cells) other = ⊤

  -- ---- Ticks

  pub record RefinesTick (a b : TickRow) : Type 0 where
    pub outputs : b.outputs ≡ a.outputs
    pub steps : b.steps ≤ a.steps
    pub log : b.log ≡ map placed_call a.log
    pub stores : b.stores ≡ a.stores

  -- each tick that the one program ends, the other ends so
  abbrev pub RefinesTicks : List TickRow → List TickRow → Type 0
  RefinesTicks [] others = ⊤
  RefinesTicks (a ∷ rows) [] = ⊥
  RefinesTicks (a ∷ rows) (b ∷ others) = RefinesTick a b × RefinesTicks rows others

  -- where it ends all of them, so does the other, with the same fields
  pub record RefinesRows (a b : Rows) : Type 0 where
    pub ticks : RefinesTicks a.ticks b.ticks
    pub not_stuck : a.stuck_place ≡ None → b.stuck_place ≡ None
    pub count : a.stuck_place ≡ None → length b.ticks ≡ length a.ticks
    pub cells : a.stuck_place ≡ None → b.cells ≡ a.cells

  -- ---- Programs

  -- q refines p, of whose procedures those at some positions are kept: at each call of one of them
  -- from outside, from any fields, at the start, and over each trace
  pub record RefinesBy (keeps : ℕ → Bool) (p q : ProgramTree) : Type 0 where
    pub calls : (k : ℕ) → keeps k ≡ true → (path : List ℕ) (values : List ℤ) (cells : Cells) →
        Refines (call_from_outside p k path values cells)
        (call_from_outside q (place k) path values cells)
    pub start : Refines (start_run p) (start_run q)
    pub rows : (trace : List (List ℤ)) → RefinesRows (c_rows p trace) (c_rows q trace)

-- all procedures are kept where they are
abbrev pub kept_all : ℕ → Bool
kept_all k = true

abbrev pub in_place : ℕ → ℕ
in_place k = k
