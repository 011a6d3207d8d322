-- The laws of a run's ticks, and of what its ticks are for the rows of one system inside.
use Rattle.std.specs.Prelude.{◌≡◌, ℕ, zero, suc, ◌<◌, ◌≤◌, true, false, ◌||◌, List, [], ◌∷◌, length, slice_index_or, Option, Some, None, ℤ}
use Rattle.diagram_activity.specs.declared.TrigMem.{TrigMem}
use Rattle.diagram_blocks.specs.Meaning.{delay_length}
use Rattle.diagram_meaning.specs.declared.table.Row.{Row}
use Rattle.diagram_meaning.specs.Rows.{row_at, is_system, is_inside, around}
use Rattle.diagram_meaning.specs.WellFormed.{IsNested}
use Rattle.diagram_meaning.specs.Diagram.{Diagram, op_at}
use Rattle.diagram_meaning.specs.ResolvedTree.{ResolvedTree, IsResolvedTree, diagram_of}
use Rattle.diagram_meaning.specs.Run.{value_at, memory_at, trigger_at, start_of, active_in, any_off, row_value, row_memory, row_trigger, has_memory, has_trigger, values_by, IsTick}
use Rattle.diagram_meaning.specs.Laws.{Run, IsRunOver}

-- ---- Ticks

-- the values before tick t of a run of the system s
abbrev pub values_before : Diagram → Option ℕ → Run → ℕ → List ℤ
values_before d s run zero = values_by d s (start_of d)
values_before d s run (suc t) = slice_index_or run.values t []

-- the equations hold at each tick of a run
abbrev pub RunsHaveTicks : Type 0
RunsHaveTicks = (d : Diagram) (s : Option ℕ) (xs : List (List ℤ)) (run : Run) (t : ℕ) →
    IsRunOver d s xs run → t < length xs →
    IsTick d s t (slice_index_or xs t []) (values_before d s run t)
    (slice_index_or run.memories t []) (slice_index_or run.triggers t [])
    (slice_index_or run.values t []) (slice_index_or run.memories (suc t) [])
    (slice_index_or run.triggers (suc t) [])

-- at a tick each row inside s has its value, each delay there its memory, and each subsystem with a
-- trigger there, or s itself, what its trigger remembers
pub record HasRowEquations (d : Diagram) (s : Option ℕ) (t : ℕ) (x before : List ℤ)
    (m : List (List ℤ)) (g : List TrigMem) (v : List ℤ)
    (m' : List (List ℤ)) (g' : List TrigMem) : Type 0 where
  pub values : (b : ℕ) → b < length d.rows → is_inside d.rows s b ≡ true →
      value_at v b ≡ row_value d s t x before m g v b
  pub memories : (b : ℕ) → b < length d.rows → has_memory d s b ≡ true →
      memory_at m' b ≡ row_memory d s t x m g v b
  pub triggers : (e : ℕ) → e < length d.rows → has_trigger d s e ≡ true →
      trigger_at g' e ≡ row_trigger d s x g v e

-- the equations of a tick hold row by row
abbrev pub TicksHaveRows : Type 0
TicksHaveRows =
    (d : Diagram) (s : Option ℕ) (t : ℕ) (x before : List ℤ) (m : List (List ℤ)) (g : List TrigMem)
    (v : List ℤ)
    (m' : List (List ℤ)) (g' : List TrigMem) →
    IsTick d s t x before m g v m' g' → HasRowEquations d s t x before m g v m' g'

-- in a run of a resolved model a delay remembers as many numbers as it is long, before and after
-- each tick
abbrev pub MemoriesAreFull : Type 0
MemoriesAreFull = (r : ResolvedTree) (s : Option ℕ) (xs : List (List ℤ)) (run : Run) (t b : ℕ) →
    IsResolvedTree r →
    IsRunOver (diagram_of r) s xs run → t ≤ length xs → b < length r.tree.table.rows →
    has_memory (diagram_of r) s b ≡ true →
    length (memory_at (slice_index_or run.memories t []) b) ≡ delay_length (op_at (diagram_of r) b)

-- ---- The rows of one system inside. A run of s is for them one of their own system, whose
-- parent's activity, and what is off around it, are those of the subsystems around its row.

-- the system n is s or inside it
abbrev pub IsSystemWithin : List Row → Option ℕ → Option ℕ → Type 0
IsSystemWithin rows s None = s ≡ None
IsSystemWithin rows s (Some e) = (is_system s e || is_inside rows s e) ≡ true

-- the subsystems around the rows of the system n that count in s: n itself, and what is around
-- its row
abbrev pub around_rows_of : List Row → Option ℕ → Option ℕ → List ℕ
around_rows_of rows s None = []
around_rows_of rows s (Some e) = e ∷ around rows s e

-- row b is one of the system n, which is s or inside it
pub record IsOwnRow (rows : List Row) (s n : Option ℕ) (b : ℕ) : Type 0 where
  pub in_table : b < length rows
  pub own : (row_at rows b).owner ≡ n
  pub within : IsSystemWithin rows s n

-- row b is inside s, and not that of s itself; around it is what is around all rows of n
pub record StandsIn (rows : List Row) (s n : Option ℕ) (b : ℕ) : Type 0 where
  pub is_inside : is_inside rows s b ≡ true
  pub is_other : is_system s b ≡ false
  pub around : around rows s b ≡ around_rows_of rows s n

-- each row of a system within s is so
abbrev pub OwnRowsStandIn : Type 0
OwnRowsStandIn = (rows : List Row) (s n : Option ℕ) (b : ℕ) → IsNested rows → IsOwnRow rows s n b →
    StandsIn rows s n b

-- where one of these subsystems is off, each inside the next, the innermost is not active: what is
-- off around a system and whether its parent is active are not free of each other
abbrev pub OffIsNotActive : Type 0
OffIsNotActive = (d : Diagram) (s : Option ℕ) (x v : List ℤ) (g : List TrigMem) (es : List ℕ) →
    any_off d s x v g es ≡ true → active_in d s x v g es ≡ false
