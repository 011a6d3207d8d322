-- What the fields of instances hold between two ticks of a run: the values of the tick, and what
-- memories and triggers remember for the next one.
use Rattle.std.specs.Prelude.{◌≡◌, ℕ, suc, true, List, [], filter, slice_index_or, Option, Some, ℤ, pos}
use Rattle.std.specs.List.{AllByRecursion}
use Rattle.diagram_activity.specs.declared.TrigMem.{TrigMem}
use Rattle.diagram_blocks.specs.Meaning.{has_value, delay_length}
use Rattle.diagram_meaning.specs.Rows.{row_at, rows_of, system_control, is_triggered}
use Rattle.diagram_meaning.specs.Diagram.{Diagram, op_at}
use Rattle.diagram_meaning.specs.Run.{value_at, memory_at, first_of, start_of}
use Rattle.diagram_meaning.specs.Laws.{Run}
use Rattle.diagram_meaning.specs.SystemRuns.{system_trigger}
use Rattle.modules_profile.specs.Systems.{systems_inside}
use Rattle.c_syntax.specs.Tree.{FieldTree, ProgramTree, struct_fields}
use Rattle.c_semantics.specs.Cells.{Cells, items_at, cells_at}
use Rattle.emit_shape.specs.Delays.{is_single, is_line}
use Rattle.emit_shape.specs.Names.{value_name, memory_name, place_name, taken_name, trigger_name, is_counter_name}
use Rattle.emit_shape.specs.Programs.{struct_place}
use Rattle.right_relation.specs.Rings.{Ring, IsRing}
use Rattle.diagram_activity.specs.Activity.{memory_number}
use Rattle.right_claim.specs.Paths.{place_in, number_in, path_inside}

-- the rows of the system n that have a value, and its delays of one sample and of several
module _ (d : Diagram) (n : Option ℕ) where
  abbrev pub valued_rows : List ℕ
  valued_rows = filter (λ b. has_value (row_at d.rows b).kind) (rows_of d.rows n)

  abbrev pub single_rows : List ℕ
  single_rows = filter (λ b. is_single (op_at d b)) (rows_of d.rows n)

  abbrev pub line_rows : List ℕ
  line_rows = filter (λ b. is_line (op_at d b)) (rows_of d.rows n)

-- the counters in the struct of the system n
abbrev pub counter_fields : ProgramTree → Option ℕ → List FieldTree
counter_fields p n =
    filter (λ f. is_counter_name f.name) (struct_fields p.structs (struct_place p n))

-- the ring of row b of the system n holds what a delay of several samples remembers
pub record HoldsRing (p : ProgramTree) (d : Diagram) (n : Option ℕ) (cells : Cells)
    (memory : List ℤ) (b : ℕ) : Type 0 where
  pub ring : Ring
  pub items : items_at cells (place_in p n (memory_name b)) ≡ ring.items
  pub place : number_in p n cells (place_name b) ≡ pos ring.place
  pub taken : number_in p n cells (taken_name b) ≡ pos ring.taken
  pub holds : IsRing (delay_length (op_at d b)) (start_of d b) ring memory

-- An instance of the system n after a tick with the values v, where the memories m and the
-- triggers g are those of the next tick: the field of each row with a value holds its value, those
-- of memories and of the trigger what these remember, and no function counts as called.
pub record HoldsTick (p : ProgramTree) (d : Diagram) (v : List ℤ) (m : List (List ℤ))
    (g : List TrigMem) (n : Option ℕ) (cells : Cells) : Type 0 where
  pub values : AllByRecursion (λ b. number_in p n cells (value_name b) ≡ value_at v b)
      (valued_rows d n)
  pub memories : AllByRecursion
      (λ b. number_in p n cells (memory_name b) ≡ first_of (memory_at m b)) (single_rows d n)
  pub rings : AllByRecursion (λ b. HoldsRing p d n cells (memory_at m b) b) (line_rows d n)
  pub trigger : is_triggered (system_control d.rows n) ≡ true →
      number_in p n cells trigger_name ≡ memory_number (system_trigger g n)
  pub counters : AllByRecursion (λ f. number_in p n cells f.name ≡ pos 0) (counter_fields p n)

-- In an instance of the system s after tick t of its run: so it is with the instance, and with
-- that of each system inside.
pub record HoldsRun (p : ProgramTree) (d : Diagram) (s : Option ℕ) (run : Run) (t : ℕ)
    (cells : Cells) : Type 0 where
  pub here : HoldsTick p d (slice_index_or run.values t []) (slice_index_or run.memories (suc t) [])
      (slice_index_or run.triggers (suc t) []) s cells
  pub inside : AllByRecursion
      (λ e. HoldsTick p d (slice_index_or run.values t []) (slice_index_or run.memories (suc t) [])
      (slice_index_or run.triggers (suc t) []) (Some e)
      (cells_at (path_inside p d.rows s e) cells)) (systems_inside d.rows s)
