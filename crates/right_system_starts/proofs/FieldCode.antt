-- A start and a reset field by field: what stands for each field in their code, what that makes of it, and its steps.
use Rattle.std.specs.Prelude.{ℕ, ◌+◌, Bool, if◌then◌else◌, List, [], ◌∷◌, ◌++◌, pos}
use Rattle.modules_profile.specs.declared.ChildUse.{ChildUse}
use Rattle.modules_profile.specs.LocalSystem.{LocalSystem}
use Rattle.c_syntax.specs.declared.Target.TheVariants.{Child}
use Rattle.c_syntax.specs.Tree.{StmtTree, assign, call, no_exprs}
use Rattle.c_semantics.specs.Cells.{Cell, number, object, Cells, no_cells, more_cells, cell_fields}
use Rattle.emit_row_code.specs.RowCode.{written, nought}
use Rattle.emit_shape.specs.RowStarts.{row_start}
use Rattle.emit_shape.specs.Slots.{Slot, value, memory, ring_items, ring_place, ring_taken, trigger, counter, instance, filler}
use Rattle.right_relation.specs.Renewals.{Renewal, renewal_at}

-- A start stores all; a reset neither values nor counters.
module _ (all : Bool) (local : LocalSystem) where
  -- the code for the field at a position, where the procedure of a child has this number
  module _ (callee : ℕ → ChildUse → ℕ) where
    abbrev pub field_code : ℕ → Slot → List StmtTree
    field_code f (value r) = if all then assign 0 f (written (row_start local r)) ∷ [] else []
    field_code f (memory r) = assign 0 f (written (row_start local r)) ∷ []
    field_code f (ring_items r) = []
    field_code f (ring_place r) = assign 0 f nought ∷ []
    field_code f (ring_taken r) = assign 0 f nought ∷ []
    field_code f trigger = assign 0 f nought ∷ []
    field_code f (counter name type) = if all then assign 0 f nought ∷ [] else []
    field_code f (instance k u) = call 0 (callee k u) (Child f) no_exprs ∷ []
    field_code f filler = []

    -- the same for fields from a position on
    abbrev pub fields_code : ℕ → List Slot → List StmtTree
    fields_code f [] = []
    fields_code f (s ∷ slots) = field_code f s ++ fields_code (f + 1) slots

  -- where these are the starts, or the resets, of the children
  module _ (children : List Renewal) where
    -- what that makes of a field
    abbrev pub renewed_cell : Slot → Cell → Cell
    renewed_cell (value r) before = if all then number (row_start local r) else before
    renewed_cell (memory r) before = number (row_start local r)
    renewed_cell (ring_items r) before = before
    renewed_cell (ring_place r) before = number (pos 0)
    renewed_cell (ring_taken r) before = number (pos 0)
    renewed_cell trigger before = number (pos 0)
    renewed_cell (counter name type) before = if all then number (pos 0) else before
    renewed_cell (instance k u) before = object ((renewal_at children k).renewed (cell_fields before))
    renewed_cell filler before = before

    abbrev pub renewed_cells : List Slot → Cells → Cells
    renewed_cells [] cells = cells
    renewed_cells (s ∷ slots) no_cells = no_cells
    renewed_cells (s ∷ slots) (more_cells c cells) = more_cells (renewed_cell s c) (renewed_cells slots cells)

    -- its steps: one for each statement, and those inside a child
    abbrev pub field_steps : Slot → ℕ
    field_steps (value r) = if all then 1 else 0
    field_steps (ring_items r) = 0
    field_steps (counter name type) = if all then 1 else 0
    field_steps (instance k u) = 1 + (renewal_at children k).most
    field_steps filler = 0
    field_steps _ = 1

    abbrev pub fields_steps : List Slot → ℕ
    fields_steps [] = 0
    fields_steps (s ∷ slots) = field_steps s + fields_steps slots
