-- What a system's start and reset store and call.
use Rattle.std.specs.Prelude.{ℕ, ◌+◌, if◌then◌else◌, List, [], ◌∷◌, ◌++◌, map, flat_map, length}
use Rattle.std.specs.List.{enumerate_from, range_with_len}
use Rattle.diagram_meaning.specs.Rows.{is_triggered}
use Rattle.modules_profile.specs.declared.local.ChildUse.{ChildUse}
use Rattle.modules_profile.specs.declared.local.LocalRow.{LocalRow}
use Rattle.modules_profile.specs.LocalSystem.{LocalSystem}
use Rattle.modules_profile.specs.Headers.{header_functions}
use Rattle.modules_schedule.specs.SystemSchedule.{SystemSchedule}
use Rattle.c_syntax.specs.declared.code.Target.TheVariants.{Child}
use Rattle.c_syntax.specs.Tree.{StmtTree, assign, call, no_exprs}
use Rattle.emit_row_code.specs.RowCode.{written, nought}
use Rattle.emit_shape.specs.RowStarts.{row_start}
use Rattle.emit_system_spec.specs.Fields.{value_rows, single_rows, line_rows, value_field, memory_field, trigger_field, child_field, shared_groups}
use Rattle.emit_system_spec.specs.Places.{child_base}
use Rattle.emit_system_spec.specs.NodeCode.{ring_fields}

abbrev pub zero_store : ℕ → StmtTree
zero_store f = assign 0 f nought

-- the counters come after the children
abbrev pub counter_stores : LocalSystem → SystemSchedule → List StmtTree
counter_stores local schedule =
    map zero_store
    (range_with_len (child_field local (length local.children)) (length (shared_groups schedule)))

-- the field of a row gets the row's start
abbrev pub start_store : LocalSystem → ℕ → LocalRow → StmtTree
start_store local f r = assign 0 f (written (row_start local r))

-- no sample was taken; the items stay
abbrev pub ring_stores : LocalSystem → LocalRow → List StmtTree
ring_stores local r =
    zero_store (ring_fields local r.row).place ∷ zero_store (ring_fields local r.row).taken ∷ []

abbrev pub value_starts : LocalSystem → List StmtTree
value_starts local = map (λ r. start_store local (value_field local r.row) r) (value_rows local)

abbrev pub single_starts : LocalSystem → List StmtTree
single_starts local = map (λ r. start_store local (memory_field local r.row) r) (single_rows local)

abbrev pub line_starts : LocalSystem → List StmtTree
line_starts local = flat_map (ring_stores local) (line_rows local)

abbrev pub trigger_starts : LocalSystem → List StmtTree
trigger_starts local =
    if is_triggered local.control then zero_store (trigger_field local) ∷ [] else []

-- memories are those before the first tick, and the trigger is not yet
abbrev pub memory_starts : LocalSystem → List StmtTree
memory_starts local = single_starts local ++ line_starts local ++ trigger_starts local

-- Where so many procedures are the system's own.
module _ (local : LocalSystem) (count : ℕ) where
  -- the procedure after a child's functions at this place: its update is 0, its start 1, its reset
  -- 2
  abbrev pub call_behind : ℕ → ℕ × ChildUse → StmtTree
  call_behind i e =
      call 0 (child_base local count e.0 + length (header_functions e.1.header) + i)
      (Child (child_field local e.0)) no_exprs

  abbrev pub child_calls : ℕ → List StmtTree
  child_calls i = map (call_behind i) (enumerate_from 0 local.children)

  -- all begin with their starts, and no function counts as called
  abbrev pub start_body : SystemSchedule → List StmtTree
  start_body schedule =
      value_starts local ++ memory_starts local ++ child_calls 1 ++ counter_stores local schedule

  -- a reset stores no value
  abbrev pub reset_body : List StmtTree
  reset_body = memory_starts local ++ child_calls 2
