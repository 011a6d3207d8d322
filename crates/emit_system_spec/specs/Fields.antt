-- Where the fields of a system's struct lie: its values, memories, rings, what the trigger
-- remembers, its children, and then the counters.
use Rattle.std.specs.Prelude.{ℕ, suc, ◌+◌, ◌*◌, nat_lt, ◌==◌, if◌then◌else◌, List, ◌++◌, map, filter, flat_map, count_by, length, Option, unwrap_or}
use Rattle.std.specs.Option.{option_map}
use Rattle.std.specs.List.{position_from, range_with_len}
use Rattle.diagram_blocks.specs.Meaning.{has_value}
use Rattle.diagram_meaning.specs.Rows.{is_triggered}
use Rattle.modules_profile.specs.declared.local.LocalRow.{LocalRow}
use Rattle.modules_profile.specs.LocalSystem.{LocalSystem}
use Rattle.modules_schedule.specs.SystemSchedule.{SystemSchedule}
use Rattle.c_syntax.specs.declared.code.CType.TheVariants.{U8}
use Rattle.emit_shape.specs.Names.{counter_name}
use Rattle.emit_shape.specs.Delays.{is_single, is_line}
use Rattle.emit_shape.specs.Slots.{Slot, counter, own_slots, or_filler}

-- ---- Rows with a field

-- the rows with a value, those that remember one sample, and those that remember several
abbrev pub value_rows : LocalSystem → List LocalRow
value_rows local = filter (λ r. has_value r.kind) local.rows

abbrev pub single_rows : LocalSystem → List LocalRow
single_rows local = filter (λ r. is_single r.op) local.rows

abbrev pub line_rows : LocalSystem → List LocalRow
line_rows local = filter (λ r. is_line r.op) local.rows

-- the numbers of some rows
abbrev pub numbers : List LocalRow → List ℕ
numbers rows = map (λ r. r.row) rows

-- the first place of a number among some
abbrev pub first_place : List ℕ → ℕ → Option ℕ
first_place keys k = position_from (λ key. key == k) 0 keys

-- ---- Fields of rows, by the row's number

abbrev pub place_among : List LocalRow → ℕ → ℕ
place_among rows b = unwrap_or (first_place (numbers rows) b) 0

abbrev pub value_field : LocalSystem → ℕ → ℕ
value_field local b = place_among (value_rows local) b

abbrev pub memory_field : LocalSystem → ℕ → ℕ
memory_field local b = length (value_rows local) + place_among (single_rows local) b

-- the first of the three fields of a ring, which are together: its items, its place and its count
abbrev pub ring_field : LocalSystem → ℕ → ℕ
ring_field local b =
    length (value_rows local) + length (single_rows local) + 3 * place_among (line_rows local) b

-- ---- Other fields

abbrev pub trigger_field : LocalSystem → ℕ
trigger_field local =
    length (value_rows local) + length (single_rows local) + 3 * length (line_rows local)

-- the child at a place
abbrev pub child_field : LocalSystem → ℕ → ℕ
child_field local k = trigger_field local + (if is_triggered local.control then 1 else 0) + k

-- ---- Counters

-- how often functions call group g
abbrev pub call_count : SystemSchedule → ℕ → ℕ
call_count schedule g =
    count_by (λ called. called == g) (flat_map (λ groups. groups) schedule.functions)

-- the groups that more than one function calls: each has a counter
abbrev pub shared_groups : SystemSchedule → List ℕ
shared_groups schedule =
    filter (λ g. nat_lt 1 (call_count schedule g)) (range_with_len 0 (length schedule.groups))

-- the counter of group g, where it has one
abbrev pub counter_field : LocalSystem → SystemSchedule → ℕ → Option ℕ
counter_field local schedule g =
    option_map (λ k. child_field local (length local.children) + k)
    (first_place (shared_groups schedule) g)

-- the number of group g in names counts from 1
abbrev pub counter_slot : ℕ → Slot
counter_slot g = counter (counter_name (suc g)) U8

abbrev pub code_slots : LocalSystem → SystemSchedule → List Slot
code_slots local schedule = or_filler (own_slots local ++ map counter_slot (shared_groups schedule))
