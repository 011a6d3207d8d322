-- How many statements a start and a reset have.
use Rattle.std.specs.Prelude.{◌≡◌, ℕ, ◌+◌, ◌*◌, ◌≤◌, Bool, true, false, if◌then◌else◌, List, [], ◌∷◌, ◌++◌, flat_map, length, refl}
use Rattle.std.specs.List.{enumerate_from, range_with_len}
use Rattle.std.proofs.Common.{◌∙◌, arith}
use Rattle.std.proofs.lemmas.List.{length-append, length-map}
use Rattle.diagram_blocks.specs.Meaning.{has_value}
use Rattle.diagram_meaning.specs.Rows.{is_triggered}
use Rattle.modules_profile.specs.declared.LocalRow.{LocalRow}
use Rattle.modules_profile.specs.LocalSystem.{LocalSystem}
use Rattle.modules_schedule.specs.SystemSchedule.{SystemSchedule}
use Rattle.emit_shape.specs.Delays.{is_single, is_line}
use Rattle.emit_system_spec.specs.Fields.{value_rows, single_rows, line_rows, value_field, memory_field, trigger_field, child_field, shared_groups}
use Rattle.emit_system_spec.specs.Renewing.{zero_store, start_store, ring_stores, counter_stores, value_starts, single_starts, line_starts, trigger_starts, memory_starts, call_behind, child_calls, start_body, reset_body}
use Rattle.right_system_starts.proofs.Lists.{kept-shorter, length-range, length-enumerated}

length-stores : (local : LocalSystem) (rows : List LocalRow) → length (flat_map (ring_stores local) rows) ≡ 2 * length rows
length-stores local [] = refl
length-stores local (r ∷ rows) = let rest = length-stores local rows in omega (arith, rest)

length-trigger : (f : ℕ) (t : Bool) → length (if t then zero_store f ∷ [] else []) ≡ (if t then 1 else 0)
length-trigger f true = refl
length-trigger f false = refl

module _ (local : LocalSystem) (count : ℕ) where
  memories-long : length (memory_starts local) ≤ 3 * length local.rows + (if is_triggered local.control then 1 else 0)
  memories-long =
      let made = length-map (single_rows local) (λ r. start_store local (memory_field local r.row) r) in
      let single = kept-shorter (λ r. is_single r.op) local.rows in
      let rings = length-stores local (line_rows local) in
      let line = kept-shorter (λ r. is_line r.op) local.rows in
      let last = length-trigger (trigger_field local) (is_triggered local.control) in
      let first = length-append (single_starts local) (line_starts local) in
      let both = length-append (single_starts local ++ line_starts local) (trigger_starts local) in
      omega (arith, made, single, rings, line, last, first, both)

  calls-long : (i : ℕ) → length (child_calls local count i) ≡ length local.children
  calls-long i = length-map (enumerate_from 0 local.children) (call_behind local count i) ∙ length-enumerated 0 local.children

  pub reset-long : length (reset_body local count) ≤ 3 * length local.rows +
      (if is_triggered local.control then 1 else 0) + length local.children
  reset-long =
      let memories = memories-long in
      let calls = calls-long 2 in
      let both = length-append (memory_starts local) (child_calls local count 2) in
      omega (arith, memories, calls, both)

  pub start-long : (schedule : SystemSchedule) → length (start_body local count schedule)
      ≤ 4 * length local.rows + (if is_triggered local.control then 1 else 0) + length local.children + length (shared_groups schedule)
  start-long schedule =
      let values = length-map (value_rows local) (λ r. start_store local (value_field local r.row) r) in
      let few = kept-shorter (λ r. has_value r.kind) local.rows in
      let memories = memories-long in
      let calls = calls-long 1 in
      let counters = length-map (range_with_len (child_field local (length local.children)) (length (shared_groups schedule))) zero_store in
      let many = length-range (child_field local (length local.children)) (length (shared_groups schedule)) in
      let first = length-append (value_starts local) (memory_starts local) in
      let second = length-append (value_starts local ++ memory_starts local) (child_calls local count 1) in
      let last = length-append (value_starts local ++ memory_starts local ++ child_calls local count 1) (counter_stores local schedule) in
      omega (arith, values, few, memories, calls, counters, many, first, second, last)
