use Rattle.std.proofs.Common.{◌≡◌, ℕ, ◌<◌, ◌==◌, length, min, slice_index, take}
use Rattle.std.specs.List.{count_by, flat_map}
use Rattle.emit_layout_tables.proofs.groups.call_counts.Given as goal

abbrev pub invariant-loop-groups : goal.invariant-loop-groups
invariant-loop-groups l = (length l.counts.items ≡ length l.schedule.groups)
    × ((g : ℕ) → g < length l.schedule.groups →
    min (slice_index l.counts.items g) 2
    ≡ min (count_by (λ called. called == g) (flat_map (λ groups. groups) (take l.groups-index l.schedule.functions))) 2)
