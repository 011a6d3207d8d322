use Rattle.std.proofs.Common.{◌≡◌, ◌+◌, ◌<◌, ◌==◌, ℕ, length, min, slice_index, take}
use Rattle.std.specs.List.{count_by}
use Rattle.emit_layout_tables.proofs.groups.count_calls.Given as goal

abbrev pub invariant-loop-group : goal.invariant-loop-group
invariant-loop-group l = (g : ℕ) → g < length l.counts →
    min (slice_index l.counts g) 2
    ≡ min (slice_index l.initial.counts g + count_by (λ called. called == g) (take l.group-index l.groups)) 2
