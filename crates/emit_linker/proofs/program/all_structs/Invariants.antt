use Rattle.std.proofs.Common.{◌≡◌, ◌++◌, map, reverse}
use Rattle.std.specs.List.{range_with_len}
use Rattle.emit_shape.specs.Assembled.{code_at, moved_struct, from_last}
use Rattle.emit_linker.specs.Places.{trees}
use Rattle.emit_linker.proofs.program.all_structs.Given as goal

abbrev pub invariant-loop-i : goal.invariant-loop-i
invariant-loop-i l = l.structs.items ++ map (λ i. moved_struct (trees l.codes.list.now) (code_at (trees l.codes.list.now) i))
    (reverse (range_with_len 0 l.i))
    ≡ map (λ i. moved_struct (trees l.codes.list.now) (code_at (trees l.codes.list.now) i)) (from_last (trees l.codes.list.now))
