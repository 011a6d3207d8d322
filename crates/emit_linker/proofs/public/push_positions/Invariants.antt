use Rattle.std.proofs.Common.{◌≡◌, ◌++◌, map, take}
use Rattle.emit_shape.specs.Assembled.{procedure_position}
use Rattle.emit_linker.specs.Places.{trees}
use Rattle.emit_linker.proofs.public.push_positions.Given as goal

abbrev pub invariant-loop-name : goal.invariant-loop-name
invariant-loop-name l = l.positions.items
    ≡ l.initial.positions.items ++ map (procedure_position (trees l.codes.list.now) l.i) (take l.name-index l.name-items)
