use Rattle.std.proofs.Common.{◌≡◌, ◌++◌, map, reverse}
use Rattle.std.specs.List.{range_with_len, flat_map}
use Rattle.c_syntax.specs.Plain.{procedure_tree}
use Rattle.emit_shape.specs.Assembled.{from_last}
use Rattle.emit_linker.specs.Places.{trees}
use Rattle.emit_linker.proofs.Programs.{code_procedures}
use Rattle.emit_linker.proofs.program.all_procedures.Given as goal

abbrev pub invariant-loop-i : goal.invariant-loop-i
invariant-loop-i l = map procedure_tree l.procedures.items ++ flat_map (code_procedures (trees l.codes.list.now))
    (reverse (range_with_len 0 l.i)) ≡ flat_map (code_procedures (trees l.codes.list.now)) (from_last (trees l.codes.list.now))
