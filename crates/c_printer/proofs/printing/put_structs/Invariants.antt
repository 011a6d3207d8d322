use Rattle.std.proofs.Common.{◌≡◌, ◌++◌, take}
use Rattle.std.specs.List.{flat_map, enumerate_from}
use Rattle.c_syntax.specs.Plain.{program_tree}
use Rattle.c_printer.specs.Notes.{notes_seen}
use Rattle.c_printer.specs.Printing.{noted_struct_bytes}
use Rattle.c_printer.proofs.printing.put_structs.Given as goal

abbrev pub invariant-loop-k : goal.invariant-loop-k
invariant-loop-k l =
    l.out.items ≡ l.initial.out.items
    ++ flat_map (noted_struct_bytes (program_tree l.program) (notes_seen l.notes))
    (enumerate_from 0 (take l.k l.program.structs.items))
