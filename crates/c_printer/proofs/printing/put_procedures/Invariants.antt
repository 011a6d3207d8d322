use Rattle.std.proofs.Common.{◌≡◌, ◌++◌, map, take}
use Rattle.std.specs.List.{flat_map, enumerate_from}
use Rattle.c_syntax.specs.Plain.{procedure_tree, program_tree}
use Rattle.c_printer.specs.Notes.{notes_seen}
use Rattle.c_printer.specs.Printing.{noted_procedure_bytes}
use Rattle.c_printer.proofs.printing.put_procedures.Given as goal

abbrev pub invariant-loop-k : goal.invariant-loop-k
invariant-loop-k l =
    l.out.items ≡ l.initial.out.items
    ++ flat_map (noted_procedure_bytes (program_tree l.program) (notes_seen l.notes))
    (enumerate_from 0 (take l.k (map procedure_tree l.program.procedures.items)))
