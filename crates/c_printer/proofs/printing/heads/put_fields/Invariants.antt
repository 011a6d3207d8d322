use Rattle.std.proofs.Common.{◌≡◌, ◌++◌, map, take}
use Rattle.std.specs.List.{flat_map, enumerate_from}
use Rattle.c_syntax.specs.Plain.{program_tree}
use Rattle.c_syntax.specs.PlainField.{field_trees}
use Rattle.c_printer.specs.Printing.{noted_field_bytes}
use Rattle.c_printer.proofs.printing.heads.put_fields.Given as goal

abbrev pub invariant-loop-k : goal.invariant-loop-k
invariant-loop-k l =
    l.out.items ≡ l.initial.out.items
    ++ flat_map (noted_field_bytes (program_tree l.program) (map (λ note. note.items) l.notes))
    (enumerate_from 0 (take l.k (field_trees l.fields)))
