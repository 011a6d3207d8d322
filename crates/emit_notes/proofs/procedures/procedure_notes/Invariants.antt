use Rattle.std.proofs.Common.{◌≡◌, ◌++◌, [], drop, map}
use Rattle.c_syntax.specs.Plain.{procedure_tree}
use Rattle.emit_notes.specs.FunctionNotes.{procedure_notes}
use Rattle.emit_notes.proofs.procedures.procedure_notes.Given as goal

abbrev pub invariant-loop-procedure : goal.invariant-loop-procedure
invariant-loop-procedure l =
    map (λ note. note.items) l.notes.items
    ++ procedure_notes l.labels l.structs (map (λ x. x.items) l.earlier.items)
    (map procedure_tree (drop l.procedure-index l.procedures))
    ≡ procedure_notes l.fn.labels l.fn.structs [] (map procedure_tree l.fn.procedures)
