use Rattle.std.proofs.Common.{◌≡◌, ◌++◌, take}
use Rattle.std.specs.List.{flat_map}
use Rattle.c_syntax.specs.Plain.{stmt_tree}
use Rattle.c_printer.specs.Printing.{noted_stmt_bytes}
use Rattle.c_printer.specs.VocabularyOf.{scope_notes, vocabulary_of}
use Rattle.c_printer.proofs.printing.body.+statement.Given as goal

abbrev pub invariant-put_stmts-loop-s : goal.invariant-put_stmts-loop-s
invariant-put_stmts-loop-s l =
    l.out.items ≡ l.initial.out.items
    ++ flat_map (λ s. noted_stmt_bytes (scope_notes l.scope) (vocabulary_of l.scope) l.margin (stmt_tree s)) (take l.s-index l.stmts)
