use Rattle.std.proofs.Common.{◌≡◌, ◌++◌, length, drop, map}
use Rattle.c_syntax.specs.Tree.{exprs_of_list}
use Rattle.c_syntax.specs.Plain.{expr_tree}
use Rattle.c_printer.specs.Printing.{arguments_bytes}
use Rattle.c_printer.specs.VocabularyOf.{vocabulary_of}
use Rattle.c_printer.proofs.printing.body.put_arguments.Given as goal

abbrev pub invariant-loop-param : goal.invariant-loop-param
invariant-loop-param l =
    l.out.items ++ arguments_bytes (vocabulary_of l.scope) (map (λ q. q.1) (drop (length l.yielded) l.params))
    (exprs_of_list (map expr_tree (drop (length l.yielded) l.values)))
    ≡ l.initial.out.items ++ arguments_bytes (vocabulary_of l.scope) (map (λ q. q.1) l.params) (exprs_of_list (map expr_tree l.values))
