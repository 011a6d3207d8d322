use Rattle.std.proofs.Common.{◌≡◌, ◌++◌, take, codes}
use Rattle.std.specs.List.{flat_map}
use Rattle.c_syntax.specs.Plain.{expr_tree}
use Rattle.c_printer.specs.Printing.{expr_bytes}
use Rattle.c_printer.specs.VocabularyOf.{vocabulary_of}
use Rattle.c_printer.proofs.printing.body.+expression.Given as goal

abbrev pub invariant-put_exprs-loop-e : goal.invariant-put_exprs-loop-e
invariant-put_exprs-loop-e l =
    l.out.items ≡ l.initial.out.items ++ flat_map (λ e. codes ", " ++ expr_bytes (vocabulary_of l.scope) (expr_tree e))
    (take l.e-index l.later)
