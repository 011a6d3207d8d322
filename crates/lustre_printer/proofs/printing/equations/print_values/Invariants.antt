use Rattle.std.proofs.Common.{◌≡◌, ◌++◌, take, codes}
use Rattle.std.specs.Prelude.{flat_map}
use Rattle.lustre_syntax.specs.Plain.{expr_tree}
use Rattle.lustre_printer.specs.Printing.{expr_bytes}
use Rattle.lustre_printer.specs.Scopes.{names_in}
use Rattle.lustre_printer.proofs.printing.equations.print_values.Given as goal

abbrev pub invariant-loop-e : goal.invariant-loop-e
invariant-loop-e l =
    l.out.items ≡ l.initial.out.items ++ flat_map (λ e. codes ", " ++ expr_bytes (names_in l.scope) (expr_tree e)) (take l.e-index l.later)
