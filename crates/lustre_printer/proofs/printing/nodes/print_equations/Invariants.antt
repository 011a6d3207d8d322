use Rattle.std.proofs.Common.{◌≡◌, ◌++◌, take}
use Rattle.std.specs.Prelude.{flat_map}
use Rattle.lustre_syntax.specs.Plain.{equation_tree}
use Rattle.lustre_printer.specs.Printing.{equation_bytes}
use Rattle.lustre_printer.specs.Scopes.{names_in, nodes_in}
use Rattle.lustre_printer.proofs.printing.nodes.print_equations.Given as goal

abbrev pub invariant-loop-e : goal.invariant-loop-e
invariant-loop-e l =
    l.out.items ≡ l.initial.out.items
    ++ flat_map (λ e. equation_bytes (nodes_in l.scope) (names_in l.scope) (equation_tree e)) (take l.e-index l.equations)
