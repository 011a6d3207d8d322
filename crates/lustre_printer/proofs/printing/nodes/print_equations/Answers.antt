use Rattle.std.proofs.Common.{rules}
use Rattle.lustre_syntax.specs.Plain.{equation_tree}
use Rattle.lustre_printer.specs.Printing.{equation_bytes}
use Rattle.lustre_printer.specs.Scopes.{names_in, nodes_in}
use Rattle.lustre_printer.proofs.PrintedLists.{flat_map-printed}
use Rattle.lustre_printer.proofs.printing.nodes.print_equations.Goals as goal

pub returns : goal.returns
returns c =
    flat_map-printed (equation_bytes (nodes_in c.args.scope.now) (names_in c.args.scope.now)) equation_tree
    c.args.equations.now c.loop-e.e-index c.args.out.now.items c.loop-e.out.items (search rules) c.loop-e.invariant
