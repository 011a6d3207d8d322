use Rattle.std.proofs.Common.{codes, rules}
use Rattle.lustre_syntax.specs.Plain.{expr_tree}
use Rattle.lustre_printer.specs.Printing.{expr_bytes}
use Rattle.lustre_printer.specs.Scopes.{names_in}
use Rattle.lustre_printer.proofs.PrintedLists.{parted-printed_two}
use Rattle.lustre_printer.proofs.printing.equations.print_values.Goals as goal

pub returns : goal.returns
returns c =
    parted-printed_two (codes ", ") (expr_bytes (names_in c.args.scope.now)) expr_tree c.args.values.now c.in-Some.later.now
    c.in-Some.first.now c.loop-e.e-index c.args.out.now.items c.print_expr.new.out.items c.loop-e.out.items (search rules)
    c.in_ok-print_expr.ensures (search rules) c.loop-e.invariant
