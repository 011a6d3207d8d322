use Rattle.std.proofs.Common.{codes, rules}
use Rattle.lustre_printer.specs.Printing.{declared_bytes}
use Rattle.lustre_printer.proofs.PrintedLists.{parted-printed_two}
use Rattle.lustre_printer.proofs.printing.nodes.print_declared_names.Goals as goal

pub returns : goal.returns
returns c =
    parted-printed_two (codes "; ") declared_bytes (λ x. record { text = x.0; type = x.1 }) c.args.names.now c.in-Some.later.now
    c.in-Some.first.now c.loop-name.name-index c.args.out.now.items c.print_declared.new.out.items c.loop-name.out.items
    (search rules) c.in_ok-print_declared.ensures (search rules) c.loop-name.invariant
