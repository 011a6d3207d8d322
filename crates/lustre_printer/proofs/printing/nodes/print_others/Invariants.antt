use Rattle.std.proofs.Common.{◌≡◌, ◌++◌, take, codes}
use Rattle.std.specs.Prelude.{flat_map}
use Rattle.lustre_printer.specs.Printing.{declared_bytes}
use Rattle.lustre_printer.proofs.printing.nodes.print_others.Given as goal

abbrev pub invariant-loop-name : goal.invariant-loop-name
invariant-loop-name l =
    l.out.items ≡ l.initial.out.items
    ++ flat_map (λ x. declared_bytes (record { text = x.0; type = x.1 }) ++ codes ";\n") (take l.name-index l.names)
