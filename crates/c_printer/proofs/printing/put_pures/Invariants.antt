use Rattle.std.proofs.Common.{◌≡◌, ◌++◌, take}
use Rattle.std.specs.List.{flat_map}
use Rattle.c_syntax.specs.Plain.{pure_tree, program_tree}
use Rattle.c_printer.specs.Printing.{pure_bytes}
use Rattle.c_printer.proofs.printing.put_pures.Given as goal

abbrev pub invariant-loop-pure : goal.invariant-loop-pure
invariant-loop-pure l =
    l.out.items ≡ l.initial.out.items ++ flat_map (λ q. pure_bytes (program_tree l.program) (pure_tree q))
    (take l.pure-index l.program.pure.items)
