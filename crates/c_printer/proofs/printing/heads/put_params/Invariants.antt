use Rattle.std.proofs.Common.{◌≡◌, ◌++◌, take}
use Rattle.std.specs.List.{flat_map}
use Rattle.c_printer.specs.Printing.{param_bytes}
use Rattle.c_printer.proofs.printing.heads.put_params.Given as goal

abbrev pub invariant-loop-name : goal.invariant-loop-name
invariant-loop-name l =
    l.out.items ≡ l.initial.out.items ++ flat_map (λ q. param_bytes (record { name = q.0; type = q.1 }))
    (take l.name-index l.params)
