use Rattle.std.proofs.Common.{◌≡◌, ◌++◌, map, take}
use Rattle.std.specs.List.{enumerate_from}
use Rattle.c_syntax.specs.Plain.{procedure_tree}
use Rattle.emit_system_spec.specs.EmittedCode.{function_procedure}
use Rattle.emit_system.proofs.procedures.push_functions.Given as goal

abbrev pub invariant-loop-k : goal.invariant-loop-k
invariant-loop-k l =
    map procedure_tree l.procedures.items ≡ map procedure_tree l.initial.procedures.items
    ++ map (function_procedure l.layout.local l.layout.profile l.layout.schedule) (enumerate_from 1 (take l.k l.functions))
