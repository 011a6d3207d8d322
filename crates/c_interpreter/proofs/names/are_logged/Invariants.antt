use Rattle.std.proofs.Common.{◌≡◌, take, map}
use Rattle.c_semantics.specs.Machine.{is_interface}
use Rattle.c_interpreter.proofs.names.are_logged.Given as goal

abbrev pub invariant-loop-q : goal.invariant-loop-q
invariant-loop-q l = l.logged.items ≡ map (λ q. is_interface q.name) (take l.q-index l.procedures)
