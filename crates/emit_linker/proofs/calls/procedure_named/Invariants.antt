use Rattle.std.proofs.Common.{◌≡◌, None, find, map, take, bytes_eq}
use Rattle.c_syntax.specs.Plain.{procedure_tree}
use Rattle.emit_linker.proofs.calls.procedure_named.Given as goal

abbrev pub invariant-loop-q : goal.invariant-loop-q
invariant-loop-q l = find (λ q. bytes_eq q.name l.name) (map procedure_tree (take l.q-index l.procedures)) ≡ None
