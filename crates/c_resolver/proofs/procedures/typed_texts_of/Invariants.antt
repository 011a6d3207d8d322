use Rattle.std.proofs.Common.{◌≡◌, map, take}
use Rattle.c_resolver.proofs.procedures.typed_texts_of.Given as goal

abbrev pub invariant-loop-param : goal.invariant-loop-param
invariant-loop-param l = l.typed.items ≡ map (λ q. (q.name.now, q.ty)) (take l.param-index l.params)
