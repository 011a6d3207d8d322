use Rattle.std.proofs.Common.{◌≡◌, map, take}
use Rattle.c_resolver.proofs.params.texts_of.Given as goal

abbrev pub invariant-loop-param : goal.invariant-loop-param
invariant-loop-param l = l.texts.items ≡ map (λ q. q.name.now) (take l.param-index l.params)
