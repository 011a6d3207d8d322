use Rattle.std.proofs.Common.{◌≡◌, map, take}
use Rattle.lustre_expressions.proofs.lookup.bytes_of.Given as goal

abbrev pub invariant-loop-name : goal.invariant-loop-name
invariant-loop-name l = map (λ x. x.now) l.all.items ≡ map (λ x. x.0) (take l.name-index l.declared)
