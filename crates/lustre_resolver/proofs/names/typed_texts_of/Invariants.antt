use Rattle.std.proofs.Common.{◌≡◌, map, take}
use Rattle.lustre_resolver.proofs.names.typed_texts_of.Given as goal

abbrev pub invariant-loop-d : goal.invariant-loop-d
invariant-loop-d l = l.typed.items ≡ map (λ d. (d.name.now, d.is_bool)) (take l.d-index l.declared)
