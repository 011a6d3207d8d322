use Rattle.std.proofs.Common.{◌≡◌, map, take}
use Rattle.lustre_expressions.proofs.lookup.bytes_of_texts.Given as goal

abbrev pub invariant-loop-text : goal.invariant-loop-text
invariant-loop-text l = map (λ x. x.now) l.all.items ≡ take l.text-index l.texts
