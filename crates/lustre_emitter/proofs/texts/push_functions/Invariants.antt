use Rattle.std.proofs.Common.{◌≡◌, ◌++◌, map, take}
use Rattle.lustre_emitter.proofs.texts.push_functions.Given as goal

abbrev pub invariant-loop-function : goal.invariant-loop-function
invariant-loop-function l = l.texts.items ≡ l.fn.texts.items ++ map (λ f. f.name) (take l.function-index l.functions)
