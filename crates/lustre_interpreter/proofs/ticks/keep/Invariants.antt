use Rattle.std.proofs.Common.{◌≡◌, map, take, Some}
use Rattle.lustre_interpreter.proofs.ticks.keep.Given as goal

abbrev pub invariant-loop-k : goal.invariant-loop-k
invariant-loop-k l = map Some (take l.k l.into) ≡ take l.k l.values
