use Rattle.std.proofs.Common.{◌≡◌, map, take}
use Rattle.base_core.specs.Interface.{different}
use Rattle.modules_profile.specs.Functions.{function_for}
use Rattle.modules_profile.proofs.functions.functions_of.Given as goal

abbrev pub invariant-loop-k : goal.invariant-loop-k
invariant-loop-k l = l.functions.items ≡ map (function_for l.needs) (different (take l.k l.needs))
