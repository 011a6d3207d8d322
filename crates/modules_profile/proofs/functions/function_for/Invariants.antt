use Rattle.std.proofs.Common.{◌≡◌, eqb, map, take}
use Rattle.modules_profile.specs.Functions.{mask_of}
use Rattle.modules_profile.proofs.functions.function_for.Given as goal

abbrev pub invariant-loop-k : goal.invariant-loop-k
invariant-loop-k l = l.outputs ≡ mask_of (map (λ n. eqb n l.inputs) (take l.k l.needs))
