use Rattle.std.proofs.Common.{◌≡◌, map, take}
use Rattle.modules_profile.specs.Headers.{given_by_function}
use Rattle.modules_profile.proofs.entries.given.Given as goal

abbrev pub invariant-loop-bit : goal.invariant-loop-bit
invariant-loop-bit l = l.wires.items ≡ given_by_function l.function (map (λ o. o.0) (take l.bit l.outputs))
