use Rattle.std.proofs.Common.{◌≡◌, filter, map, take}
use Rattle.base_core.specs.Ports.{has_bit}
use Rattle.modules_profile.proofs.entries.taken.Given as goal

abbrev pub invariant-loop-bit : goal.invariant-loop-bit
invariant-loop-bit l = l.wires.items ≡ map (λ e. e.1) (filter (λ e. has_bit l.function.inputs e.0) (take l.bit-index l.entries))
