use Rattle.std.proofs.Common.{◌≡◌, ◌<◌, All, map}
use Rattle.std.specs.List.{range_with_len}
use Rattle.base_core.specs.declared.base.Port.TheVariants.{Number}
use Rattle.base_core.specs.Ports.{bit_of}
use Rattle.emit_nodes.proofs.taken.ports_of.Given as goal

abbrev pub invariant-loop-k : goal.invariant-loop-k
invariant-loop-k l = (l.ports.items ≡ map Number (range_with_len 1 l.k)) × All (λ p. bit_of p < 64) l.ports.items
