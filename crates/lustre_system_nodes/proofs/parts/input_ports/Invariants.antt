use Rattle.std.proofs.Common.{◌≡◌, map}
use Rattle.std.specs.List.{range_with_len}
use Rattle.base_core.specs.declared.base.Port.TheVariants.{Number}
use Rattle.lustre_system_nodes.proofs.parts.input_ports.Given as goal

abbrev pub invariant-loop-k : goal.invariant-loop-k
invariant-loop-k l = l.list.items ≡ map Number (range_with_len 1 l.k)
