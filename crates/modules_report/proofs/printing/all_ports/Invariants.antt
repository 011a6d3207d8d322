use Rattle.std.proofs.Common.{◌≡◌, ◌-◌, map}
use Rattle.std.specs.List.{range_with_len}
use Rattle.base_core.specs.declared.Port.TheVariants.{Number}
use Rattle.modules_report.proofs.printing.all_ports.Given as goal

abbrev pub invariant-loop-k : goal.invariant-loop-k
invariant-loop-k l = l.ports.items ≡ map Number (range_with_len 1 (l.k - 1))
