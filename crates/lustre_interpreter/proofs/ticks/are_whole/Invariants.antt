use Rattle.std.proofs.Common.{◌≡◌, drop}
use Rattle.std.specs.List.{list_all}
use Rattle.lustre_flows.specs.Instances.{has_value}
use Rattle.lustre_interpreter.proofs.ticks.are_whole.Given as goal

abbrev pub invariant-loop-value : goal.invariant-loop-value
invariant-loop-value l = list_all has_value (drop l.value-index l.values) ≡ list_all has_value l.values
