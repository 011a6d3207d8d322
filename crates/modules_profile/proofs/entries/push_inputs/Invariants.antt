use Rattle.std.proofs.Common.{◌≡◌, ◌++◌, take}
use Rattle.std.specs.List.{enumerate_from}
use Rattle.modules_profile.proofs.entries.push_inputs.Given as goal

abbrev pub invariant-loop-bit : goal.invariant-loop-bit
invariant-loop-bit l = l.entries.items ≡ l.initial.entries.items ++ enumerate_from 0 (take l.bit l.wires)
