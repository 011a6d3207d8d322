use Rattle.std.proofs.Common.{◌≡◌, ◌++◌, drop}
use Rattle.mdl_table.proofs.systems.wires_of.Given as goal

abbrev pub invariant-loop-number : goal.invariant-loop-number
invariant-loop-number l = l.wires.items ++ drop l.number-index l.numbers ≡ l.fn.numbers
