use Rattle.std.proofs.Common.{◌≡◌, take}
use Rattle.modules_profile.specs.Headers.{taken_by_function}
use Rattle.emit_nodes.proofs.taken.taken_by.Given as goal

abbrev pub invariant-loop-k : goal.invariant-loop-k
invariant-loop-k l = l.taken.items ≡ taken_by_function l.function (take l.k l.inputs) l.leaves
