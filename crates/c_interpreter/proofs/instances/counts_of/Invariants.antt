use Rattle.std.proofs.Common.{◌≡◌, take, []}
use Rattle.c_interpreter.specs.Numbering.{counts_of}
use Rattle.c_interpreter.proofs.instances.counts_of.Given as goal

abbrev pub invariant-loop-s : goal.invariant-loop-s
invariant-loop-s l = l.counts.items ≡ counts_of [] (take l.s-index l.structs)
