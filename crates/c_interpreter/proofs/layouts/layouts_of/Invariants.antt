use Rattle.std.proofs.Common.{◌≡◌, take, []}
use Rattle.c_interpreter.specs.Layouts.{layouts_of}
use Rattle.c_interpreter.proofs.layouts.layouts_of.Given as goal

abbrev pub invariant-loop-s : goal.invariant-loop-s
invariant-loop-s l = l.layouts.items ≡ layouts_of [] (take l.s-index l.structs)
