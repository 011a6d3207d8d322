use Rattle.std.proofs.Common.{◌≡◌, take, map, slice_get}
use Rattle.c_interpreter.specs.Slots.{number_in}
use Rattle.c_interpreter.proofs.roots.put_outputs.Given as goal

abbrev pub invariant-loop-i : goal.invariant-loop-i
invariant-loop-i l = take l.i l.out ≡ map (λ f. number_in l.numbers (slice_get l.slots f)) (take l.i l.fields)
