use Rattle.std.proofs.Common.{take}
use Rattle.mdl_wiring.specs.Held.{AreInputsOf, ends_seen}
use Rattle.mdl_wiring.proofs.inputs.inputs_of.Given as goal

abbrev pub invariant-loop-place : goal.invariant-loop-place
invariant-loop-place l = AreInputsOf (ends_seen (take l.place l.ends)) l.inputs
