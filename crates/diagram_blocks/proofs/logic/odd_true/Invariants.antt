use Rattle.std.proofs.Common.{◌≡◌, map, take}
use Rattle.diagram_blocks.specs.Value.{is_true, odd_trues}
use Rattle.diagram_blocks.proofs.logic.odd_true.Given as goal

abbrev pub invariant-loop-v : goal.invariant-loop-v
invariant-loop-v l = l.odd ≡ odd_trues (map is_true (take l.v-index l.inputs))
