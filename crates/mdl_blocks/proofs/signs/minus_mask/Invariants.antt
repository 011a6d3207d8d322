use Rattle.std.proofs.Common.{◌≡◌, ◌≤◌, length, drop}
use Rattle.mdl_blocks.specs.Signs.{minus_mask}
use Rattle.mdl_blocks.specs.Signs.{signs_of}
use Rattle.mdl_blocks.proofs.signs.minus_mask.Given as goal

abbrev pub invariant-loop-at : goal.invariant-loop-at
invariant-loop-at l = (l.at ≤ length l.text) × (l.mask ≡ minus_mask (signs_of (drop l.at l.text)))

abbrev pub decreases-loop-at : goal.decreases-loop-at
decreases-loop-at l = l.at
