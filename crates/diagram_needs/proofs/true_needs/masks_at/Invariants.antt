use Rattle.std.proofs.Common.{◌≡◌, ◌<◌, ◌^◌, slice_index, take}
use Rattle.std.specs.Int.Bits.{bit_or}
use Rattle.std.specs.List.{AllZip}
use Rattle.diagram_needs.proofs.true_needs.masks_at.Given as goal

abbrev pub invariant-loop-b : goal.invariant-loop-b
invariant-loop-b l =
    AllZip (λ b mask. (mask ≡ bit_or (slice_index l.reached b) l.control) × (mask < 2 ^ 64))
    (take l.b-index l.rows) l.masks.items
