use Rattle.std.proofs.Common.{◌≡◌, ℕ, Option, length, map, take}
use Rattle.mdl_rows.specs.Models.{blocks_of}
use Rattle.mdl_rows.specs.Wires.{place_of}
use Rattle.mdl_rows.specs.Held.{IsThere, all_seen, group_of}
use Rattle.mdl_rows.proofs.groups.groups_of.Given as goal

abbrev pub invariant-loop-block : goal.invariant-loop-block
invariant-loop-block l =
    let blocks = all_seen l.fn.blocks in
    let taken = take l.block-index blocks in record {
      groups : (o : Option ℕ) → IsThere (length blocks) o → all_seen (group_of l.groups o) ≡ blocks_of taken o;
      count : length l.groups.inner.items ≡ length blocks;
      places : l.groups.places.items ≡ map (place_of blocks) taken;
    }
