use Rattle.std.proofs.Common.{◌≡◌, ◌++◌, drop, map}
use Rattle.mdl_wiring.specs.Members.{members_seen}
use Rattle.mdl_rows.specs.Wires.{member_of}
use Rattle.mdl_rows.specs.Held.{all_seen}
use Rattle.mdl_rows.proofs.model.ModelBlocks.members.Given as goal

abbrev pub invariant-loop-block : goal.invariant-loop-block
invariant-loop-block l =
    let blocks = all_seen l.fn.self.blocks.items in
    members_seen l.members.items ++ map (member_of blocks) (all_seen (drop l.block-index l.own))
    ≡ map (member_of blocks) (all_seen l.fn.own)
