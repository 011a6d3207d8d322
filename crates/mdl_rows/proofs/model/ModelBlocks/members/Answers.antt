use Rattle.mdl_rows.specs.Held.{IsAmong, all_seen}
use Rattle.mdl_rows.proofs.BlockLemmas.{of-all}
use Rattle.mdl_rows.proofs.model.ModelBlocks.members.Goals as goal

pub member-requires-clause-among : goal.member-requires-clause-among
member-requires-clause-among c =
    of-all (IsAmong (all_seen c.args.self.now.blocks.items)) c.args.own.now c.loop-block.block-index c.block-item.result
    c.requires.among c.loop-block-test.true
    c.block-item.is
