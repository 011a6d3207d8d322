use Rattle.std.proofs.Common.{sym, subst}
use Rattle.mdl_rows.specs.Held.{IsThere}
use Rattle.mdl_systems.specs.declared.placed.PlacedBlock.{PlacedBlock}
use Rattle.mdl_rows.proofs.BlockLemmas.{owner-fits}
use Rattle.mdl_rows.proofs.blocks.numbered.Goals as goal

pub narrow-requires : goal.narrow-requires
narrow-requires c =
    let b = c.index-blocks-number.result in
    subst (λ (x : PlacedBlock). IsThere 4_294_967_296 x.owner) (sym c.index-blocks-number.is)
    (owner-fits c.args.blocks.now c.loop-number.number b c.requires.blocks c.requires.at_most c.loop-number-test.true)
