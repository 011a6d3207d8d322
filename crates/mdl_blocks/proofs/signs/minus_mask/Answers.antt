use Rattle.mdl_blocks.proofs.lemmas.Signs.{minus_mask-fits}
use Rattle.mdl_blocks.proofs.signs.minus_mask.Goals as goal

pub with_sign-mask-requires : goal.with_sign-mask-requires
with_sign-mask-requires c = minus_mask-fits c.loop-at.at c.args.text.now c.loop-at.mask c.requires c.loop-at.invariant.1
