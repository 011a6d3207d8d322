use Rattle.mdl_blocks.proofs.lemmas.Signs.{mask_of-pluses}
use Rattle.mdl_blocks.proofs.signs.pluses.Goals as goal

pub returns : goal.returns
returns c = mask_of-pluses c.args.count
