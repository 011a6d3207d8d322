use Rattle.std.proofs.Common.{◌∙◌}
use Rattle.mdl_blocks.proofs.lemmas.Signs.{count-signs}
use Rattle.mdl_blocks.proofs.signs.sign_count.Goals as goal

pub returns : goal.returns
returns c = c.unbarred_count.ensures ∙ count-signs c.args.text.now
