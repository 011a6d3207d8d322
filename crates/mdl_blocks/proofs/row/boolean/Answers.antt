use Rattle.std.proofs.Common.{refl}
use Rattle.mdl_blocks.proofs.SameType.{type-equal}
use Rattle.mdl_blocks.proofs.row.boolean.Goals as goal

pub returns : goal.returns
returns c = type-equal _ _ refl
