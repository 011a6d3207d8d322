use Rattle.mdl_library.proofs.WrittenSizes.{sizes_are_right}
use Rattle.mdl_library.proofs.laws.sizes_are_right.Goals as goal

pub returns : goal.returns
returns c = sizes_are_right
