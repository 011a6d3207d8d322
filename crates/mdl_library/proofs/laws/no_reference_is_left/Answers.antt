use Rattle.mdl_library.proofs.WrittenReferences.{no_reference_is_left}
use Rattle.mdl_library.proofs.laws.no_reference_is_left.Goals as goal

pub returns : goal.returns
returns c = no_reference_is_left
