use Rattle.modules_profile.proofs.OwnHeaders.{header_is_of_own_rows}
use Rattle.modules_profile.proofs.laws.header_is_of_own_rows.Goals as goal

pub returns : goal.returns
returns c = header_is_of_own_rows
