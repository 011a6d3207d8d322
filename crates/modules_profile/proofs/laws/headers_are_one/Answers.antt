use Rattle.modules_profile.proofs.OneProfile.{headers_are_one}
use Rattle.modules_profile.proofs.laws.headers_are_one.Goals as goal

pub returns : goal.returns
returns c = headers_are_one
