use Rattle.modules_profile.proofs.OneProfile.{profiles_are_one}
use Rattle.modules_profile.proofs.laws.profiles_are_one.Goals as goal

pub returns : goal.returns
returns c = profiles_are_one
