use Rattle.modules_profile.proofs.LeastProfile as least
use Rattle.modules_profile.proofs.laws.profiles_are_least.Goals as goal

pub returns : goal.returns
returns c = least.profiles_are_least c.needs_are_least.ensures
