use Rattle.modules_profile.proofs.LawfulProofs.{locals_are_lawful}
use Rattle.modules_profile.proofs.laws.locals_are_lawful.Goals as goal

pub returns : goal.returns
returns c = locals_are_lawful
