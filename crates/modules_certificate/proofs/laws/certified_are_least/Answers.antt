use Rattle.modules_certificate.proofs.Least.{certified_are_least}
use Rattle.modules_certificate.proofs.laws.certified_are_least.Goals as goal

pub returns : goal.returns
returns c = certified_are_least c.needs_are_least.ensures
