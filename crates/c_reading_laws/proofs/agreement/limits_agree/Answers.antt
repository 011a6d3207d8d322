use Rattle.c_reading_laws.proofs.Limits.{limits_agree}
use Rattle.c_reading_laws.proofs.agreement.limits_agree.Goals as goal

pub returns : goal.returns
returns c = limits_agree
