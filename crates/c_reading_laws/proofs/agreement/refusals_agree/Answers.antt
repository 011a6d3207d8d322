use Rattle.c_reading_laws.proofs.lemmas.Readings.{refusals_agree}
use Rattle.c_reading_laws.proofs.agreement.refusals_agree.Goals as goal

pub returns : goal.returns
returns c = refusals_agree
