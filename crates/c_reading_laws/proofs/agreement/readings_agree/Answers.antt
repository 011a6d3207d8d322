use Rattle.c_reading_laws.proofs.lemmas.Readings.{readings_agree}
use Rattle.c_reading_laws.proofs.agreement.readings_agree.Goals as goal

pub returns : goal.returns
returns c = readings_agree
