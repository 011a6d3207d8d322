use Rattle.lustre_reading_laws.proofs.lemmas.Readings.{readings_are_lawful}
use Rattle.lustre_reading_laws.proofs.laws.readings_are_lawful.Goals as goal

pub returns : goal.returns
returns c = readings_are_lawful
