use Rattle.lustre_reading_laws.proofs.lemmas.Readings.{texts_are_judged}
use Rattle.lustre_reading_laws.proofs.laws.texts_are_judged.Goals as goal

pub returns : goal.returns
returns c = texts_are_judged
