use Rattle.lustre_reading_laws.proofs.lemmas.Readings.{faultless_is_spelled}
use Rattle.lustre_reading_laws.proofs.laws.faultless_is_spelled.Goals as goal

pub returns : goal.returns
returns c = faultless_is_spelled
