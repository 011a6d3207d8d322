use Rattle.base_fixed_point.proofs.lemmas.ConversionLaws.{conversion_is_one}
use Rattle.base_fixed_point.proofs.laws.conversion_is_one.Goals as goal

pub returns : goal.returns
returns c = conversion_is_one
