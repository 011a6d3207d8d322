use Rattle.base_fixed_point.proofs.lemmas.RoundingLaws.{rounding_is_one}
use Rattle.base_fixed_point.proofs.laws.rounding_is_one.Goals as goal

pub returns : goal.returns
returns c = rounding_is_one
