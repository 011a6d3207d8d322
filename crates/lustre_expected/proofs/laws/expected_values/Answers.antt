use Rattle.lustre_expected.proofs.ExpectedValues.{expected_values}
use Rattle.lustre_expected.proofs.laws.expected_values.Goals as goal

pub returns : goal.returns
returns c = expected_values
