use Rattle.lustre_order.specs.OrderLaws.{Passing}
use Rattle.lustre_order.proofs.lemmas.ReadLaws.{values_are_in_order}
use Rattle.lustre_order.proofs.laws.values_are_in_order.Goals as goal

pub returns : goal.returns
returns c = λ r s b test. values_are_in_order r s b (Passing test)
