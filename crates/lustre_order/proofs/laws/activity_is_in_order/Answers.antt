use Rattle.lustre_order.specs.OrderLaws.{Passing}
use Rattle.lustre_order.proofs.lemmas.ReadLaws.{activity_is_in_order}
use Rattle.lustre_order.proofs.laws.activity_is_in_order.Goals as goal

pub returns : goal.returns
returns c = λ r s test. activity_is_in_order r s (Passing test)
