use Rattle.lustre_order.specs.OrderLaws.{Passing}
use Rattle.lustre_order.proofs.lemmas.ReadLaws.{triggers_are_in_order}
use Rattle.lustre_order.proofs.laws.triggers_are_in_order.Goals as goal

pub returns : goal.returns
returns c = λ r s test. triggers_are_in_order r s (Passing test)
