use Rattle.lustre_settling.proofs.lemmas.Ordered.{one_value_each}
use Rattle.lustre_settling.proofs.passes.one_value_each.Goals as goal

pub returns : goal.returns
returns c = one_value_each
