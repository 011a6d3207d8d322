use Rattle.lustre_settling.proofs.lemmas.Ordered.{ordered_ticks_are_done}
use Rattle.lustre_settling.proofs.flows.ordered_ticks_are_done.Goals as goal

pub returns : goal.returns
returns c = ordered_ticks_are_done
