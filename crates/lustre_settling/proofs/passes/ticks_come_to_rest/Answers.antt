use Rattle.lustre_settling.proofs.lemmas.Settled.{ticks_come_to_rest}
use Rattle.lustre_settling.proofs.passes.ticks_come_to_rest.Goals as goal

pub returns : goal.returns
returns c = ticks_come_to_rest
