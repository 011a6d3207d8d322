use Rattle.lustre_settling.proofs.lemmas.Ordered.{passes_settle}
use Rattle.lustre_settling.proofs.passes.passes_settle.Goals as goal

pub returns : goal.returns
returns c = passes_settle
