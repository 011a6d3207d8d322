use Rattle.c_semantics.proofs.lemmas.LinesAside as aside
use Rattle.c_semantics.proofs.laws.lines_mean_nothing.Goals as goal

pub returns : goal.returns
returns c = aside.lines_mean_nothing
