use Rattle.lustre_lines.proofs.RightFiles.{lines-mean-nothing}
use Rattle.lustre_lines.proofs.laws.lines_mean_nothing.Goals as goal

pub returns : goal.returns
returns c = lines-mean-nothing
