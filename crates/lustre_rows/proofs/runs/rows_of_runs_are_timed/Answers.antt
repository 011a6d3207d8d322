use Rattle.lustre_rows.proofs.RunRows.{rows_of_runs_are_timed}
use Rattle.lustre_rows.proofs.runs.rows_of_runs_are_timed.Goals as goal

pub returns : goal.returns
returns c = rows_of_runs_are_timed c.hits_repeat.ensures
