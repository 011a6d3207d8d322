use Rattle.lustre_rows.proofs.RunRows.{rows_of_runs_are_computed}
use Rattle.lustre_rows.proofs.runs.rows_of_runs_are_computed.Goals as goal

pub returns : goal.returns
returns c = rows_of_runs_are_computed c.ticks_are_typed.ensures
