use Rattle.modules_report.proofs.Stopping.{stops_are_faults}
use Rattle.modules_report.proofs.laws.stops_are_faults.Goals as goal

pub returns : goal.returns
returns c = stops_are_faults
