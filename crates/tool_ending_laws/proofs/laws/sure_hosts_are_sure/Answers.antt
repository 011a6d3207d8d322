use Rattle.tool_ending_laws.proofs.SureHosts.{sure-of}
use Rattle.tool_ending_laws.proofs.laws.sure_hosts_are_sure.Goals as goal

pub returns : goal.returns
returns c = sure-of
