use Rattle.tool_ending_laws.proofs.FaultStatuses as proof
use Rattle.tool_ending_laws.proofs.laws.five_is_read_fault.Goals as goal

pub returns : goal.returns
returns c = proof.five_is_read_fault
