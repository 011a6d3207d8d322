use Rattle.diagram_typed_runs.proofs.TypedRuns as proof
use Rattle.diagram_typed_runs.proofs.laws.ticks_are_typed.Goals as goal

pub returns : goal.returns
returns c = proof.ticks_are_typed
