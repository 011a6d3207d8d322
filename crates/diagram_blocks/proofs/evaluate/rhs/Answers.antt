use Rattle.std.proofs.Common.{rules, w64, FitsSigned}
use Rattle.std.proofs.lemmas.Int.{to_z-of_z}
use Rattle.diagram_blocks.proofs.Evaluable.{value_in_type}
use Rattle.diagram_blocks.proofs.evaluate.rhs.Goals as goal

pub returns-clause-in_type : goal.returns-clause-in_type
returns-clause-in_type c =
    let fits : FitsSigned w64 c.computed.result = search rules in
    let fits_memory : FitsSigned w64 c.args.memory = c.ranges.memory in
    let value = simp to_z-of_z at c.computed.ensures in
    simp to_z-of_z (value_in_type c.args.op.now c.args.inputs.now c.args.memory c.computed.result value)
