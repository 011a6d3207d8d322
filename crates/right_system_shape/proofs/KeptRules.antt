-- The code of a system keeps the rules.
use Rattle.modules_profile.specs.NodeFacts.{LocalsAreLawful, NodesReachAsRows}
use Rattle.emit_row_code.specs.Laws.{RowsReadTheirLeaves}
use Rattle.right_system_shape.specs.Formed.{CodeKeepsRules}
use Rattle.right_system_shape.proofs.FunctionParams.{functions-have-params, groups-stand}
use Rattle.right_system_shape.proofs.ProcedureRules.{code-keeps-rules}
use Rattle.right_system_shape.proofs.Readable.{IsReadable, emitted-readable}

pub code_keeps_rules : LocalsAreLawful → NodesReachAsRows → RowsReadTheirLeaves → CodeKeepsRules
code_keeps_rules lawful reach reads local profile schedule is =
    let readable : IsReadable local = emitted-readable lawful local profile schedule is in
    code-keeps-rules local profile schedule readable (functions-have-params reach local profile schedule is readable)
    (groups-stand reach local profile schedule is readable) reads
