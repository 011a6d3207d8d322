use Rattle.std.proofs.Common.{◌≡◌, take}
use Rattle.std.specs.Prelude.{count_by}
use Rattle.tool_compiler.specs.Inputs.{is_root_inport}
use Rattle.tool_compiler.proofs.inputs.inport_count.Given as goal

abbrev pub invariant-loop-row : goal.invariant-loop-row
invariant-loop-row l = l.count ≡ count_by is_root_inport (take l.row-index l.rows)
