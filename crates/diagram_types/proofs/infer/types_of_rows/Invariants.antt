use Rattle.std.proofs.Common.{◌≡◌, map}
use Rattle.std.specs.Prelude.{unwrap_or}
use Rattle.std.specs.List.{range_with_len}
use Rattle.base_fixed_point.specs.Types.{boolean}
use Rattle.diagram_meaning.specs.TypeRefusals.{type_of_row}
use Rattle.diagram_types.proofs.infer.types_of_rows.Given as goal

abbrev pub invariant-loop-b : goal.invariant-loop-b
invariant-loop-b l = l.types.items ≡ map (λ b. unwrap_or (type_of_row l.rows b) boolean) (range_with_len 0 l.b)
