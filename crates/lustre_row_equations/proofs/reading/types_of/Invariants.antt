use Rattle.std.proofs.Common.{◌≡◌, map, take}
use Rattle.diagram_meaning.specs.Diagram.{type_at}
use Rattle.lustre_row_equations.proofs.reading.types_of.Given as goal

abbrev pub invariant-loop-b : goal.invariant-loop-b
invariant-loop-b l = l.types.items ≡ map (type_at l.r.types) (take l.b-index l.rows)
