use Rattle.std.proofs.Common.{◌≡◌, map, take}
use Rattle.diagram_meaning.specs.Diagram.{type_at}
use Rattle.modules_profile.proofs.headers.outputs.Given as goal

abbrev pub invariant-loop-o : goal.invariant-loop-o
invariant-loop-o l = l.outputs.items ≡ map (λ o. (o, type_at l.r.types o)) (take l.o-index l.rows)
