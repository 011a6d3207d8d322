use Rattle.std.proofs.Common.{◌≡◌, map, take}
use Rattle.diagram_meaning.specs.ResolvedTree.{diagram_of}
use Rattle.modules_profile.specs.Locals.{local_row}
use Rattle.modules_profile.proofs.local_rows.local_rows.Given as goal

abbrev pub invariant-loop-b : goal.invariant-loop-b
invariant-loop-b l = l.rows.items ≡ map (local_row (diagram_of l.r) l.r.times.delays) (take l.b-index l.own)
