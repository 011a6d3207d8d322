use Rattle.std.proofs.Common.{◌≡◌, [], map}
use Rattle.std.specs.List.{range_with_len}
use Rattle.diagram_meaning.specs.TypeRefusals.{followed_type}
use Rattle.diagram_types.specs.Walks.{AreMarks}
use Rattle.diagram_types.proofs.follow.follow_types.Given as goal

abbrev pub invariant-loop-b : goal.invariant-loop-b
invariant-loop-b l = record {
  marks : AreMarks l.rows l.marks [];
  types : l.types.items ≡ map (followed_type l.rows) (range_with_len 0 l.b);
}
