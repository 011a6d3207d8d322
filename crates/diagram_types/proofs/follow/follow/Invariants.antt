use Rattle.std.proofs.Common.{◌≡◌, sum_by, cond}
use Rattle.diagram_meaning.specs.TypeRefusals.{followed_type}
use Rattle.diagram_types.specs.Marks.{is_new}
use Rattle.diagram_types.specs.Walks.{AreMarks, IsPath}
use Rattle.diagram_types.proofs.follow.follow.Given as goal

abbrev pub invariant-walk : goal.invariant-walk
invariant-walk l = record {
  marks : AreMarks l.rows l.marks l.path.items;
  path : IsPath l.rows l.path.items l.at;
  same_type : followed_type l.rows l.fn.start ≡ followed_type l.rows l.at;
}

abbrev pub decreases-walk : goal.decreases-walk
decreases-walk l = sum_by (λ m. cond (is_new m) 1 0) l.marks
