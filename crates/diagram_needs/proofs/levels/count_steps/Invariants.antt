use Rattle.std.proofs.Common.{◌≡◌, ◌+◌, ◌≤◌, length}
use Rattle.diagram_needs.specs.Needed.{needed}
use Rattle.diagram_needs.specs.Levels.{AreLevels, IsFront, unreached}
use Rattle.diagram_needs.proofs.levels.count_steps.Given as goal

abbrev pub invariant-levels : goal.invariant-levels
invariant-levels l = record {
  len : length l.steps ≡ l.g.n;
  levels : AreLevels (needed l.g) l.z l.k l.steps;
  front : IsFront l.z l.k l.steps l.front.items;
  room : l.k + unreached l.steps ≤ l.g.n;
}

abbrev pub decreases-levels : goal.decreases-levels
decreases-levels l = unreached l.steps
