use Rattle.std.proofs.Common.{◌≡◌}
use Rattle.emit_pruned.specs.Marks.{flag_at}
use Rattle.emit_pruned.specs.Pruned.{kept_before}
use Rattle.emit_pruned.proofs.lemmas.Places.{counts}
use Rattle.emit_pruned.proofs.placing.places_of.Given as goal

abbrev pub invariant-loop-is_needed : goal.invariant-loop-is_needed
invariant-loop-is_needed l = record {
  before : l.before.items ≡ counts (flag_at l.needed) 0 l.is_needed-index;
  kept : l.kept ≡ kept_before (flag_at l.needed) l.is_needed-index;
}
