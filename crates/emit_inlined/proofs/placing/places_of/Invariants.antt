use Rattle.std.proofs.Common.{◌≡◌, ◌+◌}
use Rattle.emit_inlined.specs.Inlined.{kept_before}
use Rattle.emit_inlined.specs.Steps.{is_kept}
use Rattle.emit_pruned.proofs.lemmas.Places.{counts}
use Rattle.emit_inlined.proofs.placing.places_of.Given as goal

abbrev pub invariant-loop-is_inlined : goal.invariant-loop-is_inlined
invariant-loop-is_inlined l = record {
  before : l.before.items ≡ counts (is_kept l.inlined) 0 l.is_inlined-index;
  kept : l.kept ≡ kept_before (is_kept l.inlined) l.is_inlined-index;
  sum : l.kept + l.dropped ≡ l.is_inlined-index;
}
