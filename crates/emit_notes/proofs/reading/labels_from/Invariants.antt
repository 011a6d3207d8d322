use Rattle.std.proofs.Common.{◌≡◌, take}
use Rattle.std.specs.Prelude.{filter_map}
use Rattle.emit_notes.specs.Sections.{all_seen, label_said}
use Rattle.emit_notes.proofs.reading.labels_from.Given as goal

abbrev pub invariant-loop-placed : goal.invariant-loop-placed
invariant-loop-placed l = l.labels.items ≡ filter_map (label_said l.defaults) (all_seen (take l.placed-index l.sections))
