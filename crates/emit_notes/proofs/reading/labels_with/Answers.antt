use Rattle.std.proofs.Common.{◌≡◌, subst, List}
use Rattle.std.specs.Prelude.{IfOk}
use Rattle.mdl_systems.specs.Reading.{model_seen}
use Rattle.emit_notes.specs.declared.labels.Label.{Label}
use Rattle.emit_notes.proofs.ReadingLemmas.{accepted-by, labels-by}
use Rattle.emit_notes.proofs.reading.labels_with.Goals as goal

pub labels_by-requires : goal.labels_by-requires
labels_by-requires c =
    accepted-by c.reading_is_by_defaults.ensures c.args.defaults.now (model_seen c.args.found) c.requires.defaults c.requires.accepted

pub returns : goal.returns
returns c =
    subst (λ (ls : List Label). IfOk c.labels_by.result (λ v. v.items ≡ ls))
    (labels-by c.reading_is_by_defaults.ensures c.args.defaults.now (model_seen c.args.found) c.requires.defaults)
    c.labels_by.ensures
