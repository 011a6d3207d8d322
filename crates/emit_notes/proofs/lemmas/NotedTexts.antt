-- Code with notes by the labels of a text has the notes of its blocks.
use Rattle.std.proofs.Common.{ℕ, List, subst}
use Rattle.emit_notes.specs.declared.labels.Label.{Label}
use Rattle.emit_notes.specs.declared.labels.Labels.{Labels}
use Rattle.emit_notes.specs.Labels.{AreLabelsOf, labels_seen}
use Rattle.emit_notes.specs.ModelNotes.{IsNotedBy, HasNotesOf}

pub notes-of : (text code : List ℕ) (labels : Labels) → AreLabelsOf text labels → IsNotedBy (labels_seen labels) code → HasNotesOf text code
notes-of text code labels labelled noted = record {
  file = labelled.file;
  is_file = labelled.is_file;
  model = labelled.model;
  is_model = labelled.is_model;
  noted = subst (λ (ls : List Label). IsNotedBy ls code) labelled.labels_are noted;
}
