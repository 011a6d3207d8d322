use Rattle.emit_notes.proofs.NoteLaws.{notes_are_of_blocks}
use Rattle.emit_notes.proofs.laws.notes_are_of_blocks.Goals as goal

pub returns : goal.returns
returns c = notes_are_of_blocks
