use Rattle.std.proofs.Common.{◌≡◌, map, take}
use Rattle.c_printer.specs.Notes.{struct_notes_seen}
use Rattle.emit_notes.specs.BlockNotes.{struct_notes}
use Rattle.emit_notes.proofs.notes.notes_on_structs.Given as goal

abbrev pub invariant-loop-def : goal.invariant-loop-def
invariant-loop-def l = map struct_notes_seen l.notes.items ≡ map (struct_notes l.labels) (take l.def-index l.structs)
