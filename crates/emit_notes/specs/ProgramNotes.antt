-- The notes on a program.
use Rattle.std.specs.Prelude.{List, [], map}
use Rattle.c_syntax.specs.Tree.{ProgramTree}
use Rattle.c_printer.specs.Notes.{Notes}
use Rattle.emit_notes.specs.declared.labels.Label.{Label}
use Rattle.emit_notes.specs.BlockNotes.{struct_notes}
use Rattle.emit_notes.specs.FunctionNotes.{procedure_notes}

-- of a model whose rows have these labels
abbrev pub notes_of : List Label → ProgramTree → Notes
notes_of labels p =
    record {
      structs = map (struct_notes labels) p.structs;
      procedures = procedure_notes labels p.structs [] p.procedures;
    }
