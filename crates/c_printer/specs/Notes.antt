-- Notes on a program: what its structs, fields and procedures are of.
use Rattle.std.specs.Prelude.{ℕ, List, [], map, slice_index_or}
use Rattle.c_printer.specs.declared.notes.StructNotes.{StructNotes as StructNotesGiven}
use Rattle.c_printer.specs.declared.notes.Notes.{Notes as NotesGiven}

-- the note on a struct, and those on its fields by their positions; an empty one is none
pub record StructNotes : Type 0 where
  pub above : List ℕ
  pub fields : List (List ℕ)

-- the notes on structs and procedures by their positions
pub record Notes : Type 0 where
  pub structs : List StructNotes
  pub procedures : List (List ℕ)

-- the notes that these values hold
abbrev pub struct_notes_seen : StructNotesGiven → StructNotes
struct_notes_seen notes =
    record { above = notes.above.items; fields = map (λ note. note.items) notes.fields.items }

abbrev pub notes_seen : NotesGiven → Notes
notes_seen notes =
    record {
      structs = map struct_notes_seen notes.structs.items;
      procedures = map (λ note. note.items) notes.procedures.items;
    }

-- ---- By positions

abbrev pub note_at : List (List ℕ) → ℕ → List ℕ
note_at notes k = slice_index_or notes k []

abbrev pub no_struct_notes : StructNotes
no_struct_notes = record { above = []; fields = [] }

abbrev pub notes_on : Notes → ℕ → StructNotes
notes_on notes k = slice_index_or notes.structs k no_struct_notes

-- a program without notes
abbrev pub no_notes : Notes
no_notes = record { structs = []; procedures = [] }
