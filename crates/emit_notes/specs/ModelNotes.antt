-- The notes on the code of a model are those of its blocks.
use Rattle.std.specs.Prelude.{◌≡◌, ℕ, ◌^◌, ◌<◌, List, [], ◌++◌, length, Some, Ok, slice_get, codes}
use Rattle.mdl_tree.specs.Spelling.{Items}
use Rattle.diagram_meaning.specs.Rows.{row_at}
use Rattle.diagram_meaning.specs.RowTable.{RowTable}
use Rattle.mdl_systems.specs.Models as found
use Rattle.mdl_rows.specs.Models.{Block}
use Rattle.diagram_verdict.specs.Files.{IsFile, IsModelWith}
use Rattle.c_syntax.specs.Tree.{ProgramTree, StructTree, FieldTree}
use Rattle.c_syntax.specs.Lawful.{IsLawful}
use Rattle.emit_shape.specs.Names.{value_name, memory_name, place_name, taken_name, child_name}
use Rattle.c_printer.specs.Notes.{notes_on, note_at}
use Rattle.c_printer.specs.Printing.{noted_bytes}
use Rattle.emit_notes.specs.declared.labels.Label.{Label}
use Rattle.emit_notes.specs.Labels.{label_of, model_blocks, model_labels}
use Rattle.emit_notes.specs.BlockNotes.{block_note}
use Rattle.emit_notes.specs.ProgramNotes.{notes_of}

-- the field with this name for a row has the note of the row's block, after some words
abbrev pub AreNotedBy : (name : ℕ → List ℕ) (words : List ℕ) → Type 0
AreNotedBy name words =
    (model : found.Model) (p : ProgramTree) (k f r : ℕ) (s : StructTree) (field : FieldTree)
    (b : Block) →
    r < 2 ^ 64 → slice_get p.structs k ≡ Some s → slice_get s.fields f ≡ Some field →
    field.name ≡ name r → slice_get (model_blocks model) r ≡ Some b →
    note_at (notes_on (notes_of (model_labels model) p) k).fields f ≡ words ++ block_note (label_of b)

-- so it is with the value of a row and what it remembers, and with the system inside it
pub record NotesAreOfBlocks : Type 0 where
  pub values : AreNotedBy value_name []
  pub memories : AreNotedBy memory_name (codes "memory of ")
  pub places : AreNotedBy place_name (codes "oldest sample of ")
  pub counts : AreNotedBy taken_name (codes "samples taken by ")
  pub systems : AreNotedBy child_name []

-- the bytes are the text of a lawful program, with the notes of rows with these labels
pub record IsNotedBy (labels : List Label) (code : List ℕ) : Type 0 where
  pub program : ProgramTree
  pub lawful : IsLawful program
  pub code_is : code ≡ noted_bytes (notes_of labels program) program

-- the same with the notes of the blocks of the model in a text
pub record HasNotesOf (text code : List ℕ) : Type 0 where
  pub file : Items
  pub is_file : IsFile text file
  pub model : found.Model
  pub is_model : found.model_of file ≡ Ok model
  pub noted : IsNotedBy (model_labels model) code

-- each row of an accepted text has its block, with the row's number and line
abbrev pub RowsHaveBlocks : Type 0
RowsHaveBlocks =
    (text : List ℕ) (table : RowTable) (file : Items) (model : found.Model) (r : ℕ) →
    IsModelWith text table → IsFile text file → found.model_of file ≡ Ok model →
    r < length table.rows →
    (b : Block) × (slice_get (model_blocks model) r ≡ Some b) × (b.number ≡ r)
    × (b.text.line ≡ (row_at table.rows r).place.line)
