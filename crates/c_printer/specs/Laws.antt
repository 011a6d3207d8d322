-- Notes are for the reader alone.
use Rattle.std.specs.Prelude.{◌≡◌, ℕ, ◌≤◌, true, List, [], ◌++◌, length, codes, IsUtf8}
use Rattle.std.specs.List.{list_all}
use Rattle.c_syntax.specs.Tree.{ProgramTree}
use Rattle.c_syntax.specs.Lawful.{IsLawful}
use Rattle.c_rules.specs.AlikeTexts.{is_quiet, slashes_apart}
use Rattle.c_rules.specs.Reading.{IsTextOf}
use Rattle.c_printer.specs.Comments.{note_limit, comment_text}
use Rattle.c_printer.specs.Notes.{Notes, note_at, notes_on}
use Rattle.c_printer.specs.Printing.{noted_bytes, program_bytes}

-- notes without texts
pub record SaysNothing (notes : Notes) : Type 0 where
  pub above : (k : ℕ) → (notes_on notes k).above ≡ []
  pub fields : (k f : ℕ) → note_at (notes_on notes k).fields f ≡ []
  pub procedures : (k : ℕ) → note_at notes.procedures k ≡ []

-- with these it is the text without notes
abbrev pub NotesAreOptional : Type 0
NotesAreOptional =
    (notes : Notes) (p : ProgramTree) → SaysNothing notes → noted_bytes notes p ≡ program_bytes p

-- whatever the notes say, the text has one reading, and it is the program
abbrev pub NotesChangeNoReading : Type 0
NotesChangeNoReading =
    (notes : Notes) (p : ProgramTree) → IsLawful p → IsTextOf (noted_bytes notes p) p

-- what a comment shows: few bytes, none of which is special in a comment, and no `//`
pub record IsHarmless (text : List ℕ) : Type 0 where
  pub short : length text ≤ note_limit
  pub quiet : list_all is_quiet text ≡ true
  pub apart : slashes_apart (codes " " ++ text ++ codes " ") ≡ true

-- so it is with each comment, whatever its text
abbrev pub CommentsAreHarmless : Type 0
CommentsAreHarmless = (text : List ℕ) → IsHarmless (comment_text text)

-- and it is UTF-8
abbrev pub CommentsAreUtf8 : Type 0
CommentsAreUtf8 = (text : List ℕ) → IsUtf8 (comment_text text)
