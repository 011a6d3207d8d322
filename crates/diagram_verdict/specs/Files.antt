-- The verdict on a file, for what its text and its tree are: a refusal, or the table of its model.
use Rattle.std.specs.Prelude.{◌≡◌, ℕ, ◌<◌, ◌≤◌, ◌⊎◌, List, length, None, Some}
use Rattle.base_refusals.specs.declared.SyntaxKind.{SyntaxKind}
use Rattle.base_refusals.specs.Refusals.{PlainRefusal, TooLong, Syntax}
use Rattle.mdl_tree.specs.Spelling.{Items, Mdl, Fault}
use Rattle.diagram_meaning.specs.RowTable.{RowTable}
use Rattle.diagram_meaning.specs.WellFormed.{IsWellFormed}
use Rattle.mdl_rows.specs.Refusals.{tree_refusal}
use Rattle.mdl_table.specs.Tables.{TableOf}

-- a file may have so many bytes
abbrev pub file_limit : ℕ
file_limit = 16_777_216

-- the bytes are not too many, and the text of these items
abbrev pub IsFile : List ℕ → Items → Type 0
IsFile bytes file = (length bytes ≤ file_limit) × Mdl bytes file

-- what holds of each text of these items that isn't too long
abbrev pub OfTexts : Items → (List ℕ → Type 0) → Type 0
OfTexts file Holds = (bytes : List ℕ) → IsFile bytes file → Holds bytes

-- what is said of a file: it is refused, or its model has this table
pub data FileVerdict : Type 0 where
  Refused : PlainRefusal → FileVerdict
  Accepted : RowTable → FileVerdict

-- the bytes are too many
abbrev pub IsLong : List ℕ → PlainRefusal → Type 0
IsLong bytes refusal = (file_limit < length bytes) × (refusal ≡ TooLong)

-- they are not, and this is the first error of their text
abbrev pub IsFaulty : List ℕ → PlainRefusal → Type 0
IsFaulty bytes refusal =
    (length bytes ≤ file_limit)
    × ((line : ℕ) × (kind : SyntaxKind) × Fault bytes line kind × (refusal ≡ Syntax line kind))

-- they are the text of a tree, and this is what is first wrong with that
abbrev pub IsWrongTree : List ℕ → PlainRefusal → Type 0
IsWrongTree bytes refusal = (file : Items) × IsFile bytes file × (tree_refusal file ≡ Some refusal)

-- they are the text of a tree with nothing wrong, and this is its table
abbrev pub IsModelWith : List ℕ → RowTable → Type 0
IsModelWith bytes table =
    (file : Items) × IsFile bytes file × (tree_refusal file ≡ None) × TableOf file table

-- the verdict on a file, the length of the file before its text, and its text before its tree
abbrev pub HasFileVerdict : List ℕ → FileVerdict → Type 0
HasFileVerdict bytes (Refused refusal) =
    IsLong bytes refusal ⊎ IsFaulty bytes refusal ⊎ IsWrongTree bytes refusal
HasFileVerdict bytes (Accepted table) = IsModelWith bytes table

-- there is one and no other
abbrev pub HasOneFileVerdict : List ℕ → Type 0
HasOneFileVerdict bytes =
    (verdict : FileVerdict) × HasFileVerdict bytes verdict
    × ((other : FileVerdict) → HasFileVerdict bytes other → other ≡ verdict)

-- the table of a model with nothing wrong in its tree is well formed
abbrev pub AcceptedTablesAreWellFormed : Type 0
AcceptedTablesAreWellFormed =
    (bytes : List ℕ) (table : RowTable) → IsModelWith bytes table → IsWellFormed table
