-- The notes on structs and fields.
use Rattle.std.specs.Prelude.{ℕ, zero, suc, List, [], ◌++◌, map, slice_get, Option, Some, None, codes, decimal}
use Rattle.std.specs.Option.{option_map_or}
use Rattle.mdl_params.specs.BlockTypes.{block_type_name}
use Rattle.c_syntax.specs.Tree.{FieldTree, StructTree}
use Rattle.c_printer.specs.Notes.{StructNotes}
use Rattle.emit_notes.specs.declared.labels.Label.{Label}
use Rattle.emit_notes.specs.declared.name_uses.NameUse.{NameUse}
use Rattle.emit_notes.specs.declared.name_uses.NameUse.TheVariants.{Value, Memory, OldestPlace, SampleCount, System, Group, Output, Input, Trigger, Top, Tick, Other}
use Rattle.emit_notes.specs.NameUses.{use_of}

-- `TYPE "NAME"`
abbrev pub block_note : Label → List ℕ
block_note l = block_type_name l.block_type ++ codes " \"" ++ l.name ++ codes "\""

-- the note of row r after some words; of a row that isn't there none
abbrev pub row_note : List Label → (words : List ℕ) → ℕ → List ℕ
row_note labels words r =
    option_map_or (λ (l : Label). words ++ block_note l) (slice_get labels r) []

-- the note on a field
abbrev pub use_note : List Label → NameUse → List ℕ
use_note labels (Value r) = row_note labels [] r
use_note labels (Memory r) = row_note labels (codes "memory of ") r
use_note labels (OldestPlace r) = row_note labels (codes "oldest sample of ") r
use_note labels (SampleCount r) = row_note labels (codes "samples taken by ") r
use_note labels (System r) = row_note labels [] r
use_note labels (Group g) = codes "group " ++ decimal g ++ codes " has run"
use_note labels (Output k) = codes "output " ++ decimal k
use_note labels (Input k) = []
use_note labels Trigger = codes "what the trigger remembers"
use_note labels Top = codes "the model"
use_note labels Tick = codes "tick of the cycle"
use_note labels Other = []

-- ---- The path of a subsystem

-- the path to the subsystem around, if there is one
abbrev pub path_around : (ℕ → List ℕ) → Option ℕ → List ℕ
path_around path None = []
path_around path (Some o) = path o ++ codes "/"

-- the path to a block, by the paths to those around it
abbrev pub path_to : (ℕ → List ℕ) → Option Label → List ℕ
path_to path None = []
path_to path (Some l) = path_around path l.owner ++ l.name

-- the names of the subsystems around row r, at most n with its own, the outermost first, with `/`
-- between each two
abbrev pub path_of : List Label → (n : ℕ) → (r : ℕ) → List ℕ
path_of labels zero r = []
path_of labels (suc n) r = path_to (λ o. path_of labels n o) (slice_get labels r)

-- subsystems are at most 32 deep
abbrev pub most_deep : ℕ
most_deep = 32

-- the note on the struct of row r: its path, and the line of its Block
abbrev pub subsystem_note : List Label → ℕ → List ℕ
subsystem_note labels r =
    option_map_or
    (λ (l : Label). path_of labels most_deep r ++ codes ", line " ++ decimal l.line)
    (slice_get labels r) []

abbrev pub system_note : List Label → NameUse → List ℕ
system_note labels (System r) = subsystem_note labels r
system_note labels Top = codes "the model"
system_note labels _ = []

-- ---- A struct

abbrev pub field_note : List Label → FieldTree → List ℕ
field_note labels f = use_note labels (use_of f.name)

abbrev pub struct_notes : List Label → StructTree → StructNotes
struct_notes labels s =
    record {
      above = system_note labels (use_of s.name);
      fields = map (field_note labels) s.fields;
    }
