-- The note on a field of a row is that of the row's block.
use Rattle.std.proofs.Common.{◌≡◌, refl, ◌∙◌, ap, ℕ, ◌^◌, ◌<◌, List, [], ◌++◌, map, Some, codes}
use Rattle.std.specs.Prelude.{option_map, slice_get, slice_index_or}
use Rattle.std.specs.Option.{option_map_or}
use Rattle.std.proofs.lemmas.Option.{slice_get-map, get_or_from_slice_get}
use Rattle.mdl_rows.specs.Models.{Block}
use Rattle.c_syntax.specs.Tree.{FieldTree, StructTree, ProgramTree}
use Rattle.emit_shape.specs.Names.{value_name, memory_name, place_name, taken_name, child_name}
use Rattle.c_printer.specs.Notes.{StructNotes, notes_on}
use Rattle.emit_notes.specs.declared.labels.Label.{Label}
use Rattle.emit_notes.specs.declared.name_uses.NameUse.{NameUse}
use Rattle.emit_notes.specs.declared.name_uses.NameUse.TheVariants.{Value, Memory, OldestPlace, SampleCount, System}
use Rattle.emit_notes.specs.NameUses.{use_of}
use Rattle.emit_notes.specs.Labels.{label_of, model_labels}
use Rattle.emit_notes.specs.BlockNotes.{block_note, row_note, use_note, field_note, struct_notes}
use Rattle.emit_notes.specs.ProgramNotes.{notes_of}
use Rattle.emit_notes.specs.ModelNotes.{AreNotedBy, NotesAreOfBlocks}
use Rattle.emit_notes.proofs.NameLemmas.{value-used, memory-used, place-used, count-used, system-used}

map-at : {A B : Type 0} (f : A → B) (xs : List A) (k : ℕ) (x : A) (d : B) → slice_get xs k ≡ Some x → slice_index_or (map f xs) k d ≡ f x
map-at f xs k x d at = get_or_from_slice_get (map f xs) k (f x) d (slice_get-map f xs k ∙ ap (option_map f) at)

-- the note at a field is that of its name
noted-field : (labels : List Label) (p : ProgramTree) (k f : ℕ) (s : StructTree) (field : FieldTree) →
    slice_get p.structs k ≡ Some s → slice_get s.fields f ≡ Some field →
    slice_index_or (notes_on (notes_of labels p) k).fields f [] ≡ field_note labels field
noted-field labels p k f s field at_struct at_field =
    ap (λ (notes : StructNotes). slice_index_or notes.fields f []) (map-at (struct_notes labels) p.structs k s _ at_struct)
    ∙ map-at (field_note labels) s.fields f field [] at_field

-- the note of a row is that of its block
noted-row : (bs : List Block) (words : List ℕ) (r : ℕ) (b : Block) → slice_get bs r ≡ Some b →
    row_note (map label_of bs) words r ≡ words ++ block_note (label_of b)
noted-row bs words r b at =
    ap (λ o. option_map_or (λ (l : Label). words ++ block_note l) o []) (slice_get-map label_of bs r ∙ ap (option_map label_of) at)

noted-by : (name : ℕ → List ℕ) (words : List ℕ) (what : ℕ → NameUse) → ((r : ℕ) → r < 2 ^ 64 → use_of (name r) ≡ what r) →
    ((labels : List Label) (r : ℕ) → use_note labels (what r) ≡ row_note labels words r) → AreNotedBy name words
noted-by name words what used noted model p k f r s field b low at_struct at_field named at_block =
    noted-field (model_labels model) p k f s field at_struct at_field
    ∙ ap (use_note (model_labels model)) (ap use_of named ∙ used r low)
    ∙ noted (model_labels model) r ∙ noted-row _ words r b at_block

pub notes_are_of_blocks : NotesAreOfBlocks
notes_are_of_blocks =
    record {
      values = noted-by value_name [] Value value-used (λ labels r. refl);
      memories = noted-by memory_name (codes "memory of ") Memory memory-used (λ labels r. refl);
      places = noted-by place_name (codes "oldest sample of ") OldestPlace place-used (λ labels r. refl);
      counts = noted-by taken_name (codes "samples taken by ") SampleCount count-used (λ labels r. refl);
      systems = noted-by child_name [] System system-used (λ labels r. refl);
    }
