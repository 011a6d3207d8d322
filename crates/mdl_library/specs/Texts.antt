-- What is said of a refusal.
use Rattle.std.specs.Prelude.{ℕ, List, [], ◌∷◌, codes, if◌then◌else◌}
use Rattle.std.specs.List.{join_with_byte}
use Rattle.base_core.specs.Words.{at_line}
use Rattle.mdl_library.specs.declared.refusal.LibraryRefusal.{LibraryRefusal}
use Rattle.mdl_library.specs.declared.refusal.LibraryRefusal.TheVariants.{BadLibrary, NoReference, Circular, Expanded}

-- the words of a refusal: its number and name, and what it holds
abbrev pub refusal_words : LibraryRefusal → List (List ℕ)
refusal_words (BadLibrary line) = codes "F25" ∷ codes "BadLibrary" ∷ at_line line []
refusal_words (NoReference line in_library) =
    codes "F26" ∷ codes "NoReference"
    ∷ at_line line ((if in_library then codes "library" else codes "model") ∷ [])
refusal_words (Circular line) = codes "F27" ∷ codes "Circular" ∷ at_line line []
refusal_words Expanded = codes "F28" ∷ codes "Expanded" ∷ []

-- the words, with a blank between them
abbrev pub refusal_phrase : LibraryRefusal → List ℕ
refusal_phrase refusal = join_with_byte 32 (refusal_words refusal)
