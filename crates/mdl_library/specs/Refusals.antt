-- Why the references of a model can't be written out, and what comes of those that can.
use Rattle.std.specs.Prelude.{if◌then◌else◌, ◌≡◌, ℕ, ◌<◌, ◌≤◌, ◌⊎◌, true, false, List, length, Option, Some, None, option_map, codes, ⊤}
use Rattle.std.specs.Option.{option_or, option_map_or}
use Rattle.base_refusals.specs.declared.refusal.SyntaxKind.{SyntaxKind}
use Rattle.mdl_tree.specs.Spelling.{Items, Mdl, Fault}
use Rattle.mdl_library.specs.declared.refusal.LibraryRefusal.{LibraryRefusal}
use Rattle.mdl_library.specs.declared.refusal.LibraryRefusal.TheVariants.{BadLibrary, NoReference, Circular, Expanded}
use Rattle.mdl_library.specs.declared.refusal.LibraryFault.{LibraryFault}
use Rattle.mdl_library.specs.declared.refusal.LibraryFault.TheVariants.{Refused, Memory}
use Rattle.mdl_library.specs.Given.{given_by}
use Rattle.mdl_library.specs.Library.{Library, library_of}
use Rattle.mdl_library.specs.References.{references_in, references_inside, least_unnamed, circular_line}
use Rattle.mdl_library.specs.Items.{inside_first}
use Rattle.mdl_library.specs.Written.{most_inside, expanded}
use Rattle.mdl_library.specs.Sizes.{size_in, is_too_large}

-- ---- By items

-- the least line of a reference of a Model that names nothing
abbrev pub unnamed_in_model : Library → (model : Items) → Option ℕ
unnamed_in_model library model =
    least_unnamed library.sources (given_by model) (references_inside model)

-- that of one of the library
abbrev pub unnamed_in_library : Library → Option ℕ
unnamed_in_library library =
    least_unnamed library.sources library.given (references_in library.system.items)

-- the first refusal of a Model, by a library
abbrev pub refusal_in : Library → (model : Items) → Option LibraryRefusal
refusal_in library model =
    option_or (option_map (λ line. NoReference line false) (unnamed_in_model library model))
    (option_or (option_map (λ line. NoReference line true) (unnamed_in_library library))
    (option_or (option_map Circular (circular_line library))
    (if is_too_large (size_in most_inside library model) then Some Expanded else None)))

-- that of a file's first Model, or of none
abbrev pub refusal_with : Library → (file : Items) → Option LibraryRefusal
refusal_with library file = refusal_in library (inside_first (codes "Model") file)

-- the first refusal of a model's file, by the items of a library's file
abbrev pub refusal_by : (library model : Items) → Option LibraryRefusal
refusal_by file model =
    option_map_or (λ (library : Library). refusal_with library model) (library_of file)
    (Some (BadLibrary 0))

-- ---- By the library's bytes

-- a library's file may have so many bytes
abbrev pub library_limit : ℕ
library_limit = 16_777_216

-- the bytes are too many
abbrev pub IsLongLibrary : List ℕ → LibraryRefusal → Type 0
IsLongLibrary bytes refusal = (library_limit < length bytes) × (refusal ≡ BadLibrary 0)

-- they are not, and this is the line of the first error of their text
abbrev pub IsFaultyLibrary : List ℕ → LibraryRefusal → Type 0
IsFaultyLibrary bytes refusal =
    (length bytes ≤ library_limit)
    × ((line : ℕ) × (kind : SyntaxKind) × Fault bytes line kind × (refusal ≡ BadLibrary line))

-- they are the text of these items
abbrev pub IsLibraryFile : List ℕ → Items → Type 0
IsLibraryFile bytes file = (length bytes ≤ library_limit) × Mdl bytes file

-- the references of a model can't be written out by the library of these bytes, for this first
-- reason
abbrev pub HasLibraryRefusal : (model : Items) → (library : List ℕ) → LibraryRefusal → Type 0
HasLibraryRefusal model bytes refusal =
    IsLongLibrary bytes refusal ⊎ IsFaultyLibrary bytes refusal
    ⊎ ((file : Items) × IsLibraryFile bytes file × (refusal_by file model ≡ Some refusal))

-- they can, and these are the items of the model's file with its references written out
pub record IsExpanded (model : Items) (bytes : List ℕ) (written : Items) : Type 0 where
  pub file : Items
  pub is_file : IsLibraryFile bytes file
  pub library : Library
  pub is_library : library_of file ≡ Some library
  pub accepted : refusal_with library model ≡ None
  pub is_written : written ≡ expanded library model

-- ---- In memory

-- the model can't be written out, for this first reason; nothing is said where memory runs out
abbrev pub IsFaultOf : (model : Items) → (library : List ℕ) → LibraryFault → Type 0
IsFaultOf model library (Refused refusal) = HasLibraryRefusal model library refusal
IsFaultOf model library Memory = ⊤

-- the same by the items of a library's file, and by a library
abbrev pub IsFaultBy : Option LibraryRefusal → LibraryFault → Type 0
IsFaultBy found (Refused refusal) = found ≡ Some refusal
IsFaultBy found Memory = ⊤

-- the items of a library's file have a library by which the model is written out so
pub record IsExpandedBy (file model written : Items) : Type 0 where
  pub library : Library
  pub is_library : library_of file ≡ Some library
  pub accepted : refusal_with library model ≡ None
  pub is_written : written ≡ expanded library model
