-- What writing references out comes to.
use Rattle.std.specs.Prelude.{◌≡◌, ℕ, ◌+◌, ◌⊎◌, max, List, [], ◌∷◌, length, codes, if◌then◌else◌}
use Rattle.mdl_tree.specs.Spelling.{Items}
use Rattle.mdl_systems.specs.Outlines.{Outline, outlines_of, is_subsystem}
use Rattle.mdl_library.specs.declared.refusal.LibraryRefusal.{LibraryRefusal}
use Rattle.mdl_library.specs.Library.{Library}
use Rattle.mdl_library.specs.References.{references_inside}
use Rattle.mdl_library.specs.Items.{inside_first}
use Rattle.mdl_library.specs.Written.{expanded_to}
use Rattle.mdl_library.specs.Sizes.{Size, size_to}
use Rattle.mdl_library.specs.Refusals.{HasLibraryRefusal, IsExpanded}

-- ---- One answer

-- each model and library's file have one first refusal, or one text written out
pub record HasOneExpansion (model : Items) (bytes : List ℕ) : Type 0 where
  pub some : ((refusal : LibraryRefusal) × HasLibraryRefusal model bytes refusal)
      ⊎ ((written : Items) × IsExpanded model bytes written)
  pub one_refusal : (a b : LibraryRefusal) → HasLibraryRefusal model bytes a →
      HasLibraryRefusal model bytes b → a ≡ b
  pub one_text : (a b : Items) → IsExpanded model bytes a → IsExpanded model bytes b → a ≡ b
  pub not_both : (refusal : LibraryRefusal) (written : Items) →
      HasLibraryRefusal model bytes refusal → IsExpanded model bytes written → ⊥

abbrev pub ExpansionsAreOne : Type 0
ExpansionsAreOne = (model : Items) (bytes : List ℕ) → HasOneExpansion model bytes

-- ---- Sizes

-- the blocks of the System of a file's first Model
abbrev pub blocks_of : Items → List Outline
blocks_of file =
    outlines_of
    (record {
      name = codes "System";
      line = 0;
      items = inside_first (codes "System") (inside_first (codes "Model") file);
    })

-- how many subsystems are inside one another at most, of some blocks of a model
abbrev pub deepest : List Outline → ℕ
deepest [] = 0
deepest (block ∷ rest) = if is_subsystem block then max (block.depth + 1) (deepest rest)
    else deepest rest

-- how many blocks these are, and how deep
abbrev pub size_of_blocks : List Outline → Size
size_of_blocks blocks = record { blocks = length blocks; depth = deepest blocks }

-- the size that was found is that of the model written out, to any number of references inside one
-- another
abbrev pub SizesAreRight : Type 0
SizesAreRight = (library : Library) (model : Items) (depth : ℕ) →
    size_to depth library model ≡ size_of_blocks (blocks_of (expanded_to depth library model))

-- ---- References

-- no reference is left in a model that was written out
abbrev pub NoReferenceIsLeft : Type 0
NoReferenceIsLeft =
    (model : Items) (bytes : List ℕ) (written : Items) → IsExpanded model bytes written →
    references_inside (inside_first (codes "Model") written) ≡ []
