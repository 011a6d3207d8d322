-- The words for the systems of a model.
use Rattle.std.specs.Prelude.{ℕ, Bool, ◌&&◌, List, find, Option, Some, None, bytes_eq, codes, decimal}
use Rattle.diagram_meaning.specs.declared.table.Row.{Row}
use Rattle.diagram_meaning.specs.Rows.{row_at}
use Rattle.diagram_blocks.specs.Kinds.{is_subsystem}
use Rattle.modules_profile.specs.Systems.{systems}

-- the word for a system: `top`, or the number of its row
abbrev pub subsystem_word : Option ℕ → List ℕ
subsystem_word None = codes "top"
subsystem_word (Some e) = decimal e

-- the system of a table that a word names
abbrev pub system_named : List Row → List ℕ → Option (Option ℕ)
system_named rows word = find (λ s. bytes_eq (subsystem_word s) word) (systems rows)

-- whether a row is a subsystem, and a word its number
abbrev pub is_named : List Row → List ℕ → ℕ → Bool
is_named rows word e = is_subsystem (row_at rows e).kind && bytes_eq (subsystem_word (Some e)) word
