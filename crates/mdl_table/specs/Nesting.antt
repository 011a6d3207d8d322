-- The nested systems of a table, by the systems of a text.
use Rattle.std.specs.Prelude.{ℕ, ◌<◌, ◌^◌, ⊤, List, Option, Some, None}
use Rattle.std.specs.List.{All}
use Rattle.diagram_meaning.specs.declared.table.Row.{Row}
use Rattle.diagram_meaning.specs.Rows.{system_control}
use Rattle.diagram_meaning.specs.Nested as nested
use Rattle.mdl_systems.specs.Systems.{SystemTree, SystemTrees, system, no_more, next}

-- the systems of a text, each controlled as its row is
abbrev mutual
  pub nested_by : List Row → SystemTree → nested.System
  nested_by rows (system row line section own children) =
      nested.system row line (system_control rows row) own (all_nested rows children)

  pub all_nested : List Row → SystemTrees → nested.Systems
  all_nested rows no_more = nested.no_more
  all_nested rows (next child rest) = nested.next (nested_by rows child) (all_nested rows rest)

-- all numbers fit into 32 bits
abbrev pub AreShort : List ℕ → Type 0
AreShort numbers = All (λ n. n < 2 ^ 32) numbers

-- a row's number does
abbrev pub IsShort : Option ℕ → Type 0
IsShort None = ⊤
IsShort (Some row) = row < 2 ^ 32

-- the numbers of a system and of all inside it do
abbrev mutual
  pub SystemIsShort : SystemTree → Type 0
  SystemIsShort (system row line section own children) =
      IsShort row × AreShort own × AllAreShort children

  pub AllAreShort : SystemTrees → Type 0
  AllAreShort no_more = ⊤
  AllAreShort (next child rest) = SystemIsShort child × AllAreShort rest
