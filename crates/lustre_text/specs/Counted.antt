-- How many nodes a text has.
use Rattle.std.specs.Prelude.{◌≡◌, ℕ, List, length}
use Rattle.lustre_syntax.specs.Tree.{FileTree}
use Rattle.lustre_rules.specs.Reading.{LustreText}

-- whatever file the bytes are a text of has so many nodes
abbrev pub HasNodeCount : List ℕ → ℕ → Type 0
HasNodeCount bytes count = (f : FileTree) → LustreText bytes f → count ≡ length f.nodes
