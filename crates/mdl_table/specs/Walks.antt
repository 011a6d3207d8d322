-- Items of a model, one by one.
use Rattle.std.specs.Prelude.{ℕ, Bool, false, List, Option, bytes_eq, codes, if◌then◌else◌}
use Rattle.mdl_tree.specs.declared.tree.Item.{Item}
use Rattle.mdl_tree.specs.Spelling.{Items, End, Param, Section}
use Rattle.mdl_tree.specs.Values.{with_item}
use Rattle.mdl_table.specs.Steps.{first_at_any_depth, first_outside_system}

-- whether the first of some items is a System
abbrev pub is_system_first : Items → Bool
is_system_first End = false
is_system_first (Param name value line rest) = false
is_system_first (Section name line items rest) = bytes_eq name (codes "System")

-- the first value of a parameter at any depth, where the System was passed, and else outside the
-- first System
abbrev pub first_behind : (is_behind : Bool) → List ℕ → Items → Option (List ℕ)
first_behind is_behind wanted items =
    if is_behind then first_at_any_depth wanted items else first_outside_system wanted items
