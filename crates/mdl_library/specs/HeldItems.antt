-- Items in memory that are left for a section.
use Rattle.std.specs.Prelude.{ℕ, List, Vec, Option, None, Some, option_map}
use Rattle.std.specs.declared.alloc.Global.{Global}
use Rattle.mdl_tree.specs.declared.tree.Item.{Item}
use Rattle.mdl_tree.specs.Spelling.{Items}
use Rattle.mdl_tree.specs.Values.{items_of}
use Rattle.mdl_library.specs.Items.{with_inside}

-- the items that are left, if there are any
abbrev pub items_left : Option (Vec Item Global) → Option Items
items_left left = option_map (λ (items : Vec Item Global). items_of items.items) left

-- items with what is left in the first section of this name
abbrev pub with_left : (name : List ℕ) → Option Items → Items → Items
with_left name None items = items
with_left name (Some inside) items = with_inside name inside items
