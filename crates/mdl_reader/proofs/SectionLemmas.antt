-- Items in memory, with one more after them.
use Rattle.std.proofs.Common.{◌≡◌, refl, ◌∙◌, ap, List, [], ◌∷◌, ◌++◌}
use Rattle.mdl_tree.specs.declared.tree.Item.{Item, Param, Section'}
use Rattle.mdl_tree.specs.Spelling.{Items, End, append_items}
use Rattle.mdl_tree.specs.Values.{with_item, items_of}

with_item-append : (item : Item) (items more : Items) → with_item item (append_items items more) ≡ append_items (with_item item items) more
with_item-append (Param name value line) items more = refl
with_item-append (Section' name line shape row) items more = refl

pub items_of-push : (items : List Item) (item : Item) → items_of (items ++ item ∷ []) ≡ append_items (items_of items) (with_item item End)
items_of-push [] item = refl
items_of-push (first ∷ rest) item =
    ap (with_item first) (items_of-push rest item) ∙ with_item-append first (items_of rest) (with_item item End)
