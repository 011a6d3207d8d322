-- Blocks of a type, counted item by item.
use Rattle.std.proofs.Common.{◌≡◌, sym, ◌∙◌, ap, ℕ, ◌+◌, ◌<◌, ◌≤◌, Bool, true, false, ◌&&◌, cond, List, ◌∷◌, length, drop, slice_index_or, codes, arith}
use Rattle.std.specs.Prelude.{filter, bytes_eq}
use Rattle.mdl_tree.specs.declared.tree.Section as held
use Rattle.mdl_tree.specs.declared.tree.Item.{Item, Param, Section'}
use Rattle.mdl_tree.specs.declared.tree.Item.TheViews as views
use Rattle.mdl_tree.specs.Spelling.{Items, End, Section}
use Rattle.mdl_tree.specs.Walks.{SectionTree, sections_named}
use Rattle.mdl_tree.specs.Values.{with_row, with_item, items_of}
use Rattle.mdl_tree.proofs.lemmas.Rows.{section_in, items_from}
use Rattle.mdl_params.specs.declared.BlockType.{BlockType}
use Rattle.mdl_blocks.specs.Peers.{writes_type, count_in, is_block_of}

-- a section in front of others
count-section : (type : BlockType) (name : List ℕ) (line : ℕ) (items rest : Items) →
    count_in type (Section name line items rest) ≡ cond (bytes_eq name (codes "Block") && writes_type type items) 1 0 + count_in type rest
count-section type name line items rest = by (bytes_eq name (codes "Block"))
  where
    section : SectionTree
    section = record { name = name; line = line; items = items }

    is_typed : SectionTree → Bool
    is_typed b = writes_type type b.items

    others : List SectionTree
    others = sections_named (codes "Block") rest

    among : (t : Bool) → length (cond t (section ∷ filter is_typed others) (filter is_typed others)) ≡ cond t 1 0
        + length (filter is_typed others)
    among true = omega arith
    among false = omega arith

    by : (t : Bool) →
        length (filter is_typed (cond t (section ∷ others) others)) ≡ cond (t && writes_type type items) 1 0
        + length (filter is_typed others)
    by true = among (writes_type type items)
    by false = omega arith

-- one item in front of others
count-item : (type : BlockType) (item : Item) (rest : Items) →
    count_in type (with_item item rest) ≡ cond (is_block_of type (with_item item End)) 1 0 + count_in type rest
count-item type (Param name value line) rest = omega arith
count-item type (Section' name line shape items) rest = count-section type name line (with_row items) rest

-- a section named Block is a block of the type that it writes
pub block-at : (type : BlockType) (item : Item) (section : held.Section) (t : Bool) → item ≡ views.Section section →
    bytes_eq section.name (codes "Block") ≡ true → t ≡ writes_type type (items_of section.items.items) →
    t ≡ is_block_of type (with_item item End)
block-at type item section t is named e =
    e
    ∙ sym (ap (λ x. is_block_of type (with_item x End)) is ∙ ap (is_block_of type) (section_in section End)
    ∙ ap (λ t. t && writes_type type (items_of section.items.items)) named)

-- one item more is counted
pub count-more : (type : BlockType) (items : List Item) (i : ℕ) (item : Item) (t : Bool) (count whole : ℕ) →
    i < length items → item ≡ slice_index_or items i item →
    is_block_of type (with_item item End) ≡ t → count + count_in type (items_of (drop i items)) ≡ whole →
    cond t (count + 1) count + count_in type (items_of (drop (i + 1) items)) ≡ whole
count-more type items i item t count whole h e test all =
    by t (ap (count_in type) (items_from items i item h e) ∙ count-item type item rest
    ∙ ap (λ t. cond t 1 0 + count_in type rest) test)
  where
    rest : Items
    rest = items_of (drop (i + 1) items)

    by : (t : Bool) → count_in type (items_of (drop i items)) ≡ cond t 1 0 + count_in type rest →
        cond t (count + 1) count + count_in type rest ≡ whole
    by true split = omega (arith, split, all)
    by false split = omega (arith, split, all)

-- no more are counted than there are items
pub at-most-more : (t : Bool) (before now i : ℕ) → now ≡ cond t (before + 1) before → before ≤ i → now ≤ i + 1
at-most-more true before now i e h = omega (arith, e, h)
at-most-more false before now i e h = omega (arith, e, h)
