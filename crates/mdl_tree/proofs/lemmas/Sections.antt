-- Sections by their names, item by item.
use Rattle.std.proofs.Common.{◌≡◌, refl, sym, ◌∙◌, ap, ℕ, ◌+◌, ◌<◌, Bool, true, false, cond, List, [], ◌∷◌, ◌++◌, length, drop, slice_index_or, append_assoc}
use Rattle.std.proofs.lemmas.List.{map-append}
use Rattle.std.specs.Prelude.{bytes_eq}
use denote.Ref.{Bor}
use Rattle.mdl_tree.specs.declared.tree.Section.{Section}
use Rattle.mdl_tree.specs.declared.tree.Item.{Item, Param, Section'}
use Rattle.mdl_tree.specs.Spelling.{Items, Section as section_item}
use Rattle.mdl_tree.specs.Walks.{SectionTree, sections_named}
use Rattle.mdl_tree.specs.Values.{with_row, with_item, items_of, section_tree, item_alone, trees_of}
use Rattle.mdl_tree.proofs.lemmas.Rows.{items_from}

-- the sections of a name, where the first item is one of them or isn't
pub sections_named-yes : (wanted name : List ℕ) (line : ℕ) (items rest : Items) → bytes_eq name wanted ≡ true →
    sections_named wanted (section_item name line items rest) ≡ record { name = name; line = line; items = items } ∷ sections_named wanted rest
sections_named-yes wanted name line items rest same =
    ap (λ t. cond t (record { name = name; line = line; items = items } ∷ sections_named wanted rest) (sections_named wanted rest)) same

pub sections_named-no : (wanted name : List ℕ) (line : ℕ) (items rest : Items) → bytes_eq name wanted ≡ false →
    sections_named wanted (section_item name line items rest) ≡ sections_named wanted rest
sections_named-no wanted name line items rest other =
    ap (λ t. cond t (record { name = name; line = line; items = items } ∷ sections_named wanted rest) (sections_named wanted rest)) other

-- one item in front of others
named-item : (wanted : List ℕ) (item : Item) (rest : Items) →
    sections_named wanted (with_item item rest) ≡ sections_named wanted (item_alone item) ++ sections_named wanted rest
named-item wanted (Param name value line) rest = refl
named-item wanted (Section' name line shape items) rest = by (bytes_eq name wanted)
  where
    section : SectionTree
    section = record { name = name; line = line; items = with_row items }

    by : (t : Bool) → cond t (section ∷ sections_named wanted rest) (sections_named wanted rest) ≡ cond t (section ∷ [])
        [] ++ sections_named wanted rest
    by true = refl
    by false = refl

-- the sections from one place on
pub named-from : (wanted : List ℕ) (items : List Item) (i : ℕ) (item : Item) → i < length items → item ≡ slice_index_or items i item →
    sections_named wanted (items_of (drop i items)) ≡ sections_named wanted (item_alone item)
    ++ sections_named wanted (items_of (drop (i + 1) items))
named-from wanted items i item h e =
    ap (sections_named wanted) (items_from items i item h e) ∙ named-item wanted item (items_of (drop (i + 1) items))

-- one section more is taken
pub named-push : (olds : List (Bor Section)) (section : Bor Section) (here rest now whole : List SectionTree) →
    section_tree section.now ∷ [] ≡ here → now ≡ here ++ rest → trees_of olds ++ now ≡ whole →
    trees_of (olds ++ section ∷ []) ++ rest ≡ whole
named-push olds section here rest now whole found split all =
    ap (λ xs. xs ++ rest) (map-append (λ (s : Bor Section). section_tree s.now) olds (section ∷ []))
    ∙ append_assoc (trees_of olds) (section_tree section.now ∷ []) rest
    ∙ ap (λ xs. trees_of olds ++ xs) (ap (λ xs. xs ++ rest) found ∙ sym split) ∙ all

-- none is taken
pub named-pass : (olds : List (Bor Section)) (here rest now whole : List SectionTree) →
    [] ≡ here → now ≡ here ++ rest → trees_of olds ++ now ≡ whole → trees_of olds ++ rest ≡ whole
named-pass olds here rest now whole none split all =
    ap (λ xs. trees_of olds ++ xs) (ap (λ xs. xs ++ rest) none ∙ sym split) ∙ all
