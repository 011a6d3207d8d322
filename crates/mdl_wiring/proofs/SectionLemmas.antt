-- Sections by their names, item by item.
use Rattle.std.proofs.Common.{◌≡◌, refl, sym, ◌∙◌, ap, ℕ, ◌+◌, ◌<◌, Bool, true, false, cond, List, [], ◌∷◌, ◌++◌, length, drop, slice_index_or, append_assoc, append-nil, codes}
use Rattle.std.proofs.lemmas.Grind.{flat_map-append}
use Rattle.std.specs.Prelude.{bytes_eq, flat_map, Option}
use Rattle.base_refusals.specs.Refusals.{PlainRefusal}
use Rattle.base_refusals.specs.FirstRefusal.{earlier_of, least_in}
use Rattle.base_refusals.proofs.lemmas.FirstRefusals.{earlier_assoc, least-append}
use denote.Ref.{Bor}
use Rattle.mdl_tree.specs.declared.tree.Section.{Section}
use Rattle.mdl_tree.specs.declared.tree.Item.{Item, Param, Section'}
use Rattle.mdl_tree.specs.declared.tree.Item.TheViews as views
use Rattle.mdl_tree.specs.Spelling.{Items, End}
use Rattle.mdl_tree.specs.Walks.{SectionTree}
use Rattle.mdl_tree.specs.Values.{with_row, with_item, items_of, section_tree, trees_of}
use Rattle.mdl_tree.proofs.lemmas.Rows.{section_in, items_from}
use Rattle.mdl_wiring.specs.Lines.{branches_in, parts_of_line, lines_in}
use Rattle.mdl_wiring.specs.Refusals.{newer}
use Rattle.mdl_tree.proofs.lemmas.Sections.{named-from}

-- ---- Branches

branches-item : (item : Item) (rest : Items) → branches_in (with_item item rest) ≡ branches_in (with_item item End) ++ branches_in rest
branches-item (Param name value line) rest = refl
branches-item (Section' name line shape items) rest =
    ap (λ xs. xs ++ branches_in rest)
    (sym (append-nil
    (cond (bytes_eq name (codes "Branch")) (record { name = name; line = line; items = with_row items }
    ∷ branches_in (with_row items)) [])))

-- the branches from one place on
pub branches-from : (items : List Item) (i : ℕ) (item : Item) → i < length items → item ≡ slice_index_or items i item →
    branches_in (items_of (drop i items)) ≡ branches_in (with_item item End) ++ branches_in (items_of (drop (i + 1) items))
branches-from items i item h e = ap branches_in (items_from items i item h e) ∙ branches-item item (items_of (drop (i + 1) items))

-- a branch with those inside it
pub branches-section : (s : Section) (t : Bool) → bytes_eq s.name (codes "Branch") ≡ t →
    branches_in (with_item (views.Section s) End) ≡ cond t (parts_of_line (section_tree s)) []
branches-section s t e =
    ap branches_in (section_in s End) ∙ append-nil (cond (bytes_eq s.name (codes "Branch")) (parts_of_line (section_tree s)) [])
    ∙ ap (λ t. cond t (parts_of_line (section_tree s)) []) e

-- a branch is taken with those inside it
pub branch-taken : (olds news : List (Bor Section)) (more here rest now whole : List SectionTree) → trees_of news ≡ trees_of olds ++ more →
    here ≡ more → now ≡ here ++ rest → trees_of olds ++ now ≡ whole → trees_of news ++ rest ≡ whole
branch-taken olds news more here rest now whole taken same split all =
    ap (λ xs. xs ++ rest) taken ∙ append_assoc (trees_of olds) more rest
    ∙ ap (λ xs. trees_of olds ++ xs) (ap (λ xs. xs ++ rest) (sym same) ∙ sym split) ∙ all

-- ---- Parts in the newer form

-- some parts more are looked at
pub newer-more : (before now whole : Option PlainRefusal) (here rest all : List SectionTree) →
    now ≡ earlier_of before (least_in newer here) → all ≡ here ++ rest →
    earlier_of before (least_in newer all) ≡ whole → earlier_of now (least_in newer rest) ≡ whole
newer-more before now whole here rest all found split known =
    ap (λ o. earlier_of o (least_in newer rest)) found ∙ earlier_assoc before (least_in newer here) (least_in newer rest)
    ∙ ap (earlier_of before) (sym (ap (least_in newer) split ∙ least-append newer here rest)) ∙ known

-- there are none
pub newer-pass : (before whole : Option PlainRefusal) (here rest all : List SectionTree) → [] ≡ here → all ≡ here ++ rest →
    earlier_of before (least_in newer all) ≡ whole → earlier_of before (least_in newer rest) ≡ whole
newer-pass before whole here rest all none split known =
    ap (λ xs. earlier_of before (least_in newer xs)) (ap (λ ys. ys ++ rest) none ∙ sym split) ∙ known

-- a line, if the item is one
pub line-section : (s : Section) (t : Bool) → bytes_eq s.name (codes "Line") ≡ t →
    flat_map parts_of_line (lines_in (with_item (views.Section s) End)) ≡ cond t (parts_of_line (section_tree s)) []
line-section s t e =
    ap (λ items. flat_map parts_of_line (lines_in items)) (section_in s End)
    ∙ ap (λ t. flat_map parts_of_line (cond t (section_tree s ∷ []) [])) e ∙ by t
  where
    by : (t : Bool) → flat_map parts_of_line (cond t (section_tree s ∷ []) []) ≡ cond t (parts_of_line (section_tree s)) []
    by true = append-nil (parts_of_line (section_tree s))
    by false = refl

-- the parts of lines from one place on
pub lines-from : (items : List Item) (i : ℕ) (item : Item) → i < length items → item ≡ slice_index_or items i item →
    flat_map parts_of_line (lines_in (items_of (drop i items)))
    ≡ flat_map parts_of_line (lines_in (with_item item End)) ++ flat_map parts_of_line (lines_in (items_of (drop (i + 1) items)))
lines-from items i item h e =
    ap (flat_map parts_of_line) (named-from (codes "Line") items i item h e)
    ∙ flat_map-append parts_of_line (lines_in (with_item item End)) (lines_in (items_of (drop (i + 1) items)))
