-- Values of parameters at any depth, item by item.
use Rattle.std.proofs.Common.{◌≡◌, refl, sym, ◌∙◌, ap, ℕ, ◌+◌, ◌<◌, Bool, true, false, not, ◌&&◌, cond, true≢false, List, length, drop, slice_index_or, Option, None, Some}
use Rattle.std.specs.Prelude.{bytes_eq}
use Rattle.std.specs.Option.{option_or}
use Rattle.mdl_tree.specs.declared.tree.Section.{Section}
use Rattle.mdl_tree.specs.declared.tree.Item.{Item, Param, Section'}
use Rattle.mdl_tree.specs.declared.tree.Item.TheViews as views
use Rattle.mdl_tree.specs.Spelling.{Items, End}
use Rattle.mdl_tree.specs.Values.{with_row, with_item, items_of, item_alone}
use Rattle.mdl_tree.proofs.lemmas.Rows.{section_in, items_from}
use Rattle.mdl_table.specs.Walks.{is_system_first, first_behind}
use Rattle.mdl_table.specs.Steps.{first_at_any_depth, first_outside_system}

or_none : {A : Type 0} (o : Option A) → option_or o None ≡ o
or_none None = refl
or_none (Some x) = refl

-- the value in one item, and else in the rest
any_depth-item : (wanted : List ℕ) (item : Item) (rest : Items) →
    first_at_any_depth wanted (with_item item rest)
    ≡ option_or (first_at_any_depth wanted (item_alone item)) (first_at_any_depth wanted rest)
any_depth-item wanted (Param name value line) rest = by (bytes_eq name wanted)
  where
    by : (t : Bool) → cond t (Some value) (first_at_any_depth wanted rest)
        ≡ option_or (cond t (Some value) None) (first_at_any_depth wanted rest)
    by true = refl
    by false = refl
any_depth-item wanted (Section' name line shape items) rest =
    ap (λ o. option_or o (first_at_any_depth wanted rest)) (sym (or_none (first_at_any_depth wanted (with_row items))))

-- the value inside a section that is alone
pub any_depth-section : (wanted : List ℕ) (inside : Section) →
    first_at_any_depth wanted (items_of inside.items.items) ≡ first_at_any_depth wanted (item_alone (views.Section inside))
any_depth-section wanted inside =
    sym (ap (first_at_any_depth wanted) (section_in inside End) ∙ or_none (first_at_any_depth wanted (items_of inside.items.items)))

-- the value from one place on
pub any_depth-from : (wanted : List ℕ) (items : List Item) (i : ℕ) (item : Item) → i < length items → item ≡ slice_index_or items i item →
    first_at_any_depth wanted (items_of (drop i items))
    ≡ option_or (first_at_any_depth wanted (item_alone item)) (first_at_any_depth wanted (items_of (drop (i + 1) items)))
any_depth-from wanted items i item h e =
    ap (first_at_any_depth wanted) (items_from items i item h e) ∙ any_depth-item wanted item (items_of (drop (i + 1) items))

-- a System in front, which the search outside the first System passes
outside-system : (wanted : List ℕ) (item : Item) (rest : Items) → is_system_first (item_alone item) ≡ true →
    first_outside_system wanted (with_item item rest) ≡ first_at_any_depth wanted rest
outside-system wanted (Param name value line) rest system = absurd (true≢false (sym system))
outside-system wanted (Section' name line shape items) rest system =
    ap (λ t. cond t (first_at_any_depth wanted rest)
    (option_or (first_at_any_depth wanted (with_row items)) (first_outside_system wanted rest))) system

-- another item in front
outside-item : (wanted : List ℕ) (item : Item) (rest : Items) → is_system_first (item_alone item) ≡ false →
    first_outside_system wanted (with_item item rest)
    ≡ option_or (first_at_any_depth wanted (item_alone item)) (first_outside_system wanted rest)
outside-item wanted (Param name value line) rest other = by (bytes_eq name wanted)
  where
    by : (t : Bool) → cond t (Some value) (first_outside_system wanted rest)
        ≡ option_or (cond t (Some value) None) (first_outside_system wanted rest)
    by true = refl
    by false = refl
outside-item wanted (Section' name line shape items) rest other =
    ap (λ t. cond t (first_at_any_depth wanted rest)
    (option_or (first_at_any_depth wanted (with_row items)) (first_outside_system wanted rest))) other
    ∙ ap (λ o. option_or o (first_outside_system wanted rest)) (sym (or_none (first_at_any_depth wanted (with_row items))))

-- the search goes on after the System
pub behind-system : (wanted : List ℕ) (items : List Item) (i : ℕ) (item : Item) (b : Bool) → i < length items →
    item ≡ slice_index_or items i item →
    (not b && is_system_first (item_alone item)) ≡ true →
    first_behind true wanted (items_of (drop (i + 1) items)) ≡ first_behind b wanted (items_of (drop i items))
behind-system wanted items i item true h e system = absurd (true≢false (sym system))
behind-system wanted items i item false h e system =
    sym (ap (first_outside_system wanted) (items_from items i item h e) ∙ outside-system wanted item (items_of (drop (i + 1) items)) system)

-- the search goes on after another item
pub behind-item : (wanted : List ℕ) (items : List Item) (i : ℕ) (item : Item) (b : Bool) → i < length items →
    item ≡ slice_index_or items i item →
    (not b && is_system_first (item_alone item)) ≡ false →
    first_behind b wanted (items_of (drop i items))
    ≡ option_or (first_at_any_depth wanted (item_alone item)) (first_behind b wanted (items_of (drop (i + 1) items)))
behind-item wanted items i item true h e other = any_depth-from wanted items i item h e
behind-item wanted items i item false h e other =
    ap (first_outside_system wanted) (items_from items i item h e) ∙ outside-item wanted item (items_of (drop (i + 1) items)) other

-- a found value is the whole value
pub found-here : {A : Type 0} (value : A) (here rest now whole : Option A) → Some value ≡ here →
    now ≡ option_or here rest → now ≡ whole → Some value ≡ whole
found-here value here rest now whole found step same = ap (λ o. option_or o rest) found ∙ sym step ∙ same

-- where none is found the rest has it
pub found-later : {A : Type 0} (here rest now whole : Option A) → None ≡ here → now ≡ option_or here rest → now ≡ whole → rest ≡ whole
found-later here rest now whole found step same = ap (λ o. option_or o rest) found ∙ sym step ∙ same
