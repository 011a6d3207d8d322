-- Items in memory, one after another.
use Rattle.std.proofs.Common.{◌≡◌, refl, sym, ◌∙◌, ap, ℕ, ◌+◌, ◌<◌, ◌≤◌, Bool, true, false, cond, List, [], ◌∷◌, ◌++◌, length, drop, slice_index_or, Option, Some, None, Result, Ok, Err, IfOk, is_some, true≢false, drop_of_length-le, arith}
use Rattle.std.specs.Prelude.{bytes_eq, unwrap_or}
use Rattle.std.specs.Option.{option_map_or}
use Rattle.mdl_tree.specs.declared.tree.Section.{Section}
use Rattle.mdl_tree.specs.declared.tree.Item.TheViews as views
use Rattle.mdl_tree.specs.declared.tree.Item.{Item, Param, Section'}
use Rattle.mdl_tree.specs.Spelling.{Items, End, append_items}
use Rattle.mdl_tree.specs.Spelling as spelling
use Rattle.mdl_tree.specs.Values.{with_row, with_item, items_of, item_alone}
use Rattle.mdl_tree.proofs.lemmas.Rows.{items_from, section_in}
use Rattle.mdl_tree.proofs.lemmas.OneTree.{append_items-End}
use Rattle.mdl_tree.specs.Walks.{SectionTree, sections_named, first_section}
use Rattle.mdl_library.specs.Items.{moved, with_inside, inside_first}
use Rattle.mdl_library.specs.HeldItems.{with_left}

pub append-assoc : (x y z : Items) → append_items (append_items x y) z ≡ append_items x (append_items y z)
append-assoc End y z = refl
append-assoc (spelling.Param name value line x) y z = ap (spelling.Param name value line) (append-assoc x y z)
append-assoc (spelling.Section name line items x) y z = ap (spelling.Section name line items) (append-assoc x y z)

with-append : (item : Item) (items more : Items) → with_item item (append_items items more) ≡ append_items (with_item item items) more
with-append (Param name value line) items more = refl
with-append (Section' name line shape row) items more = refl

-- one item more
pub items_of-push : (items : List Item) (item : Item) → items_of (items ++ item ∷ []) ≡ append_items (items_of items) (item_alone item)
items_of-push [] item = refl
items_of-push (first ∷ items) item = ap (with_item first) (items_of-push items item) ∙ with-append first (items_of items) (item_alone item)

-- an item in front of others
pub in-front : (item : Item) (rest : Items) → with_item item rest ≡ append_items (item_alone item) rest
in-front (Param name value line) rest = refl
in-front (Section' name line shape row) rest = refl

-- what holds of a value, if there is one
pub if_ok : {A E : Type 0} (P Q : A → Type 0) (r : Result A E) → ((a : A) → P a → Q a) → IfOk r P → IfOk r Q
if_ok P Q (Ok a) f h = f a h
if_ok P Q (Err e) f h = h

-- ---- A map of items, one by one

-- each item becomes an item for itself
abbrev pub IsByItem : (Items → Items) → Type 0
IsByItem f = (item : Item) (rest : Items) → f (with_item item rest) ≡ append_items (f (item_alone item)) (f rest)

pub one_item_more : (f : Items → Items) → IsByItem f → (items : List Item) (i : ℕ) (item : Item) → i < length items →
    item ≡ slice_index_or items i item → (olds news : List Item) (new : Item) (whole : Items) → news ≡ olds ++ new ∷ [] →
    item_alone new ≡ f (item_alone item) → append_items (items_of olds) (f (items_of (drop i items))) ≡ whole →
    append_items (items_of news) (f (items_of (drop (i + 1) items))) ≡ whole
one_item_more f by items i item h e olds news new whole pushed is all =
    let rest = items_of (drop (i + 1) items) in
    ap (λ xs. append_items (items_of xs) (f rest)) pushed
    ∙ ap (λ x. append_items x (f rest)) (items_of-push olds new)
    ∙ append-assoc (items_of olds) (item_alone new) (f rest)
    ∙ ap (append_items (items_of olds)) (ap (λ x. append_items x (f rest)) is ∙ sym (by item rest)
    ∙ ap f (sym (items_from items i item h e)))
    ∙ all

pub all_items_mapped : (f : Items → Items) → f End ≡ End → (items : List Item) (i : ℕ) → length items ≤ i → (olds : List Item) (whole : Items) →
    append_items (items_of olds) (f (items_of (drop i items))) ≡ whole → items_of olds ≡ whole
all_items_mapped f none items i h olds whole all =
    sym (append_items-End (items_of olds))
    ∙ ap (append_items (items_of olds)) (sym (ap (λ xs. f (items_of xs)) (drop_of_length-le items h) ∙ none)) ∙ all

pub moved_by_item : (copy : Option ℕ) → IsByItem (moved copy)
moved_by_item copy (Param name value line) rest = refl
moved_by_item copy (Section' name line shape row) rest = refl

-- an item that stays
pub moved_none : (items : Items) → moved None items ≡ items
moved_none End = refl
moved_none (spelling.Param name value line rest) = ap (spelling.Param name value line) (moved_none rest)
moved_none (spelling.Section name line items rest) =
    ap (λ x. spelling.Section name line x (moved None rest)) (moved_none items) ∙ ap (spelling.Section name line items) (moved_none rest)

-- ---- Loops

pub moved_more : (copy : Option ℕ) (items : List Item) (i : ℕ) (item : Item) → i < length items → item ≡ slice_index_or items i item →
    (olds news : List Item) (new : Item) (whole : Items) → news ≡ olds ++ new ∷ [] → item_alone new ≡ moved copy (item_alone item) →
    append_items (items_of olds) (moved copy (items_of (drop i items))) ≡ whole →
    append_items (items_of news) (moved copy (items_of (drop (i + 1) items))) ≡ whole
moved_more copy = one_item_more (moved copy) (moved_by_item copy)

pub moved_end : (copy : Option ℕ) (items : List Item) (i : ℕ) → length items ≤ i → (olds : List Item) (whole : Items) →
    append_items (items_of olds) (moved copy (items_of (drop i items))) ≡ whole → items_of olds ≡ whole
moved_end copy = all_items_mapped (moved copy) refl

pub moved_section : (copy : Option ℕ) (s : Section) (inside : Items) → inside ≡ moved copy (items_of s.items.items) →
    spelling.Section s.name (unwrap_or copy s.line) inside End ≡ moved copy (item_alone (views.Section s))
moved_section copy s inside e =
    ap (λ x. spelling.Section s.name (unwrap_or copy s.line) x End) e ∙ sym (ap (moved copy) (section_in s End))

-- ---- Items with others inside a section

pub none-some : {A : Type 0} (a : A) → a ∷ [] ≡ [] → ⊥
none-some a e = omega (arith, ap length e)

head-same : {A : Type 0} (a b : A) → a ∷ [] ≡ b ∷ [] → a ≡ b
head-same a b e = ap (λ xs. elim xs [
  | [] ↦ a
  | x ∷ rest ↦ x
]) e

-- an item that is a section of this name
pub is_named : (wanted : List ℕ) (item : Item) (s : SectionTree) → s ∷ [] ≡ sections_named wanted (item_alone item) →
    (item_alone item ≡ spelling.Section s.name s.line s.items End) × (bytes_eq s.name wanted ≡ true)
is_named wanted (Param name value line) s e = absurd (none-some s e)
is_named wanted (Section' name line shape row) s e = by_test (bytes_eq name wanted) refl e
  where
    here : SectionTree
    here = record { name = name; line = line; items = with_row row }

    by_test : (t : Bool) → bytes_eq name wanted ≡ t → s ∷ [] ≡ cond t (here ∷ []) [] →
        (spelling.Section name line (with_row row) End ≡ spelling.Section s.name s.line s.items End) × (bytes_eq s.name wanted ≡ true)
    by_test true same e =
        let is : s ≡ here = head-same s here e in (
          sym (ap (λ (x : SectionTree). spelling.Section x.name x.line x.items End) is),
          ap (λ (x : SectionTree). bytes_eq x.name wanted) is ∙ same,
        )
    by_test false same e = absurd (none-some s e)

pub with_here : (name : List ℕ) (inside : Items) (item : Item) (s : SectionTree) → s ∷ [] ≡ sections_named name (item_alone item) →
    (new : Item) → item_alone new ≡ spelling.Section s.name s.line inside End → (rest : Items) →
    append_items (item_alone new) rest ≡ with_inside name inside (append_items (item_alone item) rest)
with_here name inside item s e new is rest =
    let named = is_named name item s e in
    ap (λ x. append_items x rest) is
    ∙ sym (ap (λ x. with_inside name inside (append_items x rest)) named.0
    ∙ ap (λ t. cond t (spelling.Section s.name s.line inside rest) (spelling.Section s.name s.line s.items (with_inside name inside rest)))
    named.1)

not_here : (name : List ℕ) (inside : Items) (item : Item) → [] ≡ sections_named name (item_alone item) → (rest : Items) →
    append_items (item_alone item) (with_inside name inside rest) ≡ with_inside name inside (append_items (item_alone item) rest)
not_here name inside (Param own value line) e rest = refl
not_here name inside (Section' own line shape row) e rest = by_test (bytes_eq own name) e
  where
    here : SectionTree
    here = record { name = own; line = line; items = with_row row }

    by_test : (t : Bool) → [] ≡ cond t (here ∷ []) [] →
        spelling.Section own line (with_row row) (with_inside name inside rest)
        ≡ cond t (spelling.Section own line inside rest) (spelling.Section own line (with_row row) (with_inside name inside rest))
    by_test true e = absurd (none-some here (sym e))
    by_test false e = refl

pub with_other : (name : List ℕ) (left : Option Items) (item : Item) → [] ≡ sections_named name (item_alone item) →
    (new : Item) → item_alone new ≡ moved None (item_alone item) → (rest : Items) →
    append_items (item_alone new) (with_left name left rest) ≡ with_left name left (append_items (item_alone item) rest)
with_other name left item e new is rest =
    ap (λ x. append_items x (with_left name left rest)) (is ∙ moved_none (item_alone item)) ∙ by_left left
  where
    by_left : (left : Option Items) →
        append_items (item_alone item) (with_left name left rest) ≡ with_left name left (append_items (item_alone item) rest)
    by_left None = refl
    by_left (Some inside) = not_here name inside item e rest

pub with_nothing : (item new : Item) → item_alone new ≡ moved None (item_alone item) → (rest : Items) →
    append_items (item_alone new) rest ≡ append_items (item_alone item) rest
with_nothing item new is rest = ap (λ x. append_items x rest) (is ∙ moved_none (item_alone item))

pub with_more : (name : List ℕ) (items : List Item) (i : ℕ) (item : Item) → i < length items → item ≡ slice_index_or items i item →
    (olds news : List Item) (new : Item) (before after : Option Items) (whole : Items) → news ≡ olds ++ new ∷ [] →
    ((rest : Items) → append_items (item_alone new) (with_left name after rest)
    ≡ with_left name before (append_items (item_alone item) rest)) →
    append_items (items_of olds) (with_left name before (items_of (drop i items))) ≡ whole →
    append_items (items_of news) (with_left name after (items_of (drop (i + 1) items))) ≡ whole
with_more name items i item h e olds news new before after whole pushed is all =
    let rest = items_of (drop (i + 1) items) in
    ap (λ xs. append_items (items_of xs) (with_left name after rest)) pushed
    ∙ ap (λ x. append_items x (with_left name after rest)) (items_of-push olds new)
    ∙ append-assoc (items_of olds) (item_alone new) (with_left name after rest)
    ∙ ap (append_items (items_of olds)) (is rest
    ∙ ap (with_left name before) (sym (in-front item rest) ∙ sym (items_from items i item h e)))
    ∙ all

pub with_end : (name : List ℕ) (items : List Item) (i : ℕ) → length items ≤ i → (olds : List Item) (left : Option Items) (whole : Items) →
    append_items (items_of olds) (with_left name left (items_of (drop i items))) ≡ whole → items_of olds ≡ whole
with_end name items i h olds left whole all =
    sym (append_items-End (items_of olds))
    ∙ ap (append_items (items_of olds)) (sym (ap (λ xs. with_left name left (items_of xs)) (drop_of_length-le items h) ∙ by_left left)) ∙ all
  where
    by_left : (left : Option Items) → with_left name left End ≡ End
    by_left None = refl
    by_left (Some inside) = refl

-- where there is no section of the name
pub with_absent : (wanted : List ℕ) (inside items : Items) → None ≡ first_section wanted items → items ≡ with_inside wanted inside items
with_absent wanted inside End e = refl
with_absent wanted inside (spelling.Param name value line rest) e =
    ap (spelling.Param name value line) (with_absent wanted inside rest e)
with_absent wanted inside (spelling.Section name line items rest) e =
    by_test (bytes_eq name wanted) e (with_absent wanted inside rest)
  where
    by_test : (t : Bool) → None ≡ cond t (Some (record { name = name; line = line; items = items })) (first_section wanted rest) →
        (None ≡ first_section wanted rest → rest ≡ with_inside wanted inside rest) →
        spelling.Section name line items rest
        ≡ cond t (spelling.Section name line inside rest) (spelling.Section name line items (with_inside wanted inside rest))
    by_test true e more = absurd (true≢false (sym (ap is_some e)))
    by_test false e more = ap (spelling.Section name line items) (more e)

-- the items inside the first section of a name
pub inside_some : (name : List ℕ) (items : Items) (section : SectionTree) → Some section ≡ first_section name items →
    section.items ≡ inside_first name items
inside_some name items section e = ap (λ o. option_map_or (λ (s : SectionTree). s.items) o End) e
