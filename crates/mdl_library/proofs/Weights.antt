-- A number that grows with the sections of a tree, by which walks down a tree end.
use Rattle.std.proofs.Common.{◌-◌, ◌*◌, option_and_then, codes, ◌≡◌, refl, sym, ap, subst, ℕ, zero, suc, ◌+◌, ◌<◌, ◌≤◌, true, false, Bool, cond, List, [], ◌∷◌, length, slice_index_or, Option, Some, None, arith}
use Rattle.std.proofs.Math.Nat.{suc-mul}
use Rattle.std.specs.Prelude.{bytes_eq, slice_get}
use Rattle.std.specs.Option.{option_map_or}
use denote.Ref.{Bor}
use Rattle.mdl_tree.specs.declared.tree.Section as held
use Rattle.mdl_tree.specs.Spelling.{Items, End, Param, Section}
use Rattle.mdl_tree.specs.Walks.{SectionTree, first_section, sections_named}
use Rattle.mdl_tree.specs.declared.tree.Item.{Item, Param as Param', Section'}
use Rattle.mdl_tree.specs.Values.{section_tree, trees_of, items_of, with_item, item_alone}
use Rattle.mdl_library.specs.Library.{Source}

abbrev pub weight : Items → ℕ
weight End = 0
weight (Param name value line rest) = weight rest
weight (Section name line items rest) = 3 + weight items + weight rest

-- a section weighs less than the items that it is among
pub weight_first : (wanted : List ℕ) (items : Items) (section : SectionTree) → first_section wanted items ≡ Some section →
    weight section.items + 3 ≤ weight items
weight_first wanted End section e = grind (arith, e)
weight_first wanted (Param name value line rest) section e = weight_first wanted rest section e
weight_first wanted (Section name line items rest) section e = by_test (bytes_eq name wanted) (weight_first wanted rest section) e
  where
    by_test : (t : Bool) → (first_section wanted rest ≡ Some section → weight section.items + 3 ≤ weight rest) →
        cond t (Some (record { name = name; line = line; items = items })) (first_section wanted rest) ≡ Some section →
        weight section.items + 3 ≤ 3 + weight items + weight rest
    by_test true more e =
        omega (arith, ap (λ (o : Option SectionTree). option_map_or (λ (s : SectionTree). weight s.items) o 0) e)
    by_test false more e = omega (arith, more e)

-- what some sections weigh together
abbrev total : List SectionTree → ℕ
total [] = 0
total (section ∷ rest) = weight section.items + 3 + total rest

total-named : (wanted : List ℕ) (items : Items) → total (sections_named wanted items) ≤ weight items
total-named wanted End = omega arith
total-named wanted (Param name value line rest) = total-named wanted rest
total-named wanted (Section name line items rest) = by_test (bytes_eq name wanted) (total-named wanted rest)
  where
    here : SectionTree
    here = record { name = name; line = line; items = items }

    by_test : (t : Bool) → total (sections_named wanted rest) ≤ weight rest →
        total (cond t (here ∷ sections_named wanted rest) (sections_named wanted rest)) ≤ 3 + weight items + weight rest
    by_test true more = omega (arith, more)
    by_test false more = omega (arith, more)

at-total : (xs : List (Bor held.Section)) (i : ℕ) (d : Bor held.Section) → i < length xs →
    weight (section_tree (slice_index_or xs i d).now).items + 3 ≤ total (trees_of xs)
at-total [] i d h = absurd (omega (arith, h))
at-total (x ∷ xs) zero d h = omega arith
at-total (x ∷ xs) (suc i) d h = omega (arith, at-total xs i d (omega (arith, h)))

-- so does each of the sections of a name
pub weight_among : (wanted : List ℕ) (items : Items) (xs : List (Bor held.Section)) (i : ℕ) (x : Bor held.Section) →
    trees_of xs ≡ sections_named wanted items → i < length xs → x ≡ slice_index_or xs i x →
    weight (section_tree x.now).items + 3 ≤ weight items
weight_among wanted items xs i x named h e =
    omega (
      arith,
      at-total xs i x h,
      ap total named,
      total-named wanted items,
      ap (λ (y : Bor held.Section). weight (section_tree y.now).items) e,
    )

-- ---- Items and sources

-- one item weighs no more than the items that it is among
with-weight : (x : Item) (rest : Items) → weight (with_item x rest) ≡ weight (item_alone x) + weight rest
with-weight (Param' name value line) rest = omega arith
with-weight (Section' name line shape row) rest = omega arith

at-weight : (items : List Item) (i : ℕ) (d : Item) → i < length items → weight (item_alone (slice_index_or items i d)) ≤ weight (items_of items)
at-weight [] i d h = absurd (omega (arith, h))
at-weight (x ∷ xs) zero d h = omega (arith, with-weight x (items_of xs))
at-weight (x ∷ xs) (suc i) d h = omega (arith, with-weight x (items_of xs), at-weight xs i d (omega (arith, h)))

pub weight_item : (items : List Item) (i : ℕ) (item : Item) → i < length items → item ≡ slice_index_or items i item →
    weight (item_alone item) ≤ weight (items_of items)
weight_item items i item h e = subst (λ x. weight (item_alone x) ≤ weight (items_of items)) (sym e) (at-weight items i item h)

-- what the blocks of some sources weigh together
abbrev pub weight_of_sources : List Source → ℕ
weight_of_sources [] = 0
weight_of_sources (source ∷ rest) = weight source.1.items + weight_of_sources rest

pub weight_source : (sources : List Source) (k : ℕ) (source : Source) → slice_get sources k ≡ Some source →
    weight source.1.items ≤ weight_of_sources sources
weight_source [] k source e = grind (arith, e)
weight_source (x ∷ xs) zero source e =
    omega (arith, ap (λ (o : Option Source). option_map_or (λ (s : Source). weight s.1.items) o 0) e)
weight_source (x ∷ xs) (suc k) source e = omega (arith, weight_source xs k source e)

-- the System of a source weighs less than all sources
pub weight_system : (sources : List Source) (k : ℕ) (system : SectionTree) →
    Some system ≡ option_and_then (λ (source : Source). first_section (codes "System") source.1.items) (slice_get sources k) →
    weight system.items + 3 ≤ weight_of_sources sources
weight_system sources k system e = by_source (slice_get sources k) refl e
  where
    by_source : (o : Option Source) → slice_get sources k ≡ o →
        Some system ≡ option_and_then (λ (source : Source). first_section (codes "System") source.1.items) o →
        weight system.items + 3 ≤ weight_of_sources sources
    by_source None found e = grind (arith, e)
    by_source (Some source) found e =
        omega (arith, weight_source sources k source found, weight_first (codes "System") source.1.items system (sym e))

-- one reference less inside one another is left
pub fewer_left : (depth all w : ℕ) → 0 < depth → w + 3 ≤ all → (depth - 1) * (all + 6) + (w + 1) < depth * (all + 6)
fewer_left zero all w h g = absurd (omega (arith, h))
fewer_left (suc depth) all w h g =
    let p : suc depth * (all + 6) ≡ depth * (all + 6) + (all + 6) = suc-mul depth (all + 6) in
    let q : (suc depth - 1) * (all + 6) ≡ depth * (all + 6) = ap (λ d. d * (all + 6)) (less depth) in
    omega (arith, p, q, g)
  where
    less : (d : ℕ) → suc d - 1 ≡ d
    less d = omega arith
