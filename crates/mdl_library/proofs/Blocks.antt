-- Sections in memory, one by one, and Systems block by block.
use Rattle.std.proofs.Common.{◌≡◌, refl, sym, ◌∙◌, ap, ℕ, suc, ◌+◌, ◌<◌, ◌≤◌, Bool, true, false, cond, List, [], ◌∷◌, ◌++◌, length, drop, slice_index_or, drop-cons, drop_of_length-le, append-nil, arith, codes, Option, Some, None}
use Rattle.std.specs.Prelude.{bytes_eq, flat_map}
use Rattle.std.specs.Option.{option_map_or}
use denote.Ref.{Bor}
use Rattle.mdl_tree.specs.declared.tree.Section as held
use Rattle.mdl_tree.specs.Spelling.{Items, End, Param, Section}
use Rattle.mdl_tree.specs.Walks.{SectionTree, first_section, sections_named}
use Rattle.mdl_tree.specs.Values.{section_tree, trees_of}
use Rattle.mdl_params.specs.declared.BlockType.TheVariants.{SubSystem}
use Rattle.mdl_blocks.specs.Peers.{writes_type}
use Rattle.mdl_library.specs.Given.{Given, is_reference}
use Rattle.mdl_library.specs.Library.{Source}
use Rattle.mdl_library.specs.References.{references_in, references_inside, references_at}
use Rattle.mdl_library.specs.Sizes.{Size, no_size, beside_size, system_size, inner_size}
use Rattle.mdl_library.specs.HeldSizes.{block_size}

-- the sections from one place on
pub trees_from : (xs : List (Bor held.Section)) (i : ℕ) (x : Bor held.Section) → i < length xs → x ≡ slice_index_or xs i x →
    trees_of (drop i xs) ≡ section_tree x.now ∷ trees_of (drop (i + 1) xs)
trees_from xs i x h e =
    ap trees_of (drop-cons xs i x h) ∙ ap (λ k. section_tree (slice_index_or xs i x).now ∷ trees_of (drop k xs)) (one_more i)
    ∙ ap (λ (y : Bor held.Section). section_tree y.now ∷ trees_of (drop (i + 1) xs)) (sym e)
  where
    one_more : (i : ℕ) → suc i ≡ i + 1
    one_more i = omega arith

-- ---- References

pub references_blocks : (items : Items) → references_in items ≡ flat_map references_at (sections_named (codes "Block") items)
references_blocks End = refl
references_blocks (Param name value line rest) = references_blocks rest
references_blocks (Section name line items rest) = by_test (bytes_eq name (codes "Block")) (references_blocks rest)
  where
    here : SectionTree
    here = record { name = name; line = line; items = items }

    by_test : (t : Bool) → references_in rest ≡ flat_map references_at (sections_named (codes "Block") rest) →
        elim t [
          | true ↦ references_at here ++ references_in rest
          | false ↦ references_in rest
        ] ≡ flat_map references_at (cond t (here ∷ sections_named (codes "Block") rest) (sections_named (codes "Block") rest))
    by_test true more = ap (λ xs. references_at here ++ xs) more
    by_test false more = more

pub references_system : (items : Items) →
    references_inside items ≡ option_map_or (λ (s : SectionTree). references_in s.items) (first_section (codes "System") items) []
references_system End = refl
references_system (Param name value line rest) = references_system rest
references_system (Section name line items rest) = by_test (bytes_eq name (codes "System")) (references_system rest)
  where
    inside : Option SectionTree → List SectionTree
    inside o = option_map_or (λ (s : SectionTree). references_in s.items) o []

    by_test : (t : Bool) → references_inside rest ≡ inside (first_section (codes "System") rest) →
        elim t [
          | true ↦ references_in items
          | false ↦ references_inside rest
        ] ≡ inside (cond t (Some (record { name = name; line = line; items = items })) (first_section (codes "System") rest))
    by_test true more = refl
    by_test false more = more

-- those inside the first System of a block, and where there is none
pub references_first : (items : Items) (system : SectionTree) → Some system ≡ first_section (codes "System") items →
    references_in system.items ≡ references_inside items
references_first items system e =
    ap (λ o. option_map_or (λ (s : SectionTree). references_in s.items) o []) e ∙ sym (references_system items)

pub references_none : (items : Items) → None ≡ first_section (codes "System") items → [] ≡ references_inside items
references_none items e = ap (λ o. option_map_or (λ (s : SectionTree). references_in s.items) o []) e ∙ sym (references_system items)

pub at_other : (block : SectionTree) (inside : Bool) → is_reference block.items ≡ false → writes_type SubSystem block.items ≡ inside →
    references_at block ≡ cond inside (references_inside block.items) []
at_other block inside e t = ap (λ t. elim t [
  | true ↦ block ∷ []
  | false ↦ elim (writes_type SubSystem block.items) [
    | true ↦ references_inside block.items
    | false ↦ []
  ]
]) e ∙ by_test (writes_type SubSystem block.items) ∙ ap (λ b. cond b (references_inside block.items) []) t
  where
    by_test : (b : Bool) → elim b [
      | true ↦ references_inside block.items
      | false ↦ []
    ] ≡ cond b (references_inside block.items) []
    by_test true = refl
    by_test false = refl

pub references_end : (olds xs : List (Bor held.Section)) (i : ℕ) → length xs ≤ i → (whole : List SectionTree) →
    trees_of olds ++ flat_map references_at (trees_of (drop i xs)) ≡ whole → trees_of olds ≡ whole
references_end olds xs i h whole all =
    sym (append-nil (trees_of olds))
    ∙ ap (λ ys. trees_of olds ++ flat_map references_at (trees_of ys)) (sym (drop_of_length-le xs h)) ∙ all

-- ---- Sizes

-- the size of some blocks beside one another
abbrev pub blocks_size : List Source → Given → List Size → List SectionTree → Size
blocks_size sources given sizes [] = no_size
blocks_size sources given sizes (block ∷ rest) = beside_size (block_size sources given sizes block) (blocks_size sources given sizes rest)

pub size_blocks : (sources : List Source) (given : Given) (sizes : List Size) (items : Items) →
    system_size sources given sizes items ≡ blocks_size sources given sizes (sections_named (codes "Block") items)
size_blocks sources given sizes End = refl
size_blocks sources given sizes (Param name value line rest) = size_blocks sources given sizes rest
size_blocks sources given sizes (Section name line items rest) =
    by_test (bytes_eq name (codes "Block")) (size_blocks sources given sizes rest)
  where
    here : SectionTree
    here = record { name = name; line = line; items = items }

    more_size : Size
    more_size = system_size sources given sizes rest

    by_test : (t : Bool) → more_size ≡ blocks_size sources given sizes (sections_named (codes "Block") rest) →
        elim t [
          | true ↦ beside_size (block_size sources given sizes here) more_size
          | false ↦ more_size
        ]
        ≡ blocks_size sources given sizes (cond t (here ∷ sections_named (codes "Block") rest) (sections_named (codes "Block") rest))
    by_test true more = ap (beside_size (block_size sources given sizes here)) more
    by_test false more = more

pub size_system : (sources : List Source) (given : Given) (sizes : List Size) (items : Items) →
    inner_size sources given sizes items
    ≡ option_map_or (λ (s : SectionTree). system_size sources given sizes s.items) (first_section (codes "System") items) no_size
size_system sources given sizes End = refl
size_system sources given sizes (Param name value line rest) = size_system sources given sizes rest
size_system sources given sizes (Section name line items rest) =
    by_test (bytes_eq name (codes "System")) (size_system sources given sizes rest)
  where
    inside : Option SectionTree → Size
    inside o = option_map_or (λ (s : SectionTree). system_size sources given sizes s.items) o no_size

    by_test : (t : Bool) → inner_size sources given sizes rest ≡ inside (first_section (codes "System") rest) →
        elim t [
          | true ↦ system_size sources given sizes items
          | false ↦ inner_size sources given sizes rest
        ] ≡ inside (cond t (Some (record { name = name; line = line; items = items })) (first_section (codes "System") rest))
    by_test true more = refl
    by_test false more = more
