-- Sizes in memory, block by block.
use Rattle.std.proofs.Common.{◌≡◌, refl, sym, ◌∙◌, ap, ap₂, ℕ, zero, suc, ◌+◌, ◌<◌, ◌≤◌, min, max, List, [], ◌∷◌, ◌++◌, length, take, slice_index_or, slice_get, map, Option, Some, None, take-suc, take_all, true≢false, is_some, ◌-◌, unwrap_or, arith, codes}
use Rattle.std.proofs.lemmas.List.{map-append}
use Rattle.std.specs.Option.{option_map_or}
use Rattle.std.specs.Fn.{iterate}
use denote.Ref.{Bor}
use Rattle.base_core.specs.Numbers.{reported_number}
use Rattle.mdl_tree.specs.declared.tree.Section as held_section
use Rattle.mdl_tree.specs.Spelling.{Items}
use Rattle.mdl_tree.specs.Walks.{SectionTree, first_section, sections_named}
use Rattle.mdl_tree.specs.Values.{section_tree, trees_of}
use Rattle.mdl_library.specs.Given.{Given}
use Rattle.mdl_library.specs.Library.{Library, Source}
use Rattle.mdl_library.specs.Sizes.{Size, no_size, beside_size, system_size, inner_size, next_sizes, source_sizes}
use Rattle.mdl_library.specs.HeldSizes.{capped, are_capped, beside, block_size, size_at}
use Rattle.mdl_library.specs.declared.sizes.Size as held
use Rattle.mdl_library.proofs.TreeSizes.{size-same, max-assoc}
use Rattle.mdl_library.proofs.GraphLemmas.{get-some}
use Rattle.mdl_library.proofs.Blocks.{blocks_size, size_blocks, size_system}

-- ---- Sizes

held-same : (a b c d : ℕ) → a ≡ b → c ≡ d →
    (let s : held.Size = record { blocks = a; depth = c } in s) ≡ record { blocks = b; depth = d }
held-same a b c d e f = λ i. record { blocks = e i; depth = f i }

sum-capped : (a b : ℕ) → min (min a 4294967295 + min b 4294967295) 4294967295 ≡ min (a + b) 4294967295
sum-capped a b = omega arith

max-capped : (a b : ℕ) → max (min a 4294967295) (min b 4294967295) ≡ min (max a b) 4294967295
max-capped a b = omega arith

pub beside_capped : (a b : Size) → beside (capped a) (capped b) ≡ capped (beside_size a b)
beside_capped a b =
    held-same (reported_number (reported_number a.blocks + reported_number b.blocks)) (reported_number (a.blocks + b.blocks))
    (max (reported_number a.depth) (reported_number b.depth)) (reported_number (max a.depth b.depth)) (sum-capped a.blocks b.blocks)
    (max-capped a.depth b.depth)

-- ---- Blocks one after another

plus-assoc : (a b c : ℕ) → a + (b + c) ≡ a + b + c
plus-assoc a b c = omega arith

plus-none : (a : ℕ) → a + 0 ≡ 0 + a
plus-none a = omega arith

max-none : (a : ℕ) → max a 0 ≡ max 0 a
max-none a = omega arith

beside-assoc : (a b c : Size) → beside_size a (beside_size b c) ≡ beside_size (beside_size a b) c
beside-assoc a b c =
    size-same (a.blocks + (b.blocks + c.blocks)) (a.blocks + b.blocks + c.blocks) (max a.depth (max b.depth c.depth))
    (max (max a.depth b.depth) c.depth) (plus-assoc a.blocks b.blocks c.blocks) (max-assoc a.depth b.depth c.depth)

beside-none : (a : Size) → beside_size a no_size ≡ beside_size no_size a
beside-none a = size-same (a.blocks + 0) (0 + a.blocks) (max a.depth 0) (max 0 a.depth) (plus-none a.blocks) (max-none a.depth)

module _ (sources : List Source) (given : Given) (sizes : List Size) where
  blocks-push : (xs : List SectionTree) (x : SectionTree) →
      blocks_size sources given sizes (xs ++ x ∷ [])
      ≡ beside_size (blocks_size sources given sizes xs) (block_size sources given sizes x)
  blocks-push [] x = beside-none (block_size sources given sizes x)
  blocks-push (y ∷ ys) x =
      ap (beside_size (block_size sources given sizes y)) (blocks-push ys x)
      ∙ beside-assoc (block_size sources given sizes y) (blocks_size sources given sizes ys) (block_size sources given sizes x)

-- one block more
pub size_more : (sources : List Source) (given : Given) (sizes : List Size) (xs : List (Bor held_section.Section)) (i : ℕ)
    (x : Bor held_section.Section) → i < length xs → x ≡ slice_index_or xs i x → (before one after : held.Size) →
    after ≡ beside before one → one ≡ capped (block_size sources given sizes (section_tree x.now)) →
    before ≡ capped (blocks_size sources given sizes (trees_of (take i xs))) →
    after ≡ capped (blocks_size sources given sizes (trees_of (take (i + 1) xs)))
size_more sources given sizes xs i x h e before one after is is_one is_before =
    let block = section_tree x.now in
    let so_far = blocks_size sources given sizes (trees_of (take i xs)) in
    is ∙ ap₂ beside is_before is_one ∙ beside_capped so_far (block_size sources given sizes block)
    ∙ ap capped (sym (blocks-push sources given sizes (trees_of (take i xs)) block)
    ∙ ap (blocks_size sources given sizes) (sym (map-append (λ (y : Bor held_section.Section). section_tree y.now) (take i xs) (x ∷ []))
    ∙ ap trees_of (ap (λ y. take i xs ++ y ∷ []) e ∙ sym (take-suc xs i x h) ∙ ap (λ k. take k xs) (one_more i))))
  where
    one_more : (i : ℕ) → suc i ≡ i + 1
    one_more i = omega arith

pub size_end : (sources : List Source) (given : Given) (sizes : List Size) (xs : List (Bor held_section.Section)) (i : ℕ) → length xs ≤ i →
    (items : Items) → trees_of xs ≡ sections_named (codes "Block") items → (size : held.Size) →
    size ≡ capped (blocks_size sources given sizes (trees_of (take i xs))) → size ≡ capped (system_size sources given sizes items)
size_end sources given sizes xs i h items named size is =
    is ∙ ap (λ ys. capped (blocks_size sources given sizes ys)) (ap trees_of (take_all i xs h) ∙ named)
    ∙ ap capped (sym (size_blocks sources given sizes items))

-- the first System of a section, and where there is none
pub inner_some : (sources : List Source) (given : Given) (sizes : List Size) (items : Items) (system : SectionTree) →
    Some system ≡ first_section (codes "System") items →
    system_size sources given sizes system.items ≡ inner_size sources given sizes items
inner_some sources given sizes items system e =
    ap (λ o. option_map_or (λ (s : SectionTree). system_size sources given sizes s.items) o no_size) e
    ∙ sym (size_system sources given sizes items)

pub inner_none : (sources : List Source) (given : Given) (sizes : List Size) (items : Items) →
    None ≡ first_section (codes "System") items → no_size ≡ inner_size sources given sizes items
inner_none sources given sizes items e =
    ap (λ o. option_map_or (λ (s : SectionTree). system_size sources given sizes s.items) o no_size) e
    ∙ sym (size_system sources given sizes items)

-- ---- Rounds

pub iterate_more : {A : Type 0} (h : A → A) (n : ℕ) (x : A) → h (iterate h n x) ≡ iterate h (n + 1) x
iterate_more h n x = go h n x ∙ ap (λ k. iterate h k x) (one_more n)
  where
    go : {A : Type 0} (h : A → A) (n : ℕ) (x : A) → h (iterate h n x) ≡ iterate h (suc n) x
    go h zero x = refl
    go h (suc n) x = go h n (h x)

    one_more : (n : ℕ) → suc n ≡ n + 1
    one_more n = omega arith

-- one round more
pub round_more : (library : Library) (depth : ℕ) → 0 < depth →
    next_sizes library (source_sizes library (depth - 1)) ≡ source_sizes library depth
round_more library depth h =
    iterate_more (next_sizes library) (depth - 1) [] ∙ ap (source_sizes library) (more depth h)
  where
    more : (depth : ℕ) → 0 < depth → depth - 1 + 1 ≡ depth
    more depth h = omega (arith, h)

-- ---- Sources one after another

take-get : {X : Type 0} (xs : List X) (k : ℕ) (x : X) → slice_get xs k ≡ Some x → take (suc k) xs ≡ take k xs ++ x ∷ []
take-get [] k x e = absurd (true≢false (sym (ap is_some e)))
take-get (y ∷ ys) zero x e = ap (λ z. z ∷ []) (ap (λ o. unwrap_or o x) e)
take-get (y ∷ ys) (suc k) x e = ap (λ zs. y ∷ zs) (take-get ys k x e)

pub sizes_more : (sources : List Source) (given : Given) (sizes : List Size) (k : ℕ) → k < length sources →
    (olds news : List held.Size) (new : held.Size) → news ≡ olds ++ new ∷ [] → new ≡ capped (size_at sources given sizes k) →
    olds ≡ are_capped (map (λ (source : Source). inner_size sources given sizes source.1.items) (take k sources)) →
    news ≡ are_capped (map (λ (source : Source). inner_size sources given sizes source.1.items) (take (k + 1) sources))
sizes_more sources given sizes k h olds news new pushed is all = by_source (slice_get sources k) refl
  where
    size : Source → Size
    size source = inner_size sources given sizes source.1.items

    one_more : (k : ℕ) → suc k ≡ k + 1
    one_more k = omega arith

    by_source : (o : Option Source) → slice_get sources k ≡ o → news ≡ are_capped (map size (take (k + 1) sources))
    by_source None e = absurd (get-some sources k h e)
    by_source (Some source) e =
        pushed ∙ ap₂ (λ xs x. xs ++ x ∷ []) all (is ∙ ap (λ o. capped (option_map_or size o no_size)) e)
        ∙ sym (map-append capped (map size (take k sources)) (size source ∷ []))
        ∙ ap are_capped (sym (map-append size (take k sources) (source ∷ [])) ∙ ap (map size) (sym (take-get sources k source e)
        ∙ ap (λ n. take n sources) (one_more k)))
