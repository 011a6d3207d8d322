-- The size of the blocks of a System, block by block.
use Rattle.std.proofs.Common.{◌≡◌, refl, sym, ◌∙◌, ap, ap₂, ℕ, zero, suc, ◌+◌, max, Bool, true, false, cond, List, [], ◌∷◌, ◌++◌, length, length-append, Option, Some, None, codes, arith}
use Rattle.std.specs.Prelude.{bytes_eq}
use Rattle.mdl_tree.specs.Spelling.{Items, End, Param, Section}
use Rattle.mdl_tree.specs.Walks.{SectionTree}
use Rattle.mdl_params.specs.declared.BlockType.TheVariants.{SubSystem}
use Rattle.mdl_blocks.specs.declared.peers.Peers.{Peers}
use Rattle.mdl_blocks.specs.Peers.{writes_type, peers_in}
use Rattle.mdl_systems.specs.Outlines.{Outline, outlines_in, outlines_inside, is_subsystem}
use Rattle.mdl_library.specs.Sizes.{Size, no_size, beside_size, plain_size, subsystem_size}
use Rattle.mdl_library.specs.Laws.{deepest, size_of_blocks}

-- ---- Sizes of trees

abbrev mutual
  -- the size of a System, block by block
  pub tree_size : Items → Size
  tree_size End = no_size
  tree_size (Param name value line rest) = tree_size rest
  tree_size (Section name line items rest) = elim (bytes_eq name (codes "Block")) [
    | true ↦
        let own : Size = elim (writes_type SubSystem items) [
          | true ↦ subsystem_size (tree_inner items)
          | false ↦ plain_size
        ] in
        beside_size own (tree_size rest)
    | false ↦ tree_size rest
  ]

  -- that of the first System among a block's items
  pub tree_inner : Items → Size
  tree_inner End = no_size
  tree_inner (Param name value line rest) = tree_inner rest
  tree_inner (Section name line items rest) = elim (bytes_eq name (codes "System")) [
    | true ↦ tree_size items
    | false ↦ tree_inner rest
  ]

-- the size of one block
abbrev pub tree_own : Items → Size
tree_own items = elim (writes_type SubSystem items) [
  | true ↦ subsystem_size (tree_inner items)
  | false ↦ plain_size
]

-- ---- Sizes of blocks

-- a size at a depth
abbrev pub raised : (depth : ℕ) → ℕ → ℕ
raised depth zero = 0
raised depth (suc n) = depth + suc n

abbrev pub raise : (depth : ℕ) → Size → Size
raise depth size = record { blocks = size.blocks; depth = raised depth size.depth }

pub size-same : (a b c d : ℕ) → a ≡ b → c ≡ d →
    (let s : Size = record { blocks = a; depth = c } in s) ≡ record { blocks = b; depth = d }
size-same a b c d e f = λ i. record { blocks = e i; depth = f i }

pub max-assoc : (a b c : ℕ) → max a (max b c) ≡ max (max a b) c
max-assoc a b c = omega arith

max-zero : (b : ℕ) → max 0 b ≡ b
max-zero b = omega arith

max-none : (a : ℕ) → max a 0 ≡ a
max-none a = omega arith

max-suc : (a b : ℕ) → max (suc a) (suc b) ≡ suc (max a b)
max-suc a b = omega arith

max-plus : (d a b : ℕ) → d + suc (max a b) ≡ max (d + suc a) (d + suc b)
max-plus d a b = omega arith

deepest-append : (xs ys : List Outline) → deepest (xs ++ ys) ≡ max (deepest xs) (deepest ys)
deepest-append [] ys = sym (max-zero (deepest ys))
deepest-append (x ∷ xs) ys = by_test (is_subsystem x) (deepest-append xs ys)
  where
    by_test : (t : Bool) → deepest (xs ++ ys) ≡ max (deepest xs) (deepest ys) →
        cond t (max (x.depth + 1) (deepest (xs ++ ys))) (deepest (xs ++ ys))
        ≡ max (cond t (max (x.depth + 1) (deepest xs)) (deepest xs)) (deepest ys)
    by_test true more = ap (max (x.depth + 1)) more ∙ max-assoc (x.depth + 1) (deepest xs) (deepest ys)
    by_test false more = more

raised-max : (d a b : ℕ) → raised d (max a b) ≡ max (raised d a) (raised d b)
raised-max d zero b = ap (raised d) (max-zero b) ∙ sym (max-zero (raised d b))
raised-max d (suc a) zero = ap (raised d) (max-none (suc a)) ∙ sym (max-none (d + suc a))
raised-max d (suc a) (suc b) = ap (raised d) (max-suc a b) ∙ max-plus d a b

raised-none : (n : ℕ) → raised 0 n ≡ n
raised-none zero = refl
raised-none (suc n) = omega arith

-- a subsystem at a depth, with what is inside it one deeper
raised-more : (d n : ℕ) → raised d (n + 1) ≡ max (d + 1) (raised (d + 1) n)
raised-more d zero = omega arith
raised-more d (suc n) = ap (raised d) (one_more n) ∙ deeper d n
  where
    one_more : (n : ℕ) → suc n + 1 ≡ suc (suc n)
    one_more n = omega arith

    deeper : (d n : ℕ) → d + suc (suc n) ≡ max (d + 1) (d + 1 + suc n)
    deeper d n = omega arith

-- a block, what is inside it, and what follows it
more-blocks : (block : Outline) (inside rest : List Outline) (own more : Size) → is_subsystem block ≡ true →
    size_of_blocks inside ≡ raise (block.depth + 1) own → size_of_blocks rest ≡ raise block.depth more →
    size_of_blocks (block ∷ inside ++ rest) ≡ raise block.depth (beside_size (subsystem_size own) more)
more-blocks block inside rest own more subsystem e f =
    size-same (length (block ∷ inside ++ rest)) (own.blocks + 1 + more.blocks) (deepest (block ∷ inside ++ rest))
    (raised block.depth (max (own.depth + 1) more.depth))
    (omega (
      arith,
      length-append inside rest,
      ap (λ (s : Size). s.blocks) e,
      ap (λ (s : Size). s.blocks) f,
    ))
    (ap (λ t. cond t (max (block.depth + 1) (deepest (inside ++ rest))) (deepest (inside ++ rest))) subsystem
    ∙ ap (max (block.depth + 1)) (deepest-append inside rest
    ∙ ap₂ max (ap (λ (s : Size). s.depth) e) (ap (λ (s : Size). s.depth) f))
    ∙ max-assoc (block.depth + 1) (raised (block.depth + 1) own.depth) (raised block.depth more.depth)
    ∙ ap (λ n. max n (raised block.depth more.depth)) (sym (raised-more block.depth own.depth))
    ∙ sym (raised-max block.depth (own.depth + 1) more.depth))

plain-block : (block : Outline) (rest : List Outline) (more : Size) → is_subsystem block ≡ false →
    size_of_blocks rest ≡ raise block.depth more → size_of_blocks (block ∷ [] ++ rest) ≡ raise block.depth (beside_size plain_size more)
plain-block block rest more plain f =
    size-same (length (block ∷ rest)) (1 + more.blocks) (deepest (block ∷ rest)) (raised block.depth (max 0 more.depth))
    (omega (arith, ap (λ (s : Size). s.blocks) f))
    (ap (λ t. cond t (max (block.depth + 1) (deepest rest)) (deepest rest)) plain ∙ ap (λ (s : Size). s.depth) f
    ∙ ap (raised block.depth) (sym (max-zero more.depth)))

mutual
  pub blocks-size : (items : Items) (next : ℕ) (owner : Option ℕ) (depth : ℕ) (peers : Peers) →
      size_of_blocks (outlines_in next owner depth peers items) ≡ raise depth (tree_size items)
  blocks-size End next owner depth peers = refl
  blocks-size (Param name value line rest) next owner depth peers = blocks-size rest next owner depth peers
  blocks-size (Section name line items rest) next owner depth peers =
      by_test (bytes_eq name (codes "Block")) (writes_type SubSystem items) refl
      (inside-size items next (depth + 1))
      (λ n. blocks-size rest n owner depth peers)
    where
      here : SectionTree
      here = record { name = name; line = line; items = items }

      block : Outline
      block = record { number = next; owner = owner; depth = depth; peers = peers; section = here }

      inside : Bool → List Outline
      inside t = elim t [
        | true ↦ outlines_inside next (depth + 1) items
        | false ↦ []
      ]

      by_test : (t u : Bool) → writes_type SubSystem items ≡ u →
          size_of_blocks (outlines_inside next (depth + 1) items) ≡ raise (depth + 1) (tree_inner items) →
          ((n : ℕ) → size_of_blocks (outlines_in n owner depth peers rest) ≡ raise depth (tree_size rest)) →
          size_of_blocks (elim t [
            | true ↦ block ∷ inside u ++ outlines_in (next + 1 + length (inside u)) owner depth peers rest
            | false ↦ outlines_in next owner depth peers rest
          ])
          ≡ raise depth (elim t [
            | true ↦ beside_size (elim u [
              | true ↦ subsystem_size (tree_inner items)
              | false ↦ plain_size
            ]) (tree_size rest)
            | false ↦ tree_size rest
          ])
      by_test true true is inner more =
          more-blocks block (inside true) (outlines_in (next + 1 + length (inside true)) owner depth peers rest) (tree_inner items)
          (tree_size rest) is inner (more (next + 1 + length (inside true)))
      by_test true false is inner more =
          plain-block block (outlines_in (next + 1 + 0) owner depth peers rest) (tree_size rest) is (more (next + 1 + 0))
      by_test false u is inner more = more next

  pub inside-size : (items : Items) (next depth : ℕ) → size_of_blocks (outlines_inside next depth items) ≡ raise depth (tree_inner items)
  inside-size End next depth = refl
  inside-size (Param name value line rest) next depth = inside-size rest next depth
  inside-size (Section name line items rest) next depth =
      by_test (bytes_eq name (codes "System")) (blocks-size items (next + 1) (Some next) depth (peers_in items)) (inside-size rest next depth)
    where
      by_test : (t : Bool) →
          size_of_blocks (outlines_in (next + 1) (Some next) depth (peers_in items) items) ≡ raise depth (tree_size items) →
          size_of_blocks (outlines_inside next depth rest) ≡ raise depth (tree_inner rest) →
          size_of_blocks (elim t [
            | true ↦ outlines_in (next + 1) (Some next) depth (peers_in items) items
            | false ↦ outlines_inside next depth rest
          ])
          ≡ raise depth (elim t [
            | true ↦ tree_size items
            | false ↦ tree_inner rest
          ])
      by_test true inner more = inner
      by_test false inner more = more

-- the blocks of a model's System
pub model-size : (items : Items) (peers : Peers) → size_of_blocks (outlines_in 0 None 0 peers items) ≡ tree_size items
model-size items peers =
    blocks-size items 0 None 0 peers
    ∙ size-same (tree_size items).blocks (tree_size items).blocks (raised 0 (tree_size items).depth) (tree_size items).depth refl
    (raised-none (tree_size items).depth)
