-- The blocks of a System, one by one.
use Rattle.std.proofs.Common.{◌≡◌, sym, ◌∙◌, ap, ap₂, ℕ, suc, ◌+◌, ◌≤◌, true, false, List, ◌++◌, length, drop, Option, Some, append_assoc, append-nil, drop_of_length-le, length-append, arith, codes}
use Rattle.std.specs.Prelude.{bytes_eq}
use Rattle.std.proofs.lemmas.List.{length-map}
use Rattle.mdl_tree.specs.declared.tree.Item.{Item}
use Rattle.mdl_tree.specs.Spelling.{Items}
use Rattle.mdl_tree.specs.Spelling as spelling
use Rattle.mdl_tree.specs.Walks.{SectionTree}
use Rattle.mdl_tree.specs.Values.{items_of}
use Rattle.mdl_blocks.specs.declared.peers.Peers.{Peers}
use Rattle.mdl_blocks.specs.Peers.{peers_in}
use Rattle.mdl_systems.specs.declared.outline.Outline as held
use Rattle.mdl_systems.specs.Outlines.{Outline, outlines_in, outlines_inside}
use Rattle.mdl_systems.specs.Held.{seen, all_seen, taken, blocks_held}

-- a Block in front of the items
pub outlines-block : (next : ℕ) (owner : Option ℕ) (depth : ℕ) (peers : Peers) (name : List ℕ) (line : ℕ)
    (items rest : Items) → bytes_eq name (codes "Block") ≡ true →
    outlines_in next owner depth peers (spelling.Section name line items rest)
    ≡ taken next owner depth peers (record { name = name; line = line; items = items })
    ++ outlines_in (next + length (taken next owner depth peers (record { name = name; line = line; items = items })))
    owner depth peers rest
outlines-block next owner depth peers name line items rest e =
    ap (λ t. elim t [
      | true ↦ block ++ outlines_in (next + 1 + inside) owner depth peers rest
      | false ↦ outlines_in next owner depth peers rest
    ]) e ∙ ap (λ n. block ++ outlines_in n owner depth peers rest) (count next inside)
  where
    block : List Outline
    block = taken next owner depth peers (record { name = name; line = line; items = items })

    inside : ℕ
    inside = length (blocks_held next depth items)

    count : (a b : ℕ) → a + 1 + b ≡ a + suc b
    count a b = omega arith

-- another section in front of them
pub outlines-other : (next : ℕ) (owner : Option ℕ) (depth : ℕ) (peers : Peers) (name : List ℕ) (line : ℕ)
    (items rest : Items) → bytes_eq name (codes "Block") ≡ false →
    outlines_in next owner depth peers (spelling.Section name line items rest) ≡ outlines_in next owner depth peers rest
outlines-other next owner depth peers name line items rest e =
    ap (λ t. elim t [
      | true ↦ block ++ outlines_in (next + 1 + length (blocks_held next depth items)) owner depth peers rest
      | false ↦ outlines_in next owner depth peers rest
    ]) e
  where
    block : List Outline
    block = taken next owner depth peers (record { name = name; line = line; items = items })

-- the blocks that are taken are counted
pub length-news : (olds news : List held.Outline) (more : List Outline) → all_seen news ≡ all_seen olds ++ more →
    length news ≡ length olds + length more
length-news olds news more e =
    sym (length-map news seen) ∙ ap length e ∙ length-append (all_seen olds) more ∙ ap (λ n. n + length more) (length-map olds seen)

-- one Block more is taken
pub more-block : (olds news : List held.Outline) (owner : Option ℕ) (depth : ℕ) (peers : Peers) (section : SectionTree) (rest : Items) →
    bytes_eq section.name (codes "Block") ≡ true → all_seen news ≡ all_seen olds ++ taken (length olds) owner depth peers section →
    all_seen news ++ outlines_in (length news) owner depth peers rest
    ≡ all_seen olds ++ outlines_in (length olds) owner depth peers (spelling.Section section.name section.line section.items rest)
more-block olds news owner depth peers section rest named e =
    let more = taken (length olds) owner depth peers section in
    ap₂ (λ xs n. xs ++ outlines_in n owner depth peers rest) e (length-news olds news more e)
    ∙ append_assoc (all_seen olds) more (outlines_in (length olds + length more) owner depth peers rest)
    ∙ ap (λ xs. all_seen olds ++ xs)
    (sym (outlines-block (length olds) owner depth peers section.name section.line section.items rest named))

-- a System in front of the items of a subsystem
pub inside-system : (number depth : ℕ) (name : List ℕ) (line : ℕ) (items rest : Items) → bytes_eq name (codes "System") ≡ true →
    outlines_inside number depth (spelling.Section name line items rest)
    ≡ outlines_in (number + 1) (Some number) depth (peers_in items) items
inside-system number depth name line items rest e =
    ap (λ t. elim t [
      | true ↦ outlines_in (number + 1) (Some number) depth (peers_in items) items
      | false ↦
          outlines_inside number depth rest
    ]) e

-- another section in front of them
pub inside-other : (number depth : ℕ) (name : List ℕ) (line : ℕ) (items rest : Items) → bytes_eq name (codes "System") ≡ false →
    outlines_inside number depth (spelling.Section name line items rest) ≡ outlines_inside number depth rest
inside-other number depth name line items rest e =
    ap (λ t. elim t [
      | true ↦ outlines_in (number + 1) (Some number) depth (peers_in items) items
      | false ↦
          outlines_inside number depth rest
    ]) e

-- nothing is taken after the last item
pub inside-end : (olds : List held.Outline) (number depth : ℕ) (items : List Item) (i : ℕ) → length items ≤ i → (whole : List Outline) →
    outlines_inside number depth (items_of (drop i items)) ≡ whole → all_seen olds ≡ all_seen olds ++ whole
inside-end olds number depth items i h whole e =
    sym (append-nil (all_seen olds))
    ∙ ap (λ xs. all_seen olds ++ xs)
    (ap (λ rest. outlines_inside number depth (items_of rest)) (sym (drop_of_length-le items h)) ∙ e)
