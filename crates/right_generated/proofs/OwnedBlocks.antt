-- The blocks inside a subsystem have it, or a subsystem inside it, as their owner.
use Rattle.std.proofs.Common.{◌≡◌, refl, ℕ, ◌+◌, Bool, true, false, List, [], ◌∷◌, ◌++◌, length, Some, is_some, codes, bytes_eq}
use Rattle.std.specs.List.{AllByRecursion}
use Rattle.mdl_tree.specs.Spelling.{Items, End, Param, Section}
use Rattle.mdl_params.specs.declared.BlockType.TheVariants.{SubSystem}
use Rattle.mdl_blocks.specs.declared.peers.Peers.{Peers}
use Rattle.mdl_blocks.specs.Peers.{writes_type, peers_in}
use Rattle.mdl_systems.specs.Outlines.{Outline, outlines_in, outlines_inside}
use Rattle.mdl_systems.specs.Held.{blocks_held}
use Rattle.right_generated.proofs.Plans.{all_append}

-- a block that isn't one of the root
abbrev pub IsOwned : Outline → Type 0
IsOwned b = is_some b.owner ≡ true

held_owned : (t : Bool) (xs : List Outline) → AllByRecursion IsOwned xs → AllByRecursion IsOwned (elim t [ true ↦ xs | false ↦ [] ])
held_owned true xs all = all
held_owned false xs all = tt

section_owned : (t : Bool) (block : Outline) (held : List Outline) (next : ℕ) (more : ℕ → List Outline) →
    IsOwned block → AllByRecursion IsOwned held → ((n : ℕ) → AllByRecursion IsOwned (more n)) →
    AllByRecursion IsOwned (elim t [ true ↦ block ∷ (held ++ more (next + 1 + length held)) | false ↦ more next ])
section_owned true block held next more own inside after = (own, all_append IsOwned held _ inside (after _))
section_owned false block held next more own inside after = after next

system_owned : (t : Bool) (xs ys : List Outline) → AllByRecursion IsOwned xs → AllByRecursion IsOwned ys →
    AllByRecursion IsOwned (elim t [ true ↦ xs | false ↦ ys ])
system_owned true xs ys p q = p
system_owned false xs ys p q = q

mutual
  owned_in : (next e depth : ℕ) (peers : Peers) (items : Items) → AllByRecursion IsOwned (outlines_in next (Some e) depth peers items)
  owned_in next e depth peers End = tt
  owned_in next e depth peers (Param name value line rest) = owned_in next e depth peers rest
  owned_in next e depth peers (Section name line items rest) =
      section_owned (bytes_eq name (codes "Block"))
      (record { number = next; owner = Some e; depth = depth; peers = peers; section = record { name = name; line = line; items = items } })
      (blocks_held next depth items) next (λ n. outlines_in n (Some e) depth peers rest) refl
      (held_owned (writes_type SubSystem items) _ (owned_inside next (depth + 1) items))
      (λ n. owned_in n e depth peers rest)

  owned_inside : (e depth : ℕ) (items : Items) → AllByRecursion IsOwned (outlines_inside e depth items)
  owned_inside e depth End = tt
  owned_inside e depth (Param name value line rest) = owned_inside e depth rest
  owned_inside e depth (Section name line items rest) =
      system_owned (bytes_eq name (codes "System")) _ _ (owned_in (e + 1) e depth (peers_in items) items) (owned_inside e depth rest)

-- the blocks inside a block have an owner
pub inner_owned : (next depth : ℕ) (items : Items) → AllByRecursion IsOwned (blocks_held next depth items)
inner_owned next depth items = held_owned (writes_type SubSystem items) _ (owned_inside next (depth + 1) items)
