-- How many ports the root of a model has, as its first block knows it.
use Rattle.std.proofs.Common.{◌≡◌, refl, sym, ◌∙◌, ap, ℕ, ◌+◌, Bool, true, false, List, [], ◌∷◌, ◌++◌, length, slice_get, Option, None, Some, codes}
use Rattle.std.specs.Prelude.{bytes_eq}
use Rattle.mdl_tree.specs.Spelling.{Items, End, Param, Section}
use Rattle.mdl_tree.specs.Walks.{SectionTree}
use Rattle.mdl_blocks.specs.declared.peers.Peers.{Peers}
use Rattle.mdl_blocks.specs.Peers.{peers_in}
use Rattle.mdl_systems.specs.declared.outline.Outline as held
use Rattle.mdl_systems.specs.Outlines.{Outline, outlines_in, outlines_of}
use Rattle.mdl_systems.specs.Held.{seen, all_seen, taken, blocks_held}
use Rattle.mdl_systems.proofs.OutlineLemmas.{outlines-block, outlines-other}

-- the first one of some blocks, if there is one, has these numbers of ports
abbrev FirstHas : Peers → List Outline → Type 0
FirstHas peers blocks = (b : Outline) → slice_get blocks 0 ≡ Some b → b.peers ≡ peers

first-is : (peers : Peers) (x : Outline) (rest : List Outline) → x.peers ≡ peers → FirstHas peers (x ∷ rest)
first-is peers x rest e b h = let same : x ≡ b = cc h in ap (λ (o : Outline). o.peers) (sym same) ∙ e

first-block : (next : ℕ) (owner : Option ℕ) (depth : ℕ) (peers : Peers) (section : SectionTree) (rest : Items) (t : Bool) →
    bytes_eq section.name (codes "Block") ≡ t → FirstHas peers (outlines_in next owner depth peers rest) →
    FirstHas peers (outlines_in next owner depth peers (Section section.name section.line section.items rest))
first-block next owner depth peers section rest true e more b h =
    let block : Outline = record { number = next; owner = owner; depth = depth; peers = peers; section = section } in
    first-is peers block (blocks_held next depth section.items
    ++ outlines_in (next + length (taken next owner depth peers section)) owner depth peers rest) refl b
    (sym (ap (λ blocks. slice_get blocks 0) (outlines-block next owner depth peers section.name section.line section.items rest e)) ∙ h)
first-block next owner depth peers section rest false e more b h =
    more b (sym (ap (λ blocks. slice_get blocks 0) (outlines-other next owner depth peers section.name section.line section.items rest e)) ∙ h)

first-in : (next : ℕ) (owner : Option ℕ) (depth : ℕ) (peers : Peers) (items : Items) → FirstHas peers (outlines_in next owner depth peers items)
first-in next owner depth peers End b h = absurd (let wrong : ⊥ = cc h in wrong)
first-in next owner depth peers (Param name value line rest) b h = first-in next owner depth peers rest b h
first-in next owner depth peers (Section name line items rest) b h =
    first-block next owner depth peers (record { name = name; line = line; items = items }) rest (bytes_eq name (codes "Block")) refl
    (first-in next owner depth peers rest) b h

-- the first block of a model knows how many ports its root has
pub peers_of_first : (section : SectionTree) (blocks : List held.Outline) (b : held.Outline) → all_seen blocks ≡ outlines_of section →
    slice_get blocks 0 ≡ Some b → b.peers ≡ peers_in section.items
peers_of_first section [] b all h = absurd (let wrong : ⊥ = cc h in wrong)
peers_of_first section (x ∷ rest) b all h =
    let same : x ≡ b = cc h in
    ap (λ (o : held.Outline). o.peers) (sym same)
    ∙ first-in 0 None 0 (peers_in section.items) section.items (seen x) (ap (λ blocks. slice_get blocks 0) (sym all))
