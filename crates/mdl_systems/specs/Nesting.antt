-- How the blocks of a model are numbered and nested.
use Rattle.std.specs.Prelude.{◌≡◌, ◌<◌, ℕ, zero, suc, ◌+◌, true, List, [], ◌∷◌, length, slice_get, Contains, Option, Some, None, option_and_then, ⊤}
use Rattle.mdl_tree.specs.Walks.{SectionTree}
use Rattle.mdl_systems.specs.Outlines.{Outline, outlines_of, is_subsystem}

-- ---- Numbers

-- the number of a block is its place in the order of the file
abbrev pub OutlinesAreNumbered : Type 0
OutlinesAreNumbered =
    (section : SectionTree) (k : ℕ) (b : Outline) → slice_get (outlines_of section) k ≡ Some b →
    b.number ≡ k

-- ---- Owners

-- where block k with this depth and this owner is: in the root, at depth 0, or in a subsystem
-- before it, one level deeper
abbrev pub StandsIn : List Outline → (k depth : ℕ) → (owner : Option ℕ) → Type 0
StandsIn blocks k depth None = depth ≡ 0
StandsIn blocks k depth (Some e) =
    (e < k) × ((c : Outline) × (slice_get blocks e ≡ Some c) × (is_subsystem c ≡ true)
    × (depth ≡ c.depth + 1))

-- so it is with each block of a model
abbrev pub OwnersAreBefore : Type 0
OwnersAreBefore =
    (section : SectionTree) (k : ℕ) (b : Outline) → slice_get (outlines_of section) k ≡ Some b →
    StandsIn (outlines_of section) k b.depth b.owner

-- ---- Preorder

-- the owner of the block with this number; none where there is no such block
abbrev pub owner_at : List Outline → ℕ → Option ℕ
owner_at blocks e = option_and_then (λ (b : Outline). b.owner) (slice_get blocks e)

-- the subsystems from a system outward to the root, by their numbers: at most n
abbrev pub outward : List Outline → (n : ℕ) → Option ℕ → List ℕ
outward blocks zero o = []
outward blocks (suc n) None = []
outward blocks (suc n) (Some e) = e ∷ outward blocks n (owner_at blocks e)

-- the subsystems around a block, the innermost first
abbrev pub owners_around : List Outline → Outline → List ℕ
owners_around blocks b = outward blocks (length blocks) b.owner

-- the owner of the block after a block: that block itself, a subsystem around it, or none
abbrev pub FollowsBlock : List Outline → Outline → Option ℕ → Type 0
FollowsBlock blocks b None = ⊤
FollowsBlock blocks b (Some e) = Contains (b.number ∷ owners_around blocks b) e

-- after a block come the blocks inside it, or the next block of a system around it
abbrev pub OutlinesAreInPreorder : Type 0
OutlinesAreInPreorder =
    (section : SectionTree) (k : ℕ) (b next : Outline) →
    slice_get (outlines_of section) k ≡ Some b →
    slice_get (outlines_of section) (suc k) ≡ Some next →
    FollowsBlock (outlines_of section) b next.owner

-- the depth of a block is the number of subsystems around it
abbrev pub DepthsAreOwnersAround : Type 0
DepthsAreOwnersAround =
    (section : SectionTree) (k : ℕ) (b : Outline) → slice_get (outlines_of section) k ≡ Some b →
    b.depth ≡ length (owners_around (outlines_of section) b)
