-- The sections of the blocks of a System, one by one.
use Rattle.std.proofs.Common.{◌≡◌, sym, ◌∙◌, ap, ap₂, ℕ, suc, ◌+◌, true, false, List, ◌++◌, length, map, Option, Some, append_assoc, length-append, arith, codes, refl, subst, ◌≤◌, Bool, [], ◌∷◌, None}
use Rattle.std.specs.Prelude.{bytes_eq}
use Rattle.std.specs.List.{AllByRecursion}
use Rattle.std.proofs.Math.Nat.{min-le_right}
use Rattle.std.proofs.lemmas.List.{length-map, map-append}
use Rattle.mdl_tree.specs.Spelling.{Items, End}
use Rattle.mdl_tree.specs.Spelling as spelling
use Rattle.mdl_tree.specs.Walks.{SectionTree}
use Rattle.mdl_blocks.specs.declared.peers.Peers.{Peers}
use Rattle.mdl_params.specs.declared.BlockType.TheVariants.{Inport, Outport, SubSystem}
use Rattle.mdl_blocks.specs.Peers.{count_in, peers_in, writes_type}
use Rattle.mdl_systems.specs.Outlines.{Outline, outlines_in, outlines_inside, outlines_of}
use Rattle.mdl_systems.specs.Held.{taken, blocks_held}
use Rattle.emit_notes.specs.declared.sections.PlacedSection.{PlacedSection}
use Rattle.emit_notes.specs.Sections.{section_of, section_seen, all_seen, with_blocks}

-- a Block in front of the items
outlines-block : (next : ℕ) (owner : Option ℕ) (depth : ℕ) (peers : Peers) (section : SectionTree) (rest : Items) →
    bytes_eq section.name (codes "Block") ≡ true →
    outlines_in next owner depth peers (spelling.Section section.name section.line section.items rest)
    ≡ taken next owner depth peers section
    ++ outlines_in (next + length (taken next owner depth peers section)) owner depth peers rest
outlines-block next owner depth peers section rest e =
    ap (λ t. elim t [
      | true ↦ block ++ outlines_in (next + 1 + inside) owner depth peers rest
      | false ↦ outlines_in next owner depth peers rest
    ]) e ∙ ap (λ n. block ++ outlines_in n owner depth peers rest) (count next inside)
  where
    block : List Outline
    block = taken next owner depth peers section

    inside : ℕ
    inside = length (blocks_held next depth section.items)

    count : (a b : ℕ) → a + 1 + b ≡ a + suc b
    count a b = omega arith

-- another section in front of them
pub outlines-other : (next : ℕ) (owner : Option ℕ) (depth : ℕ) (peers : Peers) (section : SectionTree) (rest : Items) →
    bytes_eq section.name (codes "Block") ≡ false →
    outlines_in next owner depth peers (spelling.Section section.name section.line section.items rest)
    ≡ outlines_in next owner depth peers rest
outlines-other next owner depth peers section rest e =
    ap (λ t. elim t [
      | true ↦ taken next owner depth peers section
          ++ outlines_in (next + 1 + length (blocks_held next depth section.items)) owner depth peers rest
      | false ↦ outlines_in next owner depth peers rest
    ]) e

-- the sections that are taken are counted
length-news : (olds news : List PlacedSection) (more : List Outline) → all_seen news ≡ with_blocks olds more →
    length news ≡ length olds + length more
length-news olds news more e =
    sym (length-map news section_seen) ∙ ap length e ∙ length-append (all_seen olds) (map section_of more)
    ∙ ap₂ (λ a b. a + b) (length-map olds section_seen) (length-map more section_of)

-- one Block more is taken
pub more-block : (olds news : List PlacedSection) (owner : Option ℕ) (depth : ℕ) (peers : Peers) (section : SectionTree) (rest : Items) →
    bytes_eq section.name (codes "Block") ≡ true →
    all_seen news ≡ with_blocks olds (taken (length olds) owner depth peers section) →
    with_blocks news (outlines_in (length news) owner depth peers rest)
    ≡ with_blocks olds (outlines_in (length olds) owner depth peers (spelling.Section section.name section.line section.items rest))
more-block olds news owner depth peers section rest named e =
    ap₂ (λ xs n. xs ++ map section_of (outlines_in n owner depth peers rest)) e (length-news olds news more e)
    ∙ append_assoc (all_seen olds) (map section_of more) (map section_of later)
    ∙ ap (λ xs. all_seen olds ++ xs) (sym (map-append section_of more later)
    ∙ ap (map section_of) (sym (outlines-block (length olds) owner depth peers section rest named)))
  where
    more : List Outline
    more = taken (length olds) owner depth peers section

    later : List Outline
    later = outlines_in (length olds + length more) owner depth peers rest

-- a System in front of the items of a subsystem
pub inside-system : (number depth : ℕ) (section : SectionTree) (rest : Items) → bytes_eq section.name (codes "System") ≡ true →
    outlines_inside number depth (spelling.Section section.name section.line section.items rest)
    ≡ outlines_in (number + 1) (Some number) depth (peers_in section.items) section.items
inside-system number depth section rest e =
    ap (λ t. elim t [
      | true ↦ outlines_in (number + 1) (Some number) depth (peers_in section.items) section.items
      | false ↦
          outlines_inside number depth rest
    ]) e

-- ---- Ports

-- both counts fit 32 bits
abbrev pub Fits32 : Peers → Type 0
Fits32 peers = (peers.inports ≤ 4_294_967_295) × (peers.outports ≤ 4_294_967_295)

-- the counts of the systems of all these blocks do
abbrev pub AllFit32 : List Outline → Type 0
AllFit32 blocks = AllByRecursion (λ (b : Outline). Fits32 b.peers) blocks

peers-fit : (items : Items) → Fits32 (peers_in items)
peers-fit items =
    (min-le_right (count_in Inport items) 4_294_967_295, min-le_right (count_in Outport items) 4_294_967_295)

append-fit : (xs ys : List Outline) → AllFit32 xs → AllFit32 ys → AllFit32 (xs ++ ys)
append-fit [] ys fit more = more
append-fit (x ∷ xs) ys fit more = (fit.0, append-fit xs ys fit.1 more)

section-fits : (next : ℕ) (owner : Option ℕ) (depth : ℕ) (peers : Peers) (section : SectionTree) (rest : Items) → Fits32 peers →
    AllFit32 (outlines_inside next (depth + 1) section.items) → ((n : ℕ) → AllFit32 (outlines_in n owner depth peers rest)) →
    AllFit32 (outlines_in next owner depth peers (spelling.Section section.name section.line section.items rest))
section-fits next owner depth peers section rest fit inside more = by (bytes_eq section.name (codes "Block")) refl
  where
    held : (t : Bool) → AllFit32 (elim t [
      | true ↦ outlines_inside next (depth + 1) section.items
      | false ↦ []
    ])
    held true = inside
    held false = tt

    by : (t : Bool) → bytes_eq section.name (codes "Block") ≡ t →
        AllFit32 (outlines_in next owner depth peers (spelling.Section section.name section.line section.items rest))
    by true e =
        subst AllFit32 (sym (outlines-block next owner depth peers section rest e))
        (append-fit (taken next owner depth peers section)
        (outlines_in (next + length (taken next owner depth peers section)) owner depth peers rest)
        (fit, held (writes_type SubSystem section.items)) (more (next + length (taken next owner depth peers section))))
    by false e = subst AllFit32 (sym (outlines-other next owner depth peers section rest e)) (more next)

system-fits : (number depth : ℕ) (section : SectionTree) (rest : Items) →
    AllFit32 (outlines_in (number + 1) (Some number) depth (peers_in section.items) section.items) →
    AllFit32 (outlines_inside number depth rest) →
    AllFit32 (outlines_inside number depth (spelling.Section section.name section.line section.items rest))
system-fits number depth section rest here more = by (bytes_eq section.name (codes "System"))
  where
    by : (t : Bool) → AllFit32 (elim t [
      | true ↦ outlines_in (number + 1) (Some number) depth (peers_in section.items) section.items
      | false ↦ outlines_inside number depth rest
    ])
    by true = here
    by false = more

mutual
  -- the ports of each block's system are counted in 32 bits
  pub outlines-fit : (next : ℕ) (owner : Option ℕ) (depth : ℕ) (peers : Peers) (items : Items) → Fits32 peers →
      AllFit32 (outlines_in next owner depth peers items)
  outlines-fit next owner depth peers End fit = tt
  outlines-fit next owner depth peers (spelling.Param name value line rest) fit = outlines-fit next owner depth peers rest fit
  outlines-fit next owner depth peers (spelling.Section name line items rest) fit =
      section-fits next owner depth peers (record { name = name; line = line; items = items }) rest fit
      (inside-fits next (depth + 1) items) (λ n. outlines-fit n owner depth peers rest fit)

  inside-fits : (number depth : ℕ) (items : Items) → AllFit32 (outlines_inside number depth items)
  inside-fits number depth End = tt
  inside-fits number depth (spelling.Param name value line rest) = inside-fits number depth rest
  inside-fits number depth (spelling.Section name line items rest) =
      system-fits number depth (record { name = name; line = line; items = items }) rest
      (outlines-fit (number + 1) (Some number) depth (peers_in items) items (peers-fit items)) (inside-fits number depth rest)

pub model-fits : (system : SectionTree) → AllFit32 (outlines_of system)
model-fits system = outlines-fit 0 None 0 (peers_in system.items) system.items (peers-fit system.items)
