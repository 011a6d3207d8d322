-- The numbers of blocks in the order of the file.
use Rattle.std.proofs.Common.{◌≡◌, refl, sym, ◌∙◌, ap, subst, ℕ, zero, suc, ◌+◌, Bool, true, false, List, [], ◌∷◌, ◌++◌, length, slice_get, Option, None, Some, arith, codes}
use Rattle.std.specs.Prelude.{bytes_eq, ⊤}
use Rattle.mdl_tree.specs.Spelling.{Items, End, Param, Section}
use Rattle.mdl_tree.specs.Walks.{SectionTree}
use Rattle.mdl_params.specs.declared.BlockType.TheVariants.{SubSystem}
use Rattle.mdl_blocks.specs.declared.peers.Peers.{Peers}
use Rattle.mdl_blocks.specs.Peers.{writes_type, peers_in}
use Rattle.mdl_systems.specs.Outlines.{Outline, outlines_in, outlines_inside, outlines_of}
use Rattle.mdl_systems.specs.Held.{taken, blocks_held}
use Rattle.mdl_systems.proofs.OutlineLemmas.{outlines-block, outlines-other, inside-system, inside-other}

-- the blocks are numbered one by one from next on
abbrev pub AreNumbered : (next : ℕ) → List Outline → Type 0
AreNumbered next [] = ⊤
AreNumbered next (b ∷ rest) = (b.number ≡ next) × AreNumbered (suc next) rest

plus_zero : (n : ℕ) → n + 0 ≡ n
plus_zero n = omega arith

plus_suc : (n k : ℕ) → n + suc k ≡ suc n + k
plus_suc n k = omega arith

plus_one : (n : ℕ) → n + 1 ≡ suc n
plus_one n = omega arith

numbered-append : (next : ℕ) (xs ys : List Outline) → AreNumbered next xs → AreNumbered (next + length xs) ys → AreNumbered next (xs ++ ys)
numbered-append next [] ys x y = subst (λ k. AreNumbered k ys) (plus_zero next) y
numbered-append next (b ∷ xs) ys x y =
    (x.0, numbered-append (suc next) xs ys x.1 (subst (λ k. AreNumbered k ys) (plus_suc next (length xs)) y))

held-numbered : (next depth : ℕ) (items : Items) (t : Bool) → writes_type SubSystem items ≡ t →
    AreNumbered (suc next) (outlines_inside next (depth + 1) items) →
    AreNumbered (suc next) (blocks_held next depth items)
held-numbered next depth items true e inside =
    subst (AreNumbered (suc next)) (sym (ap (λ t. elim t [ true ↦ outlines_inside next (depth + 1) items | false ↦ [] ]) e)) inside
held-numbered next depth items false e inside =
    subst (AreNumbered (suc next)) (sym (ap (λ t. elim t [ true ↦ outlines_inside next (depth + 1) items | false ↦ [] ]) e)) tt

block-numbered : (next : ℕ) (owner : Option ℕ) (depth : ℕ) (peers : Peers) (section : SectionTree) (rest : Items) (t : Bool) →
    bytes_eq section.name (codes "Block") ≡ t →
    AreNumbered (suc next) (blocks_held next depth section.items) → ((n : ℕ) → AreNumbered n (outlines_in n owner depth peers rest)) →
    AreNumbered next (outlines_in next owner depth peers (Section section.name section.line section.items rest))
block-numbered next owner depth peers section rest true e held more =
    let block = taken next owner depth peers section in
    subst (AreNumbered next) (sym (outlines-block next owner depth peers section.name section.line section.items rest e))
    (numbered-append next block (outlines_in (next + length block) owner depth peers rest) (refl, held) (more (next + length block)))
block-numbered next owner depth peers section rest false e held more =
    subst (AreNumbered next) (sym (outlines-other next owner depth peers section.name section.line section.items rest e)) (more next)

inside-numbered : (e depth : ℕ) (section : SectionTree) (rest : Items) (t : Bool) → bytes_eq section.name (codes "System") ≡ t →
    AreNumbered (e + 1) (outlines_in (e + 1) (Some e) depth (peers_in section.items) section.items) →
    AreNumbered (suc e) (outlines_inside e depth rest) →
    AreNumbered (suc e) (outlines_inside e depth (Section section.name section.line section.items rest))
inside-numbered e depth section rest true named here more =
    subst (AreNumbered (suc e)) (sym (inside-system e depth section.name section.line section.items rest named))
    (subst (λ n. AreNumbered n (outlines_in (e + 1) (Some e) depth (peers_in section.items) section.items)) (plus_one e) here)
inside-numbered e depth section rest false named here more =
    subst (AreNumbered (suc e)) (sym (inside-other e depth section.name section.line section.items rest named)) more

mutual
  numbered-in : (next : ℕ) (owner : Option ℕ) (depth : ℕ) (peers : Peers) (items : Items) →
      AreNumbered next (outlines_in next owner depth peers items)
  numbered-in next owner depth peers End = tt
  numbered-in next owner depth peers (Param name value line rest) = numbered-in next owner depth peers rest
  numbered-in next owner depth peers (Section name line items rest) =
      block-numbered next owner depth peers (record { name = name; line = line; items = items }) rest (bytes_eq name (codes "Block")) refl
      (held-numbered next depth items (writes_type SubSystem items) refl (numbered-inside next (depth + 1) items))
      (λ n. numbered-in n owner depth peers rest)

  numbered-inside : (e depth : ℕ) (items : Items) → AreNumbered (suc e) (outlines_inside e depth items)
  numbered-inside e depth End = tt
  numbered-inside e depth (Param name value line rest) = numbered-inside e depth rest
  numbered-inside e depth (Section name line items rest) =
      inside-numbered e depth (record { name = name; line = line; items = items }) rest (bytes_eq name (codes "System")) refl
      (numbered-in (e + 1) (Some e) depth (peers_in items) items) (numbered-inside e depth rest)

-- the blocks of a model are numbered from 0 on
pub model-numbered : (section : SectionTree) → AreNumbered 0 (outlines_of section)
model-numbered section = numbered-in 0 None 0 (peers_in section.items) section.items

-- the number at a place
pub numbered-get : (next : ℕ) (xs : List Outline) (k : ℕ) (b : Outline) → AreNumbered next xs → slice_get xs k ≡ Some b →
    b.number ≡ next + k
numbered-get next [] k b are h = absurd (let wrong : ⊥ = cc h in wrong)
numbered-get next (x ∷ xs) zero b are h =
    let same : x ≡ b = cc h in
    ap (λ (o : Outline). o.number) (sym same) ∙ are.0 ∙ sym (plus_zero next)
numbered-get next (x ∷ xs) (suc k) b are h = numbered-get (suc next) xs k b are.1 h ∙ sym (plus_suc next k)

from_zero : (k : ℕ) → 0 + k ≡ k
from_zero k = omega arith

pub number-at : (section : SectionTree) (k : ℕ) (b : Outline) → slice_get (outlines_of section) k ≡ Some b → b.number ≡ k
number-at section k b h = numbered-get 0 (outlines_of section) k b (model-numbered section) h ∙ from_zero k
