-- The blocks of a model are in preorder.
use Rattle.std.proofs.Common.{◌≡◌, refl, sym, ◌∙◌, ap, subst, ℕ, suc, ◌+◌, Bool, true, false, cond, List, [], ◌∷◌, ◌++◌, length, append_assoc, append-nil, Option, None, Some, arith, codes}
use Rattle.std.specs.Prelude.{bytes_eq}
use Rattle.mdl_tree.specs.Spelling.{Items, End, Param, Section}
use Rattle.mdl_tree.specs.Walks.{SectionTree}
use Rattle.mdl_params.specs.declared.BlockType.TheVariants.{SubSystem}
use Rattle.mdl_blocks.specs.declared.peers.Peers.{Peers}
use Rattle.mdl_blocks.specs.Peers.{writes_type, peers_in}
use Rattle.mdl_systems.specs.Outlines.{Outline, outlines_in, outlines_inside, outlines_of, is_subsystem}
use Rattle.mdl_systems.specs.Held.{taken, blocks_held}
use Rattle.mdl_systems.proofs.OutlineLemmas.{outlines-block, outlines-other, inside-system, inside-other}

-- ---- Stacks of subsystems, the innermost first

-- the innermost one
abbrev pub top : List ℕ → Option ℕ
top [] = None
top (e ∷ es) = Some e

-- the subsystems of t are the outer ones of s
pub record IsOuter (t s : List ℕ) : Type 0 where
  pub inner : List ℕ
  pub is : s ≡ inner ++ t

outer-own : (s : List ℕ) → IsOuter s s
outer-own s = record { inner = []; is = refl }

pub outer-more : (e : ℕ) (t s : List ℕ) → IsOuter t s → IsOuter t (e ∷ s)
outer-more e t s outer = record { inner = e ∷ outer.inner; is = ap (λ xs. e ∷ xs) outer.is }

outer-less : (e : ℕ) (t s : List ℕ) → IsOuter (e ∷ t) s → IsOuter t s
outer-less e t s outer = record { inner = outer.inner ++ e ∷ []; is = outer.is ∙ sym (append_assoc outer.inner (e ∷ []) t) }

-- the stack after a block
abbrev pub behind : Outline → List ℕ → List ℕ
behind b t = cond (is_subsystem b) (b.number ∷ t) t

-- each block is in a system around the one before, or inside it
abbrev pub AreStacked : List ℕ → List Outline → Type 0
AreStacked s [] = Unit {0}
AreStacked s (b ∷ rest) = (t : List ℕ) × IsOuter t s × (b.owner ≡ top t) × (b.depth ≡ length t) × AreStacked (behind b t) rest

-- what follows is stacked wherever the systems of s are around
abbrev Continues : List ℕ → List Outline → Type 0
Continues s more = (now : List ℕ) → IsOuter s now → AreStacked now more

-- so are the blocks, and what follows
abbrev Stacks : List ℕ → List Outline → Type 0
Stacks s blocks = (more : List Outline) → Continues s more → Continues s (blocks ++ more)

one-more : (n : ℕ) → n + 1 ≡ suc n
one-more n = omega arith

held-stacked : (number depth : ℕ) (items : Items) (s : List ℕ) (t : Bool) → writes_type SubSystem items ≡ t →
    Stacks (number ∷ s) (outlines_inside number (depth + 1) items) →
    (more : List Outline) → Continues s more → AreStacked (cond t (number ∷ s) s) (blocks_held number depth items ++ more)
held-stacked number depth items s true e inside more go =
    subst (λ xs. AreStacked (number ∷ s) (xs ++ more))
    (sym (ap (λ t. elim t [ true ↦ outlines_inside number (depth + 1) items | false ↦ [] ]) e))
    (inside more (λ now outer. go now (outer-less number s now outer)) (number ∷ s) (outer-own (number ∷ s)))
held-stacked number depth items s false e inside more go =
    subst (λ xs. AreStacked s (xs ++ more))
    (sym (ap (λ t. elim t [ true ↦ outlines_inside number (depth + 1) items | false ↦ [] ]) e)) (go s (outer-own s))

section-stacked : (next : ℕ) (owner : Option ℕ) (depth : ℕ) (peers : Peers) (section : SectionTree) (rest : Items) (s : List ℕ)
    (t : Bool) → bytes_eq section.name (codes "Block") ≡ t → owner ≡ top s → depth ≡ length s →
    Stacks (next ∷ s) (outlines_inside next (depth + 1) section.items) →
    ((n : ℕ) → Stacks s (outlines_in n owner depth peers rest)) →
    Stacks s (outlines_in next owner depth peers (Section section.name section.line section.items rest))
section-stacked next owner depth peers section rest s true e own deep inside later more go now outer =
    let block = taken next owner depth peers section in
    let behind_it = outlines_in (next + length block) owner depth peers rest in
    let held = held-stacked next depth section.items s (writes_type SubSystem section.items) refl inside in
    let continues : Continues s (behind_it ++ more) = later (next + length block) more go in
    subst (λ xs. AreStacked now (xs ++ more)) (sym (outlines-block next owner depth peers section.name section.line section.items rest e))
    (subst (AreStacked now) (sym (append_assoc block behind_it more))
    (s, outer, own, deep, held (behind_it ++ more) continues))
section-stacked next owner depth peers section rest s false e own deep inside later more go now outer =
    subst (λ xs. AreStacked now (xs ++ more)) (sym (outlines-other next owner depth peers section.name section.line section.items rest e))
    (later next more go now outer)

inside-stacked : (e depth : ℕ) (section : SectionTree) (rest : Items) (s : List ℕ) (t : Bool) → bytes_eq section.name (codes "System") ≡ t →
    Stacks s (outlines_in (e + 1) (Some e) depth (peers_in section.items) section.items) → Stacks s (outlines_inside e depth rest) →
    Stacks s (outlines_inside e depth (Section section.name section.line section.items rest))
inside-stacked e depth section rest s true same here later =
    subst (Stacks s) (sym (inside-system e depth section.name section.line section.items rest same)) here
inside-stacked e depth section rest s false same here later =
    subst (Stacks s) (sym (inside-other e depth section.name section.line section.items rest same)) later

mutual
  stacked-in : (next : ℕ) (owner : Option ℕ) (depth : ℕ) (peers : Peers) (items : Items) (s : List ℕ) → owner ≡ top s → depth ≡ length s →
      Stacks s (outlines_in next owner depth peers items)
  stacked-in next owner depth peers End s own deep = λ more go. go
  stacked-in next owner depth peers (Param name value line rest) s own deep = stacked-in next owner depth peers rest s own deep
  stacked-in next owner depth peers (Section name line items rest) s own deep =
      section-stacked next owner depth peers (record { name = name; line = line; items = items }) rest s (bytes_eq name (codes "Block"))
      refl own deep (stacked-inside next (depth + 1) items (next ∷ s) refl (one-more depth ∙ ap suc deep))
      (λ n. stacked-in n owner depth peers rest s own deep)

  stacked-inside : (e depth : ℕ) (items : Items) (s : List ℕ) → Some e ≡ top s → depth ≡ length s → Stacks s (outlines_inside e depth items)
  stacked-inside e depth End s own deep = λ more go. go
  stacked-inside e depth (Param name value line rest) s own deep = stacked-inside e depth rest s own deep
  stacked-inside e depth (Section name line items rest) s own deep =
      inside-stacked e depth (record { name = name; line = line; items = items }) rest s (bytes_eq name (codes "System")) refl
      (stacked-in (e + 1) (Some e) depth (peers_in items) items s own deep) (stacked-inside e depth rest s own deep)

-- the blocks of a model are in preorder
pub model-stacked : (section : SectionTree) → AreStacked [] (outlines_of section)
model-stacked section =
    subst (AreStacked []) (append-nil (outlines_of section))
    (stacked-in 0 None 0 (peers_in section.items) section.items [] refl refl [] (λ now outer. tt) [] (outer-own []))
