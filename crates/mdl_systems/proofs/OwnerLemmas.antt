-- The blocks of a System's items by their owners.
use Rattle.std.proofs.Common.{◌≡◌, refl, sym, ◌∙◌, ap, ap₂, subst, ℕ, suc, ◌+◌, ◌<◌, ◌≤◌, Bool, true, false, cond, List, [], ◌∷◌, ◌++◌, length, Option, None, Some, length-append, arith, codes, ne_eqb, rules}
use Rattle.std.proofs.lemmas.List.Elements.{filter-append}
use Rattle.std.specs.Prelude.{bytes_eq}
use Rattle.mdl_tree.specs.Spelling.{Items, End, Param, Section}
use Rattle.mdl_tree.specs.Walks.{SectionTree}
use Rattle.mdl_params.specs.declared.BlockType.TheVariants.{SubSystem}
use Rattle.mdl_blocks.specs.declared.peers.Peers.{Peers}
use Rattle.mdl_blocks.specs.Peers.{writes_type, peers_in}
use Rattle.diagram_meaning.specs.Rows.{same_system}
use Rattle.mdl_systems.specs.Outlines.{Outline, outlines_in, outlines_inside}
use Rattle.mdl_systems.specs.Held.{blocks_held}
use Rattle.mdl_systems.specs.Owners.{of_owner}
use Rattle.mdl_systems.proofs.OutlineLemmas.{outlines-block, outlines-other, inside-system, inside-other}

-- ---- Owners

-- no place from one on, so many, is this system
abbrev IsOut : Option ℕ → (from count : ℕ) → Type 0
IsOut z from count = (k : ℕ) → z ≡ Some k → from ≤ k → from + count ≤ k

-- this system is the root or before a place
abbrev pub IsBefore : Option ℕ → ℕ → Type 0
IsBefore o n = (k : ℕ) → o ≡ Some k → k < n

pub same-self : (o : Option ℕ) → same_system o o ≡ true
same-self None = refl
same-self (Some e) = self e
  where
    self : (e : ℕ) → same_system (Some e) (Some e) ≡ true
    self e = search rules

-- a system that isn't e
pub not-here : (e : ℕ) (z : Option ℕ) → (z ≡ Some e → ⊥) → same_system (Some e) z ≡ false
not-here e None apart = refl
not-here e (Some k) apart = ne_eqb k e (λ same. apart (ap Some same))

pub before-not : (o : Option ℕ) (n k : ℕ) → IsBefore o n → n ≤ k → same_system o (Some k) ≡ false
before-not None n k before low = refl
before-not (Some e) n k before low = not-here e (Some k) (λ same. let h = before k (sym same) in omega (arith, h, low))

-- ---- Lists by owner

pub skip : (z : Option ℕ) (b : Outline) (xs : List Outline) → same_system b.owner z ≡ false → of_owner z (b ∷ xs) ≡ of_owner z xs
skip z b xs e = ap (λ t. cond t (b ∷ of_owner z xs) (of_owner z xs)) e

keep : (z : Option ℕ) (b : Outline) (xs : List Outline) → same_system b.owner z ≡ true → of_owner z (b ∷ xs) ≡ b ∷ of_owner z xs
keep z b xs e = ap (λ t. cond t (b ∷ of_owner z xs) (of_owner z xs)) e

pub of-append : (z : Option ℕ) (xs ys : List Outline) → of_owner z (xs ++ ys) ≡ of_owner z xs ++ of_owner z ys
of-append z xs ys = filter-append (λ (b : Outline). same_system b.owner z) xs ys

-- ---- None of another owner

-- what is inside a block where it is a subsystem
abbrev pub if-held : Bool → List Outline → List Outline
if-held t xs = elim t [ true ↦ xs | false ↦ [] ]

held-none : (z : Option ℕ) (from : ℕ) (t : Bool) (xs : List Outline) → (IsOut z from (length xs) → of_owner z xs ≡ []) →
    IsOut z from (length (if-held t xs)) → of_owner z (if-held t xs) ≡ []
held-none z from true xs none out = none out
held-none z from false xs none out = refl

pub count-block : (start : ℕ) (owner : Option ℕ) (depth : ℕ) (peers : Peers) (section : SectionTree) (rest : Items) →
    bytes_eq section.name (codes "Block") ≡ true →
    length (outlines_in start owner depth peers (Section section.name section.line section.items rest))
    ≡ suc (length (blocks_held start depth section.items)
    + length (outlines_in (start + suc (length (blocks_held start depth section.items))) owner depth peers rest))
count-block start owner depth peers section rest e =
    ap length (outlines-block start owner depth peers section.name section.line section.items rest e)
    ∙ ap suc (length-append (blocks_held start depth section.items)
    (outlines_in (start + suc (length (blocks_held start depth section.items))) owner depth peers rest))

none-section : (z : Option ℕ) (start : ℕ) (owner : Option ℕ) (depth : ℕ) (peers : Peers) (section : SectionTree)
    (rest : Items) (t : Bool) → bytes_eq section.name (codes "Block") ≡ t →
    same_system owner z ≡ false →
    (same_system (Some start) z ≡ false → IsOut z (start + 1) (length (outlines_inside start (depth + 1) section.items)) →
    of_owner z (outlines_inside start (depth + 1) section.items) ≡ []) →
    ((n : ℕ) → IsOut z n (length (outlines_in n owner depth peers rest)) → of_owner z (outlines_in n owner depth peers rest) ≡ []) →
    IsOut z start (length (outlines_in start owner depth peers (Section section.name section.line section.items rest))) →
    of_owner z (outlines_in start owner depth peers (Section section.name section.line section.items rest)) ≡ []
none-section z start owner depth peers section rest true e apart inside after out =
    let held = blocks_held start depth section.items in
    let more = outlines_in (start + suc (length held)) owner depth peers rest in
    let block : Outline = record { number = start; owner = owner; depth = depth; peers = peers; section = section } in
    let counted = count-block start owner depth peers section rest e in
    let here : same_system (Some start) z ≡ false =
    not-here start z (λ same. let h = out start same (omega arith) in omega (arith, h, counted)) in
    ap (of_owner z) (outlines-block start owner depth peers section.name section.line section.items rest e)
    ∙ skip z block (held ++ more) apart ∙ of-append z held more
    ∙ ap₂ (λ xs ys. xs ++ ys)
    (held-none z (start + 1) (writes_type SubSystem section.items) (outlines_inside start (depth + 1) section.items) (inside here)
    (λ k is low. let h = out k is (omega (arith, low)) in omega (arith, h, counted)))
    (after (start + suc (length held)) (λ k is low. let h = out k is (omega (arith, low)) in omega (arith, h, counted)))
none-section z start owner depth peers section rest false e apart inside after out =
    let same = outlines-other start owner depth peers section.name section.line section.items rest e in
    ap (of_owner z) same ∙ after start (λ k is low. let h = out k is low in let counted = ap length same in omega (arith, h, counted))

none-system : (z : Option ℕ) (e depth : ℕ) (section : SectionTree) (rest : Items) (t : Bool) → bytes_eq section.name (codes "System") ≡ t →
    (IsOut z (e + 1) (length (outlines_in (e + 1) (Some e) depth (peers_in section.items) section.items)) →
    of_owner z (outlines_in (e + 1) (Some e) depth (peers_in section.items) section.items) ≡ []) →
    (IsOut z (e + 1) (length (outlines_inside e depth rest)) → of_owner z (outlines_inside e depth rest) ≡ []) →
    IsOut z (e + 1) (length (outlines_inside e depth (Section section.name section.line section.items rest))) →
    of_owner z (outlines_inside e depth (Section section.name section.line section.items rest)) ≡ []
none-system z e depth section rest true named here after out =
    let same = inside-system e depth section.name section.line section.items rest named in
    ap (of_owner z) same ∙ here (subst (λ xs. IsOut z (e + 1) (length xs)) same out)
none-system z e depth section rest false named here after out =
    let same = inside-other e depth section.name section.line section.items rest named in
    ap (of_owner z) same ∙ after (subst (λ xs. IsOut z (e + 1) (length xs)) same out)

mutual
  pub none-owned : (z : Option ℕ) (start : ℕ) (owner : Option ℕ) (depth : ℕ) (peers : Peers) (items : Items) → same_system owner z ≡ false →
      IsOut z start (length (outlines_in start owner depth peers items)) → of_owner z (outlines_in start owner depth peers items) ≡ []
  none-owned z start owner depth peers End apart out = refl
  none-owned z start owner depth peers (Param name value line rest) apart out = none-owned z start owner depth peers rest apart out
  none-owned z start owner depth peers (Section name line items rest) apart out =
      none-section z start owner depth peers (record { name = name; line = line; items = items }) rest
      (bytes_eq name (codes "Block")) refl apart
      (none-inside z start (depth + 1) items) (λ n. none-owned z n owner depth peers rest apart) out

  none-inside : (z : Option ℕ) (e depth : ℕ) (items : Items) → same_system (Some e) z ≡ false →
      IsOut z (e + 1) (length (outlines_inside e depth items)) → of_owner z (outlines_inside e depth items) ≡ []
  none-inside z e depth End apart out = refl
  none-inside z e depth (Param name value line rest) apart out = none-inside z e depth rest apart out
  none-inside z e depth (Section name line items rest) apart out =
      none-system z e depth (record { name = name; line = line; items = items }) rest (bytes_eq name (codes "System")) refl
      (none-owned z (e + 1) (Some e) depth (peers_in items) items apart) (none-inside z e depth rest apart) out

-- none of the blocks held by a block is of a system that isn't it nor among them
pub none-held : (z : Option ℕ) (start depth : ℕ) (items : Items) → same_system (Some start) z ≡ false →
    IsOut z (start + 1) (length (blocks_held start depth items)) → of_owner z (blocks_held start depth items) ≡ []
none-held z start depth items apart out =
    held-none z (start + 1) (writes_type SubSystem items) (outlines_inside start (depth + 1) items)
    (none-inside z start (depth + 1) items apart) out

-- ---- The blocks of a System's items whose owner is that system

-- those after a Block, which are numbered from here on
abbrev pub behind_block : (start : ℕ) (owner : Option ℕ) (depth : ℕ) → Peers → SectionTree → (rest : Items) → List Outline
behind_block start owner depth peers section rest =
    outlines_in (start + suc (length (blocks_held start depth section.items))) owner depth peers rest

-- a Block in front of the items
pub of-block : (start : ℕ) (owner : Option ℕ) (depth : ℕ) (peers : Peers) (section : SectionTree) (rest : Items) →
    bytes_eq section.name (codes "Block") ≡ true → IsBefore owner start →
    of_owner owner (outlines_in start owner depth peers (Section section.name section.line section.items rest))
    ≡ record { number = start; owner = owner; depth = depth; peers = peers; section = section }
    ∷ of_owner owner (behind_block start owner depth peers section rest)
of-block start owner depth peers section rest e before =
    let held = blocks_held start depth section.items in
    let more = behind_block start owner depth peers section rest in
    let block : Outline = record { number = start; owner = owner; depth = depth; peers = peers; section = section } in
    let none : of_owner owner held ≡ [] = none-held owner start depth section.items
    (not-here start owner (λ same. let h = before start same in omega (arith, h)))
    (λ k is low. let h = before k is in omega (arith, h, low)) in
    ap (of_owner owner) (outlines-block start owner depth peers section.name section.line section.items rest e)
    ∙ keep owner block (held ++ more) (same-self owner)
    ∙ ap (λ xs. block ∷ xs) (of-append owner held more ∙ ap (λ xs. xs ++ of_owner owner more) none)
