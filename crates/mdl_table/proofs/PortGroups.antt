-- The blocks of each system among the outlines of a model: how many Inports and Outports they are.
use Rattle.std.proofs.Common.{◌≡◌, refl, sym, ◌∙◌, ap, ap₂, subst, ℕ, suc, ◌+◌, ◌<◌, ◌≤◌, nat_lt, Bool, true, false, cond, List, [], ◌∷◌, ◌++◌, length, map, Option, None, Some, length-append, append-nil, arith, codes, inl, inr, ne_eqb, rules}
use Rattle.std.specs.Prelude.{⊤, ◌⊎◌, bytes_eq, count_by, flat_map, option_to_list}
use Rattle.std.specs.List.{AllByRecursion}
use Rattle.std.proofs.lemmas.List.Elements.{filter-append}
use Rattle.std.proofs.lemmas.List.Sums.{length-filter}
use Rattle.std.proofs.lemmas.Bool.{ltb-false}
use Rattle.std.proofs.Math.Nat.{min-eq_left}
use Rattle.base_refusals.specs.declared.Many.{Many}
use Rattle.base_refusals.specs.declared.Many.TheVariants.{Inports, Outports}
use Rattle.base_core.specs.Numbers.{reported_number}
use Rattle.base_refusals.specs.Refusals.{TooMany}
use Rattle.diagram_meaning.specs.Rows.{same_system}
use Rattle.base_refusals.proofs.lemmas.FirstRefusals.{none-first, none-later}
use Rattle.mdl_tree.specs.Spelling.{Items, End, Param, Section}
use Rattle.mdl_tree.specs.Walks.{SectionTree, sections_named, first_section}
use Rattle.mdl_params.specs.declared.BlockType.{BlockType}
use Rattle.mdl_params.specs.declared.BlockType.TheVariants.{Inport, Outport, SubSystem}
use Rattle.mdl_blocks.specs.declared.peers.Peers.{Peers}
use Rattle.mdl_blocks.specs.Peers.{writes_type, count_in, peers_in}
use Rattle.mdl_systems.specs.Outlines.{Outline, SystemText, outlines_in, outlines_inside, outlines_of, is_subsystem, inner_system, systems_inside, systems_of}
use Rattle.mdl_systems.specs.Held.{blocks_held}
use Rattle.mdl_systems.specs.Owners.{of_owner}
use Rattle.mdl_systems.specs.Refusals.{crowd_at, crowd_of, crowd}
use Rattle.mdl_table.proofs.PortLists.{count-cons}

-- ---- Outlines one by one

-- a block of a System's items, and those after it, which are numbered from here on
abbrev block_at : (start : ℕ) (owner : Option ℕ) (depth : ℕ) → Peers → SectionTree → Outline
block_at start owner depth peers section = record { number = start; owner = owner; depth = depth; peers = peers; section = section }

abbrev behind_block : (start : ℕ) (owner : Option ℕ) (depth : ℕ) → Peers → SectionTree → (rest : Items) → List Outline
behind_block start owner depth peers section rest = outlines_in
    (start + suc (length (blocks_held start depth section.items))) owner depth peers rest

-- a section with more items after it
abbrev with_section : SectionTree → Items → Items
with_section section rest = Section section.name section.line section.items rest

outlines-block : (start : ℕ) (owner : Option ℕ) (depth : ℕ) (peers : Peers) (section : SectionTree) (rest : Items) →
    bytes_eq section.name (codes "Block") ≡ true →
    outlines_in start owner depth peers (with_section section rest)
    ≡ block_at start owner depth peers section ∷ blocks_held start depth section.items ++ behind_block start owner depth peers section rest
outlines-block start owner depth peers section rest e =
    ap (λ t. elim t [
      | true ↦ block_at start owner depth peers section ∷ held ++ outlines_in (start + 1 + length held) owner depth peers rest
      | false ↦ outlines_in start owner depth peers rest
    ]) e ∙ ap (λ n. block_at start owner depth peers section ∷ held ++ outlines_in n owner depth peers rest) (count start (length held))
  where
    held : List Outline
    held = blocks_held start depth section.items

    count : (a b : ℕ) → a + 1 + b ≡ a + suc b
    count a b = omega arith

outlines-other : (start : ℕ) (owner : Option ℕ) (depth : ℕ) (peers : Peers) (section : SectionTree) (rest : Items) →
    bytes_eq section.name (codes "Block") ≡ false →
    outlines_in start owner depth peers (with_section section rest) ≡ outlines_in start owner depth peers rest
outlines-other start owner depth peers section rest e =
    ap (λ t. elim t [
      | true ↦ block_at start owner depth peers section ∷ held ++ outlines_in (start + 1 + length held) owner depth peers rest
      | false ↦ outlines_in start owner depth peers rest
    ]) e
  where
    held : List Outline
    held = blocks_held start depth section.items

inside-system : (number depth : ℕ) (section : SectionTree) (rest : Items) → bytes_eq section.name (codes "System") ≡ true →
    outlines_inside number depth (with_section section rest)
    ≡ outlines_in (number + 1) (Some number) depth (peers_in section.items) section.items
inside-system number depth section rest e =
    ap (λ t. elim t [
      | true ↦ outlines_in (number + 1) (Some number) depth
          (peers_in section.items) section.items
      | false ↦ outlines_inside number depth rest
    ]) e

inside-other : (number depth : ℕ) (section : SectionTree) (rest : Items) → bytes_eq section.name (codes "System") ≡ false →
    outlines_inside number depth (with_section section rest) ≡ outlines_inside number depth rest
inside-other number depth section rest e =
    ap (λ t. elim t [
      | true ↦ outlines_in (number + 1) (Some number) depth
          (peers_in section.items) section.items
      | false ↦ outlines_inside number depth rest
    ]) e

-- ---- Owners

-- no place from one on, so many, is this system
abbrev IsOut : Option ℕ → (from count : ℕ) → Type 0
IsOut z from count = (k : ℕ) → z ≡ Some k → from ≤ k → from + count ≤ k

-- this system is the root or before a place
abbrev IsBefore : Option ℕ → ℕ → Type 0
IsBefore o n = (k : ℕ) → o ≡ Some k → k < n

pub same-self : (o : Option ℕ) → same_system o o ≡ true
same-self None = refl
same-self (Some e) = self e
  where
    self : (e : ℕ) → same_system (Some e) (Some e) ≡ true
    self e = search rules

not-here : (e : ℕ) (z : Option ℕ) → (z ≡ Some e → ⊥) → same_system (Some e) z ≡ false
not-here e None apart = refl
not-here e (Some k) apart = ne_eqb k e (λ same. apart (ap Some same))

skip : (z : Option ℕ) (b : Outline) (xs : List Outline) → same_system b.owner z ≡ false → of_owner z (b ∷ xs) ≡ of_owner z xs
skip z b xs e = ap (λ t. cond t (b ∷ of_owner z xs) (of_owner z xs)) e

keep : (z : Option ℕ) (b : Outline) (xs : List Outline) → same_system b.owner z ≡ true → of_owner z (b ∷ xs) ≡ b ∷ of_owner z xs
keep z b xs e = ap (λ t. cond t (b ∷ of_owner z xs) (of_owner z xs)) e

of-append : (z : Option ℕ) (xs ys : List Outline) → of_owner z (xs ++ ys) ≡ of_owner z xs ++ of_owner z ys
of-append z xs ys = filter-append (λ (b : Outline). same_system b.owner z) xs ys

-- what is inside a block where it is a subsystem
abbrev if-held : Bool → List Outline → List Outline
if-held t xs = elim t [ true ↦ xs | false ↦ [] ]

held-none : (z : Option ℕ) (from : ℕ) (t : Bool) (xs : List Outline) → (IsOut z from (length xs) → of_owner z xs ≡ []) →
    IsOut z from (length (if-held t xs)) → of_owner z (if-held t xs) ≡ []
held-none z from true xs none out = none out
held-none z from false xs none out = refl

count-block : (start : ℕ) (owner : Option ℕ) (depth : ℕ) (peers : Peers) (section : SectionTree) (rest : Items) →
    bytes_eq section.name (codes "Block") ≡ true →
    length (outlines_in start owner depth peers (with_section section rest))
    ≡ suc (length (blocks_held start depth section.items) + length (behind_block start owner depth peers section rest))
count-block start owner depth peers section rest e =
    ap length (outlines-block start owner depth peers section rest e)
    ∙ ap suc (length-append (blocks_held start depth section.items) (behind_block start owner depth peers section rest))

none-section : (z : Option ℕ) (start : ℕ) (owner : Option ℕ) (depth : ℕ) (peers : Peers) (section : SectionTree) (rest : Items)
    (t : Bool) → bytes_eq section.name (codes "Block") ≡ t →
    same_system owner z ≡ false →
    (same_system (Some start) z ≡ false → IsOut z (start + 1) (length (outlines_inside start (depth + 1) section.items)) →
    of_owner z (outlines_inside start (depth + 1) section.items) ≡ []) →
    ((n : ℕ) → IsOut z n (length (outlines_in n owner depth peers rest)) → of_owner z (outlines_in n owner depth peers rest) ≡ []) →
    IsOut z start (length (outlines_in start owner depth peers (with_section section rest))) →
    of_owner z (outlines_in start owner depth peers (with_section section rest)) ≡ []
none-section z start owner depth peers section rest true e apart inside after out =
    let held = blocks_held start depth section.items in
    let more = behind_block start owner depth peers section rest in
    let counted = count-block start owner depth peers section rest e in
    let here : same_system (Some start) z ≡ false = not-here start z
    (λ same. let h = out start same (omega arith) in omega (arith, h, counted)) in
    ap (of_owner z) (outlines-block start owner depth peers section rest e)
    ∙ skip z (block_at start owner depth peers section) (held ++ more) apart ∙ of-append z held more
    ∙ ap₂ (λ xs ys. xs ++ ys)
    (held-none z (start + 1) (writes_type SubSystem section.items) (outlines_inside start (depth + 1) section.items) (inside here)
    (λ k is low. let h = out k is (omega (arith, low)) in omega (arith, h, counted)))
    (after (start + suc (length held)) (λ k is low. let h = out k is (omega (arith, low)) in omega (arith, h, counted)))
none-section z start owner depth peers section rest false e apart inside after out =
    let same = outlines-other start owner depth peers section rest e in
    ap (of_owner z) same ∙ after start (λ k is low. let h = out k is low in let counted = ap length same in omega (arith, h, counted))

none-system : (z : Option ℕ) (e depth : ℕ) (section : SectionTree) (rest : Items) (t : Bool) → bytes_eq section.name (codes "System") ≡ t →
    (IsOut z (e + 1) (length (outlines_in (e + 1) (Some e) depth (peers_in section.items) section.items)) →
    of_owner z (outlines_in (e + 1) (Some e) depth (peers_in section.items) section.items) ≡ []) →
    (IsOut z (e + 1) (length (outlines_inside e depth rest)) → of_owner z (outlines_inside e depth rest) ≡ []) →
    IsOut z (e + 1) (length (outlines_inside e depth (with_section section rest))) →
    of_owner z (outlines_inside e depth (with_section section rest)) ≡ []
none-system z e depth section rest true named here after out =
    let same = inside-system e depth section rest named in
    ap (of_owner z) same ∙ here (subst (λ xs. IsOut z (e + 1) (length xs)) same out)
none-system z e depth section rest false named here after out =
    let same = inside-other e depth section rest named in
    ap (of_owner z) same ∙ after (subst (λ xs. IsOut z (e + 1) (length xs)) same out)

mutual
  none-owned : (z : Option ℕ) (start : ℕ) (owner : Option ℕ) (depth : ℕ) (peers : Peers) (items : Items) → same_system owner z ≡ false →
      IsOut z start (length (outlines_in start owner depth peers items)) → of_owner z (outlines_in start owner depth peers items) ≡ []
  none-owned z start owner depth peers End apart out = refl
  none-owned z start owner depth peers (Param name value line rest) apart out = none-owned z start owner depth peers rest apart out
  none-owned z start owner depth peers (Section name line items rest) apart out =
      none-section z start owner depth peers (record { name = name; line = line; items = items }) rest
      (bytes_eq name (codes "Block")) refl apart
      (none-inside z start (depth + 1) items) (λ n. none-owned z n owner depth peers rest apart) out

  none-inside : (z : Option ℕ) (e depth : ℕ) (items : Items) → same_system (Some e) z ≡ false →
      IsOut z (e + 1) (length (outlines_inside e depth items)) → of_owner z (outlines_inside e depth items) ≡ []
  none-inside z e depth End apart out = refl
  none-inside z e depth (Param name value line rest) apart out = none-inside z e depth rest apart out
  none-inside z e depth (Section name line items rest) apart out =
      none-system z e depth (record { name = name; line = line; items = items }) rest (bytes_eq name (codes "System")) refl
      (none-owned z (e + 1) (Some e) depth (peers_in items) items apart) (none-inside z e depth rest apart) out

-- none of the blocks held by a block is of a system that isn't it nor among them
none-held : (z : Option ℕ) (start depth : ℕ) (items : Items) → same_system (Some start) z ≡ false →
    IsOut z (start + 1) (length (blocks_held start depth items)) → of_owner z (blocks_held start depth items) ≡ []
none-held z start depth items apart out =
    held-none z (start + 1) (writes_type SubSystem items) (outlines_inside start (depth + 1) items)
    (none-inside z start (depth + 1) items apart) out

-- a Block in front of the items, among those of its own system
of-block : (start : ℕ) (owner : Option ℕ) (depth : ℕ) (peers : Peers) (section : SectionTree) (rest : Items) →
    bytes_eq section.name (codes "Block") ≡ true → IsBefore owner start →
    of_owner owner (outlines_in start owner depth peers (with_section section rest))
    ≡ block_at start owner depth peers section ∷ of_owner owner (behind_block start owner depth peers section rest)
of-block start owner depth peers section rest e before =
    let held = blocks_held start depth section.items in
    let more = behind_block start owner depth peers section rest in
    let none : of_owner owner held ≡ [] = none-held owner start depth section.items
    (not-here start owner (λ same. let h = before start same in omega (arith, h)))
    (λ k is low. let h = before k is in omega (arith, h, low)) in
    ap (of_owner owner) (outlines-block start owner depth peers section rest e)
    ∙ keep owner (block_at start owner depth peers section) (held ++ more) (same-self owner)
    ∙ ap (λ xs. block_at start owner depth peers section ∷ xs) (of-append owner held more ∙ ap (λ xs. xs ++ of_owner owner more) none)

-- ---- Groups

-- how many of some blocks write a type
abbrev pub count_of : BlockType → List Outline → ℕ
count_of type g = count_by (λ (b : Outline). writes_type type b.section.items) g

-- the blocks of one system have at most 32 Inports and 32 Outports, and say how many
pub record IsGroup (g : List Outline) : Type 0 where
  pub inports : count_of Inport g ≤ 32
  pub outports : count_of Outport g ≤ 32
  pub told_inports : AllByRecursion (λ (b : Outline). b.peers.inports ≡ count_of Inport g) g
  pub told_outports : AllByRecursion (λ (b : Outline). b.peers.outports ≡ count_of Outport g) g

no-group : IsGroup []
no-group = record { inports = omega arith; outports = omega arith; told_inports = tt; told_outports = tt }

-- at most 32 Inports and 32 Outports are reported
abbrev IsFew : Peers → Type 0
IsFew peers = (peers.inports ≤ 32) × (peers.outports ≤ 32)

own-count : (type : BlockType) (start : ℕ) (owner : Option ℕ) (depth : ℕ) (peers : Peers) (items : Items) → IsBefore owner start →
    count_of type (of_owner owner (outlines_in start owner depth peers items))
    ≡ count_by (λ (b : SectionTree). writes_type type b.items) (sections_named (codes "Block") items)
own-count type start owner depth peers End before = refl
own-count type start owner depth peers (Param name value line rest) before = own-count type start owner depth peers rest before
own-count type start owner depth peers (Section name line items rest) before =
    by (bytes_eq name (codes "Block")) refl (λ n. own-count type n owner depth peers rest)
  where
    section : SectionTree
    section = record { name = name; line = line; items = items }

    by : (t : Bool) → bytes_eq name (codes "Block") ≡ t →
        ((n : ℕ) → IsBefore owner n → count_of type (of_owner owner (outlines_in n owner depth peers rest))
        ≡ count_by (λ (b : SectionTree). writes_type type b.items) (sections_named (codes "Block") rest)) →
        count_of type (of_owner owner (outlines_in start owner depth peers (Section name line items rest)))
        ≡ count_by (λ (b : SectionTree). writes_type type b.items)
        (cond t (section ∷ sections_named (codes "Block") rest) (sections_named (codes "Block") rest))
    by true e after =
        ap (count_of type) (of-block start owner depth peers section rest e before)
        ∙ count-cons (λ (b : Outline). writes_type type b.section.items) (block_at start owner depth peers section)
        (of_owner owner (behind_block start owner depth peers section rest))
        ∙ ap (λ n. cond (writes_type type items) 1 0 + n)
        (after (start + suc (length (blocks_held start depth items))) (λ k is. let h = before k is in omega (arith, h)))
        ∙ sym (count-cons (λ (b : SectionTree). writes_type type b.items) section (sections_named (codes "Block") rest))
    by false e after = ap (λ xs. count_of type (of_owner owner xs)) (outlines-other start owner depth peers section rest e)
        ∙ after start before

own-peers : (start : ℕ) (owner : Option ℕ) (depth : ℕ) (peers : Peers) (items : Items) → IsBefore owner start →
    AllByRecursion (λ (b : Outline). b.peers ≡ peers) (of_owner owner (outlines_in start owner depth peers items))
own-peers start owner depth peers End before = tt
own-peers start owner depth peers (Param name value line rest) before = own-peers start owner depth peers rest before
own-peers start owner depth peers (Section name line items rest) before =
    by (bytes_eq name (codes "Block")) refl (λ n. own-peers n owner depth peers rest)
  where
    section : SectionTree
    section = record { name = name; line = line; items = items }

    by : (t : Bool) → bytes_eq name (codes "Block") ≡ t →
        ((n : ℕ) → IsBefore owner n → AllByRecursion (λ (b : Outline). b.peers ≡ peers)
        (of_owner owner (outlines_in n owner depth peers rest))) →
        AllByRecursion (λ (b : Outline). b.peers ≡ peers) (of_owner owner
        (outlines_in start owner depth peers (Section name line items rest)))
    by true e after =
        subst (AllByRecursion (λ (b : Outline). b.peers ≡ peers)) (sym (of-block start owner depth peers section rest e before))
        (refl, after (start + suc (length (blocks_held start depth items))) (λ k is. let h = before k is in omega (arith, h)))
    by false e after =
        subst (λ xs. AllByRecursion (λ (b : Outline). b.peers ≡ peers) (of_owner owner xs))
        (sym (outlines-other start owner depth peers section rest e))
        (after start before)

-- a count that is reported as at most 32 is that
reported : (n : ℕ) → reported_number n ≤ 32 → reported_number n ≡ n
reported n h = by (min-cases n) h
  where
    min-cases : (n : ℕ) → (n ≤ 4294967295) ⊎ (4294967295 ≤ n)
    min-cases n = grind arith

    by : (n ≤ 4294967295) ⊎ (4294967295 ≤ n) → reported_number n ≤ 32 → reported_number n ≡ n
    by (inl low) h = min-eq_left low
    by (inr high) h = absurd (omega (arith, h, high))

all-told : (f : Peers → ℕ) (n : ℕ) (peers : Peers) (g : List Outline) → f peers ≡ n → AllByRecursion (λ (b : Outline). b.peers ≡ peers) g →
    AllByRecursion (λ (b : Outline). f b.peers ≡ n) g
all-told f n peers [] e all = tt
all-told f n peers (b ∷ g) e all = (ap f all.0 ∙ e, all-told f n peers g e all.1)

-- the blocks of a System's items
own-group : (start : ℕ) (owner : Option ℕ) (depth : ℕ) (items : Items) → IsBefore owner start → IsFew (peers_in items) →
    IsGroup (of_owner owner (outlines_in start owner depth (peers_in items) items))
own-group start owner depth items before few =
    let g = of_owner owner (outlines_in start owner depth (peers_in items) items) in
    let counted : (type : BlockType) → reported_number (count_in type items) ≤ 32 →
    reported_number (count_in type items) ≡ count_of type g =
    λ type h. reported (count_in type items) h
    ∙ length-filter (λ (b : SectionTree). writes_type type b.items) (sections_named (codes "Block") items)
    ∙ sym (own-count type start owner depth (peers_in items) items before) in
    let all = own-peers start owner depth (peers_in items) items before in
    record {
      inports = subst (λ n. n ≤ 32) (counted Inport few.0) few.0;
      outports = subst (λ n. n ≤ 32) (counted Outport few.1) few.1;
      told_inports = all-told (λ p. p.inports) (count_of Inport g) (peers_in items) g (counted Inport few.0) all;
      told_outports = all-told (λ p. p.outports) (count_of Outport g) (peers_in items) g (counted Outport few.1) all;
    }

-- ---- Systems inside blocks

-- the first System among a block's items has few ports
abbrev IsFewInside : Items → Type 0
IsFewInside items = (section : SectionTree) → first_section (codes "System") items ≡ Some section → IsFew (peers_in section.items)

-- so it is inside each of these blocks that is a subsystem
abbrev AreFew : List Outline → Type 0
AreFew [] = ⊤
AreFew (b ∷ xs) = (is_subsystem b ≡ true → IsFewInside b.section.items) × AreFew xs

few-left : (xs ys : List Outline) → AreFew (xs ++ ys) → AreFew xs
few-left [] ys few = tt
few-left (x ∷ xs) ys few = (few.0, few-left xs ys few.1)

few-right : (xs ys : List Outline) → AreFew (xs ++ ys) → AreFew ys
few-right [] ys few = few
few-right (x ∷ xs) ys few = few-right xs ys few.1

crowded : (line : ℕ) (what : Many) (n : ℕ) → crowd_at line what n ≡ None → n ≤ 32
crowded line what n none = by (nat_lt 32 n) refl none
  where
    by : (t : Bool) → nat_lt 32 n ≡ t → cond t (Some (TooMany line what n)) None ≡ None → n ≤ 32
    by true e none = absurd cc
    by false e none = ltb-false 32 n e

crowd-none : (line : ℕ) (peers : Peers) → crowd_of line peers ≡ None → IsFew peers
crowd-none line peers none = (
  crowded line Inports peers.inports (none-first (crowd_at line Inports peers.inports) (crowd_at line Outports peers.outports) none),
  crowded line Outports peers.outports (none-later (crowd_at line Inports peers.inports) (crowd_at line Outports peers.outports) none),
)

-- no system has more
abbrev AreUncrowded : List SystemText → Type 0
AreUncrowded systems = AllByRecursion (λ (s : SystemText). crowd s ≡ None) systems

uncrowded-left : (xs ys : List SystemText) → AreUncrowded (xs ++ ys) → AreUncrowded xs
uncrowded-left [] ys none = tt
uncrowded-left (x ∷ xs) ys none = (none.0, uncrowded-left xs ys none.1)

uncrowded-right : (xs ys : List SystemText) → AreUncrowded (xs ++ ys) → AreUncrowded ys
uncrowded-right [] ys none = none
uncrowded-right (x ∷ xs) ys none = uncrowded-right xs ys none.1

few-inside : (b : Outline) → AreUncrowded (systems_inside b) → is_subsystem b ≡ true → IsFewInside b.section.items
few-inside b none is section found = crowd-none b.section.line (peers_in section.items) first.0
  where
    first : AreUncrowded (inner_system b section ∷ [])
    first =
        subst (λ o. AreUncrowded (map (inner_system b) (option_to_list o))) found
        (subst (λ t. AreUncrowded (cond t (map (inner_system b)
        (option_to_list (first_section (codes "System") b.section.items))) [])) is none)

few-all : (xs : List Outline) → AreUncrowded (flat_map systems_inside xs) → AreFew xs
few-all [] none = tt
few-all (b ∷ xs) none = (
  few-inside b (uncrowded-left (systems_inside b) (flat_map systems_inside xs) none),
  few-all xs (uncrowded-right (systems_inside b) (flat_map systems_inside xs) none),
)

-- one of two parts has a system
parts : (z : Option ℕ) (xs ys : List Outline) → (of_owner z xs ≡ []) ⊎ (of_owner z ys ≡ []) → IsGroup (of_owner z xs) →
    IsGroup (of_owner z ys) →
    IsGroup (of_owner z (xs ++ ys))
parts z xs ys (inl none) left right = subst IsGroup (sym (of-append z xs ys ∙ ap (λ g. g ++ of_owner z ys) none)) right
parts z xs ys (inr none) left right = subst IsGroup (sym (of-append z xs ys ∙ ap (λ g. of_owner z xs ++ g) none
    ∙ append-nil (of_owner z xs))) left

-- after a place there is none of an earlier one, and before it none of a later one
apart-parts : (z : Option ℕ) (start : ℕ) (owner : Option ℕ) (depth : ℕ) (peers : Peers) (section : SectionTree) (rest : Items) →
    same_system owner z ≡ false →
    (of_owner z (blocks_held start depth section.items) ≡ []) ⊎ (of_owner z (behind_block start owner depth peers section rest) ≡ [])
apart-parts None start owner depth peers section rest apart = inl (none-held None start depth section.items refl (λ k is low. absurd cc))
apart-parts (Some k) start owner depth peers section rest apart =
    by (compare k (start + suc (length (blocks_held start depth section.items))))
  where
    compare : (a b : ℕ) → (a < b) ⊎ (b ≤ a)
    compare a b = grind arith

    some-same : (j : ℕ) → Some k ≡ Some j → k ≡ j
    some-same j e = cc

    by : (k < start + suc (length (blocks_held start depth section.items)))
        ⊎ (start + suc (length (blocks_held start depth section.items)) ≤ k) →
        (of_owner (Some k) (blocks_held start depth section.items) ≡ [])
        ⊎ (of_owner (Some k) (behind_block start owner depth peers section rest) ≡ [])
    by (inl low) =
        inr (none-owned (Some k) (start + suc (length (blocks_held start depth section.items))) owner depth peers rest apart
        (λ j is from. let same = some-same j is in omega (arith, same, from, low)))
    by (inr high) =
        inl (none-held (Some k) start depth section.items
        (not-here start (Some k) (λ is. let same = some-same start is in omega (arith, same, high)))
        (λ j is from. let same = some-same j is in omega (arith, same, high)))

section-group : (z : Option ℕ) (start : ℕ) (owner : Option ℕ) (depth : ℕ) (peers : Peers) (section : SectionTree) (rest : Items)
    (t : Bool) →
    bytes_eq section.name (codes "Block") ≡ t → same_system owner z ≡ false →
    (IsFewInside section.items → AreFew (outlines_inside start (depth + 1) section.items) →
    IsGroup (of_owner z (outlines_inside start (depth + 1) section.items))) →
    ((n : ℕ) → AreFew (outlines_in n owner depth peers rest) → IsGroup (of_owner z (outlines_in n owner depth peers rest))) →
    AreFew (outlines_in start owner depth peers (with_section section rest)) →
    IsGroup (of_owner z (outlines_in start owner depth peers (with_section section rest)))
section-group z start owner depth peers section rest true e apart inside after few =
    let held = blocks_held start depth section.items in
    let more = behind_block start owner depth peers section rest in
    let block = block_at start owner depth peers section in
    let each : AreFew (block ∷ held ++ more) = subst AreFew (outlines-block start owner depth peers section rest e) few in
    let first : IsGroup (of_owner z held) = of-held (writes_type SubSystem section.items) refl each.0 (few-left held more each.1) in
    subst (λ xs. IsGroup (of_owner z xs)) (sym (outlines-block start owner depth peers section rest e))
    (subst IsGroup (sym (skip z block (held ++ more) apart))
    (parts z held more (apart-parts z start owner depth peers section rest apart) first
    (after (start + suc (length held)) (few-right held more each.1))))
  where
    of-held : (t : Bool) → writes_type SubSystem section.items ≡ t →
        (writes_type SubSystem section.items ≡ true → IsFewInside section.items) →
        AreFew (if-held t (outlines_inside start (depth + 1) section.items)) →
        IsGroup (of_owner z (if-held t (outlines_inside start (depth + 1) section.items)))
    of-held true is few all = inside (few is) all
    of-held false is few all = no-group
section-group z start owner depth peers section rest false e apart inside after few =
    let same = outlines-other start owner depth peers section rest e in
    subst (λ xs. IsGroup (of_owner z xs)) (sym same) (after start (subst AreFew same few))

system-group : (z : Option ℕ) (e depth : ℕ) (section : SectionTree) (rest : Items) (t : Bool) → bytes_eq section.name (codes "System") ≡ t →
    (same_system (Some e) z ≡ false → AreFew (outlines_in (e + 1) (Some e) depth (peers_in section.items) section.items) →
    IsGroup (of_owner z (outlines_in (e + 1) (Some e) depth (peers_in section.items) section.items))) →
    (IsFewInside rest → AreFew (outlines_inside e depth rest) → IsGroup (of_owner z (outlines_inside e depth rest))) →
    IsFewInside (with_section section rest) → AreFew (outlines_inside e depth (with_section section rest)) →
    IsGroup (of_owner z (outlines_inside e depth (with_section section rest)))
system-group z e depth section rest true named here after first few =
    let same = inside-system e depth section rest named in
    subst (λ xs. IsGroup (of_owner z xs)) (sym same) (by (same_system (Some e) z) refl (subst AreFew same few))
  where
    few-first : IsFew (peers_in section.items)
    few-first = first section (ap (λ t. cond t (Some section) (first_section (codes "System") rest)) named)

    same-place : (z : Option ℕ) → same_system (Some e) z ≡ true → z ≡ Some e
    same-place None is = absurd cc
    same-place (Some k) is = grind (arith, rules)

    by : (t : Bool) → same_system (Some e) z ≡ t → AreFew (outlines_in (e + 1) (Some e) depth (peers_in section.items) section.items) →
        IsGroup (of_owner z (outlines_in (e + 1) (Some e) depth (peers_in section.items) section.items))
    by true is few =
        subst (λ z. IsGroup (of_owner z (outlines_in (e + 1) (Some e) depth (peers_in section.items) section.items)))
        (sym (same-place z is))
        (own-group (e + 1) (Some e) depth section.items (λ k is. let same : e ≡ k = cc is in omega (arith, same)) few-first)
    by false is few = here is few
system-group z e depth section rest false named here after first few =
    let same = inside-other e depth section rest named in
    subst (λ xs. IsGroup (of_owner z xs)) (sym same)
    (after (λ s found. first s (ap (λ t. cond t (Some section) (first_section (codes "System") rest)) named ∙ found))
    (subst AreFew same few))

mutual
  grouped : (z : Option ℕ) (start : ℕ) (owner : Option ℕ) (depth : ℕ) (peers : Peers) (items : Items) → same_system owner z ≡ false →
      AreFew (outlines_in start owner depth peers items) → IsGroup (of_owner z (outlines_in start owner depth peers items))
  grouped z start owner depth peers End apart few = no-group
  grouped z start owner depth peers (Param name value line rest) apart few = grouped z start owner depth peers rest apart few
  grouped z start owner depth peers (Section name line items rest) apart few =
      section-group z start owner depth peers (record { name = name; line = line; items = items }) rest
      (bytes_eq name (codes "Block")) refl apart
      (grouped-inside z start (depth + 1) items) (λ n. grouped z n owner depth peers rest apart) few

  grouped-inside : (z : Option ℕ) (e depth : ℕ) (items : Items) → IsFewInside items → AreFew (outlines_inside e depth items) →
      IsGroup (of_owner z (outlines_inside e depth items))
  grouped-inside z e depth End first few = no-group
  grouped-inside z e depth (Param name value line rest) first few = grouped-inside z e depth rest first few
  grouped-inside z e depth (Section name line items rest) first few =
      system-group z e depth (record { name = name; line = line; items = items }) rest (bytes_eq name (codes "System")) refl
      (grouped z (e + 1) (Some e) depth (peers_in items) items) (grouped-inside z e depth rest) first few

-- the blocks of each system of a model whose systems are not refused for their ports
pub all-groups : (section : SectionTree) → AllByRecursion (λ (s : SystemText). crowd s ≡ None) (systems_of section) →
    (z : Option ℕ) → IsGroup (of_owner z (outlines_of section))
all-groups section none z =
    by z (crowd-none section.line (peers_in section.items) none.0) (few-all (outlines_of section) none.1)
  where
    by : (z : Option ℕ) → IsFew (peers_in section.items) → AreFew (outlines_of section) → IsGroup (of_owner z (outlines_of section))
    by None few all = own-group 0 None 0 section.items (λ k is. absurd cc) few
    by (Some k) few all = grouped (Some k) 0 None 0 (peers_in section.items) section.items refl all
