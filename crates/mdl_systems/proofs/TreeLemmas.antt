-- The systems of a model by the owners of its blocks.
use Rattle.std.proofs.Common.{◌≡◌, refl, sym, ◌∙◌, ap, ap₂, subst, ℕ, suc, ◌+◌, ◌<◌, ◌≤◌, Bool, true, false, cond, List, [], ◌∷◌, ◌++◌, length, map, Option, None, Some, append-nil, arith, codes}
use Rattle.std.proofs.lemmas.List.{map-append}
use Rattle.std.specs.Prelude.{bytes_eq, flat_map, option_map, option_to_list, ⊤}
use Rattle.mdl_tree.specs.Spelling.{Items, End, Param, Section}
use Rattle.mdl_tree.specs.Walks.{SectionTree, first_section}
use Rattle.mdl_params.specs.declared.BlockType.TheVariants.{SubSystem}
use Rattle.mdl_blocks.specs.declared.peers.Peers.{Peers}
use Rattle.mdl_blocks.specs.Peers.{writes_type, peers_in}
use Rattle.mdl_systems.specs.Outlines.{Outline, SystemText, outlines_in, outlines_inside, outlines_of, inner_system, systems_inside}
use Rattle.mdl_systems.specs.Held.{blocks_held}
use Rattle.mdl_systems.specs.Systems.{SystemTree, SystemTrees, system, no_more, next, systems_from, own_in, children_in, system_inside, system_held, tree_of_model}
use Rattle.mdl_systems.specs.Owners.{of_owner, owned_by, OwnByOwner, AllOwnByOwner, OwnIsByOwner}
use Rattle.mdl_systems.specs.Subsystems.{text_of, texts_of, systems_owned, ChildrenByOwner, AllChildrenByOwner, ChildrenAreBySubsystems}
use Rattle.mdl_systems.proofs.OutlineLemmas.{outlines-block, outlines-other, inside-system, inside-other}
use Rattle.mdl_systems.proofs.SystemLemmas.{own-block, own-other, children-block, children-other, held-system, held-other}
use Rattle.mdl_systems.proofs.OwnerLemmas.{IsBefore, not-here, before-not, skip, of-append, if-held, count-block, none-owned, none-held, of-block}

-- ---- The own blocks of a System's items

abbrev number_of : Outline → ℕ
number_of b = b.number

own-section : (start : ℕ) (owner : Option ℕ) (depth : ℕ) (peers : Peers) (section : SectionTree) (rest : Items) (t : Bool) →
    bytes_eq section.name (codes "Block") ≡ t →
    IsBefore owner start → ((n : ℕ) → IsBefore owner n → own_in n depth rest ≡ owned_by owner (outlines_in n owner depth peers rest)) →
    own_in start depth (Section section.name section.line section.items rest)
    ≡ owned_by owner (outlines_in start owner depth peers (Section section.name section.line section.items rest))
own-section start owner depth peers section rest true e before after =
    let n = start + suc (length (blocks_held start depth section.items)) in
    own-block start owner depth peers section rest e
    ∙ ap (λ xs. start ∷ xs) (after n (λ k is. let h = before k is in omega (arith, h)))
    ∙ ap (map number_of) (sym (of-block start owner depth peers section rest e before))
own-section start owner depth peers section rest false e before after =
    own-other start depth section.name section.line section.items rest e ∙ after start before
    ∙ ap (owned_by owner) (sym (outlines-other start owner depth peers section.name section.line section.items rest e))

own-owned : (start : ℕ) (owner : Option ℕ) (depth : ℕ) (peers : Peers) (items : Items) → IsBefore owner start →
    own_in start depth items ≡ owned_by owner (outlines_in start owner depth peers items)
own-owned start owner depth peers End before = refl
own-owned start owner depth peers (Param name value line rest) before = own-owned start owner depth peers rest before
own-owned start owner depth peers (Section name line items rest) before =
    own-section start owner depth peers (record { name = name; line = line; items = items }) rest (bytes_eq name (codes "Block")) refl
    before (λ n. own-owned n owner depth peers rest)

-- ---- The systems directly inside a System's items

abbrev if-inside : Bool → Option SystemTree → Option SystemTree
if-inside t s = elim t [ true ↦ s | false ↦ None ]

-- what is said of the system inside block e at this line, with this System
abbrev text_at : (e line : ℕ) → SectionTree → SystemText
text_at e line inside = record { row = Some e; line = line; items = inside.items }

-- what is said of the system inside a block is that of its first System
first-section : (e line depth : ℕ) (section : SectionTree) (rest : Items) (t : Bool) → bytes_eq section.name (codes "System") ≡ t →
    option_map text_of (system_inside e line depth rest) ≡ option_map (text_at e line) (first_section (codes "System") rest) →
    option_map text_of (system_inside e line depth (Section section.name section.line section.items rest))
    ≡ option_map (text_at e line) (first_section (codes "System") (Section section.name section.line section.items rest))
first-section e line depth section rest true named later =
    ap (option_map text_of) (held-system e line depth section rest named)
    ∙ ap (λ t. option_map (text_at e line) (cond t (Some section) (first_section (codes "System") rest))) (sym named)
first-section e line depth section rest false named later =
    ap (option_map text_of) (held-other e line depth section rest named) ∙ later
    ∙ ap (λ t. option_map (text_at e line) (cond t (Some section) (first_section (codes "System") rest))) (sym named)

first-inside : (e line depth : ℕ) (items : Items) →
    option_map text_of (system_inside e line depth items) ≡ option_map (text_at e line) (first_section (codes "System") items)
first-inside e line depth End = refl
first-inside e line depth (Param name value other rest) = first-inside e line depth rest
first-inside e line depth (Section name other items rest) =
    first-section e line depth (record { name = name; line = other; items = items }) rest (bytes_eq name (codes "System")) refl
    (first-inside e line depth rest)

listed : {A B : Type 0} (f : A → B) (o : Option A) → map f (option_to_list o) ≡ option_to_list (option_map f o)
listed f None = refl
listed f (Some a) = refl

held-texts : (b : Outline) (depth : ℕ) (t : Bool) →
    map text_of (option_to_list (if-inside t (system_inside b.number b.section.line depth b.section.items)))
    ≡ cond t (map (inner_system b) (option_to_list (first_section (codes "System") b.section.items))) []
held-texts b depth true =
    listed text_of (system_inside b.number b.section.line depth b.section.items)
    ∙ ap option_to_list (first-inside b.number b.section.line depth b.section.items)
    ∙ sym (listed (inner_system b) (first_section (codes "System") b.section.items))
held-texts b depth false = refl

texts-section : (start : ℕ) (owner : Option ℕ) (depth : ℕ) (peers : Peers) (section : SectionTree) (rest : Items) (t : Bool) →
    bytes_eq section.name (codes "Block") ≡ t →
    IsBefore owner start →
    ((n : ℕ) → IsBefore owner n → map text_of (children_in n depth rest) ≡ systems_owned owner (outlines_in n owner depth peers rest)) →
    map text_of (children_in start depth (Section section.name section.line section.items rest))
    ≡ systems_owned owner (outlines_in start owner depth peers (Section section.name section.line section.items rest))
texts-section start owner depth peers section rest true e before after =
    let n = start + suc (length (blocks_held start depth section.items)) in
    let block : Outline = record { number = start; owner = owner; depth = depth; peers = peers; section = section } in
    ap (map text_of) (children-block start owner depth peers section rest e)
    ∙ map-append text_of (option_to_list (system_held start depth section)) (children_in n depth rest)
    ∙ ap₂ (λ xs ys. xs ++ ys) (held-texts block (depth + 1) (writes_type SubSystem section.items))
    (after n (λ k is. let h = before k is in omega (arith, h)))
    ∙ ap (flat_map systems_inside) (sym (of-block start owner depth peers section rest e before))
texts-section start owner depth peers section rest false e before after =
    ap (map text_of) (children-other start depth section.name section.line section.items rest e) ∙ after start before
    ∙ ap (systems_owned owner) (sym (outlines-other start owner depth peers section.name section.line section.items rest e))

texts-owned : (start : ℕ) (owner : Option ℕ) (depth : ℕ) (peers : Peers) (items : Items) → IsBefore owner start →
    map text_of (children_in start depth items) ≡ systems_owned owner (outlines_in start owner depth peers items)
texts-owned start owner depth peers End before = refl
texts-owned start owner depth peers (Param name value line rest) before = texts-owned start owner depth peers rest before
texts-owned start owner depth peers (Section name line items rest) before =
    texts-section start owner depth peers (record { name = name; line = line; items = items }) rest (bytes_eq name (codes "Block")) refl
    before (λ n. texts-owned n owner depth peers rest)

texts-from : (children : List SystemTree) → texts_of (systems_from children) ≡ map text_of children
texts-from [] = refl
texts-from (child ∷ rest) = ap (λ xs. text_of child ∷ xs) (texts-from rest)

-- ---- Each system

-- in a system and in all inside it the own blocks and the systems inside are those of these blocks whose owner is its row
abbrev mutual
  ByOwner : List Outline → SystemTree → Type 0
  ByOwner blocks (system row line section own children) =
      (own ≡ owned_by row blocks) × (texts_of children ≡ systems_owned row blocks) × AllByOwner blocks children

  AllByOwner : List Outline → SystemTrees → Type 0
  AllByOwner blocks no_more = ⊤
  AllByOwner blocks (next child rest) = ByOwner blocks child × AllByOwner blocks rest

-- of the systems in a range these blocks have the same blocks as those
abbrev Agree : List Outline → (from : ℕ) → List Outline → Type 0
Agree whole from part = (k : ℕ) → from ≤ k → k < from + length part → of_owner (Some k) whole ≡ of_owner (Some k) part

all-append : (whole : List Outline) (xs ys : List SystemTree) → AllByOwner whole (systems_from xs) → AllByOwner whole (systems_from ys) →
    AllByOwner whole (systems_from (xs ++ ys))
all-append whole [] ys left right = right
all-append whole (x ∷ xs) ys left right = (left.0, all-append whole xs ys left.1 right)

held-own : (whole : List Outline) (start : ℕ) (t : Bool) (xs : List Outline) (s : Option SystemTree) →
    (Agree whole (start + 1) xs → of_owner (Some start) whole ≡ of_owner (Some start) xs →
    AllByOwner whole (systems_from (option_to_list s))) →
    Agree whole (start + 1) (if-held t xs) → of_owner (Some start) whole ≡ of_owner (Some start) (if-held t xs) →
    AllByOwner whole (systems_from (option_to_list (if-inside t s)))
held-own whole start true xs s inside agree own = inside agree own
held-own whole start false xs s inside agree own = tt

children-section : (whole : List Outline) (start : ℕ) (owner : Option ℕ) (depth : ℕ) (peers : Peers) (section : SectionTree) (rest : Items)
    (t : Bool) → bytes_eq section.name (codes "Block") ≡ t → IsBefore owner start →
    (Agree whole (start + 1) (outlines_inside start (depth + 1) section.items) →
    of_owner (Some start) whole ≡ of_owner (Some start) (outlines_inside start (depth + 1) section.items) →
    AllByOwner whole (systems_from (option_to_list (system_inside start section.line (depth + 1) section.items)))) →
    ((n : ℕ) → IsBefore owner n → Agree whole n (outlines_in n owner depth peers rest) →
    AllByOwner whole (systems_from (children_in n depth rest))) →
    Agree whole start (outlines_in start owner depth peers (Section section.name section.line section.items rest)) →
    AllByOwner whole (systems_from (children_in start depth (Section section.name section.line section.items rest)))
children-section whole start owner depth peers section rest true e before inside after agree =
    let held = blocks_held start depth section.items in
    let n = start + suc (length held) in
    let more = outlines_in n owner depth peers rest in
    let block : Outline = record { number = start; owner = owner; depth = depth; peers = peers; section = section } in
    let counted = count-block start owner depth peers section rest e in
    let parts : (k : ℕ) → start ≤ k → k < n + length more → of_owner (Some k) whole ≡ of_owner (Some k) held ++ of_owner (Some k) more =
    λ k low high. agree k low (omega (arith, high, counted))
    ∙ ap (of_owner (Some k)) (outlines-block start owner depth peers section.name section.line section.items rest e)
    ∙ skip (Some k) block (held ++ more) (before-not owner start k before low) ∙ of-append (Some k) held more in
    let first : (k : ℕ) → start ≤ k → k < n → of_owner (Some k) whole ≡ of_owner (Some k) held =
    λ k low high. parts k low (omega (arith, high))
    ∙ ap (λ xs. of_owner (Some k) held ++ xs) (none-owned (Some k) n owner depth peers rest (before-not owner start k before low)
    (λ j is from. let same : k ≡ j = cc is in omega (arith, same, from, high)))
    ∙ append-nil (of_owner (Some k) held) in
    let last : Agree whole n more =
    λ k low high. parts k (omega (arith, low)) high
    ∙ ap (λ xs. xs ++ of_owner (Some k) more) (none-held (Some k) start depth section.items
    (not-here start (Some k) (λ is. let same : k ≡ start = cc is in omega (arith, same, low)))
    (λ j is from. let same : k ≡ j = cc is in omega (arith, same, low))) in
    subst (λ xs. AllByOwner whole (systems_from xs)) (sym (children-block start owner depth peers section rest e))
    (all-append whole (option_to_list (system_held start depth section)) (children_in n depth rest)
    (held-own whole start (writes_type SubSystem section.items) (outlines_inside start (depth + 1) section.items)
    (system_inside start section.line (depth + 1) section.items) inside
    (λ k low high. first k (omega (arith, low)) (omega (arith, high))) (first start (omega arith) (omega arith)))
    (after n (λ k is. let h = before k is in omega (arith, h)) last))
children-section whole start owner depth peers section rest false e before inside after agree =
    subst (λ xs. AllByOwner whole (systems_from xs)) (sym (children-other start depth section.name section.line section.items rest e))
    (after start before
    (subst (Agree whole start) (outlines-other start owner depth peers section.name section.line section.items rest e) agree))

inside-before : (e : ℕ) → IsBefore (Some e) (e + 1)
inside-before e k is = let same : e ≡ k = cc is in omega (arith, same)

system-section : (whole : List Outline) (e line depth : ℕ) (section : SectionTree) (rest : Items) (t : Bool) →
    bytes_eq section.name (codes "System") ≡ t →
    (Agree whole (e + 1) (outlines_in (e + 1) (Some e) depth (peers_in section.items) section.items) →
    AllByOwner whole (systems_from (children_in (e + 1) depth section.items))) →
    (Agree whole (e + 1) (outlines_inside e depth rest) → of_owner (Some e) whole ≡ of_owner (Some e) (outlines_inside e depth rest) →
    AllByOwner whole (systems_from (option_to_list (system_inside e line depth rest)))) →
    Agree whole (e + 1) (outlines_inside e depth (Section section.name section.line section.items rest)) →
    of_owner (Some e) whole ≡ of_owner (Some e) (outlines_inside e depth (Section section.name section.line section.items rest)) →
    AllByOwner whole (systems_from (option_to_list (system_inside e line depth (Section section.name section.line section.items rest))))
system-section whole e line depth section rest true named here after agree own =
    let same = inside-system e depth section.name section.line section.items rest named in
    subst (λ s. AllByOwner whole (systems_from (option_to_list s))) (sym (held-system e line depth section rest named)) (
      (
        own-owned (e + 1) (Some e) depth (peers_in section.items) section.items (inside-before e)
            ∙ ap (map number_of) (sym (own ∙ ap (of_owner (Some e)) same)),
        texts-from (children_in (e + 1) depth section.items)
            ∙ texts-owned (e + 1) (Some e) depth (peers_in section.items) section.items (inside-before e)
            ∙ ap (flat_map systems_inside) (sym (own ∙ ap (of_owner (Some e)) same)),
        here (subst (Agree whole (e + 1)) same agree),
      ),
      tt,
    )
system-section whole e line depth section rest false named here after agree own =
    let same = inside-other e depth section.name section.line section.items rest named in
    subst (λ s. AllByOwner whole (systems_from (option_to_list s))) (sym (held-other e line depth section rest named))
    (after (subst (Agree whole (e + 1)) same agree) (own ∙ ap (of_owner (Some e)) same))

mutual
  children-own : (whole : List Outline) (start : ℕ) (owner : Option ℕ) (depth : ℕ) (peers : Peers) (items : Items) → IsBefore owner start →
      Agree whole start (outlines_in start owner depth peers items) → AllByOwner whole (systems_from (children_in start depth items))
  children-own whole start owner depth peers End before agree = tt
  children-own whole start owner depth peers (Param name value line rest) before agree =
      children-own whole start owner depth peers rest before agree
  children-own whole start owner depth peers (Section name line items rest) before agree =
      children-section whole start owner depth peers (record { name = name; line = line; items = items }) rest
      (bytes_eq name (codes "Block")) refl before
      (inside-own whole start line (depth + 1) items) (λ n. children-own whole n owner depth peers rest) agree

  inside-own : (whole : List Outline) (e line depth : ℕ) (items : Items) → Agree whole (e + 1) (outlines_inside e depth items) →
      of_owner (Some e) whole ≡ of_owner (Some e) (outlines_inside e depth items) →
      AllByOwner whole (systems_from (option_to_list (system_inside e line depth items)))
  inside-own whole e line depth End agree own = tt
  inside-own whole e line depth (Param name value other rest) agree own = inside-own whole e line depth rest agree own
  inside-own whole e line depth (Section name other items rest) agree own =
      system-section whole e line depth (record { name = name; line = other; items = items }) rest (bytes_eq name (codes "System")) refl
      (children-own whole (e + 1) (Some e) depth (peers_in items) items (inside-before e))
      (inside-own whole e line depth rest) agree own

before-none : (n : ℕ) → IsBefore None n
before-none n k is = let wrong : ⊥ = cc is in absurd wrong

by-owner : (section : SectionTree) → ByOwner (outlines_of section) (tree_of_model section)
by-owner section = (
  own-owned 0 None 0 (peers_in section.items) section.items (before-none 0),
  texts-from (children_in 0 0 section.items) ∙ texts-owned 0 None 0 (peers_in section.items) section.items (before-none 0),
  children-own (outlines_of section) 0 None 0 (peers_in section.items) section.items (before-none 0) (λ k low high. refl),
)

-- ---- Their own blocks, and the systems inside

mutual
  own-of : (blocks : List Outline) (tree : SystemTree) → ByOwner blocks tree → OwnByOwner blocks tree
  own-of blocks (system row line section own children) is = (is.0, all-own-of blocks children is.2)

  all-own-of : (blocks : List Outline) (trees : SystemTrees) → AllByOwner blocks trees → AllOwnByOwner blocks trees
  all-own-of blocks no_more is = tt
  all-own-of blocks (next child rest) is = (own-of blocks child is.0, all-own-of blocks rest is.1)

mutual
  children-of : (blocks : List Outline) (tree : SystemTree) → ByOwner blocks tree → ChildrenByOwner blocks tree
  children-of blocks (system row line section own children) is = (is.1, all-children-of blocks children is.2)

  all-children-of : (blocks : List Outline) (trees : SystemTrees) → AllByOwner blocks trees → AllChildrenByOwner blocks trees
  all-children-of blocks no_more is = tt
  all-children-of blocks (next child rest) is = (children-of blocks child is.0, all-children-of blocks rest is.1)

pub own-by-owner : OwnIsByOwner
own-by-owner section = own-of (outlines_of section) (tree_of_model section) (by-owner section)

pub children-by-owner : ChildrenAreBySubsystems
children-by-owner section = children-of (outlines_of section) (tree_of_model section) (by-owner section)
