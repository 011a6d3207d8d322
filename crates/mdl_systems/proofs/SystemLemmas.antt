-- The systems of a System's items, one by one.
use Rattle.std.proofs.Common.{◌≡◌, refl, sym, ◌∙◌, ap, ap₂, ℕ, suc, ◌+◌, true, false, List, [], ◌∷◌, ◌++◌, length, map, Option, None, Some, append_assoc, arith, codes}
use Rattle.std.proofs.lemmas.List.{map-append}
use Rattle.std.specs.Prelude.{bytes_eq, option_map, option_to_list}
use Rattle.mdl_tree.specs.Spelling.{Items}
use Rattle.mdl_tree.specs.Spelling as spelling
use Rattle.mdl_tree.specs.Walks.{SectionTree}
use Rattle.mdl_blocks.specs.declared.peers.Peers.{Peers}
use Rattle.mdl_systems.specs.declared.outline.Outline as held
use Rattle.mdl_systems.specs.declared.system.SystemText.{SystemText}
use Rattle.mdl_systems.specs.Held.{all_seen, taken, blocks_held}
use Rattle.mdl_systems.specs.Systems.{system, systems_from, own_in, children_in, system_inside, system_held, system_of}
use Rattle.mdl_systems.proofs.OutlineLemmas.{length-news}

count : (a b : ℕ) → a + 1 + b ≡ a + suc b
count a b = omega arith

-- a Block in front of the items
pub own-block : (start : ℕ) (owner : Option ℕ) (depth : ℕ) (peers : Peers) (section : SectionTree) (rest : Items) →
    bytes_eq section.name (codes "Block") ≡ true →
    own_in start depth (spelling.Section section.name section.line section.items rest)
    ≡ start ∷ own_in (start + length (taken start owner depth peers section)) depth rest
own-block start owner depth peers section rest e =
    let inside = length (blocks_held start depth section.items) in
    ap (λ t. elim t [ true ↦ start ∷ own_in (start + 1 + inside) depth rest | false ↦ own_in start depth rest ]) e
    ∙ ap (λ n. start ∷ own_in n depth rest) (count start inside)

pub children-block : (start : ℕ) (owner : Option ℕ) (depth : ℕ) (peers : Peers) (section : SectionTree) (rest : Items) →
    bytes_eq section.name (codes "Block") ≡ true →
    children_in start depth (spelling.Section section.name section.line section.items rest)
    ≡ option_to_list (system_held start depth section) ++ children_in (start + length (taken start owner depth peers section)) depth rest
children-block start owner depth peers section rest e =
    let inside = length (blocks_held start depth section.items) in
    let here = option_to_list (system_held start depth section) in
    ap (λ t. elim t [ true ↦ here ++ children_in (start + 1 + inside) depth rest | false ↦ children_in start depth rest ]) e
    ∙ ap (λ n. here ++ children_in n depth rest) (count start inside)

-- another section in front of them
pub own-other : (start depth : ℕ) (name : List ℕ) (line : ℕ) (items rest : Items) → bytes_eq name (codes "Block") ≡ false →
    own_in start depth (spelling.Section name line items rest) ≡ own_in start depth rest
own-other start depth name line items rest e =
    let inside = length (blocks_held start depth items) in
    ap (λ t. elim t [ true ↦ start ∷ own_in (start + 1 + inside) depth rest | false ↦ own_in start depth rest ]) e

pub children-other : (start depth : ℕ) (name : List ℕ) (line : ℕ) (items rest : Items) → bytes_eq name (codes "Block") ≡ false →
    children_in start depth (spelling.Section name line items rest) ≡ children_in start depth rest
children-other start depth name line items rest e =
    let inside = length (blocks_held start depth items) in
    let here = option_to_list (system_held start depth (record { name = name; line = line; items = items })) in
    ap (λ t. elim t [ true ↦ here ++ children_in (start + 1 + inside) depth rest | false ↦ children_in start depth rest ]) e

-- one Block more is taken
pub more-own : (own : List ℕ) (olds news : List held.Outline) (owner : Option ℕ) (depth : ℕ) (peers : Peers)
    (section : SectionTree) (rest : Items) →
    bytes_eq section.name (codes "Block") ≡ true → all_seen news ≡ all_seen olds ++ taken (length olds) owner depth peers section →
    (own ++ length olds ∷ []) ++ own_in (length news) depth rest
    ≡ own ++ own_in (length olds) depth (spelling.Section section.name section.line section.items rest)
more-own own olds news owner depth peers section rest named e =
    append_assoc own (length olds ∷ []) (own_in (length news) depth rest)
    ∙ ap (λ xs. own ++ xs) (
    ap (λ n. length olds ∷ own_in n depth rest) (length-news olds news (taken (length olds) owner depth peers section) e)
    ∙ sym (own-block (length olds) owner depth peers section rest named)
    )

listed : (child : Option SystemText) → map system_of (option_to_list child) ≡ option_to_list (option_map system_of child)
listed None = refl
listed (Some s) = refl

pub more-children : (children : List SystemText) (child : Option SystemText) (olds news : List held.Outline)
    (owner : Option ℕ) (depth : ℕ) (peers : Peers) (section : SectionTree) (rest : Items) →
    bytes_eq section.name (codes "Block") ≡ true → all_seen news ≡ all_seen olds ++ taken (length olds) owner depth peers section →
    option_map system_of child ≡ system_held (length olds) depth section →
    map system_of (children ++ option_to_list child) ++ children_in (length news) depth rest
    ≡ map system_of children ++ children_in (length olds) depth (spelling.Section section.name section.line section.items rest)
more-children children child olds news owner depth peers section rest named e is =
    let after = children_in (length news) depth rest in
    ap (λ xs. xs ++ after) (map-append system_of children (option_to_list child))
    ∙ append_assoc (map system_of children) (map system_of (option_to_list child)) after
    ∙ ap (λ xs. map system_of children ++ xs) (
    ap₂ (λ xs n. xs ++ children_in n depth rest) (listed child ∙ ap option_to_list is)
    (length-news olds news (taken (length olds) owner depth peers section) e)
    ∙ sym (children-block (length olds) owner depth peers section rest named)
    )

-- a System in front of the items of a subsystem
pub held-system : (number line depth : ℕ) (section : SectionTree) (rest : Items) → bytes_eq section.name (codes "System") ≡ true →
    system_inside number line depth (spelling.Section section.name section.line section.items rest)
    ≡ Some (system (Some number) line section (own_in (number + 1) depth section.items)
    (systems_from (children_in (number + 1) depth section.items)))
held-system number line depth section rest e =
    let inside =
    Some (system (Some number) line section (own_in (number + 1) depth section.items)
    (systems_from (children_in (number + 1) depth section.items))) in
    ap (λ t. elim t [ true ↦ inside | false ↦ system_inside number line depth rest ]) e

-- another section in front of them
pub held-other : (number line depth : ℕ) (section : SectionTree) (rest : Items) → bytes_eq section.name (codes "System") ≡ false →
    system_inside number line depth (spelling.Section section.name section.line section.items rest) ≡ system_inside number line depth rest
held-other number line depth section rest e =
    let inside =
    Some (system (Some number) line section (own_in (number + 1) depth section.items)
    (systems_from (children_in (number + 1) depth section.items))) in
    ap (λ t. elim t [ true ↦ inside | false ↦ system_inside number line depth rest ]) e
