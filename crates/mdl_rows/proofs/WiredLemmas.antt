-- Where the inputs of blocks read from, in a model whose systems are not refused.
use Rattle.std.proofs.Common.{◌≡◌, refl, sym, ◌∙◌, ap, subst, ℕ, zero, suc, ◌<◌, true, List, [], ◌∷◌, length, slice_index_or, Option, None, Some, map, arith}
use Rattle.std.specs.Prelude.{slice_get, option_map, option_and_then, is_some, MatchOption}
use Rattle.std.specs.List.{AllZip}
use Rattle.std.specs.Option.{option_map_or}
use Rattle.std.proofs.lemmas.List.{get_or-map, length-map}
use Rattle.mdl_rows.specs.declared.model.ModelBlocks.{ModelBlocks}
use Rattle.base_refusals.specs.Refusals.{PlainRefusal}
use Rattle.mdl_tree.specs.Spelling.{Items, End}
use Rattle.mdl_tree.specs.Walks.{SectionTree}
use Rattle.mdl_wiring.specs.declared.wiring.Wiring.{Wiring}
use Rattle.mdl_wiring.specs.Lines.{ends_in}
use Rattle.mdl_wiring.specs.Wiring.{wiring_seen, sources_from, sources_of}
use Rattle.mdl_rows.specs.declared.wirings.Wirings.{Wirings}
use Rattle.mdl_rows.specs.Models.{Block, Model, System, kind_of, system_in, inner_system, root_system, items_inside, items_of}
use Rattle.mdl_rows.specs.Wires.{block_sources, member_of, members_of, place_of}
use Rattle.mdl_rows.specs.Refusals.{system_refusal, systems_refusal}
use Rattle.mdl_rows.specs.Held.{AreBlocks, AreWiringsOf, IsAmong, IsInnerWired, IsSystemWired, IsThere, all_seen, seen}
use Rattle.mdl_rows.specs.HeldModels.{IsModel}
use Rattle.mdl_rows.specs.Wired.{block_count, wiring_of}
use Rattle.mdl_rows.proofs.BlockLemmas.{among-at, among-below}
use Rattle.mdl_rows.proofs.FirstLemmas.{none-left, none-right}
use Rattle.mdl_rows.proofs.ModelLemmas.{inner_refusal, inner-first, none-of-each, sources-of-block, no-sources}

-- where the blocks of a system with these items read from, or that there are no items
abbrev IsWired : Model → Option ℕ → Items → Option Wiring → Type 0
IsWired m o items (Some w) = wiring_seen w ≡ sources_from (ends_in (members_of m.blocks o) items) 0 (members_of m.blocks o)
IsWired m o items None = items ≡ End

system-wired : (m : Model) (s : System) (w : Option Wiring) → IsSystemWired m s w → system_refusal m s ≡ None → IsWired m s.row s.items w
system-wired m s (Some w) is none = is
system-wired m s None is none = absurd (some-none (system_refusal m s) is none)
  where
    some-none : (o : Option PlainRefusal) → is_some o ≡ true → o ≡ None → ⊥
    some-none None is none = cc
    some-none (Some r) is none = cc

inner-wired : (m : Model) (b : Block) (o : Option SectionTree) (w : Option Wiring) → system_in (kind_of b) ≡ o →
    IsInnerWired m b w → inner_refusal m b ≡ None →
    IsWired m (Some b.number) (items_inside b) w
inner-wired m b None w e is none =
    let inner = ap (option_map (λ (section : SectionTree). record { row = Some b.number; items = section.items })) e in
    let no : w ≡ None = subst (λ s. MatchOption s (w ≡ None) (λ s. IsSystemWired m s w)) inner is in
    subst (IsWired m (Some b.number) (items_inside b)) (sym no) (ap (λ s. option_map_or (λ (section : SectionTree). section.items) s End) e)
inner-wired m b (Some section) w e is none =
    let s : System = record { row = Some b.number; items = section.items } in
    let inner : inner_system b ≡ Some s =
    ap (option_map (λ (section : SectionTree). record { row = Some b.number; items = section.items })) e in
    let items : items_inside b ≡ section.items = ap (λ s. option_map_or (λ (section : SectionTree). section.items) s End) e in
    subst (λ is. IsWired m (Some b.number) is w) (sym items)
    (system-wired m s w (subst (λ s. MatchOption s (w ≡ None) (λ s. IsSystemWired m s w)) inner is)
    (sym (ap (option_and_then (system_refusal m)) inner) ∙ none))

zip-index : {A B : Type 0} (R : A → B → Type 0) (xs : List A) (ys : List B) (k : ℕ) (d : A) → AllZip R xs ys → k < length xs →
    (y : B) × (slice_get ys k ≡ Some y) × R (slice_index_or xs k d) y
zip-index R [] ys k d all h = absurd (omega arith)
zip-index R (x ∷ xs) [] k d all h = absurd all
zip-index R (x ∷ xs) (y ∷ ys) zero d all h = (y, refl, all.0)
zip-index R (x ∷ xs) (y ∷ ys) (suc k) d all h = zip-index R xs ys k d all.1 (omega arith)

-- the wiring of a system that is there
pub wired : (m : Model) (w : Wirings) (o : Option ℕ) → AreBlocks m.blocks → AreWiringsOf m w →
    systems_refusal m ≡ None → IsThere (length m.blocks) o → Block →
    IsWired m o (items_of m o) (wiring_of w o)
wired m w None blocks are none there d = system-wired m (root_system m) w.root are.root (none-left _ _ none)
wired m w (Some e) blocks are none there d =
    let b = slice_index_or m.blocks e d in
    let number : b.number ≡ e = among-at 0 m.blocks e d blocks.numbers there ∙ omega arith in
    let get : slice_get m.blocks e ≡ Some b = slice_get-at m.blocks e d there in
    let at = zip-index (IsInnerWired m) m.blocks w.inner.items e d are.inner there in
    let each = none-of-each (inner_refusal m) m.blocks (inner-first m m.blocks ∙ none-right _ _ none) e d there in
    let is : IsWired m (Some b.number) (items_inside b) at.0 = inner-wired m b (system_in (kind_of b)) at.0 refl at.2 each in
    subst (λ n. IsWired m (Some n) (items_of m (Some e)) (wiring_of w (Some e))) number
    (subst (λ is. IsWired m (Some b.number) is (wiring_of w (Some e))) (ap (λ o. option_map_or items_inside o End) (sym get))
    (subst (IsWired m (Some b.number) (items_inside b)) (ap (option_and_then (λ wiring. wiring)) (sym at.1)) is))
  where
    slice_get-at : {A : Type 0} (xs : List A) (k : ℕ) (d : A) → k < length xs → slice_get xs k ≡ Some (slice_index_or xs k d)
    slice_get-at [] k d h = absurd (omega arith)
    slice_get-at (x ∷ xs) zero d h = refl
    slice_get-at (x ∷ xs) (suc k) d h = slice_get-at xs k d (omega arith)

index-is : (xs : List Block) (k : ℕ) (b : Block) → slice_get xs k ≡ Some b → slice_index_or xs k b ≡ b
index-is [] k b e = refl
index-is (x ∷ xs) zero b e = cc
index-is (x ∷ xs) (suc k) b e = index-is xs k b e

-- the owner of a block is there
pub owner-of : (blocks : List Block) (b : Block) → AreBlocks blocks → IsAmong blocks b → IsThere (length blocks) b.owner
owner-of blocks b are among =
    let h = among-below blocks b among in
    subst (λ (x : Block). IsThere (length blocks) x.owner) (index-is blocks b.number b among) (are.owners b.number b h)

-- a block reads from what its system's wiring says
pub sources-some : (m : Model) (w : Wirings) (b : Block) (wiring : Wiring) → AreBlocks m.blocks → AreWiringsOf m w →
    systems_refusal m ≡ None → IsAmong m.blocks b →
    wiring_of w b.owner ≡ Some wiring → slice_index_or (wiring_seen wiring) (place_of m.blocks b) [] ≡ block_sources m b
sources-some m w b wiring blocks are none among e =
    let is = subst (IsWired m b.owner (items_of m b.owner)) e (wired m w b.owner blocks are none (owner-of m.blocks b blocks among) b) in
    sources-of-block m b (ends_in (members_of m.blocks b.owner) (items_of m b.owner)) (wiring_seen wiring) among refl is

-- and from nothing where it has none
pub sources-none : (m : Model) (w : Wirings) (b : Block) → AreBlocks m.blocks → AreWiringsOf m w →
    systems_refusal m ≡ None → IsAmong m.blocks b →
    wiring_of w b.owner ≡ None → block_sources m b ≡ []
sources-none m w b blocks are none among e =
    let items : items_of m b.owner ≡ End =
    subst (IsWired m b.owner (items_of m b.owner)) e
    (wired m w b.owner blocks are none (owner-of m.blocks b blocks among) b) in
    ap (λ is. sources_of (ends_in (members_of m.blocks b.owner) is) (place_of m.blocks b) (member_of m.blocks b)) items
    ∙ no-sources (place_of m.blocks b) (member_of m.blocks b)

-- the place of a block in memory
pub place-at : (blocks : List Block) (places : List ℕ) (b : Block) (d : ℕ) → places ≡ map (place_of blocks) blocks → IsAmong blocks b →
    slice_index_or places b.number d ≡ place_of blocks b
place-at blocks places b d is among =
    ap (λ ps. slice_index_or ps b.number d) is ∙ get_or-map (place_of blocks) blocks b.number b d (among-below blocks b among)
    ∙ ap (place_of blocks) (index-is blocks b.number b among)

-- the system of a block is there
pub owner-there : (m : ModelBlocks) (b : Block) → IsModel m → IsAmong (all_seen m.blocks.items) b → IsThere (block_count m) b.owner
owner-there m b is among =
    subst (λ n. IsThere n b.owner) (length-map m.blocks.items seen)
    (owner-of (all_seen m.blocks.items) b is.blocks among)
