-- The systems of a model in memory.
use Rattle.std.proofs.Common.{◌≡◌, refl, sym, ◌∙◌, ap, subst, ℕ, zero, suc, ◌+◌, ◌<◌, Bool, true, false, cond, List, [], ◌∷◌, length, take, slice_index_or, Option, None, Some, arith}
use Rattle.std.proofs.lemmas.Bool.Decides.{nat_tests}
use Rattle.std.specs.Prelude.{nat_eq, slice_get, filter_map, option_and_then}
use Rattle.std.specs.List.{All, cons_option}
use Rattle.base_refusals.specs.Refusals.{PlainRefusal}
use Rattle.mdl_wiring.specs.declared.ports.Source.{Source}
use Rattle.mdl_wiring.specs.Members.{Member}
use Rattle.mdl_wiring.specs.Lines.{LineEnd, ends_in}
use Rattle.mdl_wiring.specs.Refusals.{numbers_of}
use Rattle.mdl_wiring.specs.Wiring.{source_into, sources_of, sources_from}
use Rattle.base_refusals.specs.Order.{first_of}
use Rattle.std.proofs.lemmas.List.{get_or-map, length-map}
use Rattle.diagram_meaning.specs.Rows.{same_system}
use Rattle.mdl_rows.specs.declared.model.ModelBlocks.{ModelBlocks}
use Rattle.mdl_rows.specs.Models.{Block, Model, System, blocks_of, inner_system, items_of}
use Rattle.mdl_rows.specs.Wires.{block_sources, member_of, members_of, place_of}
use Rattle.mdl_rows.specs.Refusals.{first_in, system_refusal}
use Rattle.mdl_rows.specs.Held.{IsAmong, IsThere, all_seen, group_of, seen}
use Rattle.mdl_rows.specs.HeldModels.{IsModel}
use Rattle.mdl_rows.specs.Wired.{block_count}
use Rattle.mdl_rows.proofs.BlockLemmas.{own-among}
use Rattle.mdl_rows.proofs.FirstLemmas.{none-left, none-right}

-- a system that is there has a group
pub group-there : (m : ModelBlocks) (o : Option ℕ) → IsModel m → IsThere (block_count m) o → IsThere (length m.groups.inner.items) o
group-there m o is there = subst (λ n. IsThere n o) (sym (is.groups.count ∙ length-map m.blocks.items seen)) there

-- which has its blocks
pub group-is : (m : ModelBlocks) (o : Option ℕ) → IsModel m → IsThere (block_count m) o →
    all_seen (group_of m.groups o) ≡ blocks_of (all_seen m.blocks.items) o
group-is m o is there = is.groups.groups o (subst (λ n. IsThere n o) (sym (length-map m.blocks.items seen)) there)

-- and these are among all
pub group-among : (m : ModelBlocks) (o : Option ℕ) → IsModel m → IsThere (block_count m) o →
    All (IsAmong (all_seen m.blocks.items)) (all_seen (group_of m.groups o))
group-among m o is there =
    subst (All (IsAmong (all_seen m.blocks.items))) (sym (group-is m o is there)) (own-among (all_seen m.blocks.items) o is.blocks.numbers)

-- ---- Refusals

-- the refusal of the system inside a block
abbrev pub inner_refusal : Model → Block → Option PlainRefusal
inner_refusal m b = option_and_then (system_refusal m) (inner_system b)

-- the first refusal of the systems inside blocks
pub inner-first : (m : Model) (bs : List Block) → first_in (inner_refusal m) bs ≡ first_in (system_refusal m) (filter_map inner_system bs)
inner-first m [] = refl
inner-first m (b ∷ bs) = by (inner_system b) (inner-first m bs)
  where
    by : (o : Option System) → first_in (inner_refusal m) bs ≡ first_in (system_refusal m) (filter_map inner_system bs) →
        first_of (option_and_then (system_refusal m) o) (first_in (inner_refusal m) bs)
        ≡ first_in (system_refusal m) (cons_option o (filter_map inner_system bs))
    by None same = same
    by (Some s) same = ap (first_of (system_refusal m s)) same

-- where there is no first refusal no system has one
pub none-of-each : {A : Type 0} (found : A → Option PlainRefusal) (xs : List A) → first_in found xs ≡ None → All (λ x. found x ≡ None) xs
none-of-each found [] none k d h = absurd (omega arith)
none-of-each found (x ∷ xs) none zero d h = none-left (found x) (first_in found xs) none
none-of-each found (x ∷ xs) none (suc k) d h =
    none-of-each found xs (none-right (found x) (first_in found xs) none) k d (omega arith)

-- ---- Sources

some-same : {A : Type 0} {x y : A} → Some x ≡ Some y → x ≡ y
some-same e = cc

same-number : (n : ℕ) → nat_eq n n ≡ true
same-number n = grind (arith, nat_tests)

-- a system is itself
pub same-itself : (o : Option ℕ) → same_system o o ≡ true
same-itself None = refl
same-itself (Some e) = same-number e

-- where the inputs of the blocks from a place on read from
sources-at : (ends : List LineEnd) (n : ℕ) (ms : List Member) (k : ℕ) (d : Member) → k < length ms →
    slice_index_or (sources_from ends n ms) k [] ≡ sources_of ends (n + k) (slice_index_or ms k d)
sources-at ends n [] k d h = absurd (omega arith)
sources-at ends n (m ∷ ms) zero d h = ap (λ i. sources_of ends i m) (omega arith)
sources-at ends n (m ∷ ms) (suc k) d h =
    sources-at ends (n + 1) ms k d (omega arith) ∙ ap (λ i. sources_of ends i (slice_index_or ms k d)) (omega arith)

-- without line ends no block has a source
pub no-sources : (at : ℕ) (m : Member) → sources_of [] at m ≡ []
no-sources at m = by (numbers_of m)
  where
    by : (ns : List ℕ) → filter_map (λ number. source_into [] (record { member = at; number = number })) ns ≡ []
    by [] = refl
    by (n ∷ ns) = by ns

-- a block is among those of its system at its place
place-is : (blocks : List Block) (k : ℕ) (b d : Block) → slice_get blocks k ≡ Some b →
    let own = length (blocks_of (take k blocks) b.owner) in
    (own < length (blocks_of blocks b.owner)) × (slice_index_or (blocks_of blocks b.owner) own d ≡ b)
place-is [] k b d e = absurd cc
place-is (x ∷ xs) zero b d e =
    let same : x ≡ b = some-same e in
    let own : same_system x.owner b.owner ≡ true = ap (λ (y : Block). same_system y.owner b.owner) same ∙ same-itself b.owner in (
      subst (λ t. 0 < length (cond t (x ∷ blocks_of xs b.owner) (blocks_of xs b.owner))) (sym own) (omega arith),
      ap (λ t. slice_index_or (cond t (x ∷ blocks_of xs b.owner) (blocks_of xs b.owner)) 0 d) own ∙ same,
    )
place-is (x ∷ xs) (suc k) b d e = by (same_system x.owner b.owner) (place-is xs k b d e)
  where
    by : (t : Bool) →
        (length (blocks_of (take k xs) b.owner) < length (blocks_of xs b.owner))
        × (slice_index_or (blocks_of xs b.owner) (length (blocks_of (take k xs) b.owner)) d ≡ b) →
        (length (cond t (x ∷ blocks_of (take k xs) b.owner) (blocks_of (take k xs) b.owner))
        < length (cond t (x ∷ blocks_of xs b.owner) (blocks_of xs b.owner)))
        × (slice_index_or (cond t (x ∷ blocks_of xs b.owner) (blocks_of xs b.owner))
        (length (cond t (x ∷ blocks_of (take k xs) b.owner) (blocks_of (take k xs) b.owner))) d ≡ b)
    by true rest = (let h = rest.0 in omega (arith, h), rest.1)
    by false rest = rest

-- where the inputs of a block read from, by the sources of its system
pub sources-of-block : (m : Model) (b : Block) (ends : List LineEnd) (rows : List (List Source)) → IsAmong m.blocks b →
    ends ≡ ends_in (members_of m.blocks b.owner) (items_of m b.owner) →
    rows ≡ sources_from ends 0 (members_of m.blocks b.owner) → slice_index_or rows (place_of m.blocks b) [] ≡ block_sources m b
sources-of-block m b ends rows among is all =
    let own = blocks_of m.blocks b.owner in
    let k = place_of m.blocks b in
    let at = place-is m.blocks b.number b b among in
    let below : k < length (members_of m.blocks b.owner) = subst (λ n. k < n) (sym (length-map own (member_of m.blocks))) at.0 in
    ap (λ rs. slice_index_or rs k []) all ∙ sources-at ends 0 (members_of m.blocks b.owner) k (member_of m.blocks b) below
    ∙ ap (λ i. sources_of ends i (slice_index_or (members_of m.blocks b.owner) k (member_of m.blocks b))) (omega arith)
    ∙ ap (sources_of ends k) (get_or-map (member_of m.blocks) own k b (member_of m.blocks b) at.0 ∙ ap (member_of m.blocks) at.1)
    ∙ ap (λ es. sources_of es k (member_of m.blocks b)) is
