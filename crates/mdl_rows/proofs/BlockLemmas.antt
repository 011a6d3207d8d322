-- Blocks at their numbers, and among those of their system.
use Rattle.std.proofs.Common.{◌≡◌, refl, sym, ◌∙◌, ap, subst, ℕ, zero, suc, ◌+◌, ◌<◌, ◌≤◌, ◌^◌, Bool, true, false, cond, List, [], ◌∷◌, length, slice_index_or, slice_get, Option, None, Some, arith}
use Rattle.std.specs.Prelude.{filter}
use Rattle.std.specs.List.{All}
use Rattle.std.proofs.lemmas.List.{get_or-map, length-map}
use Rattle.mdl_rows.specs.declared.blocks.NumberedBlock.{NumberedBlock}
use Rattle.diagram_meaning.specs.Rows.{same_system}
use Rattle.mdl_rows.specs.Models.{Block, blocks_of}
use Rattle.mdl_blocks.specs.Held.{block_text}
use Rattle.mdl_systems.specs.declared.placed.PlacedBlock.{PlacedBlock}
use Rattle.mdl_rows.specs.Held.{AreBlocks, AreNumbered, IsAmong, IsThere, all_seen, numbered_from, seen}

-- the block at a place is the one with its number
pub among-at : (n : ℕ) (blocks : List Block) (k : ℕ) (d : Block) → AreNumbered n blocks → k < length blocks →
    (slice_index_or blocks k d).number ≡ n + k
among-at n [] k d are h = absurd (omega arith)
among-at n (b ∷ rest) zero d are h = are.0 ∙ omega arith
among-at n (b ∷ rest) (suc k) d are h = among-at (suc n) rest k d are.1 (omega arith) ∙ omega arith

get-at : {A : Type 0} (xs : List A) (k : ℕ) (d : A) → k < length xs → slice_get xs k ≡ Some (slice_index_or xs k d)
get-at [] k d h = absurd (omega arith)
get-at (x ∷ xs) zero d h = refl
get-at (x ∷ xs) (suc k) d h = get-at xs k d (omega arith)

-- each block is among them
pub is-among : (blocks : List Block) (k : ℕ) (d : Block) → AreNumbered 0 blocks → k < length blocks →
    IsAmong blocks (slice_index_or blocks k d)
is-among blocks k d are h = ap (slice_get blocks) (among-at 0 blocks k d are h ∙ omega arith) ∙ get-at blocks k d h

-- one that is among them has a number below their count
pub among-below : (blocks : List Block) (b : Block) → IsAmong blocks b → b.number < length blocks
among-below blocks b is = by blocks b.number is
  where
    by : (xs : List Block) (k : ℕ) → slice_get xs k ≡ Some b → k < length xs
    by [] k e = absurd cc
    by (x ∷ xs) zero e = omega arith
    by (x ∷ xs) (suc k) e = let h : k < length xs = by xs k e in omega (arith, h)

-- ---- As they were read

pub numbered-length : (n : ℕ) (bs : List PlacedBlock) → length (numbered_from n bs) ≡ length bs
numbered-length n [] = refl
numbered-length n (b ∷ bs) = ap suc (numbered-length (suc n) bs)

numbered-owner : (n : ℕ) (bs : List PlacedBlock) (k : ℕ) (d : PlacedBlock) (e : Block) → k < length bs →
    (slice_index_or (numbered_from n bs) k e).owner ≡ (slice_index_or bs k d).owner
numbered-owner n [] k d e h = absurd (omega arith)
numbered-owner n (b ∷ bs) zero d e h = refl
numbered-owner n (b ∷ bs) (suc k) d e h = numbered-owner (suc n) bs k d e (omega arith)

there-more : (n m : ℕ) (o : Option ℕ) → IsThere n o → n ≤ m → IsThere m o
there-more n m None is h = tt
there-more n m (Some e) is h = omega (arith, is, h)

-- an owner fits into 32 bits
pub owner-fits : (bs : List PlacedBlock) (k : ℕ) (d : PlacedBlock) → AreBlocks (numbered_from 0 bs) → length bs < 2 ^ 32 → k < length bs →
    IsThere (2 ^ 32) (slice_index_or bs k d).owner
owner-fits bs k d are short h =
    let e : Block = record { number = 0; owner = None; text = block_text d.block } in
    let below : k < length (numbered_from 0 bs) = subst (λ n. k < n) (sym (numbered-length 0 bs)) h in
    there-more (length bs) (2 ^ 32) (slice_index_or bs k d).owner
    (subst (λ o. IsThere (length bs) o) (numbered-owner 0 bs k d e h)
    (subst (λ n. IsThere n (slice_index_or (numbered_from 0 bs) k e).owner) (numbered-length 0 bs)
    (are.owners k e below))) (omega (arith, short))

-- ---- In memory

-- a block in memory is at its number
pub number-is : (xs : List NumberedBlock) (i : ℕ) (b : NumberedBlock) → AreNumbered 0 (all_seen xs) → i < length xs →
    b ≡ slice_index_or xs i b → b.number ≡ i
number-is xs i b are h at =
    let there : i < length (all_seen xs) = subst (λ n. i < n) (sym (length-map xs seen)) h in
    ap (λ (x : NumberedBlock). (seen x).number) at ∙ ap (λ (x : Block). x.number) (sym (get_or-map seen xs i b (seen b) h))
    ∙ among-at 0 (all_seen xs) i (seen b) are there ∙ omega arith

pub number-there : (xs : List NumberedBlock) (i : ℕ) (b : NumberedBlock) (n : ℕ) → AreNumbered 0 (all_seen xs) →
    i < length xs → b ≡ slice_index_or xs i b →
    n ≡ length (all_seen xs) → b.number < n
number-there xs i b n are h at count =
    subst (λ k. k < n) (sym (number-is xs i b are h at)) (subst (λ m. i < m) (sym (count ∙ length-map xs seen)) h)

-- and is one of them
pub item-among : (xs : List NumberedBlock) (i : ℕ) (b : NumberedBlock) → AreNumbered 0 (all_seen xs) → i < length xs →
    b ≡ slice_index_or xs i b →
    IsAmong (all_seen xs) (seen b)
item-among xs i b are h at =
    let there : i < length (all_seen xs) = subst (λ n. i < n) (sym (length-map xs seen)) h in
    let same : seen b ≡ slice_index_or (all_seen xs) i (seen b) = ap seen at ∙ sym (get_or-map seen xs i b (seen b) h) in
    subst (IsAmong (all_seen xs)) (sym same) (is-among (all_seen xs) i (seen b) are there)

some-length : (blocks : List Block) (o : Option ℕ) → length (blocks_of blocks o) ≤ length blocks
some-length [] o = omega arith
some-length (b ∷ rest) o = by (same_system b.owner o) (some-length rest o)
  where
    by : (t : Bool) → length (blocks_of rest o) ≤ length rest →
        length (cond t (b ∷ blocks_of rest o) (blocks_of rest o)) ≤ suc (length rest)
    by true h = omega (arith, h)
    by false h = omega (arith, h)

-- the blocks of a system are not more than all
pub group-short : (own xs : List NumberedBlock) (o : Option ℕ) → all_seen own ≡ blocks_of (all_seen xs) o →
    length xs < 2 ^ 32 → length own < 2 ^ 32
group-short own xs o are short =
    let count = sym (length-map own seen) ∙ ap length are in
    let most = some-length (all_seen xs) o in
    let long = length-map xs seen in omega (arith, count, most, long, short)

-- what holds of all holds of one
pub of-all : (P : Block → Type 0) (own : List NumberedBlock) (i : ℕ) (b : NumberedBlock) → All P (all_seen own) →
    i < length own → b ≡ slice_index_or own i b →
    P (seen b)
of-all P own i b all h at =
    let there : i < length (all_seen own) = subst (λ n. i < n) (sym (length-map own seen)) h in
    subst P (sym (ap seen at ∙ sym (get_or-map seen own i b (seen b) h))) (all i (seen b) there)

-- ---- Of one system

-- what is in a list from which some were taken
filtered : {A : Type 0} (test : A → Bool) (P : A → Type 0) (xs : List A) → All P xs → All P (filter test xs)
filtered test P [] all = all
filtered test P (x ∷ xs) all = by (test x) (filtered test P xs (λ k d h. all (suc k) d (omega (arith, h))))
  where
    by : (t : Bool) → All P (filter test xs) → All P (cond t (x ∷ filter test xs) (filter test xs))
    by true rest zero d h = all zero d (omega arith)
    by true rest (suc k) d h = rest k d (omega (arith, h))
    by false rest k d h = rest k d h

-- the blocks of a system are among all
pub own-among : (blocks : List Block) (o : Option ℕ) → AreNumbered 0 blocks → All (IsAmong blocks) (blocks_of blocks o)
own-among blocks o are = filtered (λ (b : Block). same_system b.owner o) (IsAmong blocks) blocks (λ k d h. is-among blocks k d are h)
