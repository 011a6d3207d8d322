-- What is inside a block.
use Rattle.std.proofs.Common.{◌≡◌, refl, ◌∙◌, ap, subst, ℕ, zero, suc, ◌+◌, ◌<◌, ◌≤◌, ◌^◌, Bool, true, false, cond, List, [], ◌∷◌, length, drop, slice_index_or, Option, None, Some, arith}
use Rattle.std.specs.Prelude.{filter, find, is_some, option_map, nat_eq}
use Rattle.std.specs.List.{AllZip, cons_option}
use Rattle.std.proofs.lemmas.List.{length-map}
use Rattle.std.specs.Option.{option_map_or}
use Rattle.mdl_blocks.specs.Blocks.{KindText}
use Rattle.mdl_rows.specs.declared.interiors.Interior.{Interior}
use Rattle.mdl_rows.specs.declared.blocks.NumberedBlock.{NumberedBlock}
use Rattle.mdl_rows.specs.Models.{Block, kind_of, blocks_of}
use Rattle.mdl_rows.specs.Interiors.{count_that, outport_number, outport_among, is_outport_at}
use Rattle.mdl_rows.specs.Held.{AreInteriorsOf, AreNumbered, IsInteriorOf, all_seen, outports_among, port_among, seen}
use Rattle.mdl_rows.proofs.FirstLemmas.{items-from}

-- there are at most as many of a kind as there are blocks
pub count-at-most : {A : Type 0} (what : KindText → Option A) (own : List Block) → count_that what own ≤ length own
count-at-most what [] = omega arith
count-at-most what (b ∷ rest) = by (is_some (what (kind_of b))) (count-at-most what rest)
  where
    by : (t : Bool) → count_that what rest ≤ length rest →
        length (cond t (b ∷ filter (λ b. is_some (what (kind_of b))) rest)
        (filter (λ b. is_some (what (kind_of b))) rest)) ≤ suc (length rest)
    by true h = omega (arith, h)
    by false h = omega (arith, h)

-- one block that counts
count-cons : {A : Type 0} (what : KindText → Option A) (b : Block) (rest : List Block) → is_some (what (kind_of b)) ≡ true →
    count_that what (b ∷ rest) ≡ suc (count_that what rest)
count-cons what b rest is =
    ap (λ t. length (cond t (b ∷ filter (λ b. is_some (what (kind_of b))) rest) (filter (λ b. is_some (what (kind_of b))) rest))) is

-- the count of one more fits
pub count-fits : {A : Type 0} (what : KindText → Option A) (xs : List NumberedBlock) (i : ℕ) (d : NumberedBlock)
    (count : ℕ) → i < length xs →
    is_some (what (kind_of (seen (slice_index_or xs i d)))) ≡ true → length xs < 2 ^ 32 →
    count + count_that what (all_seen (drop i xs)) ≡ count_that what (all_seen xs) → count + 1 < 2 ^ 32
count-fits what xs i d count h is short all =
    let here = ap (count_that what) (items-from seen xs i d h)
    ∙ count-cons what (seen (slice_index_or xs i d)) (all_seen (drop (i + 1) xs)) is in
    let most = count-at-most what (all_seen xs) in
    let long = length-map xs seen in omega (arith, here, most, long, short, all)

-- the Outports are as many as are counted
pub outports-counted : (own : List Block) → length (outports_among own) ≡ count_that outport_number own
outports-counted [] = refl
outports-counted (b ∷ rest) = by (outport_number (kind_of b)) (outports-counted rest)
  where
    by : (o : Option ℕ) → length (outports_among rest) ≡ count_that outport_number rest →
        length (cons_option (option_map (λ port. record { port = port; number = b.number }) o) (outports_among rest))
        ≡ length (cond (is_some o) (b ∷ filter (λ b. is_some (outport_number (kind_of b))) rest)
        (filter (λ b. is_some (outport_number (kind_of b))) rest))
    by None same = same
    by (Some port) same = ap suc same

-- the first one with a port is that among the blocks
pub port-found : (port : ℕ) (own : List Block) → port_among port (outports_among own) ≡ outport_among own port
port-found port [] = refl
port-found port (b ∷ rest) = by (outport_number (kind_of b)) (port-found port rest)
  where
    found : (t : Bool) → port_among port (outports_among rest) ≡ outport_among rest port →
        cond t (Some b.number) (port_among port (outports_among rest))
        ≡ option_map (λ (b : Block). b.number) (cond t (Some b) (find (is_outport_at port) rest))
    found true same = refl
    found false same = same

    by : (o : Option ℕ) → port_among port (outports_among rest) ≡ outport_among rest port →
        port_among port (cons_option (option_map (λ own. record { port = own; number = b.number }) o) (outports_among rest))
        ≡ option_map (λ (b : Block). b.number)
        (cond (option_map_or (λ own. nat_eq own port) o false) (Some b) (find (is_outport_at port) rest))
    by None same = same
    by (Some own) same = found (nat_eq own port) same

interior-from : (blocks : List Block) (d : Interior) (n : ℕ) (bs : List Block) (is : List Interior) (k : ℕ) → AreNumbered n bs →
    AllZip (λ (b : Block). IsInteriorOf (blocks_of blocks (Some b.number))) bs is → k < length bs →
    (k < length is) × IsInteriorOf (blocks_of blocks (Some (n + k))) (slice_index_or is k d)
interior-from blocks d n [] is k are all h = absurd (omega arith)
interior-from blocks d n (b ∷ bs) [] k are all h = absurd all
interior-from blocks d n (b ∷ bs) (x ∷ is) zero are all h =
    (omega arith, subst (λ m. IsInteriorOf (blocks_of blocks (Some m)) x) (are.0 ∙ omega arith) all.0)
interior-from blocks d n (b ∷ bs) (x ∷ is) (suc k) are all h =
    let rest = interior-from blocks d (suc n) bs is k are.1 all.1 (omega arith) in (
      let below = rest.0 in omega (arith, below),
      subst (λ m. IsInteriorOf (blocks_of blocks (Some m)) (slice_index_or is k d)) (omega arith) rest.1,
    )

-- what is inside the block with a number
pub interior-at : (blocks : List Block) (interiors : List Interior) (i : ℕ) (d : Interior) → AreNumbered 0 blocks →
    AreInteriorsOf blocks interiors →
    i < length blocks → (i < length interiors) × IsInteriorOf (blocks_of blocks (Some i)) (slice_index_or interiors i d)
interior-at blocks interiors i d are all h =
    let at = interior-from blocks d 0 blocks interiors i are all h in
    (at.0, subst (λ m. IsInteriorOf (blocks_of blocks (Some m)) (slice_index_or interiors i d)) (omega arith) at.1)
