-- The rows of sources.
use Rattle.std.proofs.Common.{◌≡◌, refl, sym, ◌∙◌, ap, subst, ℕ, zero, suc, ◌<◌, ◌≤◌, true, false, List, [], ◌∷◌, length, slice_index_or, Option, None, Some, arith}
use Rattle.std.specs.Prelude.{⊤, slice_get, option_map, is_some, nat_lt, IfSome, MatchOption}
use Rattle.std.proofs.lemmas.Option.{slice_get_past}
use Rattle.std.proofs.lemmas.Bool.Decides.{nat_tests}
use Rattle.std.specs.List.{All}
use denote.Ref.{Bor}
use Rattle.mdl_tree.specs.Walks.{SectionTree}
use Rattle.mdl_rows.specs.declared.blocks.NumberedBlock.{NumberedBlock}
use Rattle.mdl_rows.specs.Models.{Block}
use Rattle.mdl_rows.specs.Interiors.{outport_of}
use Rattle.mdl_rows.specs.Wires.{output_row}
use Rattle.mdl_rows.specs.Held.{all_seen, seen}

get-seen : (xs : List NumberedBlock) (k : ℕ) → option_map seen (slice_get xs k) ≡ slice_get (all_seen xs) k
get-seen [] k = refl
get-seen (x ∷ xs) zero = refl
get-seen (x ∷ xs) (suc k) = get-seen xs k

get-at : (xs : List NumberedBlock) (k : ℕ) (d : NumberedBlock) → k < length xs → slice_get xs k ≡ Some (slice_index_or xs k d)
get-at [] k d h = absurd (omega arith)
get-at (x ∷ xs) zero d h = refl
get-at (x ∷ xs) (suc k) d h = get-at xs k d (omega arith)

-- what is found at a place of a group
pub found-at : (xs : List NumberedBlock) (k : ℕ) (r : Option (Bor NumberedBlock)) → is_some r ≡ nat_lt k (length xs) →
    IfSome r (λ b. b.now ≡ slice_index_or xs k b.now) → option_map (λ b. seen b.now) r ≡ slice_get (all_seen xs) k
found-at xs k None some same =
    let past : length xs ≤ k = grind (arith, nat_tests) in
    ap (option_map seen) (sym (slice_get_past xs k past)) ∙ get-seen xs k
found-at xs k (Some b) some same =
    let there : k < length xs = grind (arith, nat_tests) in
    ap (option_map seen) (ap Some same ∙ sym (get-at xs k b.now there)) ∙ get-seen xs k

all-get : (P : Block → Type 0) (bs : List Block) (k : ℕ) (b : Block) → All P bs → slice_get bs k ≡ Some b → P b
all-get P [] k b all e = absurd cc
all-get P (x ∷ bs) zero b all e = let same : x ≡ b = cc in subst P same (all 0 x (omega arith))
all-get P (x ∷ bs) (suc k) b all e = all-get P bs k b (λ j d h. all (suc j) d (omega (arith, h))) e

-- what holds of all of a group holds of what is found
pub holds-at : (P : Block → Type 0) (bs : List Block) (k : ℕ) (r : Option (Bor NumberedBlock)) → All P bs →
    option_map (λ b. seen b.now) r ≡ slice_get bs k →
    MatchOption r ⊤ (λ b. P (seen b.now))
holds-at P bs k None all e = tt
holds-at P bs k (Some b) all e = all-get P bs k (seen b.now) all (sym e)

-- the row of an output, with a system inside or without
pub with-system : (blocks : List Block) (b : Block) (o : Option SectionTree) (output : ℕ) → is_some o ≡ true →
    outport_of blocks b.number output ≡ output_row blocks b o output
with-system blocks b None output is = absurd cc
with-system blocks b (Some s) output is = refl

pub without-system : (blocks : List Block) (b : Block) (o : Option SectionTree) (output : ℕ) → is_some o ≡ false →
    Some b.number ≡ output_row blocks b o output
without-system blocks b None output is = refl
without-system blocks b (Some s) output is = absurd cc
