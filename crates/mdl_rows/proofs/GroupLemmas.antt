-- Blocks that are grouped one by one.
use Rattle.std.proofs.Common.{◌≡◌, ◌≢◌, refl, sym, ◌∙◌, ap, subst, ℕ, zero, suc, ◌+◌, ◌<◌, ◌≤◌, Bool, true, false, cond, List, [], ◌∷◌, ◌++◌, length, take, slice_index_or, slice_set, append-nil, Option, None, Some, map, arith}
use Rattle.std.specs.Prelude.{slice_get, nat_eq}
use Rattle.std.proofs.lemmas.Bool.Decides.{nat_tests}
use Rattle.std.specs.List.{AllByRecursion}
use Rattle.std.specs.Option.{option_map_or}
use Rattle.std.specs.Global.{Vec}
use Rattle.mdl_rows.specs.declared.blocks.NumberedBlock.{NumberedBlock}
use Rattle.std.proofs.lemmas.List.{take_more, map_more, map-append, length-map, length-set, take_all}
use Rattle.std.proofs.lemmas.List.Elements.{filter-append}
use Rattle.diagram_meaning.specs.Rows.{same_system}
use Rattle.mdl_rows.specs.declared.groups.Groups.{Groups}
use Rattle.mdl_rows.specs.Models.{Block, blocks_of}
use Rattle.mdl_rows.specs.Wires.{place_of}
use Rattle.mdl_rows.specs.Held.{AreBlocks, AreGroupsOf, IsThere, all_seen, group_of, seen}
use Rattle.mdl_rows.specs.Grouping.{Takes, with_block}
use Rattle.mdl_rows.proofs.BlockLemmas.{among-at}

-- the blocks of a system among those taken and one more
pub blocks-more : (blocks : List Block) (i : ℕ) (d : Block) (o : Option ℕ) → i < length blocks →
    blocks_of (take (i + 1) blocks) o ≡ with_block (slice_index_or blocks i d) o (blocks_of (take i blocks) o)
blocks-more blocks i d o h =
    let b = slice_index_or blocks i d in
    let own = blocks_of (take i blocks) o in
    ap (λ bs. blocks_of bs o) (take_more blocks i d h) ∙ filter-append (λ (b : Block). same_system b.owner o) (take i blocks) (b ∷ [])
    ∙ by (same_system b.owner o) own b
  where
    by : (t : Bool) (own : List Block) (b : Block) → own ++ cond t (b ∷ []) [] ≡ cond t (own ++ b ∷ []) own
    by true own b = refl
    by false own b = append-nil own

-- one list more that has something
pub all-push : {A : Type 0} (P : A → Type 0) (xs : List A) (x : A) → AllByRecursion P xs → P x → AllByRecursion P (xs ++ x ∷ [])
all-push P [] x all is = (is, tt)
all-push P (y ∷ ys) x all is = (all.0, all-push P ys x all.1 is)

empty-at : (lists : List (Vec NumberedBlock)) (e : ℕ) → AllByRecursion (λ own. own.items ≡ []) lists →
    option_map_or (λ own. own.items) (slice_get lists e) [] ≡ []
empty-at [] e all = refl
empty-at (own ∷ rest) zero all = all.0
empty-at (own ∷ rest) (suc e) all = empty-at rest e all.1

-- groups with nothing in them
pub no_groups : (g : Groups) (o : Option ℕ) → g.root.items ≡ [] → AllByRecursion (λ own. own.items ≡ []) g.inner.items → group_of g o ≡ []
no_groups g None root inner = root
no_groups g (Some e) root inner = empty-at g.inner.items e inner

-- ---- One block is taken

same-root : (b : NumberedBlock) (o : Option ℕ) (own : List NumberedBlock) → b.owner ≡ None → o ≡ None →
    all_seen (own ++ b ∷ []) ≡ with_block (seen b) o (all_seen own)
same-root b o own is e = map-append seen own (b ∷ [])
    ∙ sym (ap (λ t. cond t (all_seen own ++ seen b ∷ []) (all_seen own)) (ap (λ w. same_system w o) is
    ∙ ap (same_system None) e))

-- into the root
pub takes_root : (old new : Groups) (b : NumberedBlock) → b.owner ≡ None → new.root.items ≡ old.root.items ++ b ∷ [] →
    new.inner ≡ old.inner →
    new.places.items ≡ old.places.items ++ length old.root.items ∷ [] → Takes old new (seen b)
takes_root old new b is root inner places = record {
  groups = λ o. by o;
  count = ap (λ v. length v.items) inner;
  places = places ∙ ap (λ o. old.places.items ++ length (group_of old o) ∷ []) (sym is);
}
  where
    by : (o : Option ℕ) → all_seen (group_of new o) ≡ with_block (seen b) o (all_seen (group_of old o))
    by None = ap all_seen root ∙ same-root b None old.root.items is refl
    by (Some e) =
        ap (λ v. all_seen (option_map_or (λ own. own.items) (slice_get v.items e) [])) inner
        ∙ sym (ap (λ t. cond t (all_seen (group_of old (Some e)) ++ seen b ∷ []) (all_seen (group_of old (Some e))))
        (ap (λ w. same_system w (Some e)) is))

list-same : (lists : List (Vec NumberedBlock)) (e : ℕ) (own : Vec NumberedBlock) → e < length lists →
    option_map_or (λ own. own.items) (slice_get (slice_set lists e own) e) [] ≡ own.items
list-same [] e own h = absurd (omega arith)
list-same (x ∷ xs) zero own h = refl
list-same (x ∷ xs) (suc e) own h = list-same xs e own (omega arith)

list-other : (lists : List (Vec NumberedBlock)) (e k : ℕ) (own : Vec NumberedBlock) → k ≢ e →
    option_map_or (λ own. own.items) (slice_get (slice_set lists e own) k) [] ≡ option_map_or (λ own. own.items) (slice_get lists k) []
list-other [] e k own h = refl
list-other (x ∷ xs) zero zero own h = absurd (h refl)
list-other (x ∷ xs) zero (suc k) own h = refl
list-other (x ∷ xs) (suc e) zero own h = refl
list-other (x ∷ xs) (suc e) (suc k) own h = list-other xs e k own (λ same. h (ap suc same))

list-at : (lists : List (Vec NumberedBlock)) (e : ℕ) (d : Vec NumberedBlock) → e < length lists →
    option_map_or (λ own. own.items) (slice_get lists e) [] ≡ (slice_index_or lists e d).items
list-at [] e d h = absurd (omega arith)
list-at (x ∷ xs) zero d h = refl
list-at (x ∷ xs) (suc e) d h = list-at xs e d (omega arith)

-- into the group of a block
pub takes_inner : (old new : Groups) (b : NumberedBlock) (e : ℕ) (own now : Vec NumberedBlock) → b.owner ≡ Some e →
    e < length old.inner.items →
    own ≡ slice_index_or old.inner.items e own → now.items ≡ own.items ++ b ∷ [] →
    new.root ≡ old.root → new.inner.items ≡ slice_set old.inner.items e now →
    new.places.items ≡ old.places.items ++ length own.items ∷ [] → Takes old new (seen b)
takes_inner old new b e own now is h at more root inner places = record {
  groups = λ o. by o;
  count = ap length inner ∙ length-set old.inner.items e now;
  places = places ∙ ap (λ n. old.places.items ++ n ∷ []) (ap length (sym group) ∙ ap (λ o. length (group_of old o)) (sym is));
}
  where
    group : group_of old (Some e) ≡ own.items
    group = list-at old.inner.items e own h ∙ ap (λ v. v.items) (sym at)

    other : (k : ℕ) (t : Bool) → nat_eq k e ≡ t →
        all_seen (group_of new (Some k)) ≡ with_block (seen b) (Some k) (all_seen (group_of old (Some k)))
    other k true same =
        let one : k ≡ e = grind (arith, nat_tests) in
        let g = group_of old (Some k) in
        ap (λ lists. all_seen (option_map_or (λ own. own.items) (slice_get lists k) [])) inner
        ∙ ap (λ j. all_seen (option_map_or (λ own. own.items) (slice_get (slice_set old.inner.items e now) j) [])) one
        ∙ ap all_seen (list-same old.inner.items e now h ∙ more) ∙ map-append seen own.items (b ∷ [])
        ∙ ap (λ bs. bs ++ seen b ∷ []) (ap all_seen (sym group) ∙ ap (λ j. all_seen (group_of old (Some j))) (sym one))
        ∙ sym (ap (λ t. cond t (all_seen g ++ seen b ∷ []) (all_seen g)) (ap (λ w. same_system w (Some k)) is ∙ same))
    other k false differ =
        let apart : k ≢ e = grind (arith, nat_tests) in
        let g = group_of old (Some k) in
        ap (λ lists. all_seen (option_map_or (λ own. own.items) (slice_get lists k) [])) inner
        ∙ ap all_seen (list-other old.inner.items e k now apart)
        ∙ sym (ap (λ t. cond t (all_seen g ++ seen b ∷ []) (all_seen g)) (ap (λ w. same_system w (Some k)) is ∙ differ))

    by : (o : Option ℕ) → all_seen (group_of new o) ≡ with_block (seen b) o (all_seen (group_of old o))
    by None =
        ap (λ v. all_seen v.items) root
        ∙ sym (ap (λ t. cond t (all_seen old.root.items ++ seen b ∷ []) (all_seen old.root.items)) (ap (λ w. same_system w None) is))
    by (Some k) = other k (nat_eq k e) refl

-- ---- All blocks are taken, one by one

-- the owner of a block has its group
pub owner-there : (blocks : List Block) (i : ℕ) (b : Block) (n : ℕ) → AreBlocks blocks → i < length blocks → b ≡ slice_index_or blocks i b →
    n ≡ length blocks → IsThere n b.owner
owner-there blocks i b n are h at count =
    subst (λ n. IsThere n b.owner) (sym count) (subst (λ (x : Block). IsThere (length blocks) x.owner) (sym at) (are.owners i b h))

pub groups-step : (blocks : List Block) (i : ℕ) (b : Block) (old new : Groups) → i < length blocks →
    b ≡ slice_index_or blocks i b → Takes old new b →
    ((o : Option ℕ) → IsThere (length blocks) o → all_seen (group_of old o) ≡ blocks_of (take i blocks) o) →
    (o : Option ℕ) → IsThere (length blocks) o → all_seen (group_of new o) ≡ blocks_of (take (i + 1) blocks) o
groups-step blocks i b old new h at takes all o there =
    takes.groups o ∙ ap (λ own. with_block b o own) (all o there) ∙ ap (λ x. with_block x o (blocks_of (take i blocks) o)) at
    ∙ sym (blocks-more blocks i b o h)

pub places-step : (blocks : List Block) (i : ℕ) (b : Block) (old new : Groups) → AreBlocks blocks → i < length blocks →
    b ≡ slice_index_or blocks i b →
    Takes old new b → ((o : Option ℕ) → IsThere (length blocks) o → all_seen (group_of old o) ≡ blocks_of (take i blocks) o) →
    old.places.items ≡ map (place_of blocks) (take i blocks) → new.places.items ≡ map (place_of blocks) (take (i + 1) blocks)
places-step blocks i b old new are h at takes all places =
    let number : b.number ≡ i = ap (λ (x : Block). x.number) at ∙ among-at 0 blocks i b are.numbers h ∙ omega arith in
    let place : length (group_of old b.owner) ≡ place_of blocks b =
    sym (length-map (group_of old b.owner) seen) ∙ ap length (all b.owner (owner-there blocks i b (length blocks) are h at refl))
    ∙ ap (λ n. length (blocks_of (take n blocks) b.owner)) (sym number) in
    takes.places ∙ ap (λ ns. ns ++ length (group_of old b.owner) ∷ []) places
    ∙ ap (λ n. map (place_of blocks) (take i blocks) ++ n ∷ []) (place ∙ ap (place_of blocks) at)
    ∙ sym (map_more (place_of blocks) blocks i b h)

-- all are taken
pub groups-end : (blocks : List Block) (i : ℕ) (g : Groups) → length blocks ≤ i →
    ((o : Option ℕ) → IsThere (length blocks) o → all_seen (group_of g o) ≡ blocks_of (take i blocks) o) →
    length g.inner.items ≡ length blocks → g.places.items ≡ map (place_of blocks) (take i blocks) → AreGroupsOf blocks g
groups-end blocks i g h all count places = record {
  groups = λ o there. all o there ∙ ap (λ bs. blocks_of bs o) (take_all i blocks h);
  count = count;
  places = places ∙ ap (map (place_of blocks)) (take_all i blocks h);
}
