-- The blocks that were read of a model, as those of its rows.
use Rattle.std.proofs.Common.{◌≡◌, refl, sym, ◌∙◌, ap, ap₂, subst, ℕ, zero, suc, ◌+◌, ◌<◌, ◌^◌, List, [], ◌∷◌, length, slice_get, Option, None, Some, arith}
use Rattle.std.specs.Prelude.{filter_map, option_map, Result, Ok, Err}
use Rattle.std.specs.List.{All, AllByRecursion, AllZip, cons_option}
use Rattle.std.specs.Option.{option_or}
use Rattle.std.specs.Result.{result_ok}
use Rattle.std.proofs.lemmas.List.Elements.{All-from_recursion}
use Rattle.base_refusals.specs.Refusals.{PlainRefusal, plain_refusal}
use Rattle.diagram_meaning.specs.declared.BuildFault.{BuildFault}
use Rattle.diagram_meaning.specs.declared.BuildFault.TheVariants as build
use Rattle.base_refusals.specs.FirstRefusal.{least_in, earlier_of, first_there}
use Rattle.mdl_tree.specs.Walks.{SectionTree}
use Rattle.mdl_params.specs.Defaults.{DefaultTexts}
use Rattle.mdl_blocks.specs.Blocks.{BlockText}
use Rattle.mdl_blocks.specs.declared.fault.Fault.{Fault}
use Rattle.mdl_blocks.specs.Held.{block_text}
use Rattle.mdl_systems.specs.declared.placed.PlacedBlock.{PlacedBlock}
use Rattle.mdl_systems.specs.ByDefaults.{GiveTheSame, ReadingIsByDefaults}
use Rattle.mdl_systems.specs.Models as found
use Rattle.mdl_systems.specs.Nesting.{OutlinesAreNumbered, StandsIn, OwnersAreBefore}
use Rattle.mdl_systems.specs.Outlines.{Outline, outlines_of, systems_of}
use Rattle.mdl_systems.specs.Reading.{IsRead, AreBlocksOf, IsFaultBy, IsFaultOf}
use Rattle.mdl_systems.specs.Refusals.{unread_at, misformed_at, unread, misformed, newer, numbers_refusal, model_refusal}
use Rattle.mdl_rows.specs.Models.{Block, block_read, model_with}
use Rattle.mdl_rows.specs.Held.{numbered_from, model_seen, AreNumbered, IsThere, AreBlocks}
use Rattle.mdl_rows.specs.Refusals.{rows_refusal, refusal_by}
use Rattle.mdl_table.specs.Parts.{refusal_with}
use Rattle.mdl_table.proofs.lemmas.RowBlocks.{some-none, accepted, zip-length, get-below}
use Rattle.mdl_table.proofs.TreeLemmas.{all-places, at-most}

-- ---- Numbers and owners

are-numbered : (n : ℕ) (bs : List PlacedBlock) → AreNumbered n (numbered_from n bs)
are-numbered n [] = tt
are-numbered n (b ∷ bs) = (refl, are-numbered (suc n) bs)

as-many : (n : ℕ) (bs : List PlacedBlock) → length (numbered_from n bs) ≡ length bs
as-many n [] = refl
as-many n (b ∷ bs) = ap suc (as-many (suc n) bs)

owner-there : (os : List Outline) (k depth : ℕ) (owner : Option ℕ) → k < length os → StandsIn os k depth owner → IsThere (length os) owner
owner-there os k depth None h is = tt
owner-there os k depth (Some e) h is = let low = is.0 in omega (arith, h, low)

all-there : (defaults : DefaultTexts) (n m : ℕ) (os : List Outline) (bs : List PlacedBlock) → AllZip (IsRead defaults) os bs →
    AllByRecursion (λ (o : Outline). IsThere n o.owner) os → AllByRecursion (λ (b : Block). IsThere n b.owner) (numbered_from m bs)
all-there defaults n m [] [] zip all = tt
all-there defaults n m [] (b ∷ bs) zip all = absurd zip
all-there defaults n m (o ∷ os) [] zip all = absurd zip
all-there defaults n m (o ∷ os) (b ∷ bs) zip all =
    (subst (IsThere n) (sym zip.0.owner) all.0, all-there defaults n (suc m) os bs zip.1 all.1)

-- the blocks of a model are at their numbers, and their owners are among them
pub are-blocks : OutlinesAreNumbered → OwnersAreBefore → (defaults : DefaultTexts) (section : SectionTree) (bs : List PlacedBlock) →
    AreBlocksOf defaults section bs → AreBlocks (numbered_from 0 bs)
are-blocks numbered before defaults section bs zip =
    let os : List Outline = outlines_of section in
    let many : length os ≡ length (numbered_from 0 bs) = sym (as-many 0 bs ∙ zip-length (IsRead defaults) os bs zip) in
    record {
      numbers = are-numbered 0 bs;
      owners = subst (λ n. All (λ (b : Block). IsThere n b.owner) (numbered_from 0 bs)) many
          (All-from_recursion (λ (b : Block). IsThere (length os) b.owner) (numbered_from 0 bs)
          (all-there defaults (length os) 0 os bs zip
          (all-places (λ (o : Outline). IsThere (length os) o.owner) os
          (λ k o at. owner-there os k o.depth o.owner (get-below os k o at) (before section k o at)))));
    }

-- there are few of them
pub few-blocks : (defaults : DefaultTexts) (section : SectionTree) (bs : List PlacedBlock) → model_refusal defaults section ≡ None →
    AreBlocksOf defaults section bs → length bs < 2 ^ 32
few-blocks defaults section bs e zip =
    let os : List Outline = outlines_of section in
    let few = at-most os (accepted defaults section e).few in
    let many = zip-length (IsRead defaults) os bs zip in
    omega (arith, few, many)

-- ---- The model

same-blocks : (defaults : DefaultTexts) (n : ℕ) (os : List Outline) (bs : List PlacedBlock) → AllZip (IsRead defaults) os bs →
    ((k : ℕ) (o : Outline) → slice_get os k ≡ Some o → o.number ≡ n + k) → numbered_from n bs ≡ filter_map (block_read defaults) os
same-blocks defaults n [] [] zip h = refl
same-blocks defaults n [] (b ∷ bs) zip h = absurd zip
same-blocks defaults n (o ∷ os) [] zip h = absurd zip
same-blocks defaults n (o ∷ os) (b ∷ bs) zip h =
    ap₂ (λ m rest. record { number = m; owner = b.owner; text = block_text b.block } ∷ rest) (sym (h zero o refl ∙ here))
    (same-blocks defaults (suc n) os bs zip.1 (λ k x e. h (suc k) x e ∙ later k))
    ∙ ap (λ owner. record { number = o.number; owner = owner; text = block_text b.block } ∷ filter_map (block_read defaults) os) zip.0.owner
    ∙ sym (ap (λ r. cons_option (seen r) (filter_map (block_read defaults) os)) zip.0.block)
  where
    seen : Result BlockText Fault → Option Block
    seen r = option_map (λ text. record { number = o.number; owner = o.owner; text = text }) (result_ok r)

    here : n + 0 ≡ n
    here = omega arith

    later : (k : ℕ) → n + suc k ≡ suc n + k
    later k = omega arith

-- the model with the blocks that were read is that of the text
pub same-model : OutlinesAreNumbered → (defaults : DefaultTexts) (section : SectionTree) (bs : List PlacedBlock) →
    AreBlocksOf defaults section bs →
    model_seen section bs ≡ model_with defaults section
same-model numbered defaults section bs zip =
    ap (λ (blocks : List Block). record { root = section; blocks = blocks })
    (same-blocks defaults 0 (outlines_of section) bs zip (λ k o at. numbered section k o at ∙ from_start k))
  where
    from_start : (k : ℕ) → k ≡ 0 + k
    from_start k = omega arith

-- ---- Other defaults that give the same

least-same : {A : Type 0} (f g : A → Option PlainRefusal) (xs : List A) → ((x : A) → f x ≡ g x) → least_in f xs ≡ least_in g xs
least-same f g [] h = refl
least-same f g (x ∷ xs) h = ap₂ earlier_of (h x) (least-same f g xs h)

filter_map-same : {A B : Type 0} (f g : A → Option B) (xs : List A) → ((x : A) → f x ≡ g x) → filter_map f xs ≡ filter_map g xs
filter_map-same f g [] h = refl
filter_map-same f g (x ∷ xs) h = ap₂ cons_option (h x) (filter_map-same f g xs h)

module _ (by_defaults : ReadingIsByDefaults) (defaults other : DefaultTexts) (same : GiveTheSame defaults other)
    (section : SectionTree) where
  -- the model is the same
  pub model-by : model_with defaults section ≡ model_with other section
  model-by =
      ap (λ (blocks : List Block). record { root = section; blocks = blocks })
      (filter_map-same (block_read defaults) (block_read other) (outlines_of section)
      (λ o. ap (seen o) (by_defaults defaults other same o)))
    where
      seen : Outline → Result BlockText Fault → Option Block
      seen o r = option_map (λ text. record { number = o.number; owner = o.owner; text = text }) (result_ok r)

  refused-by : model_refusal defaults section ≡ model_refusal other section
  refused-by =
      ap₂ (λ a b. first_there (numbers_refusal section ∷ first_there (earlier_of a (least_in newer (systems_of section)) ∷ b ∷ []) ∷ []))
      (least-same (unread defaults) (unread other) (outlines_of section)
      (λ o. ap (unread_at o.section.line) (by_defaults defaults other same o)))
      (least-same (misformed defaults) (misformed other) (outlines_of section)
      (λ o. ap (misformed_at o.section.line) (by_defaults defaults other same o)))

  -- the first refusal is the same
  pub refusal-by : refusal_with defaults section ≡ refusal_with other section
  refusal-by = ap₂ (λ a b. first_there (a ∷ b ∷ [])) refused-by (ap rows_refusal model-by)

-- ---- Refusals one after another

or-none : (o : Option PlainRefusal) → option_or o None ≡ o
or-none None = refl
or-none (Some refusal) = refl

-- the error of the first is the error of both
pub fault-first : (first : Option PlainRefusal) (more : List (Option PlainRefusal)) (fault : BuildFault) → IsFaultBy first fault →
    IsFaultBy (first_there (first ∷ more)) fault
fault-first first more (build.Refused refusal) is = ap (λ o. option_or o (first_there more)) is
fault-first first more build.Memory is = tt

-- where there is no first refusal, both are the second
pub only-second : (first second : Option PlainRefusal) → first ≡ None → first_there (first ∷ second ∷ []) ≡ second
only-second first second e = ap (λ o. option_or o (option_or second None)) e ∙ or-none second

-- the error of a model that isn't found is that of the file
pub fault-found : (r : Result found.Model PlainRefusal) (fault : BuildFault) → IsFaultOf r fault → IsFaultBy (refusal_by r) fault
fault-found (Ok model) (build.Refused refusal) is = absurd (some-none (plain_refusal refusal) (sym is))
fault-found (Ok model) build.Memory is = tt
fault-found (Err refusal) fault is = is
