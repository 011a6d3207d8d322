-- The sources of a library in memory, one by one.
use Rattle.std.proofs.Common.{◌≡◌, refl, sym, ◌∙◌, ap, ℕ, ◌+◌, Bool, true, false, cond, is_some, List, [], ◌∷◌, ◌++◌, map, fold, filter_map, Option, Some, None, Vec, option_map, position, nat_lt, ap₂, not}
use Rattle.std.proofs.lemmas.List.{map-append, length-map}
use Rattle.std.specs.Prelude.{bytes_eq}
use Rattle.std.specs.List.{position_or_len}
use Rattle.std.specs.Map.{lookup, keys_of}
use Rattle.std.specs.declared.alloc.Global.{Global}
use denote.Ref.{Bor}
use Rattle.mdl_tree.specs.declared.tree.Section as held
use Rattle.mdl_tree.specs.Walks.{SectionTree}
use Rattle.mdl_tree.specs.Values.{section_tree}
use Rattle.mdl_params.specs.BlockTypes.{beside}
use Rattle.mdl_params.proofs.lemmas.KindLemmas.{named}
use Rattle.mdl_library.specs.Given.{Given}
use Rattle.mdl_library.specs.Library.{Source, source_of, with_source}
use Rattle.mdl_library.specs.Held.{source_seen}

-- a look-up in memory
lookup-seen : (text : List ℕ) (entries : List (Vec ℕ Global × Bor held.Section)) →
    option_map (λ (s : Bor held.Section). section_tree s.now) (lookup (named text) entries) ≡ beside text (map source_seen entries)
lookup-seen text [] = refl
lookup-seen text (e ∷ es) = by_test (bytes_eq text e.0.items) (lookup-seen text es)
  where
    found : Option (Bor held.Section)
    found = lookup (named text) es

    by_test : (t : Bool) → option_map (λ (s : Bor held.Section). section_tree s.now) found ≡ beside text (map source_seen es) →
        option_map (λ (s : Bor held.Section). section_tree s.now) (cond t (Some e.1) found)
        ≡ cond t (Some (section_tree e.1.now)) (beside text (map source_seen es))
    by_test true same = refl
    by_test false same = same

is_some-map : {A B : Type 0} (f : A → B) (o : Option A) → is_some (option_map f o) ≡ is_some o
is_some-map f None = refl
is_some-map f (Some x) = refl

is-known : (text : List ℕ) (entries : List (Vec ℕ Global × Bor held.Section)) →
    is_some (beside text (map source_seen entries)) ≡ is_some (lookup (named text) entries)
is-known text entries =
    sym (ap is_some (lookup-seen text entries)) ∙ is_some-map (λ (s : Bor held.Section). section_tree s.now) (lookup (named text) entries)

-- a text that is there adds nothing
pub source_known : (entries : List (Vec ℕ Global × Bor held.Section)) (text : List ℕ) (block : SectionTree) →
    is_some (lookup (named text) entries) ≡ true → map source_seen entries ≡ with_source (map source_seen entries) (text, block)
source_known entries text block known =
    sym (ap (λ t. cond t (map source_seen entries) (map source_seen entries ++ (text, block) ∷ [])) (is-known text entries ∙ known))

-- a new one adds its block after the others
pub source_new : (entries new : List (Vec ℕ Global × Bor held.Section)) (key : Vec ℕ Global) (block : Bor held.Section) →
    is_some (lookup (named key.items) entries) ≡ false → new ≡ entries ++ (key, block) ∷ [] →
    map source_seen new ≡ with_source (map source_seen entries) (key.items, section_tree block.now)
source_new entries new key block none added =
    ap (map source_seen) added ∙ map-append source_seen entries ((key, block) ∷ [])
    ∙ sym (ap (λ t. cond t (map source_seen entries) (map source_seen entries ++ (key.items, section_tree block.now) ∷ []))
    (is-known key.items entries ∙ none))

-- ---- Blocks one after another

-- with those among some blocks after others
abbrev pub sources_with : (library : List ℕ) → Given → List Source → List SectionTree → List Source
sources_with library given sources blocks = fold with_source sources (filter_map (source_of library given) blocks)

-- ---- The place of a source

place-from : (text : List ℕ) (entries : List (Vec ℕ Global × Bor held.Section)) →
    position_or_len (named text) (keys_of entries) ≡ position_or_len (λ (source : Source). bytes_eq text source.0) (map source_seen entries)
place-from text [] = refl
place-from text (e ∷ es) = ap (λ n. cond (not (bytes_eq text e.0.items)) (1 + n) 0) (place-from text es)

pub place_named : (text : List ℕ) (entries : List (Vec ℕ Global × Bor held.Section)) →
    position (named text) (keys_of entries) ≡ position (λ (source : Source). bytes_eq text source.0) (map source_seen entries)
place_named text entries =
    ap₂ (λ n l. cond (nat_lt n l) (Some n) None) (place-from text entries)
    (length-map entries (λ (e : Vec ℕ Global × Bor held.Section). e.0) ∙ sym (length-map entries source_seen))
