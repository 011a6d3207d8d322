-- The types of blocks in memory, with one more after them.
use Rattle.std.proofs.Common.{◌≡◌, refl, sym, ◌∙◌, ap, ℕ, Bool, true, false, cond, true≢false, List, [], ◌∷◌, ◌++◌, Option, None, Some, is_some, codes}
use Rattle.std.proofs.lemmas.List.{map-append}
use Rattle.std.specs.Prelude.{Vec, bytes_eq, option_map}
use Rattle.std.specs.Option.{option_or}
use Rattle.std.specs.Map.{lookup}
use Rattle.std.specs.declared.alloc.Global.{Global}
use Rattle.std.proofs.lemmas.Slice.Eq.{bytes_eq-Decides}
use Rattle.mdl_tree.specs.Spelling.{Items}
use Rattle.mdl_tree.specs.Walks.{SectionTree, first_value}
use Rattle.mdl_params.specs.declared.texts.ParamText.{ParamText}
use Rattle.mdl_params.specs.BlockTypes.{beside}
use Rattle.mdl_params.specs.Defaults.{DefaultTexts, values_of, with_kind, kinds_of, AddsKind}
use Rattle.mdl_params.specs.Texts.{plain_texts, plain_kinds}

-- what is beside a name in one list after another
pub beside-append : {A : Type 0} (wanted : List ℕ) (xs ys : List (List ℕ × A)) →
    beside wanted (xs ++ ys) ≡ option_or (beside wanted xs) (beside wanted ys)
beside-append wanted [] ys = refl
beside-append wanted (x ∷ xs) ys = by_test (bytes_eq wanted x.0) (beside-append wanted xs ys)
  where
    by_test : (t : Bool) → beside wanted (xs ++ ys) ≡ option_or (beside wanted xs) (beside wanted ys) →
        cond t (Some x.1) (beside wanted (xs ++ ys)) ≡ option_or (cond t (Some x.1) (beside wanted xs)) (beside wanted ys)
    by_test true same = refl
    by_test false same = same

option_or-none : {A : Type 0} (o : Option A) → option_or o None ≡ o
option_or-none None = refl
option_or-none (Some x) = refl

option_or-some : {A : Type 0} (o p : Option A) → is_some o ≡ true → option_or o p ≡ o
option_or-some None p some = absurd (true≢false (sym some))
option_or-some (Some x) p some = refl

-- a name that is there already adds nothing after the list
pub beside-known : {A : Type 0} (wanted known : List ℕ) (xs : List (List ℕ × A)) (x : A) → is_some (beside known xs) ≡ true →
    beside wanted xs ≡ option_or (beside wanted xs) (beside wanted ((known, x) ∷ []))
beside-known wanted known xs x some = by_test (bytes_eq wanted known) refl
  where
    by_test : (t : Bool) → bytes_eq wanted known ≡ t → beside wanted xs ≡ option_or (beside wanted xs) (cond t (Some x) None)
    by_test true same =
        sym (option_or-some (beside wanted xs) (Some x) (ap (λ n. is_some (beside n xs)) ((bytes_eq-Decides wanted known).0 same) ∙ some))
    by_test false same = sym (option_or-none (beside wanted xs))

-- a look-up in memory
pub lookup-plain : (kind : List ℕ) (entries : List (Vec ℕ Global × Vec ParamText Global)) →
    option_map (λ (texts : Vec ParamText Global). plain_texts texts.items)
    (lookup (λ (key : Vec ℕ Global). bytes_eq kind key.items) entries)
    ≡ beside kind (plain_kinds entries)
lookup-plain kind [] = refl
lookup-plain kind (e ∷ es) = by_test (bytes_eq kind e.0.items) (lookup-plain kind es)
  where
    found : Option (Vec ParamText Global)
    found = lookup (λ (key : Vec ℕ Global). bytes_eq kind key.items) es

    by_test : (t : Bool) → option_map (λ (texts : Vec ParamText Global). plain_texts texts.items) found ≡ beside kind (plain_kinds es) →
        option_map (λ (texts : Vec ParamText Global). plain_texts texts.items) (cond t (Some e.1) found)
        ≡ cond t (Some (plain_texts e.1.items)) (beside kind (plain_kinds es))
    by_test true same = refl
    by_test false same = same

is_some-map : {A B : Type 0} (f : A → B) (o : Option A) → is_some (option_map f o) ≡ is_some o
is_some-map f None = refl
is_some-map f (Some x) = refl

pub is_none : {A : Type 0} (o : Option A) → is_some o ≡ false → o ≡ None
is_none None none = refl
is_none (Some x) none = absurd (true≢false none)

abbrev pub named : List ℕ → Vec ℕ Global → Bool
named kind key = bytes_eq kind key.items

-- a block of a known type adds nothing
pub AddsKind-known : (entries : List (Vec ℕ Global × Vec ParamText Global)) (kind : List ℕ) (block : Items) →
    first_value (codes "BlockType") block ≡ Some kind → is_some (lookup (named kind) entries) ≡ true →
    AddsKind (plain_kinds entries) (plain_kinds entries) block
AddsKind-known entries kind block own known = λ wanted.
    beside-known wanted kind (plain_kinds entries) (values_of block) (ap is_some (sym (lookup-plain kind entries))
    ∙ is_some-map _ _ ∙ known)
    ∙ ap (λ o. option_or (beside wanted (plain_kinds entries)) (beside wanted (with_kind o block []))) (sym own)

-- a block of a new type adds it after the others
pub AddsKind-new : (entries new : List (Vec ℕ Global × Vec ParamText Global)) (key : Vec ℕ Global)
    (texts : Vec ParamText Global) (block : Items) →
    first_value (codes "BlockType") block ≡ Some key.items → plain_texts texts.items ≡ values_of block →
    new ≡ entries ++ (key, texts) ∷ [] →
    AddsKind (plain_kinds entries) (plain_kinds new) block
AddsKind-new entries new key texts block own values added = λ wanted.
    ap (λ es. beside wanted (plain_kinds es)) added
    ∙ ap (beside wanted) (map-append _ entries ((key, texts) ∷ []))
    ∙ beside-append wanted (plain_kinds entries) ((key.items, plain_texts texts.items) ∷ [])
    ∙ ap (λ v. option_or (beside wanted (plain_kinds entries)) (beside wanted ((key.items, v) ∷ []))) values
    ∙ ap (λ o. option_or (beside wanted (plain_kinds entries)) (beside wanted (with_kind o block []))) (sym own)

option_or_assoc : {A : Type 0} (o p q : Option A) → option_or (option_or o p) q ≡ option_or o (option_or p q)
option_or_assoc None p q = refl
option_or_assoc (Some x) p q = refl

beside-with_kind : (wanted : List ℕ) (own : Option (List ℕ)) (block : Items) (rest : DefaultTexts) →
    beside wanted (with_kind own block rest) ≡ option_or (beside wanted (with_kind own block [])) (beside wanted rest)
beside-with_kind wanted None block rest = refl
beside-with_kind wanted (Some kind) block rest = beside-append wanted ((kind, values_of block) ∷ []) rest

-- a block whose type was added
pub kinds_of-more : (wanted : List ℕ) (old new : DefaultTexts) (block : SectionTree) (blocks : List SectionTree) →
    AddsKind old new block.items →
    option_or (beside wanted new) (beside wanted (kinds_of blocks))
    ≡ option_or (beside wanted old) (beside wanted (kinds_of (block ∷ blocks)))
kinds_of-more wanted old new block blocks adds =
    let own = first_value (codes "BlockType") block.items in
    ap (λ o. option_or o (beside wanted (kinds_of blocks))) (adds wanted)
    ∙ option_or_assoc (beside wanted old) (beside wanted (with_kind own block.items [])) (beside wanted (kinds_of blocks))
    ∙ ap (option_or (beside wanted old)) (sym (beside-with_kind wanted own block.items (kinds_of blocks)))
