-- What a file gives rests on what is beside each type among its defaults alone.
use Rattle.std.proofs.Common.{◌≡◌, sym, ◌∙◌, ap, ℕ, ◌+◌, ◌<◌, ◌≤◌, true, false, cond, List, [], length, drop, slice_index_or, drop_of_length-le, Option, Some, None, codes, find, option_and_then}
use Rattle.std.proofs.Math.Path.{fun_ext}
use Rattle.std.specs.Prelude.{unwrap_or}
use Rattle.std.specs.Option.{option_or}
use denote.Ref.{Bor}
use Rattle.mdl_tree.specs.declared.tree.Section as held
use Rattle.mdl_tree.specs.Spelling.{Items}
use Rattle.mdl_tree.specs.Walks.{SectionTree, first_value}
use Rattle.mdl_tree.specs.Values.{section_tree, trees_of}
use Rattle.mdl_params.specs.BlockTypes.{beside}
use Rattle.mdl_params.specs.Language.{default_text}
use Rattle.mdl_params.specs.Defaults.{DefaultTexts, IsDefaults, by_names, kinds_of, default_blocks, parameter_text}
use Rattle.mdl_library.specs.Given.{Given, is_reference, given_by, default_source}
use Rattle.mdl_library.proofs.Blocks.{trees_from}

parameters_same : (texts other : DefaultTexts) → ((kind : List ℕ) → beside kind texts ≡ beside kind other) →
    parameter_text texts ≡ parameter_text other
parameters_same texts other same =
    fun_ext (λ block. fun_ext (λ kind. fun_ext (λ name. ap (λ found.
    option_or
    (option_or (by_names (λ wanted. first_value wanted block) kind name)
    (by_names (λ wanted. beside wanted (unwrap_or found [])) kind name))
    (default_text kind name)) (same kind))))

pub given_same : (texts : DefaultTexts) (items : Items) (source : Option (List ℕ)) → IsDefaults texts items →
    source ≡ default_source (default_blocks items) →
    (let given : Given = record { parameter = parameter_text texts; source = source } in given) ≡ given_by items
given_same texts items source are e =
    λ i. record { parameter = parameters_same texts (kinds_of (default_blocks items)) are i; source = e i }

-- ---- The SourceBlock among some blocks

-- of one block more
source-at : (xs : List (Bor held.Section)) (i : ℕ) (x : Bor held.Section) → i < length xs → x ≡ slice_index_or xs i x →
    default_source (trees_of (drop i xs))
    ≡ option_and_then (λ (block : SectionTree). first_value (codes "SourceBlock") block.items)
    (cond (is_reference (section_tree x.now).items) (Some (section_tree x.now))
    (find (λ (block : SectionTree). is_reference block.items) (trees_of (drop (i + 1) xs))))
source-at xs i x h e = ap default_source (trees_from xs i x h e)

pub source_pass : (xs : List (Bor held.Section)) (i : ℕ) (x : Bor held.Section) → i < length xs → x ≡ slice_index_or xs i x →
    is_reference (section_tree x.now).items ≡ false → (whole : Option (List ℕ)) →
    default_source (trees_of (drop i xs)) ≡ whole → default_source (trees_of (drop (i + 1) xs)) ≡ whole
source_pass xs i x h e plain whole all =
    sym (source-at xs i x h e
    ∙ ap (λ t. option_and_then (λ (block : SectionTree). first_value (codes "SourceBlock") block.items)
    (cond t (Some (section_tree x.now))
    (find (λ (block : SectionTree). is_reference block.items) (trees_of (drop (i + 1) xs))))) plain) ∙ all

pub source_here : (xs : List (Bor held.Section)) (i : ℕ) (x : Bor held.Section) → i < length xs → x ≡ slice_index_or xs i x →
    is_reference (section_tree x.now).items ≡ true → (whole : Option (List ℕ)) →
    default_source (trees_of (drop i xs)) ≡ whole → first_value (codes "SourceBlock") (section_tree x.now).items ≡ whole
source_here xs i x h e named whole all =
    sym (source-at xs i x h e
    ∙ ap (λ t. option_and_then (λ (block : SectionTree). first_value (codes "SourceBlock") block.items)
    (cond t (Some (section_tree x.now))
    (find (λ (block : SectionTree). is_reference block.items) (trees_of (drop (i + 1) xs))))) named) ∙ all

pub source_end : (xs : List (Bor held.Section)) (i : ℕ) → length xs ≤ i → (whole : Option (List ℕ)) →
    default_source (trees_of (drop i xs)) ≡ whole → None ≡ whole
source_end xs i h whole all = sym (ap (λ ys. default_source (trees_of ys)) (drop_of_length-le xs h)) ∙ all
