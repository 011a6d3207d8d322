-- How the items of a block of a copy are built, part by part.
use Rattle.std.proofs.Common.{◌≡◌, refl, sym, ◌∙◌, ap, ℕ, ◌≤◌, List, [], ◌∷◌, ◌++◌, length, drop, drop_of_length-le, append_assoc, Option, codes}
use Rattle.std.specs.Prelude.{flat_map}
use denote.Ref.{Bor}
use Rattle.base_core.specs.declared.base.ParamName.{ParamName}
use Rattle.base_core.specs.Words.{param_word}
use Rattle.mdl_tree.specs.Spelling.{Items, End, append_items}
use Rattle.mdl_tree.specs.Spelling as spelling
use Rattle.mdl_tree.proofs.lemmas.OneTree.{append_items-End}
use Rattle.mdl_params.specs.Language.{plain_parameters}
use Rattle.mdl_library.specs.Items.{set_on, titled}
use Rattle.mdl_library.specs.Given.{Given}
use Rattle.mdl_library.specs.Written.{settled, block_on}
use Rattle.mdl_library.proofs.ItemLemmas.{append-assoc}

set-front : (line : ℕ) (texts : List (List ℕ × List ℕ)) (rest : Items) → append_items (set_on line texts End) rest ≡ set_on line texts rest
set-front line [] rest = refl
set-front line (text ∷ texts) rest = ap (spelling.Param text.0 text.1 line) (set-front line texts rest)

set-more : (line : ℕ) (texts more : List (List ℕ × List ℕ)) (rest : Items) →
    set_on line (texts ++ more) rest ≡ set_on line texts (set_on line more rest)
set-more line [] more rest = refl
set-more line (text ∷ texts) more rest = ap (spelling.Param text.0 text.1 line) (set-more line texts more rest)

-- ---- Parameters

-- what a parameter of a block adds
abbrev pub text_of : Given → Items → (kind : List ℕ) → ParamName × List ℕ → List (List ℕ × List ℕ)
text_of given block kind parameter = titled (param_word parameter.0) (given.parameter block kind parameter.0)

-- items with the texts of some parameters after them, one by one
abbrev pub settle_all : Given → Items → (kind : List ℕ) → (line : ℕ) → Items → List (ParamName × List ℕ) → Items
settle_all given block kind line items [] = items
settle_all given block kind line items (parameter ∷ rest) =
    settle_all given block kind line (append_items items (set_on line (text_of given block kind parameter) End)) rest

pub settle_set : (given : Given) (block : Items) (kind : List ℕ) (line : ℕ) (items : Items) (parameters : List (ParamName × List ℕ)) →
    settle_all given block kind line items parameters
    ≡ append_items items (set_on line (flat_map (text_of given block kind) parameters) End)
settle_set given block kind line items [] = sym (append_items-End items)
settle_set given block kind line items (parameter ∷ rest) =
    let own = text_of given block kind parameter in
    let texts = flat_map (text_of given block kind) rest in
    settle_set given block kind line (append_items items (set_on line own End)) rest
    ∙ append-assoc items (set_on line own End) (set_on line texts End)
    ∙ ap (append_items items) (set-front line own (set_on line texts End) ∙ sym (set-more line own texts End))

pub settle_end : (given : Given) (block : Items) (kind : List ℕ) (line : ℕ) (xs : List (ParamName × Bor (List ℕ))) (i : ℕ) →
    length xs ≤ i → (olds whole : Items) →
    settle_all given block kind line olds (plain_parameters (drop i xs)) ≡ whole → olds ≡ whole
settle_end given block kind line xs i h olds whole all =
    ap (λ ys. settle_all given block kind line olds (plain_parameters ys)) (sym (drop_of_length-le xs h)) ∙ all

-- ---- A block

pub block_built : (line : ℕ) (kind name : Option (List ℕ)) (given : Given) (block inside a b c d : Items) →
    a ≡ append_items End (set_on line (titled (codes "BlockType") kind) End) →
    b ≡ append_items a (set_on line (titled (codes "Name") name) End) →
    c ≡ append_items b (set_on line (settled given block) End) → d ≡ append_items c inside →
    d ≡ block_on line kind name given block inside
block_built line kind name given block inside a b c d is_a is_b is_c is_d =
    let kinds = titled (codes "BlockType") kind in
    let names = titled (codes "Name") name in
    let texts = settled given block in
    is_d ∙ ap (λ x. append_items x inside) (is_c ∙ ap (λ x. append_items x (set_on line texts End)) (is_b
    ∙ ap (λ x. append_items x (set_on line names End)) is_a))
    ∙ append-assoc (append_items (set_on line kinds End) (set_on line names End)) (set_on line texts End) inside
    ∙ append-assoc (set_on line kinds End) (set_on line names End) (append_items (set_on line texts End) inside)
    ∙ set-front line kinds (append_items (set_on line names End) (append_items (set_on line texts End) inside))
    ∙ ap (set_on line kinds) (set-front line names (append_items (set_on line texts End) inside)
    ∙ ap (set_on line names) (set-front line texts inside) ∙ sym (set-more line names texts inside))
    ∙ sym (set-more line kinds (names ++ texts) inside)
    ∙ ap (λ ys. set_on line ys inside) (sym (append_assoc kinds names texts))
