-- A table of first places, made from the last text to the first.
use Rattle.std.proofs.Common.{◌≡◌, ℕ, ◌+◌, ◌<◌, Bor, List, [], drop, length, get_or, cond, Some, bytes_eq, sym, ap, ◌∙◌}
use Rattle.std.specs.List.{position_from}
use Rattle.std.proofs.lemmas.List.{drop_more}
use Rattle.std.proofs.lemmas.Map.Text.{hash_map_updates_str}
use Rattle.c_syntax.proofs.lemmas.NamePlaces.{bytes_eq-sym}
use Rattle.indexmap.specs.IndexMap.{IndexMap, UpdatesBy, get_by}

-- the table gives the first place of each of these texts, which stand from a place on
abbrev pub Tells : {S : Type 0} → ℕ → List (List ℕ) → IndexMap (Bor (List ℕ)) ℕ S → Type 0
Tells from texts table =
    (text : List ℕ) → get_by (λ k. bytes_eq text k.now) table ≡ position_from (bytes_eq text) from texts

-- one text more at the front
pub tells-more : {S : Type 0} (texts : List (List ℕ)) (j i v : ℕ) (here : List ℕ)
    (before after : IndexMap (Bor (List ℕ)) ℕ S) → j ≡ i + 1 → v ≡ i → i < length texts → here ≡ get_or texts i [] →
    Tells j (drop j texts) before →
    UpdatesBy (λ x y. bytes_eq x.now y.now) (λ k. bytes_eq here k.now) before after (Some v) →
    Tells i (drop i texts) after
tells-more texts j i v here before after next value inside read told updates text =
    hash_map_updates_str here before after (Some v) updates text
    ∙ (λ k. cond ((bytes_eq-sym here text ∙ ap (bytes_eq text) read) k) (Some (value k))
    ((told text ∙ ap (λ n. position_from (bytes_eq text) n (drop n texts)) next) k))
    ∙ ap (position_from (bytes_eq text) i) (sym (drop_more texts i [] inside))
